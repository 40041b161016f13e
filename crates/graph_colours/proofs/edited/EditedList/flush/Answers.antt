use Rattle.std.proofs.Common.{List, length, sym, ap, ◌∙◌, arith}
use Rattle.std.specs.Vec.{vec_capacity}
use Rattle.graph_colours.specs.declared.member.Member.{Member}
use Rattle.graph_colours.specs.declared.edits.Edit.{Edit}
use Rattle.graph_colours.specs.Edits.{all_edited}
use Rattle.graph_colours.proofs.EditLemmas.{flushed_is}
use Rattle.graph_colours.proofs.edited.EditedList.flush.Goals as goal

pub invariant_of-self : goal.invariant_of-self
invariant_of-self g c =
    let n = g.C.ConstraintId.number in
    let a = c.self.inside in
    let made = rw c.deref.ensures.value at c.make_all.ensures.items in
    let now = c.make_all.new.list in
    record {
      edited = flushed_is n a.edits.items c.clear.new.self.items a.list.items now.items (vec_capacity a.list) (vec_capacity now) c.self.invariant.edited c.make_all.ensures.capacity made c.clear.ensures.items (omega (arith, now.ok.0, now.ok.1));
      counted = c.self.invariant.counted ∙ ap (λ (l : List (Member g.row.C.Denot)). length l) (sym made) ∙ ap (λ (l : List (Edit g.row.C.Denot)). length (all_edited n l now.items)) (sym c.clear.ensures.items);
    }
