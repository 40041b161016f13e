use Rattle.std.proofs.Common.{◌≡◌, ◌+◌, List, [], ◌∷◌, ◌++◌, None, get_or, take, arith, sym, ap, ap₂, ◌∙◌}
use Rattle.std.proofs.lemmas.List.{map-append, take_more}
use Rattle.plain_world.specs.declared.constraint.Constraint.{Constraint}
use Rattle.graph_colours.specs.declared.member.Member.{Member}
use Rattle.colour_solver.specs.declared.row_visits.Slots.{Slots}
use Rattle.part_solver.specs.Stages.{slots_in, slots_of}
use Rattle.part_solver.proofs.stages.list_slots.Goals as goal

pub loop-index-preserved : goal.loop-index-preserved
loop-index-preserved c =
    let joints = c.args.joints.now in
    let members = c.args.members.now in
    let i = c.loop-index.index in
    let d : Member Constraint = record { id = c.id_at-id.result; movers = record { first = 0; second = None } } in
    let of_member : Member Constraint → Slots = λ m. slots_in joints m.id in
    let here : c.slots_in.result ≡ of_member (get_or members i d) = c.slots_in.ensures ∙ ap (slots_in joints) (c.id_at-id.ensures d) in
    let next : slots_of joints (take (i + 1) members) ≡ slots_of joints (take i members) ++ of_member (get_or members i d) ∷ [] =
    ap (slots_of joints) (take_more members i d c.loop-index-test.true) ∙ map-append of_member (take i members) (get_or members i d ∷ []) in
    let known = c.loop-index.invariant in
    let pushed = c.push_reserved.ensures in
    record {
      done = pushed.items ∙ ap₂ (λ (l : List Slots) (s : Slots). l ++ s ∷ []) known.done here ∙ sym next;
      room = omega (arith, pushed.capacity, known.room);
      long = omega (arith, pushed.len, known.long);
    }
