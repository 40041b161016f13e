use Rattle.std.proofs.Common.{ℕ, Some, None, cond, nat_lt, length, ap, ◌∙◌}
use Rattle.packed_sets.specs.declared.items.TheConstants.{NO_ITEM}
use Rattle.packed_sets.specs.Linked.{head_at}
use Rattle.packed_sets.proofs.LinkLaws.{next_is}
use Rattle.packed_sets.proofs.linked_sets.LinkedSets.first.Goals as goal

pub returns : goal.returns
returns c =
    let links = c.self.inside.links.items in
    let heads = c.self.inside.heads.items in
    let at = rw c.deref-2.ensures.value at c.first_of.ensures in
    let told = rw c.deref.ensures.value at c.some_id.ensures in
    let is = c.self.invariant.linked c.args.set in
    rw (← c.self.view_is) (told ∙ ap (λ (k : ℕ). cond (nat_lt k (length links)) (Some k) None) at ∙ next_is links NO_ITEM (head_at heads c.args.set) _ c.self.invariant.few is.chain is.below)
