use Rattle.std.proofs.Common.{ℕ, Some, None, cond, nat_lt, length, ap, ◌∙◌}
use Rattle.packed_sets.proofs.LinkLaws.{behind_told}
use Rattle.packed_sets.proofs.linked_sets.LinkedSets.behind.Goals as goal

pub returns : goal.returns
returns c = λ set front back e.
    let links = c.self.inside.links.items in
    let at = rw c.deref-2.ensures.value at c.behind_of.ensures in
    let told = rw c.deref.ensures.value at c.some_id.ensures in
    told ∙ ap (λ (k : ℕ). cond (nat_lt k (length links)) (Some k) None) at ∙ behind_told links c.self.inside.heads.items set c.args.id front back c.self.invariant (rw (← c.self.view_is) at e)
