use Rattle.std.proofs.Common.{◌≤◌, ◌+◌, ◌^◌, arith, vec_capacity}
use Rattle.islands.proofs.WideLemmas.{kept_wide}
use Rattle.islands.proofs.islands.Islands.widen.Goals as goal

pub invariant_of-self : goal.invariant_of-self
invariant_of-self c =
    let fits = c.ranges.slot.fits in
    let short : c.args.slot + 1 ≤ 2 ^ 32 = omega (arith, fits) in
    kept_wide c.self.inside.node_entries.items c.self.inside.notes.items c.self.inside.heads.items c.widen_lists.new.node_entries.items c.widen_lists.new.notes.items c.widen_lists.new.heads.items (vec_capacity c.self.inside.node_entries) (vec_capacity c.self.inside.notes) (vec_capacity c.self.inside.heads) (vec_capacity c.widen_lists.new.node_entries) (vec_capacity c.widen_lists.new.notes) (vec_capacity c.widen_lists.new.heads) c.self.inside.room (c.args.slot + 1)
    c.self.invariant c.widen_lists.ensures.standing c.widen_lists.ensures.labels short c.widen_lists.ensures.node_entries_capacity c.widen_lists.ensures.capacity c.widen_lists.ensures.heads_capacity
