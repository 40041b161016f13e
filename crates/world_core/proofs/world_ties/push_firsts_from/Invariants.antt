use Rattle.std.proofs.Common.{◌≤◌, vec_capacity}
use Rattle.contacts.specs.Kept.{numbers_on}
use Rattle.packed_sets.specs.Packs.{list_at}
use Rattle.packed_sets.proofs.WalkLaws.{count_left}
use Rattle.world_core.specs.WorldTies.{contact_tie_in, if_first}
use Rattle.world_core.proofs.PushLaws.{IsPushing}
use Rattle.world_core.proofs.world_ties.push_firsts_from.Given as goal

abbrev pub invariant-loop-next : goal.invariant-loop-next
invariant-loop-next l = record {
  pushing : IsPushing (λ number. if_first l.slot (contact_tie_in l.bodies l.contacts.numbered number)) (list_at (numbers_on l.side l.contacts) l.slot) l.next l.fn.list.items l.list.items (vec_capacity l.fn.list);
  capacity : vec_capacity l.fn.list ≤ vec_capacity l.list;
}

abbrev pub decreases-loop-next : goal.decreases-loop-next
decreases-loop-next l = count_left (list_at (numbers_on l.side l.contacts) l.slot) l.next
