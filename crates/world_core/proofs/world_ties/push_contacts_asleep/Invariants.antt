use Rattle.std.proofs.Common.{◌≤◌, vec_capacity}
use Rattle.packed_sets.specs.Packs.{list_at}
use Rattle.packed_sets.proofs.WalkLaws.{count_left}
use Rattle.world_core.specs.WorldTies.{contact_tie_in}
use Rattle.world_core.proofs.PushLaws.{IsPushing}
use Rattle.world_core.proofs.world_ties.push_contacts_asleep.Given as goal

abbrev pub invariant-loop-next : goal.invariant-loop-next
invariant-loop-next l = record {
  pushing : IsPushing (contact_tie_in l.bodies l.contacts.numbered) (list_at l.sets.sets l.name) l.next l.fn.list.items l.list.items (vec_capacity l.fn.list);
  capacity : vec_capacity l.fn.list ≤ vec_capacity l.list;
}

abbrev pub decreases-loop-next : goal.decreases-loop-next
decreases-loop-next l = count_left (list_at l.sets.sets l.name) l.next
