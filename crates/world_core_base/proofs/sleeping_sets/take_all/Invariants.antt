use Rattle.std.proofs.Common.{◌≡◌, length, map}
use Rattle.std.specs.Prelude.{slice_get}
use Rattle.packed_sets.specs.Packs.{list_at}
use Rattle.world_core_base.specs.Sleeping.{IsSleeping, woken}
use Rattle.world_core_base.proofs.sleeping_sets.take_all.Given as goal

abbrev pub invariant-loop-next : goal.invariant-loop-next
invariant-loop-next l = record {
  kept : IsSleeping l.names.items l.sets;
  first : l.next ≡ slice_get (list_at l.sets.sets l.name) 0;
  woken : map (woken l.name) l.names.items ≡ map (woken l.name) l.fn.names.items;
  sets : length l.sets.sets ≡ length l.fn.sets.sets;
}

abbrev pub decreases-loop-next : goal.decreases-loop-next
decreases-loop-next l = length (list_at l.sets.sets l.name)
