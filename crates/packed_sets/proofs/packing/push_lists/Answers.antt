use Rattle.std.proofs.Common.{List, map, refl, ap, ◌∙◌, arith}
use Rattle.packed_sets.specs.Packs.{list_at}
use Rattle.packed_sets.proofs.ViewLaws.{list_more, rooms_through}
use Rattle.packed_sets.proofs.packing.push_lists.Goals as goal

pub loop-alloc-init : goal.loop-alloc-init
loop-alloc-init g c = record { more = omega arith; same = λ set. refl; capacities = λ set. omega arith; room = c.requires }

pub loop-alloc-preserved : goal.loop-alloc-preserved
loop-alloc-preserved g c = record {
  more = omega (arith, c.loop-alloc.invariant.more, c.push_list.ensures.len, c.push_list.new.lists.ok.0, c.loop-alloc.lists.ok.0);
  same = λ set. ap (λ (l : List (List g.row.I.Denot)). list_at l set) c.push_list.ensures.lists ∙ list_more (map (λ v. v.items) c.loop-alloc.lists.items) set ∙ c.loop-alloc.invariant.same set;
  capacities = rooms_through _ _ _ c.loop-alloc.invariant.capacities c.push_list.ensures.capacities;
  room = omega (arith, c.loop-alloc.invariant.room, c.push_list.ensures.capacity);
}
