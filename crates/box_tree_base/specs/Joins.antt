-- Boxes round others.
use Rattle.std.specs.Int.{int_min, int_max}
use Rattle.fixed_geom.specs.Boxes.{Contains}
use Rattle.fixed_geom.specs.declared.boxes.Box2.{Box2}
use Rattle.box_tree_base.specs.declared.leaves.Leaf.{Leaf}

-- the least box round both
abbrev pub joined : Box2 → Box2 → Box2
joined a b = record {
  lo = record { x = int_min a.lo.x b.lo.x; y = int_min a.lo.y b.lo.y };
  hi = record { x = int_max a.hi.x b.hi.x; y = int_max a.hi.y b.hi.y };
}

abbrev pub IsBounded : Box2 → Leaf → Type 0
IsBounded b leaf = Contains b leaf.bounds
