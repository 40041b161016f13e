use Rattle.std.specs.List.{AllWithin}
use Rattle.fixed_geom.specs.Boxes.{Contains}
use Rattle.world_core_base.proofs.covers.hull_of.Given as goal

abbrev pub invariant-loop-place : goal.invariant-loop-place
invariant-loop-place l = AllWithin (λ fat. Contains l.hull fat) l.fats 0 l.place
