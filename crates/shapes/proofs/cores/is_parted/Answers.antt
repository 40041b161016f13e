use Rattle.std.proofs.Common.{refl}
use Rattle.shapes.specs.Cores.{is_parted, side}
use Rattle.shapes.proofs.cores.is_parted.Goals as goal

pub returns-then-is_within : goal.returns-then-is_within
unfolding is_parted side
returns-then-is_within c = rw (c.are_sides_apart_64.ensures, c.minus-first.ensures.value, c.minus-second.ensures.value, c.way_of-way.ensures.value) refl
