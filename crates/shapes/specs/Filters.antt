-- Trusted: Which shapes may collide.
use Rattle.std.specs.Prelude.{Bool, ◌&&◌, cond, not, ◌==◌, pos, int_lt, bit_and, ◌^◌, ◌-◌}
use Rattle.std.specs.Ordering.{int_eq}
use Rattle.shapes.specs.declared.filter.Filter.{Filter}

-- the mask of a and the category of b have a bit in common
abbrev pub meets : Filter → Filter → Bool
meets a b = not (bit_and a.mask b.category == 0)

-- equal groups other than 0 decide, and else both masks
abbrev pub should_collide : Filter → Filter → Bool
should_collide a b = cond (not (int_eq a.group (pos 0)) && int_eq a.group b.group) (int_lt (pos 0) a.group) (meets a b && meets b a)

-- what a shape collides with where nothing is said: all
abbrev pub default_filter : Filter
default_filter = record { category = 1; mask = 2 ^ 64 - 1; group = pos 0 }
