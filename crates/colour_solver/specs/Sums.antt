-- Sums of what two changes have added so far: in 64 bits where it was little, and beside it where it was more.
use Rattle.std.specs.Prelude.{ℕ, ◌*◌, ◌^◌}
use Rattle.fixed_geom.specs.Vectors.{IsWithin, plus}
use Rattle.fixed_geom.specs.declared.vectors.Vec2.{Vec2}
use Rattle.momenta.specs.Gains.{IsGain}
use Rattle.colour_solver.specs.declared.passes.Sums.{Sums}
use Rattle.colour_solver.specs.States.{as_vector}

abbrev pub first_sum : Sums → Vec2
first_sum s = plus (as_vector s.more.first) s.little.first

abbrev pub second_sum : Sums → Vec2
second_sum s = plus (as_vector s.more.second) s.little.second

-- what k bodies may have gained
pub record AreSumsOf (k : ℕ) (s : Sums) : Type 0 where
  pub little_first : IsWithin (k * 2 ^ 36) s.little.first
  pub little_second : IsWithin (k * 2 ^ 36) s.little.second
  pub more_first : IsGain (k * 2 ^ 62) s.more.first
  pub more_second : IsGain (k * 2 ^ 62) s.more.second
  pub first : IsWithin (k * 2 ^ 62) (first_sum s)
  pub second : IsWithin (k * 2 ^ 62) (second_sum s)
