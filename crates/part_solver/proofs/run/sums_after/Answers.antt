use Rattle.std.proofs.Common.{◌+◌, ◌^◌, arith, ap, ◌∙◌}
use Rattle.fixed_geom.specs.Vectors.{plus}
use Rattle.fixed_geom.specs.declared.vectors.Vec2.{Vec2}
use Rattle.colour_solver.specs.States.{as_vector}
use Rattle.part_solver.proofs.TickSteps.{gain_within}
use Rattle.part_solver.proofs.run.sums_after.Goals as goal

pub add-gravity-requires-clause-first : goal.add-gravity-requires-clause-first
add-gravity-requires-clause-first c = gain_within (2 ^ 90) (2 ^ 100) c.args.before.gravity (omega arith) c.requires.before.gravity

pub add-gravity-requires-clause-second : goal.add-gravity-requires-clause-second
add-gravity-requires-clause-second c = gain_within (2 ^ 78) (2 ^ 100) c.args.fallen.first (omega arith) c.requires.pulled

pub add-warmed-requires-clause-first : goal.add-warmed-requires-clause-first
add-warmed-requires-clause-first c = gain_within (2 ^ 90) (2 ^ 100) c.args.before.immovable (omega arith) c.requires.before.immovable

pub add-warmed-requires-clause-second : goal.add-warmed-requires-clause-second
add-warmed-requires-clause-second c = gain_within (2 ^ 85) (2 ^ 100) c.args.warm (omega arith) c.requires.warm

pub add-immovable-requires-clause-first : goal.add-immovable-requires-clause-first
add-immovable-requires-clause-first c = gain_within (2 ^ 90 + 2 ^ 85) (2 ^ 100) c.add-warmed.result (omega arith) (c.add-warmed.ensures.small (2 ^ 90) (2 ^ 85) c.requires.before.immovable c.requires.warm)

pub add-immovable-requires-clause-second : goal.add-immovable-requires-clause-second
add-immovable-requires-clause-second c = gain_within (2 ^ 85) (2 ^ 100) c.args.solved (omega arith) c.requires.solved

pub add-limited-requires-clause-first : goal.add-limited-requires-clause-first
add-limited-requires-clause-first c = gain_within (2 ^ 90) (2 ^ 100) c.args.before.clamp (omega arith) c.requires.before.clamp

pub add-limited-requires-clause-second : goal.add-limited-requires-clause-second
add-limited-requires-clause-second c = gain_within (2 ^ 78) (2 ^ 100) c.args.fallen.second (omega arith) c.requires.limited

pub add-limited_again-requires-clause-first : goal.add-limited_again-requires-clause-first
add-limited_again-requires-clause-first c = gain_within (2 ^ 90 + 2 ^ 78) (2 ^ 100) c.add-limited.result (omega arith) (c.add-limited.ensures.small (2 ^ 90) (2 ^ 78) c.requires.before.clamp c.requires.limited)

pub add-limited_again-requires-clause-second : goal.add-limited_again-requires-clause-second
add-limited_again-requires-clause-second c = gain_within (2 ^ 78) (2 ^ 100) c.args.moved.first (omega arith) c.requires.limited_again

pub add-clamp-requires-clause-first : goal.add-clamp-requires-clause-first
add-clamp-requires-clause-first c =
    gain_within ((2 ^ 90 + 2 ^ 78) + 2 ^ 78) (2 ^ 100) c.add-limited_again.result (omega arith) (c.add-limited_again.ensures.small (2 ^ 90 + 2 ^ 78) (2 ^ 78) (c.add-limited.ensures.small (2 ^ 90) (2 ^ 78) c.requires.before.clamp c.requires.limited) c.requires.limited_again)

pub add-clamp-requires-clause-second : goal.add-clamp-requires-clause-second
add-clamp-requires-clause-second c = gain_within (2 ^ 78) (2 ^ 100) c.args.moved.second (omega arith) c.requires.moved

pub returns-clause-immovable : goal.returns-clause-immovable
returns-clause-immovable c = c.add-immovable.ensures.sum ∙ ap (λ (v : Vec2). plus v (as_vector c.args.solved)) c.add-warmed.ensures.sum

pub returns-clause-clamp : goal.returns-clause-clamp
returns-clause-clamp c =
    c.add-clamp.ensures.sum ∙ ap (λ (v : Vec2). plus v (as_vector c.args.moved.second)) (c.add-limited_again.ensures.sum ∙ ap (λ (v : Vec2). plus v (as_vector c.args.moved.first)) c.add-limited.ensures.sum)

pub returns-clause-small : goal.returns-clause-small
returns-clause-small c = λ n h. record {
  gravity = gain_within (n + 2 ^ 78) (n + 2 ^ 86) c.add-gravity.result (omega arith) (c.add-gravity.ensures.small n (2 ^ 78) h.gravity c.requires.pulled);
  immovable = gain_within ((n + 2 ^ 85) + 2 ^ 85) (n + 2 ^ 86) c.add-immovable.result (omega arith) (c.add-immovable.ensures.small (n + 2 ^ 85) (2 ^ 85) (c.add-warmed.ensures.small n (2 ^ 85) h.immovable c.requires.warm) c.requires.solved);
  clamp =
      gain_within (((n + 2 ^ 78) + 2 ^ 78) + 2 ^ 78) (n + 2 ^ 86) c.add-clamp.result (omega arith)
      (c.add-clamp.ensures.small ((n + 2 ^ 78) + 2 ^ 78) (2 ^ 78) (c.add-limited_again.ensures.small (n + 2 ^ 78) (2 ^ 78) (c.add-limited.ensures.small n (2 ^ 78) h.clamp c.requires.limited) c.requires.limited_again) c.requires.moved);
}
