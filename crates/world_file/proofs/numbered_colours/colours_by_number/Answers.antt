use Rattle.std.proofs.Common.{◌≡◌, ◌∙◌, None, nat_eq, arith, refl}
use Rattle.std.specs.HashMap.{get}
use Rattle.world_file.proofs.Numbered.{from_none, past_colours}
use Rattle.world_file.proofs.numbered_colours.colours_by_number.Goals as goal

pub loop-left-init : goal.loop-left-init
loop-left-init c = record {
  few = omega arith;
  colours = λ number. let none : get nat_eq c.new-by_number.result number ≡ None = rw c.new-by_number.ensures.empty refl in none ∙ past_colours number 25 25 c.args.plain.now.colours c.requires.few;
}

pub returns-clause-colours : goal.returns-clause-colours
returns-clause-colours c = λ number. c.loop-left.invariant.colours number ∙ from_none number c.loop-left.left c.args.plain.now.colours c.loop-left-test.false
