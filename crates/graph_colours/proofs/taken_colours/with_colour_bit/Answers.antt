use Rattle.std.proofs.Common.{w32, sym, ap, ◌∙◌, arith}
use Rattle.std.proofs.lemmas.Nat.Bits.{bit_at_set_same, bit_at_set_other, bit_at_clear_same}
use Rattle.graph_colours.specs.TakenColours.{bit_of}
use Rattle.graph_colours.proofs.BitLaws.{clear_other}
use Rattle.graph_colours.proofs.taken_colours.with_colour_bit.Goals as goal

pub returns-then-holds-clause-own : goal.returns-then-holds-clause-own
returns-then-holds-clause-own c = bit_at_set_same w32 c.args.word c.args.colour (omega (arith, c.requires)) ∙ sym (ap bit_of c.if-holds.true)

pub returns-then-holds-clause-others : goal.returns-then-holds-clause-others
returns-then-holds-clause-others c = λ other off. bit_at_set_other w32 c.args.word c.args.colour (omega (arith, c.requires)) other off

pub returns-else-holds-clause-own : goal.returns-else-holds-clause-own
returns-else-holds-clause-own c = bit_at_clear_same w32 c.args.word c.args.colour (omega (arith, c.requires)) ∙ sym (ap bit_of c.if-holds.false)

pub returns-else-holds-clause-others : goal.returns-else-holds-clause-others
returns-else-holds-clause-others c = λ other off. clear_other c.args.word c.args.colour (omega (arith, c.requires)) c.ranges.word.fits other off
