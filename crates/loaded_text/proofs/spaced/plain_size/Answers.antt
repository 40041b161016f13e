use Rattle.std.proofs.Common.{sym, ◌∙◌, arith}
use Rattle.loaded_text.proofs.Lexemes.{plain_more}
use Rattle.loaded_text.proofs.spaced.plain_size.Goals as goal

pub loop-size-preserved : goal.loop-size-preserved
loop-size-preserved c = plain_more c.args.bytes.now c.loop-size.size (omega arith) (sym c.is_plain.ensures ∙ c.if-not-is_plain.false) c.loop-size.invariant
