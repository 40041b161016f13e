use Rattle.std.proofs.Common.{◌∙◌, sym, arith}
use Rattle.std.proofs.lemmas.Str.Pattern.{strip_prefix_char}
use Rattle.world_file_base.proofs.Numbers.{plain_decimal}
use Rattle.world_file_base.proofs.decimals.is_decimal.Goals as goal

pub returns-in-None : goal.returns-in-None
returns-in-None c =
    let text = c.args.text.now in
    let other = rw c.in-None.is at (strip_prefix_char 45 text c.strip_prefix.result c.strip_prefix.ensures.cases (omega arith)) in
    c.is_natural-in-None.ensures ∙ sym (plain_decimal text other)
