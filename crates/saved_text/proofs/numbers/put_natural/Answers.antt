use Rattle.std.proofs.Common.{refl, arith, decimal}
use Rattle.json.specs.Token.{number}
use Rattle.world_file_base.specs.Written.{natural}
use Rattle.saved_text.proofs.Adding.{wrote_value}
use Rattle.saved_text.proofs.Narrow.{natural_whole}
use Rattle.saved_text.proofs.numbers.put_natural.Goals as goal

pub returns : goal.returns
returns c =
    let n = c.args.number in
    record { text = wrote_value c.u64.result c.args.out.now c.u64.new.self (number (decimal n)) (natural n) refl (natural_whole n (omega (arith, c.ranges.number.fits))) c.u64.ensures }
