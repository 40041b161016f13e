use Rattle.std.proofs.Common.{◌∷◌, [], ap, rules, to_z-of_z}
use Rattle.std.specs.Fmt.{signed_decimal}
use Rattle.std.specs.Int.{w64}
use mir.Val.{SFits}
use Rattle.json.specs.Token.{number}
use Rattle.json.specs.Written.{Writes}
use Rattle.world_file_base.specs.Written.{integer}
use Rattle.saved_text.proofs.Adding.{wrote_value}
use Rattle.saved_text.proofs.Narrow.{integer_text, integer_whole}
use Rattle.saved_text.proofs.numbers.put_integer.Goals as goal

pub returns : goal.returns
returns c =
    let z = c.args.number in
    let fits : SFits w64 z = search rules in
    let written : Writes c.i64.result c.args.out.now c.i64.new.self (number (signed_decimal z)) = simp to_z-of_z at c.i64.ensures in
    record { text = wrote_value c.i64.result c.args.out.now c.i64.new.self (number (signed_decimal z)) (integer z) (ap (λ s. number s ∷ []) (integer_text z)) (integer_whole z c.ranges.number) written }
