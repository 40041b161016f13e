use Rattle.std.proofs.Common.{◌≡◌, false, true, ap, sym, ◌∙◌, option_and_then, FitsSigned}
use Rattle.std.specs.Int.{w128}
use Rattle.std.specs.Result.{result_ok}
use Rattle.std.proofs.lemmas.Int.{to_z-of_z}
use Rattle.world_file_base.specs.Texts.{is_decimal, sized}
use Rattle.world_file_base.proofs.Numbers.{no_number, number_parsed, parsed_fits}
use Rattle.world_file_base.proofs.decimals.sized_number.Goals as goal

pub returns-then-not-is_decimal : goal.returns-then-not-is_decimal
returns-then-not-is_decimal c =
    let other : is_decimal c.args.text.now ≡ false = cc in
    rw (no_number c.args.text.now other)

pub returns-in-Ok : goal.returns-in-Ok
returns-in-Ok c =
    let is : is_decimal c.args.text.now ≡ true = cc in
    let fits : FitsSigned w128 c.in-Ok.number = parsed_fits c.args.text.now c.parse.result c.in-Ok.number c.in-Ok.is c.parse.ensures.value.0 in
    let e = number_parsed c.args.most c.args.text.now c.parse.result c.requires is c.parse.ensures.value.0 in
    c.sized.ensures ∙ ap (sized c.args.most) (to_z-of_z w128 c.in-Ok.number fits) ∙ sym (ap (λ r. option_and_then (sized c.args.most) (result_ok r)) c.in-Ok.is) ∙ e

pub returns-in-Err : goal.returns-in-Err
returns-in-Err c =
    let is : is_decimal c.args.text.now ≡ true = cc in
    let e = number_parsed c.args.most c.args.text.now c.parse.result c.requires is c.parse.ensures.value.0 in
    sym (ap (λ r. option_and_then (sized c.args.most) (result_ok r)) c.in-Err.is) ∙ e
