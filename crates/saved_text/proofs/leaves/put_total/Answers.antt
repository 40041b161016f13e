use Rattle.std.proofs.Common.{◌∷◌, [], refl, rules, to_z-of_z}
use Rattle.std.specs.Int.{w128}
use mir.Val.{SFits}
use Rattle.world_file_base.specs.Written.{decimal_of}
use Rattle.saved_text.specs.Tokens.{AddsValue}
use Rattle.saved_text.proofs.Adding.{item_gone, list_added, list_begun, wrote}
use Rattle.saved_text.proofs.leaves.put_total.Goals as goal

pub returns : goal.returns
returns c =
    let x = decimal_of c.args.total.x in
    let y = decimal_of c.args.total.y in
    let x_fits : SFits w128 c.args.total.x = search rules in
    let y_fits : SFits w128 c.args.total.y = search rules in
    let first : AddsValue x c.begin_array.new.self c.put_decimal.new.out = simp to_z-of_z at c.in_ok-put_decimal.ensures.text in
    let second : AddsValue y c.put_decimal.new.out c.put_decimal-2.new.out = simp to_z-of_z at c.in_ok-put_decimal-2.ensures.text in
    let begun = list_begun (x ∷ y ∷ []) _ _ (wrote _ _ _ _ c.in_ok-begin_array.ensures) in
    let rest = item_gone x (y ∷ []) (x ∷ y ∷ []) _ _ _ begun first in
    record { text = list_added [] (x ∷ y ∷ []) _ _ _ refl (item_gone y [] (x ∷ y ∷ []) _ _ _ rest second) (wrote _ _ _ _ c.in_ok-end_array.ensures) }
