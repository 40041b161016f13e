use Rattle.std.proofs.Common.{◌∷◌, [], refl, rules, to_z-of_z}
use Rattle.std.specs.Int.{w64}
use mir.Val.{SFits}
use Rattle.world_file_base.specs.Written.{integer}
use Rattle.saved_text.specs.Tokens.{AddsValue}
use Rattle.saved_text.proofs.Adding.{item_gone, list_added, list_begun, wrote}
use Rattle.saved_text.proofs.leaves.put_vector.Goals as goal

pub returns : goal.returns
returns c =
    let x = integer c.args.vector.x in
    let y = integer c.args.vector.y in
    let x_fits : SFits w64 c.args.vector.x = search rules in
    let y_fits : SFits w64 c.args.vector.y = search rules in
    let first : AddsValue x c.begin_array.new.self c.put_integer.new.out = simp to_z-of_z at c.in_ok-put_integer.ensures.text in
    let second : AddsValue y c.put_integer.new.out c.put_integer-2.new.out = simp to_z-of_z at c.in_ok-put_integer-2.ensures.text in
    let begun = list_begun (x ∷ y ∷ []) _ _ (wrote _ _ _ _ c.in_ok-begin_array.ensures) in
    let rest = item_gone x (y ∷ []) (x ∷ y ∷ []) _ _ _ begun first in
    record { text = list_added [] (x ∷ y ∷ []) _ _ _ refl (item_gone y [] (x ∷ y ∷ []) _ _ _ rest second) (wrote _ _ _ _ c.in_ok-end_array.ensures) }
