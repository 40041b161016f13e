use Rattle.std.proofs.Common.{◌∷◌, [], refl}
use Rattle.world_file_base.specs.Written.{natural}
use Rattle.saved_text.proofs.Adding.{item_gone, list_added, list_begun, wrote}
use Rattle.saved_text.proofs.leaves.put_shape_id.Goals as goal

pub returns : goal.returns
returns c =
    let x = natural c.args.id.slot in
    let y = natural c.args.id.index in
    let begun = list_begun (x ∷ y ∷ []) _ _ (wrote _ _ _ _ c.in_ok-begin_array.ensures) in
    let first = item_gone x (y ∷ []) (x ∷ y ∷ []) _ _ _ begun c.in_ok-put_count.ensures.text in
    let second = item_gone y [] (x ∷ y ∷ []) _ _ _ first c.in_ok-put_index.ensures.text in
    record { text = list_added [] (x ∷ y ∷ []) _ _ _ refl second (wrote _ _ _ _ c.in_ok-end_array.ensures) }
