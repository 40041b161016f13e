-- The pose of the body in a slot, as a loop over slots sees it.
use Rattle.std.proofs.Common.{◌≡◌, ℕ, ◌<◌, ◌∙◌, Bool, List, Option, get_or, length, sym}
use Rattle.std.proofs.lemmas.Option.{slice_get-get_or, slice_get_read}
use Rattle.std.proofs.Common.{refl}
use Rattle.std.specs.Option.{option_flatten}
use Rattle.body_handles.specs.SlotEntries.{generation_at, generation_of}
use Rattle.body_handles.specs.declared.slot_table.SlotEntry.{SlotEntry}
use Rattle.plain_world.specs.Slots.{body_at}
use Rattle.plain_world.specs.declared.body.Body.{Body}
use Rattle.dillmonth.specs.Lists.{pose_asked}
use Rattle.dillmonth.specs.declared.forms.CPose.{CPose}

pub pose_here : (moving : Bool) (slot_entries : List SlotEntry) (bodies : List (Option Body)) (slot : ℕ) (entry : Option Body) (d : SlotEntry) (here : Option CPose)
    → slot < length slot_entries → slot < length bodies → entry ≡ get_or bodies slot entry → here ≡ pose_asked moving slot (get_or slot_entries slot d).generation entry
    → here ≡ pose_asked moving slot (generation_at slot_entries slot) (body_at bodies slot)
pose_here moving slot_entries bodies slot entry d here low less is said =
    said ∙ (λ i. pose_asked moving slot (generation_of (sym (slice_get-get_or slot_entries slot d low) i)) (option_flatten (sym (slice_get_read bodies (length bodies) slot entry refl less is) i)))
