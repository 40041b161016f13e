-- The places of bodies and of joints that are named are live, and one that is taken back stays within its range.
use Rattle.std.proofs.Common.{◌≡◌, ℕ, ◌+◌, ◌<◌, Bool, true, false, cond, List, Option, Some, None, All, refl, ap, arith}
use Rattle.std.specs.Prelude.{◌&&◌, ◌==◌, slice_get}
use Rattle.std.proofs.lemmas.Bool.{false≢true}
use Rattle.std.proofs.lemmas.List.Elements.{All-set}
use Rattle.std.proofs.lemmas.Option.{none-some}
use Rattle.body_handles.specs.declared.handle.Handle.{Handle}
use Rattle.body_handles.specs.declared.slot_table.SlotEntry.{SlotEntry}
use Rattle.body_handles.specs.declared.slot_table.TheConstants.{WORN_OUT}
use Rattle.body_handles.specs.SlotEntries.{IsSlotEntry, is_live, is_live_at, slot_entries_without}
use Rattle.graph_colours.proofs.PlaceLemmas.{same_from}
use Rattle.plain_world.specs.declared.body.Body.{Body}
use Rattle.plain_world.specs.Plain.{Plain}
use Rattle.solver_sets.proofs.BondLaws.{place_is}
use Rattle.world_rules.specs.World.{body_named}

live_place : (n g : ℕ) (live : Bool) → (live && (n == g)) ≡ true → ◌≡◌ {A = Option SlotEntry} (Some (record { generation = n; live = live })) (Some (record { generation = g; live = true }))
live_place n g true e = ap (λ (k : ℕ). Some (record { generation = k; live = true })) (same_from n g e)
live_place n g false e = absurd (false≢true e)

pub live_at : (o : Option SlotEntry) (g : ℕ) → is_live_at o g ≡ true → o ≡ Some (record { generation = g; live = true })
live_at None g e = absurd (false≢true e)
live_at (Some p) g e = live_place p.generation g p.live e

named_live : (live : Bool) (o : Option Body) (b : Body) → cond live o None ≡ Some b → live ≡ true
named_live true o b e = refl
named_live false o b e = absurd (none-some b e)

-- the place of a body that is named is live
pub live_body : (w : Plain) (h : Handle) (b : Body) → body_named w h ≡ Some b → is_live w.slot_entries h ≡ true
live_body w h b e = named_live (is_live w.slot_entries h) _ b e

freed : (g : ℕ) → IsSlotEntry (record { generation = g; live = true }) → IsSlotEntry (record { generation = g + 1; live = false })
freed g is = let grows : g < WORN_OUT = is.takes_back refl in record { positive = omega arith; bounded = omega arith; takes_back = λ e. absurd (false≢true e) }

-- the places once it was taken back
pub places_freed : (slot_entries : List SlotEntry) (h : Handle) → All IsSlotEntry slot_entries → is_live slot_entries h ≡ true → All IsSlotEntry (slot_entries_without slot_entries h)
places_freed slot_entries h all live =
    let was : IsSlotEntry (record { generation = h.generation; live = true }) = place_is slot_entries h.slot (record { generation = h.generation; live = true }) all (live_at (slice_get slot_entries h.slot) h.generation live) in
    All-set IsSlotEntry slot_entries h.slot (record { generation = h.generation + 1; live = false }) (freed h.generation was) all
