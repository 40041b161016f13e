-- What a frame of a sound world shows is formed as the world's bodies are.
use Rattle.std.proofs.Common.{◌≡◌, ◌&&◌, ℕ, zero, suc, ◌<◌, ◌≤◌, ◌^◌, Bool, true, false, cond, nat_le, All, List, [], ◌∷◌, ◌++◌, length, Option, Some, None, get_or, inl, inr, refl, sym, ap, ◌∙◌, subst, arith, length-append}
use Rattle.std.specs.Prelude.{slice_get}
use Rattle.std.specs.List.{list_all}
use Rattle.std.proofs.lemmas.Bool.{cases_lt, leb-true}
use Rattle.std.proofs.lemmas.Option.{none-some, same_Some, slice_get-get_or, slice_get_within}
use Rattle.fixed_geom.specs.declared.refusal.Refusal.TheVariants.{BadShape, OutOfRange}
use Rattle.body_handles.specs.SlotEntries.{IsSlotEntry, generation_at, generation_of}
use Rattle.body_handles.specs.declared.handle.Handle.{Handle}
use Rattle.body_handles.specs.declared.slot_table.SlotEntry.{SlotEntry}
use Rattle.impulse_ledger.specs.Sums.{total}
use Rattle.impulse_ledger.specs.declared.totals.Total.{Total}
use Rattle.impulse_ledger.proofs.SumLemmas.{same_total}
use Rattle.plain_world.specs.Bodies.{IsBody, pose_of}
use Rattle.plain_world.specs.Kinds.{is_static}
use Rattle.plain_world.specs.Momentum.{momentum}
use Rattle.plain_world.specs.Slots.{body_at}
use Rattle.plain_world.specs.declared.body.Body.{Body}
use Rattle.shapes.specs.Shapes.{are_forms_allowed, is_form_allowed, is_in_range, shapes_refusal}
use Rattle.shapes.specs.declared.limits.TheConstants.{MAX_SHAPES}
use Rattle.shapes.specs.declared.shape.ShapeDef.{ShapeDef}
use Rattle.world_core.specs.Frames.{AreFrameBodies, IsFrame, IsFrameBody, View, frame_body_in, shown, shown_up}
use Rattle.world_core.specs.declared.frame.FrameBody.{FrameBody}
use Rattle.world_core.proofs.CollideLaws.{eight_at_most}
use Rattle.world_rules.proofs.SlotLemmas.{body_at-in}
use Rattle.world_rules.specs.Sound.{IsSound}
use Rattle.world_rules.specs.World.{World, book_of}

-- ---- a list that grows at its end

before_end : {X : Type 0} (xs ys : List X) (k : ℕ) → k < length xs → slice_get (xs ++ ys) k ≡ slice_get xs k
before_end [] ys k h = absurd (omega (arith, h))
before_end (x ∷ xs) ys zero h = refl
before_end (x ∷ xs) ys (suc k) h = before_end xs ys k (omega (arith, h))

at_end : {X : Type 0} (xs : List X) (y : X) (k : ℕ) → k ≡ length xs → slice_get (xs ++ y ∷ []) k ≡ Some y
at_end [] y zero e = refl
at_end [] y (suc k) e = absurd (omega (arith, e))
at_end (x ∷ xs) y zero e = absurd (omega (arith, e))
at_end (x ∷ xs) y (suc k) e = at_end xs y k (omega (arith, e))

-- ---- what is shown in a slot

-- the handle of the body in a slot
abbrev handle_in : List SlotEntry → ℕ → Handle
handle_in slot_entries slot = record { slot = slot; generation = generation_at slot_entries slot }

abbrev shown_at : List SlotEntry → List (Option Body) → ℕ → Option FrameBody
shown_at slot_entries bodies slot = shown (handle_in slot_entries slot) (body_at bodies slot)

length_shown : (slot_entries : List SlotEntry) (bodies : List (Option Body)) (n : ℕ) → length (shown_up slot_entries bodies n) ≡ n
length_shown slot_entries bodies zero = refl
length_shown slot_entries bodies (suc n) =
    let more = length-append (shown_up slot_entries bodies n) (shown_at slot_entries bodies n ∷ []) in
    let rest = length_shown slot_entries bodies n in
    omega (arith, more, rest)

shown_in : (slot_entries : List SlotEntry) (bodies : List (Option Body)) (n slot : ℕ) → slot < n → slice_get (shown_up slot_entries bodies n) slot ≡ Some (shown_at slot_entries bodies slot)
shown_in slot_entries bodies zero slot h = absurd (omega (arith, h))
shown_in slot_entries bodies (suc n) slot h =
    let long = length_shown slot_entries bodies n in
    elim (cases_lt slot n) [
      | inl lt ↦ before_end (shown_up slot_entries bodies n) (shown_at slot_entries bodies n ∷ []) slot (omega (arith, lt, long)) ∙ shown_in slot_entries bodies n slot lt
      | inr le ↦ (
          let same : n ≡ slot = omega (arith, h, le) in
          at_end (shown_up slot_entries bodies n) (shown_at slot_entries bodies n) slot (omega (arith, same, long)) ∙ ap (λ (k : ℕ). Some (shown_at slot_entries bodies k)) same)
    ]

-- ---- a body that is shown

some_if : (few some forms : Bool) → ((some && few) && forms) ≡ true → some ≡ true
some_if few true forms e = refl
some_if few false forms e = cc

allowed_if : (forms range : Bool) → cond forms (cond range None (Some OutOfRange)) (Some BadShape) ≡ None → forms ≡ true
allowed_if true range e = refl
allowed_if false range e = cc

one_at_least : (segments : Bool) (defs : List ShapeDef) → shapes_refusal segments defs ≡ None → 1 ≤ length defs
unfolding shapes_refusal
one_at_least segments defs e =
    leb-true 1 (length defs) (some_if (nat_le (length defs) MAX_SHAPES) (nat_le 1 (length defs)) (list_all (λ (d : ShapeDef). is_form_allowed segments d.shape) defs) (allowed_if (are_forms_allowed segments defs) (list_all is_in_range defs) e))

small_generation : (slot_entries : List SlotEntry) (slot : ℕ) → All IsSlotEntry slot_entries → slot < length slot_entries → generation_at slot_entries slot < 2 ^ 32
small_generation slot_entries slot all lt =
    let none : SlotEntry = record { generation = 0; live = false } in
    let found : generation_at slot_entries slot ≡ (get_or slot_entries slot none).generation = ap generation_of (slice_get-get_or slot_entries slot none lt) in
    let bounded = (all slot none lt).bounded in
    omega (arith, found, bounded)

formed : (slot generation : ℕ) (b : Body) → generation < 2 ^ 32 → IsBody b → IsFrameBody slot (record { handle = record { slot = slot; generation = generation }; pose = pose_of b; shapes = b.shapes })
formed slot generation b small is = record {
  slot = refl;
  generation = small;
  pose = record { x = is.motion.x; rot = is.motion.facing };
  forms = is.forms;
  some = one_at_least (is_static b.kind) b.shapes is.shapes;
  few = eight_at_most (is_static b.kind) b.shapes is.shapes;
}

formed_if : (enabled : Bool) (slot : ℕ) (all b : FrameBody) → IsFrameBody slot all → cond enabled (Some all) None ≡ Some b → IsFrameBody slot b
formed_if true slot all b is e = subst (IsFrameBody slot) (same_Some all b e) is
formed_if false slot all b is e = absurd (none-some b e)

formed_in : (slot generation : ℕ) (o : Option Body) (b : FrameBody) → generation < 2 ^ 32 → ((c : Body) → o ≡ Some c → IsBody c) → shown (record { slot = slot; generation = generation }) o ≡ Some b → IsFrameBody slot b
formed_in slot generation None b small is e = absurd (none-some b e)
formed_in slot generation (Some c) b small is e =
    formed_if c.enabled slot (record { handle = record { slot = slot; generation = generation }; pose = pose_of c; shapes = c.shapes }) b (formed slot generation c small (is c refl)) e

-- what is found in a list is within it
within_list : (bodies : List (Option FrameBody)) (slot : ℕ) (b : FrameBody) (o : Option (Option FrameBody)) → slice_get bodies slot ≡ o → frame_body_in o ≡ Some b → slot < length bodies
within_list bodies slot b None at e = absurd (none-some b e)
within_list bodies slot b (Some x) at e = slice_get_within bodies slot x at

-- ---- a whole frame

shown_formed : (w : World) → IsSound w → AreFrameBodies (shown_up w.plain.slot_entries w.plain.bodies (length w.plain.bodies))
shown_formed w sound =
    let slot_entries : List SlotEntry = w.plain.slot_entries in
    let bodies : List (Option Body) = w.plain.bodies in
    let long = length_shown slot_entries bodies (length bodies) in
    let few = sound.formed.matched.few in
    let slots = sound.formed.matched.slots in
    record {
      few = omega (arith, long, few);
      each = λ slot b e.
          let inside : slot < length (shown_up slot_entries bodies (length bodies)) = within_list (shown_up slot_entries bodies (length bodies)) slot b (slice_get (shown_up slot_entries bodies (length bodies)) slot) refl e in
          let lt : slot < length bodies = omega (arith, inside, long) in
          let is : shown_at slot_entries bodies slot ≡ Some b = sym (ap frame_body_in (shown_in slot_entries bodies (length bodies) slot lt)) ∙ e in
          formed_in slot (generation_at slot_entries slot) (body_at bodies slot) b (small_generation slot_entries slot sound.formed.slot_entries (omega (arith, lt, slots)))
          (λ c at. sound.formed.bodies slot c (body_at-in bodies slot c at)) is;
    }

-- the bodies that a frame shows are formed
pub frame_formed : (f : View) → IsFrame f → AreFrameBodies f.bodies
frame_formed f is = subst (λ (v : View). AreFrameBodies v.bodies) (sym is.frame) (shown_formed is.world is.sound)
