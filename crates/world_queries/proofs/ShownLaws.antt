-- The shapes that a frame shows are those that can be seen in its world.
use Rattle.std.proofs.Common.{◌≡◌, ℕ, zero, suc, ◌+◌, ◌<◌, ◌≤◌, Bool, true, false, cond, List, [], ◌∷◌, ◌++◌, length, take, Option, None, Some, get_or, refl, ap, sym, ◌∙◌, arith}
use Rattle.std.proofs.Math.Numerals.{add-one}
use Rattle.std.proofs.Math.Seq.{take-length}
use Rattle.std.proofs.lemmas.List.{append_assoc, append-nil, length-take-le, take_more}
use Rattle.std.proofs.lemmas.Option.{slice_get-get_or}
use Rattle.std.specs.Option.{option_flatten}
use Rattle.body_handles.specs.SlotEntries.{generation_at}
use Rattle.body_handles.specs.declared.handle.Handle.{Handle}
use Rattle.body_handles.specs.declared.slot_table.SlotEntry.{SlotEntry}
use Rattle.plain_world.specs.Bodies.{pose_of}
use Rattle.plain_world.specs.Slots.{body_at}
use Rattle.plain_world.specs.declared.body.Body.{Body}
use Rattle.shape_rays.specs.declared.hits.PosedShape.{PosedShape}
use Rattle.world_core.specs.Frames.{shown, shown_up}
use Rattle.world_core.specs.declared.frame.FrameBody.{FrameBody}
use Rattle.world_queries.specs.Framed.{framed_at, framed_shapes}
use Rattle.world_queries.specs.Posed.{posed_from, posed_shapes, shapes_at}

-- ---- one slot

-- how a frame shows a body under a handle
abbrev shown_as : Handle → Body → FrameBody
shown_as h b = record { handle = h; pose = pose_of b; shapes = b.shapes }

if_enabled : (t : Bool) (f : FrameBody) → framed_at (cond t (Some f) None) ≡ cond t (framed_at (Some f)) []
if_enabled true f = refl
if_enabled false f = refl

shown_in_slot : (h : Handle) (o : Option Body) → framed_at (shown h o) ≡ shapes_at h.slot o
shown_in_slot h None = refl
shown_in_slot h (Some b) = if_enabled b.enabled (shown_as h b)

-- ---- slot by slot

framed_parts : (xs ys : List (Option FrameBody)) → framed_shapes (xs ++ ys) ≡ framed_shapes xs ++ framed_shapes ys
framed_parts [] ys = refl
framed_parts (x ∷ xs) ys = ap (λ (ps : List PosedShape). framed_at x ++ ps) (framed_parts xs ys) ∙ sym (append_assoc (framed_at x) (framed_shapes xs) (framed_shapes ys))

framed_last : (xs : List (Option FrameBody)) (o : Option FrameBody) → framed_shapes (xs ++ o ∷ []) ≡ framed_shapes xs ++ framed_at o
framed_last xs o = framed_parts xs (o ∷ []) ∙ ap (λ (ps : List PosedShape). framed_shapes xs ++ ps) (append-nil (framed_at o))

posed_last : (slot last : ℕ) (xs : List (Option Body)) (o : Option Body) → slot + length xs ≡ last → posed_from slot (xs ++ o ∷ []) ≡ posed_from slot xs ++ shapes_at last o
posed_last slot last [] o e =
    let here : slot ≡ last = omega (arith, e) in
    append-nil (shapes_at slot o) ∙ ap (λ (n : ℕ). shapes_at n o) here
posed_last slot last (x ∷ xs) o e =
    ap (λ (ps : List PosedShape). shapes_at slot x ++ ps) (posed_last (suc slot) last xs o (omega (arith, e))) ∙ sym (append_assoc (shapes_at slot x) (posed_from (suc slot) xs) (shapes_at last o))

found_in_slot : (bodies : List (Option Body)) (n : ℕ) → n < length bodies → get_or bodies n None ≡ body_at bodies n
found_in_slot bodies n h = sym (ap option_flatten (slice_get-get_or bodies n None h))

-- what is shown of the slots below n is what can be seen of the first n bodies
up_to : (slot_entries : List SlotEntry) (bodies : List (Option Body)) (n : ℕ) → n ≤ length bodies → framed_shapes (shown_up slot_entries bodies n) ≡ posed_from 0 (take n bodies)
up_to slot_entries bodies zero h = refl
up_to slot_entries bodies (suc n) h =
    let within : n < length bodies = omega (arith, h) in
    let below : n ≤ length bodies = omega (arith, h) in
    let handle : Handle = record { slot = n; generation = generation_at slot_entries n } in
    let long : 0 + length (take n bodies) ≡ n = omega (arith, length-take-le n bodies below) in
    let more : take (suc n) bodies ≡ take n bodies ++ get_or bodies n None ∷ [] = rw (← add-one) (take_more bodies n None within) in
    framed_last (shown_up slot_entries bodies n) (shown handle (body_at bodies n))
    ∙ ap (λ (ps : List PosedShape). ps ++ framed_at (shown handle (body_at bodies n))) (up_to slot_entries bodies n below)
    ∙ ap (λ (ps : List PosedShape). posed_from 0 (take n bodies) ++ ps) (shown_in_slot handle (body_at bodies n) ∙ ap (shapes_at n) (sym (found_in_slot bodies n within)))
    ∙ sym (ap (posed_from 0) more ∙ posed_last 0 n (take n bodies) (get_or bodies n None) long)

pub all_shown : (slot_entries : List SlotEntry) (bodies : List (Option Body)) → framed_shapes (shown_up slot_entries bodies (length bodies)) ≡ posed_shapes bodies
all_shown slot_entries bodies =
    let whole : length bodies ≤ length bodies = omega arith in
    up_to slot_entries bodies (length bodies) whole ∙ ap (posed_from 0) (take-length bodies)
