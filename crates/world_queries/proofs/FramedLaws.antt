-- The shapes of a frame's bodies, one after another.
use Rattle.std.proofs.Common.{◌≡◌, ℕ, zero, suc, ◌≤◌, ◌<◌, ◌+◌, List, [], ◌∷◌, ◌++◌, length, drop, Option, None, Some, IfSome, get_or, refl, ap, sym, ◌∙◌, subst, arith}
use Rattle.std.proofs.Math.Numerals.{add-one}
use Rattle.std.proofs.lemmas.Option.{slice_get-get_or}
use Rattle.std.specs.Prelude.{option_map, slice_get}
use Rattle.shape_rays.specs.declared.hits.Hit.{Hit}
use Rattle.shape_rays.specs.declared.hits.PosedShape.{PosedShape}
use Rattle.shape_rays.specs.Hits.{first_hit, nearer}
use Rattle.shape_rays.proofs.HitLemmas.{associate, first_of_parts}
use Rattle.shapes.specs.declared.beam.Beam.{Beam}
use Rattle.shapes.specs.declared.pose.Pose.{Pose}
use Rattle.shapes.specs.declared.shape.ShapeDef.{ShapeDef}
use Rattle.world_core.specs.Frames.{AreFrameBodies, IsFrameBody, frame_body_in}
use Rattle.world_core.specs.declared.frame.FrameBody.{FrameBody}
use Rattle.world_queries.specs.Framed.{framed_at, framed_shape, framed_shapes}
use Rattle.world_queries.specs.Posed.{named, shapes_from}

-- ---- those of one body

-- the shapes of a body from the one at `index` on
abbrev pub left_of : FrameBody → ℕ → List PosedShape
left_of b index = shapes_from b.handle.slot b.pose index (drop index b.shapes)

-- what is found at an index, and then what is left behind it; nothing is left where nothing is found
abbrev found_and : Option PosedShape → List PosedShape → List PosedShape
found_and None later = []
found_and (Some p) later = p ∷ later

abbrev posed_by : ℕ → ℕ → Pose → ShapeDef → PosedShape
posed_by slot index pose d = named (record { slot = slot; index = index }) (d.shape, pose)

left_from : (slot index : ℕ) (pose : Pose) (defs : List ShapeDef) (k : ℕ) →
    shapes_from slot pose index (drop k defs) ≡ found_and (option_map (posed_by slot index pose) (slice_get defs k)) (shapes_from slot pose (suc index) (drop (suc k) defs))
left_from slot index pose [] zero = refl
left_from slot index pose [] (suc k) = refl
left_from slot index pose (d ∷ defs) zero = refl
left_from slot index pose (d ∷ defs) (suc k) = left_from slot index pose defs k

none_by : (o : Option PosedShape) (later : List PosedShape) → None ≡ o → found_and o later ≡ []
none_by None later e = refl
none_by (Some p) later e = cc

some_by : (o : Option PosedShape) (p : PosedShape) (later : List PosedShape) → Some p ≡ o → found_and o later ≡ p ∷ later
some_by o p later e = ap (λ (x : Option PosedShape). found_and x later) (sym e)

-- nothing is left from an index at which the body has no shape
pub none_left_of : (b : FrameBody) (index : ℕ) → None ≡ framed_shape b index → left_of b index ≡ []
none_left_of b index e = left_from b.handle.slot index b.pose b.shapes index ∙ none_by (framed_shape b index) (left_of b (suc index)) e

pub some_left_of : (b : FrameBody) (index : ℕ) (p : PosedShape) → Some p ≡ framed_shape b index → left_of b index ≡ p ∷ left_of b (index + 1)
some_left_of b index p e = rw add-one (left_from b.handle.slot index b.pose b.shapes index ∙ some_by (framed_shape b index) p (left_of b (suc index)) e)

past : (defs : List ShapeDef) (k : ℕ) → length defs ≤ k → drop k defs ≡ []
past [] zero h = refl
past [] (suc k) h = refl
past (d ∷ defs) zero h = absurd (omega (arith, h))
past (d ∷ defs) (suc k) h = past defs k (omega (arith, h))

-- nor from its ninth shape on
pub no_ninth_of : (b : FrameBody) (index : ℕ) → length b.shapes ≤ 8 → 8 ≤ index → left_of b index ≡ []
no_ninth_of b index few far = ap (shapes_from b.handle.slot b.pose index) (past b.shapes index (omega (arith, few, far)))

-- ---- one body after another

entry_within : (bodies : List (Option FrameBody)) (k : ℕ) (o : Option FrameBody) → slice_get bodies k ≡ Some o → drop k bodies ≡ o ∷ drop (suc k) bodies
entry_within [] k o e = cc
entry_within (x ∷ bodies) zero o e = let same : x ≡ o = cc e in ap (λ (y : Option FrameBody). y ∷ bodies) same
entry_within (x ∷ bodies) (suc k) o e = entry_within bodies k o e

-- what a loop finds at an index
found_at : (bodies : List (Option FrameBody)) (k : ℕ) (o : Option FrameBody) → k < length bodies → o ≡ get_or bodies k o → slice_get bodies k ≡ Some o
found_at bodies k o h e = slice_get-get_or bodies k o h ∙ ap Some (sym e)

-- what is shown in a slot, and then what is shown in the later ones
pub framed_next : (bodies : List (Option FrameBody)) (k : ℕ) (o : Option FrameBody) → k < length bodies → o ≡ get_or bodies k o → framed_shapes (drop k bodies) ≡ framed_at o ++ framed_shapes (drop (k + 1) bodies)
framed_next bodies k o h e = rw add-one (ap framed_shapes (entry_within bodies k o (found_at bodies k o h e)))

formed_by : (bodies : List (Option FrameBody)) (k : ℕ) (o : Option FrameBody) → AreFrameBodies bodies → slice_get bodies k ≡ Some o → IfSome o (λ b. IsFrameBody b.handle.slot b)
formed_by bodies k None h e = tt
formed_by bodies k (Some b) h e =
    let is : IsFrameBody k b = h.each k b (ap frame_body_in e) in
    subst (λ (n : ℕ). IsFrameBody n b) (sym is.slot) is

-- what is shown in a slot is formed
pub formed_in : (bodies : List (Option FrameBody)) (k : ℕ) (o : Option FrameBody) → AreFrameBodies bodies → k < length bodies → o ≡ get_or bodies k o → IfSome o (λ b. IsFrameBody b.handle.slot b)
formed_in bodies k o h within e = formed_by bodies k o h (found_at bodies k o within e)

-- ---- the first hit and the shapes over a region, part by part

pub hit_parts : (r : Beam) (best all : Option Hit) (now part later : List PosedShape) → now ≡ part ++ later → nearer best (first_hit r now) ≡ all → nearer (nearer best (first_hit r part)) (first_hit r later) ≡ all
hit_parts r best all now part later e h =
    associate best (first_hit r part) (first_hit r later) ∙ ap (nearer best) (sym (ap (first_hit r) e ∙ first_of_parts r part later)) ∙ h
