-- Fat boxes made anew one after another.
use Rattle.std.proofs.Common.{◌≡◌, ℕ, zero, suc, ◌+◌, ◌<◌, Bool, true, false, ◌||◌, true≢false, List, [], ◌∷◌, ◌++◌, length, get_or, take, drop, refl, ap, ◌∙◌, add-one, arith}
use Rattle.std.proofs.lemmas.List.{set-get_or}
use Rattle.std.specs.Prelude.{slice_set}
use Rattle.fixed_geom.specs.declared.boxes.Box2.{Box2}
use Rattle.shapes.specs.declared.pose.Pose.{Pose}
use Rattle.shapes.specs.declared.shape.ShapeDef.{ShapeDef}
use Rattle.plain_world.specs.Fats.{renewed, renewed_boxes}

-- the boxes of which the first are made anew
abbrev pub so_far : Pose → List ShapeDef → List Box2 → ℕ → List Box2
so_far o defs fats i = renewed_boxes o (take i defs) (take i fats) ++ drop i fats

still_there : (o : Pose) (defs : List ShapeDef) (fats : List Box2) (i : ℕ) (b : Box2) → i < length fats → length fats ≡ length defs → get_or (so_far o defs fats i) i b ≡ get_or fats i b
still_there o defs [] i b h e = absurd (omega arith)
still_there o [] (f ∷ fs) i b h e = absurd (omega arith)
still_there o (d ∷ ds) (f ∷ fs) zero b h e = refl
still_there o (d ∷ ds) (f ∷ fs) (suc i) b h e = still_there o ds fs i b (omega arith) (omega arith)

next_renewed : (o : Pose) (defs : List ShapeDef) (fats : List Box2) (i : ℕ) (d : ShapeDef) (b : Box2) → i < length fats → length fats ≡ length defs
    → slice_set (so_far o defs fats i) i (renewed (get_or defs i d).shape o (get_or fats i b)) ≡ so_far o defs fats (suc i)
next_renewed o defs [] i d b h e = absurd (omega arith)
next_renewed o [] (f ∷ fs) i d b h e = absurd (omega arith)
next_renewed o (c ∷ cs) (f ∷ fs) zero d b h e = refl
next_renewed o (c ∷ cs) (f ∷ fs) (suc i) d b h e = ap (λ (l : List Box2). renewed c.shape o f ∷ l) (next_renewed o cs fs i d b (omega arith) (omega arith))

pub renewed_more : (o : Pose) (defs : List ShapeDef) (fats boxes : List Box2) (i : ℕ) (d : ShapeDef) (b r : Box2) → i < length fats → length fats ≡ length defs
    → boxes ≡ so_far o defs fats i → r ≡ renewed (get_or defs i d).shape o (get_or boxes i b) → slice_set boxes i r ≡ so_far o defs fats (i + 1)
renewed_more o defs fats boxes i d b r h e is made =
    let here : get_or boxes i b ≡ get_or fats i b = ap (λ (l : List Box2). get_or l i b) is ∙ still_there o defs fats i b h e in
    let value : r ≡ renewed (get_or defs i d).shape o (get_or fats i b) = made ∙ ap (renewed (get_or defs i d).shape o) here in
    rw (is, value, add-one) (next_renewed o defs fats i d b h e)

-- the boxes so far, and whether one of them was made anew
pub record AreRenewed (o : Pose) (defs : List ShapeDef) (fats boxes : List Box2) (any : Bool) (i : ℕ) : Type 0 where
  pub renewed_so_far : boxes ≡ so_far o defs fats i
  pub same : any ≡ false → boxes ≡ fats

neither : (made any : Bool) → (made || any) ≡ false → (made ≡ false) × (any ≡ false)
neither false any e = (refl, e)
neither true any e = absurd (true≢false e)

pub renewed_next : (o : Pose) (defs : List ShapeDef) (fats boxes : List Box2) (any made : Bool) (i : ℕ) (d : ShapeDef) (b r : Box2) → i < length fats → length fats ≡ length defs → AreRenewed o defs fats boxes any i
    → r ≡ renewed (get_or defs i d).shape o (get_or boxes i b) → (made ≡ false → r ≡ get_or boxes i b) → AreRenewed o defs fats (slice_set boxes i r) (made || any) (i + 1)
renewed_next o defs fats boxes any made i d b r h e is value same = record {
  renewed_so_far = renewed_more o defs fats boxes i d b r h e is.renewed_so_far value;
  same = λ off. ap (λ (x : Box2). slice_set boxes i x) (same (neither made any off).0) ∙ set-get_or boxes i b ∙ is.same (neither made any off).1;
}
