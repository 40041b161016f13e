-- Boxes by key, as lists: the scans that a tree of them answers.
use Rattle.std.specs.Prelude.{◌≡◌, ℕ, zero, suc, Bool, false, cond, List, [], ◌∷◌, Option, Some, None}
use Rattle.fixed_geom.specs.Boxes.{overlaps}
use Rattle.fixed_geom.specs.declared.boxes.Box2.{Box2}
use Rattle.box_tree_base.specs.Rays.{nearer}
use Rattle.box_tree_base.specs.declared.rays.Hit.{Hit}

-- the box of the key, where it has one
abbrev pub box_at : List (Option Box2) → ℕ → Option Box2
box_at [] key = None
box_at (o ∷ boxes) zero = o
box_at (o ∷ boxes) (suc key) = box_at boxes key

-- how many keys have a box
abbrev pub boxed : List (Option Box2) → ℕ
boxed [] = 0
boxed (None ∷ boxes) = boxed boxes
boxed (Some bounds ∷ boxes) = suc (boxed boxes)

abbrev pub is_over : Box2 → Option Box2 → Bool
is_over b None = false
is_over b (Some bounds) = overlaps bounds b

-- the keys whose boxes overlap b, ascending, where the list begins with this key
abbrev pub keys_over : Box2 → ℕ → List (Option Box2) → List ℕ
keys_over b key [] = []
keys_over b key (None ∷ boxes) = keys_over b (suc key) boxes
keys_over b key (Some bounds ∷ boxes) = cond (overlaps bounds b) (key ∷ keys_over b (suc key) boxes) (keys_over b (suc key) boxes)

-- the nearest of the best hit so far and those on the keys with a box, where the list begins with this key
abbrev pub first_hit : (ℕ → Option ℕ) → ℕ → List (Option Box2) → Option Hit → Option Hit
first_hit hit key [] best = best
first_hit hit key (None ∷ boxes) best = first_hit hit (suc key) boxes best
first_hit hit key (Some bounds ∷ boxes) best = first_hit hit (suc key) boxes (nearer best key (hit key))

-- a key is hit only where its box is reached
abbrev pub AreHitsWithin : (Box2 → Bool) → (ℕ → Option ℕ) → List (Option Box2) → Type 0
AreHitsWithin reaches hit boxes = (key : ℕ) (bounds : Box2) → box_at boxes key ≡ Some bounds → reaches bounds ≡ false → hit key ≡ None

-- what is found, if the box is there and reached
abbrev pub found_in : (Box2 → Bool) → Option Box2 → Option ℕ → Option ℕ
found_in reaches None found = None
found_in reaches (Some bounds) found = cond (reaches bounds) found None

-- the hit on the key, where its box is asked first
abbrev pub asked_hit : (Box2 → Bool) → (ℕ → Option ℕ) → List (Option Box2) → ℕ → Option ℕ
asked_hit reaches hit boxes key = found_in reaches (box_at boxes key) (hit key)
