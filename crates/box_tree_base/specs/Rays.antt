-- The first hit of a ray.
use Rattle.std.specs.Prelude.{◌≡◌, ℕ, Bool, false, cond, List, [], ◌∷◌, Option, Some, None, nat_lt}
use Rattle.fixed_geom.specs.declared.boxes.Box2.{Box2}
use Rattle.box_tree_base.specs.declared.leaves.Leaf.{Leaf}
use Rattle.box_tree_base.specs.declared.rays.Hit.{Hit}

-- the nearer of the best hit so far and of one at this fraction, by fraction and then by key
abbrev pub nearer : Option Hit → ℕ → Option ℕ → Option Hit
nearer best key None = best
nearer None key (Some f) = Some (record { fraction = f; key = key })
nearer (Some h) key (Some f) = cond (nat_lt f h.fraction) (Some (record { fraction = f; key = key })) (cond (nat_lt h.fraction f) (Some h) (cond (nat_lt key h.key) (Some (record { fraction = f; key = key })) (Some h)))

-- the nearest hit on the leaves' keys and of the best so far
abbrev pub first_among : (ℕ → Option ℕ) → List Leaf → Option Hit → Option Hit
first_among hit [] best = best
first_among hit (leaf ∷ leaves) best = first_among hit leaves (nearer best leaf.key (hit leaf.key))

-- the leaf's key is hit only where its box is reached
abbrev pub IsHitWithin : (Box2 → Bool) → (ℕ → Option ℕ) → Leaf → Type 0
IsHitWithin reaches hit leaf = reaches leaf.bounds ≡ false → hit leaf.key ≡ None
