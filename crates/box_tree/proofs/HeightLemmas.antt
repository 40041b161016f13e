-- How deep a balanced tree of so many leaves may be.
use Rattle.std.proofs.Common.{◌≡◌, ℕ, zero, suc, ◌+◌, ◌-◌, ◌≤◌, ◌⊎◌, List, [], ◌∷◌, length, Option, Some, None, inl, inr, refl, ap, sym, ◌∙◌, subst, arith}
use Rattle.fixed_geom.specs.declared.boxes.Box2.{Box2}
use Rattle.box_tree_base.specs.Depths.{least_leaves}
use Rattle.box_tree_base.specs.Roots.{leaves_of, depth_of}
use Rattle.box_tree_base.specs.declared.leaves.Leaf.{Leaf}
use Rattle.box_tree_base.specs.declared.tree.Tree.{Tree}
use Rattle.box_tree_base.proofs.DepthLemmas.{rises_to}
use Rattle.box_tree.specs.BoxLists.{boxed}
use Rattle.box_tree.specs.Indexes.{AreStanding, IsIndex, filled}
use Rattle.box_tree.specs.declared.key_entries.TheConstants.{MAX_KEYS}
use Rattle.box_tree.specs.declared.key_entries.KeyEntry.{KeyEntry}

low_or_high : (h : ℕ) → (h ≤ 27) ⊎ (h ≡ (h - 28) + 28)
low_or_high h = grind arith

too_many : (h n : ℕ) → h ≡ (h - 28) + 28 → n ≤ MAX_KEYS → least_leaves h ≤ n → ⊥
too_many h n e f g =
    let many : least_leaves 28 ≡ 832040 = refl in
    let more : least_leaves 28 ≤ least_leaves h = rises_to (h - 28) 28 h e in
    omega (arith, many, more, f, g)

pub depth_within : (d n : ℕ) → n ≤ MAX_KEYS → ((forks : ℕ) → d ≡ forks + 1 → least_leaves forks ≤ n) → d ≤ 28
depth_within zero n few f = omega arith
depth_within (suc h) n few f = elim (low_or_high h) [ inl p ↦ omega (arith, p) | inr q ↦ absurd (too_many h n q few (f h (omega arith))) ]

-- ---- as many leaves as boxes

as_many : (n : ℕ) (entries : List (Option KeyEntry)) (boxes : List (Option Box2)) → AreStanding n entries boxes → filled entries ≡ boxed boxes
as_many n [] [] h = refl
as_many n [] (b ∷ boxes) h = absurd h
as_many n (o ∷ entries) [] h = absurd h
as_many n (None ∷ entries) (None ∷ boxes) h = as_many (suc n) entries boxes h.1
as_many n (None ∷ entries) (Some b ∷ boxes) h = absurd h.0
as_many n (Some p ∷ entries) (None ∷ boxes) h = absurd h.0
as_many n (Some p ∷ entries) (Some b ∷ boxes) h = ap suc (as_many (suc n) entries boxes h.1)

leaves_boxed : (leaves : List Leaf) (entries : List (Option KeyEntry)) (boxes : List (Option Box2)) → IsIndex leaves entries boxes → length leaves ≡ boxed boxes
leaves_boxed leaves entries boxes h = h.count ∙ as_many 0 entries boxes h.standing

no_leaves : (trees : List Tree) → depth_of trees ≡ 0 → length (leaves_of trees) ≡ 0
no_leaves [] e = refl
no_leaves (tree ∷ others) e = absurd (omega (arith, e))

pub none_boxed : (trees : List Tree) (entries : List (Option KeyEntry)) (boxes : List (Option Box2)) → IsIndex (leaves_of trees) entries boxes → depth_of trees ≡ 0 → boxed boxes ≡ 0
none_boxed trees entries boxes h e = sym (leaves_boxed (leaves_of trees) entries boxes h) ∙ no_leaves trees e

pub enough_boxed : (forks : ℕ) (leaves : List Leaf) (entries : List (Option KeyEntry)) (boxes : List (Option Box2)) → IsIndex leaves entries boxes → least_leaves forks ≤ length leaves → least_leaves forks ≤ boxed boxes
enough_boxed forks leaves entries boxes h m = subst (λ (n : ℕ). least_leaves forks ≤ n) (leaves_boxed leaves entries boxes h) m
