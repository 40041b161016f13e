-- The keys found in the tree are those found in the list of entries.
use Rattle.std.proofs.Common.{◌≡◌, ℕ, zero, suc, ◌+◌, ◌<◌, ◌≤◌, Bool, true, false, cond, List, [], ◌∷◌, Option, Some, None, inl, inr, refl, sym, subst, arith}
use Rattle.fixed_geom.specs.Boxes.{overlaps}
use Rattle.box_tree_base.specs.Lists.{Each, IsIn}
use Rattle.box_tree_base.specs.Queries.{keys_over}
use Rattle.box_tree.specs.Tables.{loose_keys, entry_at, entry_of, leaf_of, IsKept}
use Rattle.fixed_geom.specs.declared.boxes.Box2.{Box2}
use Rattle.box_tree_base.specs.declared.leaves.Leaf.{Leaf}
use Rattle.box_tree.specs.declared.key_entries.KeyEntry.{KeyEntry}
use Rattle.box_tree_base.proofs.ListLemmas.{each_map}
use Rattle.box_tree.proofs.RisingLemmas.{IsRising, same_rising}

-- a leaf with this key whose box overlaps
pub record IsFound (b : Box2) (k : ℕ) (leaves : List Leaf) : Type 0 where
  pub leaf : Leaf
  pub among : IsIn leaf leaves
  pub key : leaf.key ≡ k
  pub over : overlaps leaf.bounds b ≡ true

found_later : (b : Box2) (k : ℕ) (e : Leaf) (leaves : List Leaf) → IsFound b k leaves → IsFound b k (e ∷ leaves)
found_later b k e leaves f = record { leaf = f.leaf; among = inr f.among; key = f.key; over = f.over }

found_step : (b : Box2) (k : ℕ) (e : Leaf) (leaves : List Leaf) (t : Bool) → overlaps e.bounds b ≡ t → (IsIn k (keys_over b leaves) → IsFound b k leaves) → IsIn k (cond t (e.key ∷ keys_over b leaves) (keys_over b leaves)) → IsFound b k (e ∷ leaves)
found_step b k e leaves true q f h = elim h [ inl p ↦ record { leaf = e; among = inl refl; key = sym p; over = q } | inr r ↦ found_later b k e leaves (f r) ]
found_step b k e leaves false q f h = found_later b k e leaves (f h)

pub found_in : (b : Box2) (k : ℕ) (leaves : List Leaf) → IsIn k (keys_over b leaves) → IsFound b k leaves
found_in b k [] h = absurd h
found_in b k (e ∷ leaves) h = found_step b k e leaves (overlaps e.bounds b) refl (found_in b k leaves) h

kept_step : (x k : ℕ) (t : Bool) (us : List ℕ) → IsIn k us → IsIn k (cond t (x ∷ us) us)
kept_step x k true us h = inr h
kept_step x k false us h = h

new_step : (x : ℕ) (t : Bool) (us : List ℕ) → t ≡ true → IsIn x (cond t (x ∷ us) us)
new_step x true us h = inl refl
new_step x false us h = cc

pub over_in : (b : Box2) (e : Leaf) (leaves : List Leaf) → IsIn e leaves → overlaps e.bounds b ≡ true → IsIn e.key (keys_over b leaves)
over_in b e [] h o = absurd h
over_in b e (x ∷ leaves) h o =
    elim h [
      | inl p ↦ subst (λ y. IsIn e.key (keys_over b (y ∷ leaves))) p (new_step e.key (overlaps e.bounds b) (keys_over b leaves) o)
      | inr q ↦ kept_step x.key e.key (overlaps x.bounds b) (keys_over b leaves) (over_in b e leaves q o)
    ]

-- an entry with this key, counted from n, whose box overlaps
pub record IsPlaced (b : Box2) (n k : ℕ) (entries : List (Option KeyEntry)) : Type 0 where
  pub at : ℕ
  pub entry : KeyEntry
  pub is : entry_at entries at ≡ Some entry
  pub key : k ≡ n + at
  pub over : overlaps entry.bounds b ≡ true

placed_later : (b : Box2) (n k : ℕ) (o : Option KeyEntry) (entries : List (Option KeyEntry)) → IsPlaced b (suc n) k entries → IsPlaced b n k (o ∷ entries)
placed_later b n k o entries f = let e : k ≡ suc n + f.at = f.key in record { at = suc f.at; entry = f.entry; is = f.is; key = omega arith; over = f.over }

placed_step : (b : Box2) (n k : ℕ) (p : KeyEntry) (entries : List (Option KeyEntry)) (t : Bool) → overlaps p.bounds b ≡ t → (IsIn k (loose_keys b (suc n) entries) → IsPlaced b (suc n) k entries) → IsIn k (cond t (n ∷ loose_keys b (suc n) entries) (loose_keys b (suc n) entries)) → IsPlaced b n k (Some p ∷ entries)
placed_step b n k p entries true q f h = elim h [ inl e ↦ record { at = 0; entry = p; is = refl; key = omega arith; over = q } | inr r ↦ placed_later b n k (Some p) entries (f r) ]
placed_step b n k p entries false q f h = placed_later b n k (Some p) entries (f h)

pub placed_in : (b : Box2) (n k : ℕ) (entries : List (Option KeyEntry)) → IsIn k (loose_keys b n entries) → IsPlaced b n k entries
placed_in b n k [] h = absurd h
placed_in b n k (None ∷ entries) h = placed_later b n k None entries (placed_in b (suc n) k entries h)
placed_in b n k (Some p ∷ entries) h = placed_step b n k p entries (overlaps p.bounds b) refl (placed_in b (suc n) k entries) h

pub loose_in : (b : Box2) (n k : ℕ) (p : KeyEntry) (entries : List (Option KeyEntry)) → entry_at entries k ≡ Some p → overlaps p.bounds b ≡ true → IsIn (n + k) (loose_keys b n entries)
loose_in b n k p [] h o = cc
loose_in b n zero p (None ∷ entries) h o = cc
loose_in b n zero p (Some q ∷ entries) h o =
    let e : q ≡ p = cc in
    let z : n + 0 ≡ n = omega arith in
    rw z (new_step n (overlaps q.bounds b) (loose_keys b (suc n) entries) (rw e o))
loose_in b n (suc k) p (None ∷ entries) h o = let z : n + suc k ≡ suc n + k = omega arith in rw z (loose_in b (suc n) k p entries h o)
loose_in b n (suc k) p (Some q ∷ entries) h o =
    let z : n + suc k ≡ suc n + k = omega arith in
    rw z (kept_step n (suc n + k) (overlaps q.bounds b) (loose_keys b (suc n) entries) (loose_in b (suc n) k p entries h o))

above_step : (n : ℕ) (t : Bool) (us : List ℕ) → Each (λ y. suc n ≤ y) us → Each (λ y. n ≤ y) (cond t (n ∷ us) us)
above_step n true us a = (omega arith, each_map (λ y. suc n ≤ y) (λ y. n ≤ y) (λ y h. omega arith) us a)
above_step n false us a = each_map (λ y. suc n ≤ y) (λ y. n ≤ y) (λ y h. omega arith) us a

above : (b : Box2) (n : ℕ) (entries : List (Option KeyEntry)) → Each (λ y. n ≤ y) (loose_keys b n entries)
above b n [] = tt
above b n (None ∷ entries) = each_map (λ y. suc n ≤ y) (λ y. n ≤ y) (λ y h. omega arith) (loose_keys b (suc n) entries) (above b (suc n) entries)
above b n (Some p ∷ entries) = above_step n (overlaps p.bounds b) (loose_keys b (suc n) entries) (above b (suc n) entries)

rising_step : (n : ℕ) (t : Bool) (us : List ℕ) → Each (λ y. suc n ≤ y) us → IsRising us → IsRising (cond t (n ∷ us) us)
rising_step n true us a r = (each_map (λ y. suc n ≤ y) (λ y. n < y) (λ y h. omega arith) us a, r)
rising_step n false us a r = r

pub loose_rising : (b : Box2) (n : ℕ) (entries : List (Option KeyEntry)) → IsRising (loose_keys b n entries)
loose_rising b n [] = tt
loose_rising b n (None ∷ entries) = loose_rising b (suc n) entries
loose_rising b n (Some p ∷ entries) = rising_step n (overlaps p.bounds b) (loose_keys b (suc n) entries) (above b (suc n) entries) (loose_rising b (suc n) entries)

-- a rising list of the keys found is the list of loose keys
pub found_is_loose : (b : Box2) (leaves : List Leaf) (entries : List (Option KeyEntry)) (zs : List ℕ) → IsKept leaves entries → IsRising zs → ((k : ℕ) → IsIn k zs → IsIn k (keys_over b leaves)) → ((k : ℕ) → IsIn k (keys_over b leaves) → IsIn k zs) → zs ≡ loose_keys b 0 entries
found_is_loose b leaves entries zs kept r f g =
    let u : (k : ℕ) → IsIn k zs → IsIn k (loose_keys b 0 entries) = λ k i.
    let d = found_in b k leaves (f k i) in
    let w = loose_in b 0 d.leaf.key (entry_of d.leaf) entries (kept.sound d.leaf d.among) d.over in
    let z : 0 + d.leaf.key ≡ k = omega (arith, d.key) in
    rw z at w in
    let v : (k : ℕ) → IsIn k (loose_keys b 0 entries) → IsIn k zs = λ k i.
    let d = placed_in b 0 k entries i in
    let w = g d.at (over_in b (leaf_of d.at d.entry) leaves (kept.complete d.at d.entry d.is) d.over) in
    let z : d.at ≡ k = omega (arith, d.key) in
    rw z at w in
    same_rising zs (loose_keys b 0 entries) r (loose_rising b 0 entries) u v
