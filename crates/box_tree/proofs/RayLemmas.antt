-- The first hit over the leaves is that over the keys.
use Rattle.std.proofs.Common.{◌≡◌, ℕ, zero, suc, ◌+◌, ◌<◌, ◌≤◌, Bool, true, false, cond, List, [], ◌∷◌, ◌⊎◌, Option, Some, None, is_some, inl, inr, refl, ap, sym, ◌∙◌, subst, arith, ltb-true, ltb-false}
use Rattle.std.specs.Prelude.{nat_lt}
use Rattle.fixed_geom.specs.Boxes.{Contains}
use Rattle.fixed_geom.specs.declared.boxes.Box2.{Box2}
use Rattle.box_tree_base.specs.Lists.{Each, IsIn}
use Rattle.box_tree_base.specs.Rays.{nearer, first_among, IsHitWithin}
use Rattle.box_tree_base.specs.declared.leaves.Leaf.{Leaf}
use Rattle.box_tree_base.specs.declared.rays.Hit.{Hit}
use Rattle.box_tree.specs.BoxLists.{box_at, first_hit, AreHitsWithin, found_in, asked_hit}
use Rattle.box_tree.specs.Tables.{keys_of, entry_at, entry_of, leaf_of}
use Rattle.box_tree.specs.Indexes.{IsStanding, IsIndex}
use Rattle.box_tree.specs.declared.key_entries.KeyEntry.{KeyEntry}
use Rattle.box_tree.proofs.IndexLemmas.{standing_here, taken_entry}

-- ---- the first hit on the keys of a set

-- the hit is not after one on this key at this fraction
abbrev pub IsBefore : Hit → ℕ → ℕ → Type 0
IsBefore h key f = (h.fraction < f) ⊎ ((h.fraction ≡ f) × (h.key ≤ key))

abbrev pub IsFirst : (ℕ → Option ℕ) → (ℕ → Type 0) → Option Hit → Type 0
IsFirst hit P None = (k : ℕ) → P k → hit k ≡ None
IsFirst hit P (Some h) = P h.key × ((hit h.key ≡ Some h.fraction) × ((k f : ℕ) → P k → hit k ≡ Some f → IsBefore h k f))

first_same : (hit : ℕ → Option ℕ) (P Q : ℕ → Type 0) (o : Option Hit) → ((k : ℕ) → P k → Q k) → ((k : ℕ) → Q k → P k) → IsFirst hit P o → IsFirst hit Q o
first_same hit P Q None f g h = λ k q. h k (g k q)
first_same hit P Q (Some x) f g h = (f x.key h.0, (h.1.0, λ k n q e. h.1.1 k n (g k q) e))

no_hit : (n : ℕ) (o : Option ℕ) → o ≡ None → o ≡ Some n → ⊥
no_hit n o e f = cc

same_hit : (m n : ℕ) (o : Option ℕ) → o ≡ Some m → o ≡ Some n → m ≡ n
same_hit m n o e f = cc

abbrev new_hit : ℕ → ℕ → Hit
new_hit f x = record { fraction = f; key = x }

hit_by : (a b : Hit) → a.fraction ≡ b.fraction → a.key ≡ b.key → a ≡ b
hit_by a b e f = ap (λ (n : ℕ). new_hit n a.key) e ∙ ap (λ (n : ℕ). new_hit b.fraction n) f

before_each_other : (a b : Hit) → IsBefore a b.key b.fraction → IsBefore b a.key a.fraction → a ≡ b
before_each_other a b h k =
    elim h [
      | inl p ↦ elim k [ inl q ↦ absurd (omega (arith, p, q)) | inr q ↦ absurd (omega (arith, p, q.0)) ]
      | inr p ↦ elim k [ inl q ↦ absurd (omega (arith, p.0, q)) | inr q ↦ let e : a.key ≡ b.key = omega (arith, p.1, q.1) in hit_by a b p.0 e ]
    ]

only_first : (hit : ℕ → Option ℕ) (P : ℕ → Type 0) (a b : Option Hit) → IsFirst hit P a → IsFirst hit P b → a ≡ b
only_first hit P None None h k = refl
only_first hit P None (Some b) h k = absurd (no_hit b.fraction (hit b.key) (h b.key k.0) k.1.0)
only_first hit P (Some a) None h k = absurd (no_hit a.fraction (hit a.key) (k a.key h.0) h.1.0)
only_first hit P (Some a) (Some b) h k = ap Some (before_each_other a b (h.1.1 b.key b.fraction k.0 k.1.0) (k.1.1 a.key a.fraction h.0 h.1.0))

-- ---- one key more

before_both : (a h : Hit) (k f : ℕ) → IsBefore a h.key h.fraction → IsBefore h k f → IsBefore a k f
before_both a h k f p q =
    elim p [
      | inl u ↦ elim q [ inl v ↦ inl (omega (arith, u, v)) | inr v ↦ inl (omega (arith, u, v.0)) ]
      | inr u ↦ elim q [ inl v ↦ inl (omega (arith, u.0, v)) | inr v ↦ inr (u.0 ∙ v.0, omega (arith, u.1, v.1)) ]
    ]

before_itself : (h : Hit) (k f : ℕ) → h.fraction ≡ f → k ≡ h.key → IsBefore h k f
before_itself h k f e d = inr (e, omega (arith, d))

-- which of the two is the nearer
abbrev IsPicked : Hit → ℕ → ℕ → Option Hit → Type 0
IsPicked h f x o = ((o ≡ Some (new_hit f x)) × IsBefore (new_hit f x) h.key h.fraction) ⊎ ((o ≡ Some h) × IsBefore h x f)

picked_by : (h : Hit) (f x : ℕ) (t u v : Bool) → nat_lt f h.fraction ≡ t → nat_lt h.fraction f ≡ u → nat_lt x h.key ≡ v → IsPicked h f x (cond t (Some (new_hit f x)) (cond u (Some h) (cond v (Some (new_hit f x)) (Some h))))
picked_by h f x true u v a b d = inl (refl, inl (ltb-true f h.fraction a))
picked_by h f x false true v a b d = inr (refl, inl (ltb-true h.fraction f b))
picked_by h f x false false true a b d = let p : f ≡ h.fraction = omega (arith, ltb-false f h.fraction a, ltb-false h.fraction f b) in inl (refl, inr (p, omega (arith, ltb-true x h.key d)))
picked_by h f x false false false a b d = let p : h.fraction ≡ f = omega (arith, ltb-false f h.fraction a, ltb-false h.fraction f b) in inr (refl, inr (p, omega (arith, ltb-false x h.key d)))

picked : (h : Hit) (f x : ℕ) → IsPicked h f x (nearer (Some h) x (Some f))
picked h f x = picked_by h f x (nat_lt f h.fraction) (nat_lt h.fraction f) (nat_lt x h.key) refl refl refl

abbrev With : (ℕ → Type 0) → ℕ → ℕ → Type 0
With P x k = P k ⊎ (k ≡ x)

takes_new : (hit : ℕ → Option ℕ) (P : ℕ → Type 0) (x f : ℕ) (h : Hit) → hit x ≡ Some f → IsFirst hit P (Some h) → IsBefore (new_hit f x) h.key h.fraction → IsFirst hit (With P x) (Some (new_hit f x))
takes_new hit P x f h e first b = (
  inr refl,
  (e, λ k n w g. elim w [ inl p ↦ before_both (new_hit f x) h k n b (first.1.1 k n p g) | inr q ↦ before_itself (new_hit f x) k n (same_hit f n (hit x) e (ap hit (sym q) ∙ g)) q ]),
)

keeps_old : (hit : ℕ → Option ℕ) (P : ℕ → Type 0) (x f : ℕ) (h : Hit) → hit x ≡ Some f → IsFirst hit P (Some h) → IsBefore h x f → IsFirst hit (With P x) (Some h)
keeps_old hit P x f h e first b = (
  inl first.0,
  (first.1.0, λ k n w g. elim w [ inl p ↦ first.1.1 k n p g | inr q ↦ let m : f ≡ n = same_hit f n (hit x) e (ap hit (sym q) ∙ g) in elim b [ inl u ↦ inl (omega (arith, u, m)) | inr u ↦ inr (u.0 ∙ m, omega (arith, u.1, q)) ] ]),
)

step_by : (hit : ℕ → Option ℕ) (P : ℕ → Type 0) (x : ℕ) (best : Option Hit) (o : Option ℕ) → hit x ≡ o → IsFirst hit P best → IsFirst hit (With P x) (nearer best x o)
step_by hit P x None None e first = λ k w. elim w [ inl p ↦ first k p | inr q ↦ ap hit q ∙ e ]
step_by hit P x (Some h) None e first = (inl first.0, (first.1.0, λ k n w g. elim w [ inl p ↦ first.1.1 k n p g | inr q ↦ absurd (no_hit n (hit x) e (ap hit (sym q) ∙ g)) ]))
step_by hit P x None (Some f) e first = (
  inr refl,
  (e, λ k n w g. elim w [ inl p ↦ absurd (no_hit n (hit k) (first k p) g) | inr q ↦ before_itself (new_hit f x) k n (same_hit f n (hit x) e (ap hit (sym q) ∙ g)) q ]),
)
step_by hit P x (Some h) (Some f) e first =
    elim (picked h f x) [
      | inl p ↦ subst (IsFirst hit (With P x)) (sym p.0) (takes_new hit P x f h e first p.1)
      | inr p ↦ subst (IsFirst hit (With P x)) (sym p.0) (keeps_old hit P x f h e first p.1)
    ]

-- ---- the hits on a list of keys

abbrev first_of : (ℕ → Option ℕ) → List ℕ → Option Hit → Option Hit
first_of hit [] best = best
first_of hit (k ∷ keys) best = first_of hit keys (nearer best k (hit k))

first_grows : (hit : ℕ → Option ℕ) (P : ℕ → Type 0) (keys : List ℕ) (best : Option Hit) → IsFirst hit P best → IsFirst hit (λ k. P k ⊎ IsIn k keys) (first_of hit keys best)
first_grows hit P [] best h = first_same hit P (λ k. P k ⊎ IsIn k []) best (λ k p. inl p) (λ k s. elim s [ inl p ↦ p | inr q ↦ absurd q ]) h
first_grows hit P (x ∷ keys) best h =
    first_same hit (λ k. With P x k ⊎ IsIn k keys) (λ k. P k ⊎ IsIn k (x ∷ keys)) (first_of hit keys (nearer best x (hit x)))
    (λ k s. elim s [ inl w ↦ elim w [ inl p ↦ inl p | inr q ↦ inr (inl q) ] | inr i ↦ inr (inr i) ])
    (λ k s. elim s [ inl p ↦ inl (inl p) | inr i ↦ elim i [ inl q ↦ inl (inr q) | inr j ↦ inr j ] ])
    (first_grows hit (With P x) keys (nearer best x (hit x)) (step_by hit P x best (hit x) refl h))

first_in : (hit : ℕ → Option ℕ) (keys : List ℕ) → IsFirst hit (λ k. IsIn k keys) (first_of hit keys None)
first_in hit keys =
    first_same hit (λ k. ⊥ ⊎ IsIn k keys) (λ k. IsIn k keys) (first_of hit keys None) (λ k s. elim s [ inl p ↦ absurd p | inr i ↦ i ]) (λ k i. inr i)
    (first_grows hit (λ k. ⊥) keys None (λ k p. absurd p))

same_keys : (hit : ℕ → Option ℕ) (xs ys : List ℕ) → ((k : ℕ) → IsIn k xs → IsIn k ys) → ((k : ℕ) → IsIn k ys → IsIn k xs) → first_of hit xs None ≡ first_of hit ys None
same_keys hit xs ys f g =
    only_first hit (λ k. IsIn k ys) (first_of hit xs None) (first_of hit ys None)
    (first_same hit (λ k. IsIn k xs) (λ k. IsIn k ys) (first_of hit xs None) f g (first_in hit xs))
    (first_in hit ys)

among_keys : (hit : ℕ → Option ℕ) (leaves : List Leaf) (best : Option Hit) → first_among hit leaves best ≡ first_of hit (keys_of leaves) best
among_keys hit [] best = refl
among_keys hit (leaf ∷ leaves) best = among_keys hit leaves (nearer best leaf.key (hit leaf.key))

-- the keys with a box, where the list begins with this key
abbrev keys_in : ℕ → List (Option Box2) → List ℕ
keys_in key [] = []
keys_in key (None ∷ boxes) = keys_in (suc key) boxes
keys_in key (Some bounds ∷ boxes) = key ∷ keys_in (suc key) boxes

scan_keys : (hit : ℕ → Option ℕ) (key : ℕ) (boxes : List (Option Box2)) (best : Option Hit) → first_hit hit key boxes best ≡ first_of hit (keys_in key boxes) best
scan_keys hit key [] best = refl
scan_keys hit key (None ∷ boxes) best = scan_keys hit (suc key) boxes best
scan_keys hit key (Some bounds ∷ boxes) best = scan_keys hit (suc key) boxes (nearer best key (hit key))

-- ---- the leaves have the keys with a box

in_keys : (n k : ℕ) (boxes : List (Option Box2)) → is_some (box_at boxes k) ≡ true → IsIn (n + k) (keys_in n boxes)
in_keys n k [] h = cc
in_keys n zero (None ∷ boxes) h = cc
in_keys n zero (Some b ∷ boxes) h = inl (omega arith)
in_keys n (suc k) (None ∷ boxes) h = let z : n + suc k ≡ suc n + k = omega arith in rw z (in_keys (suc n) k boxes h)
in_keys n (suc k) (Some b ∷ boxes) h = let z : n + suc k ≡ suc n + k = omega arith in subst (λ (m : ℕ). IsIn m (n ∷ keys_in (suc n) boxes)) (sym z) (inr (in_keys (suc n) k boxes h))

record IsKeyAt (n k : ℕ) (boxes : List (Option Box2)) : Type 0 where
  pub at : ℕ
  pub key : k ≡ n + at
  pub some : is_some (box_at boxes at) ≡ true

key_later : (n k : ℕ) (o : Option Box2) (boxes : List (Option Box2)) → IsKeyAt (suc n) k boxes → IsKeyAt n k (o ∷ boxes)
key_later n k o boxes h = let e : k ≡ suc n + h.at = h.key in record { at = suc h.at; key = omega (arith, e); some = h.some }

key_at : (n k : ℕ) (boxes : List (Option Box2)) → IsIn k (keys_in n boxes) → IsKeyAt n k boxes
key_at n k [] h = absurd h
key_at n k (None ∷ boxes) h = key_later n k None boxes (key_at (suc n) k boxes h)
key_at n k (Some b ∷ boxes) h = elim h [ inl e ↦ record { at = 0; key = omega (arith, e); some = refl } | inr i ↦ key_later n k (Some b) boxes (key_at (suc n) k boxes i) ]

key_in : (leaf : Leaf) (leaves : List Leaf) → IsIn leaf leaves → IsIn leaf.key (keys_of leaves)
key_in leaf [] h = absurd h
key_in leaf (x ∷ leaves) h = elim h [ inl e ↦ inl (ap (λ (l : Leaf). l.key) e) | inr i ↦ inr (key_in leaf leaves i) ]

record HasKey (k : ℕ) (leaves : List Leaf) : Type 0 where
  pub leaf : Leaf
  pub among : IsIn leaf leaves
  pub key : leaf.key ≡ k

has_key : (k : ℕ) (leaves : List Leaf) → IsIn k (keys_of leaves) → HasKey k leaves
has_key k [] h = absurd h
has_key k (x ∷ leaves) h = elim h [ inl e ↦ record { leaf = x; among = inl refl; key = sym e } | inr i ↦ let t = has_key k leaves i in record { leaf = t.leaf; among = inr t.among; key = t.key } ]

standing_some : (k : ℕ) (p : KeyEntry) (b : Option Box2) → IsStanding k (Some p) b → is_some b ≡ true
standing_some k p None h = absurd h
standing_some k p (Some b) h = refl

there : (leaves : List Leaf) (entries : List (Option KeyEntry)) (boxes : List (Option Box2)) (k : ℕ) (o : Option KeyEntry) → IsIndex leaves entries boxes → entry_at entries k ≡ o → (o ≡ None → ⊥) → IsIn k (keys_of leaves)
there leaves entries boxes k None h e f = absurd (f refl)
there leaves entries boxes k (Some p) h e f = key_in (leaf_of k p) leaves (h.kept.complete k p e)

pub first_is_scan : (hit : ℕ → Option ℕ) (leaves : List Leaf) (entries : List (Option KeyEntry)) (boxes : List (Option Box2)) → IsIndex leaves entries boxes → first_among hit leaves None ≡ first_hit hit 0 boxes None
first_is_scan hit leaves entries boxes h =
    let to : (k : ℕ) → IsIn k (keys_of leaves) → IsIn k (keys_in 0 boxes) = λ k i.
    let t = has_key k leaves i in
    let s : IsStanding t.leaf.key (entry_at entries t.leaf.key) (box_at boxes t.leaf.key) = standing_here t.leaf.key entries boxes h.standing in
    let w = in_keys 0 t.leaf.key boxes (standing_some t.leaf.key (entry_of t.leaf) (box_at boxes t.leaf.key) (rw (h.kept.sound t.leaf t.among) at s)) in
    let z : 0 + t.leaf.key ≡ k = omega (arith, t.key) in
    rw z at w in
    let from : (k : ℕ) → IsIn k (keys_in 0 boxes) → IsIn k (keys_of leaves) = λ k i.
    let t = key_at 0 k boxes i in
    let w = there leaves entries boxes t.at (entry_at entries t.at) h refl (λ e. taken_entry leaves entries boxes t.at h t.some e) in
    let z : t.at ≡ k = omega (arith, t.key) in
    rw z at w in
    among_keys hit leaves None ∙ same_keys hit (keys_of leaves) (keys_in 0 boxes) to from ∙ sym (scan_keys hit 0 boxes None)

-- ---- what a loose box doesn't meet isn't hit

each_from : (P : Leaf → Type 0) (leaves : List Leaf) → ((leaf : Leaf) → IsIn leaf leaves → P leaf) → Each P leaves
each_from P [] f = tt
each_from P (leaf ∷ leaves) f = (f leaf (inl refl), each_from P leaves (λ x i. f x (inr i)))

loose_within : (reaches : Box2 → Bool) (hit : ℕ → Option ℕ) (k : ℕ) (p : KeyEntry) (o : Option Box2) → ((outer inner : Box2) → Contains outer inner → reaches outer ≡ false → reaches inner ≡ false) → IsStanding k (Some p) o → ((b : Box2) → o ≡ Some b → reaches b ≡ false → hit k ≡ None) → reaches p.bounds ≡ false → hit k ≡ None
loose_within reaches hit k p None law s f e = absurd s
loose_within reaches hit k p (Some b) law s f e = f b refl (law p.bounds b s.inside e)

pub leaves_within : (reaches : Box2 → Bool) (hit : ℕ → Option ℕ) (leaves : List Leaf) (entries : List (Option KeyEntry)) (boxes : List (Option Box2)) → ((outer inner : Box2) → Contains outer inner → reaches outer ≡ false → reaches inner ≡ false) → IsIndex leaves entries boxes → AreHitsWithin reaches hit boxes → Each (IsHitWithin reaches hit) leaves
leaves_within reaches hit leaves entries boxes law h within =
    each_from (IsHitWithin reaches hit) leaves (λ leaf i.
    let s : IsStanding leaf.key (entry_at entries leaf.key) (box_at boxes leaf.key) = standing_here leaf.key entries boxes h.standing in
    loose_within reaches hit leaf.key (entry_of leaf) (box_at boxes leaf.key) law (rw (h.kept.sound leaf i) at s) (λ b e m. within leaf.key b e m))

-- ---- a key's own box is asked first

found_by : (t : Bool) (found : Option ℕ) → (t ≡ false → found ≡ None) → cond t found None ≡ found
found_by true found f = refl
found_by false found f = sym (f refl)

found_there : (reaches : Box2 → Bool) (o : Option Box2) (found : Option ℕ) → is_some o ≡ true → ((b : Box2) → o ≡ Some b → reaches b ≡ false → found ≡ None) → found_in reaches o found ≡ found
found_there reaches None found h f = cc
found_there reaches (Some b) found h f = found_by (reaches b) found (f b refl)

-- a key whose box isn't reached has no hit left
pub asked_within : (reaches : Box2 → Bool) (hit : ℕ → Option ℕ) (boxes : List (Option Box2)) → AreHitsWithin reaches (asked_hit reaches hit boxes) boxes
asked_within reaches hit boxes = λ key b e missed.
    let there : found_in reaches (box_at boxes key) (hit key) ≡ found_in reaches (Some b) (hit key) = ap (λ (o : Option Box2). found_in reaches o (hit key)) e in
    let none : cond (reaches b) (hit key) None ≡ None = ap (λ (t : Bool). cond t (hit key) None) missed in
    there ∙ none

same_hits : (f g : ℕ → Option ℕ) (keys : List ℕ) (best : Option Hit) → ((k : ℕ) → IsIn k keys → f k ≡ g k) → first_of f keys best ≡ first_of g keys best
same_hits f g [] best h = refl
same_hits f g (k ∷ keys) best h =
    ap (λ (o : Option ℕ). first_of f keys (nearer best k o)) (h k (inl refl))
    ∙ same_hits f g keys (nearer best k (g k)) (λ x i. h x (inr i))

-- so the first hit is the same whether or not the boxes are asked first
pub asked_is_first : (reaches : Box2 → Bool) (hit : ℕ → Option ℕ) (boxes : List (Option Box2)) → AreHitsWithin reaches hit boxes → first_hit (asked_hit reaches hit boxes) 0 boxes None ≡ first_hit hit 0 boxes None
asked_is_first reaches hit boxes within =
    let same : (k : ℕ) → IsIn k (keys_in 0 boxes) → asked_hit reaches hit boxes k ≡ hit k = λ k i.
    let t = key_at 0 k boxes i in
    let e : t.at ≡ k = omega (arith, t.key) in
    found_there reaches (box_at boxes k) (hit k) (ap (λ (n : ℕ). is_some (box_at boxes n)) (sym e) ∙ t.some) (λ b is missed. within k b is missed) in
    scan_keys (asked_hit reaches hit boxes) 0 boxes None
    ∙ same_hits (asked_hit reaches hit boxes) hit (keys_in 0 boxes) None same
    ∙ sym (scan_keys hit 0 boxes None)
