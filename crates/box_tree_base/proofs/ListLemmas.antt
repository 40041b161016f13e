-- Lists of leaves that are joined, parted, or have one leaf more.
use Rattle.std.proofs.Common.{◌≡◌, ℕ, ◌<◌, ◌≤◌, List, [], ◌∷◌, ◌++◌, length, refl, sym, ap, suc, arith, ◌⊎◌, inl, inr, append_assoc}
use Rattle.std.proofs.lemmas.List.{append-nil}
use Rattle.std.proofs.lemmas.Int.{ints, int_min_is, int_max_is}
use Rattle.fixed_geom.specs.Boxes.{Contains}
use Rattle.fixed_geom.specs.declared.boxes.Box2.{Box2}
use Rattle.box_tree_base.specs.Lists.{Each, IsIn, IsAdded, IsRefitted}
use Rattle.box_tree_base.specs.Joins.{joined, IsBounded}
use Rattle.box_tree_base.specs.Trees.{IsBelow, IsFrom}
use Rattle.box_tree_base.specs.declared.leaves.Leaf.{Leaf}

pub each_append : {X : Type 0} (P : X → Type 0) (xs ys : List X) → Each P xs → Each P ys → Each P (xs ++ ys)
each_append P [] ys a b = b
each_append P (x ∷ xs) ys a b = (a.0, each_append P xs ys a.1 b)

pub each_left : {X : Type 0} (P : X → Type 0) (xs ys : List X) → Each P (xs ++ ys) → Each P xs
each_left P [] ys a = tt
each_left P (x ∷ xs) ys a = (a.0, each_left P xs ys a.1)

pub each_right : {X : Type 0} (P : X → Type 0) (xs ys : List X) → Each P (xs ++ ys) → Each P ys
each_right P [] ys a = a
each_right P (x ∷ xs) ys a = each_right P xs ys a.1

pub each_map : {X : Type 0} (P Q : X → Type 0) → ((x : X) → P x → Q x) → (xs : List X) → Each P xs → Each Q xs
each_map P Q f [] a = tt
each_map P Q f (x ∷ xs) a = (f x a.0, each_map P Q f xs a.1)

pub each_in : {X : Type 0} (P : X → Type 0) (e : X) (xs : List X) → Each P xs → IsIn e xs → P e
each_in P e [] a h = absurd h
each_in P e (x ∷ xs) a h = elim h [ inl p ↦ rw p a.0 | inr q ↦ each_in P e xs a.1 q ]

in_append : {X : Type 0} (e : X) (xs ys : List X) → IsIn e (xs ++ ys) → IsIn e xs ⊎ IsIn e ys
in_append e [] ys h = inr h
in_append e (x ∷ xs) ys h = elim h [ inl p ↦ inl (inl p) | inr q ↦ elim (in_append e xs ys q) [ inl a ↦ inl (inr a) | inr b ↦ inr b ] ]

-- ---- boxes round all

pub contains_both : (outer middle inner : Box2) → Contains outer middle → Contains middle inner → Contains outer inner
contains_both outer middle inner h k = record { left = omega (arith, ints); right = omega (arith, ints); down = omega (arith, ints); up = omega (arith, ints) }

joined_first : (a b : Box2) → Contains (joined a b) a
joined_first a b = record {
  left = omega (arith, ints, int_min_is a.lo.x b.lo.x);
  right = omega (arith, ints, int_max_is a.hi.x b.hi.x);
  down = omega (arith, ints, int_min_is a.lo.y b.lo.y);
  up = omega (arith, ints, int_max_is a.hi.y b.hi.y);
}

pub joined_second : (a b : Box2) → Contains (joined a b) b
joined_second a b = record {
  left = omega (arith, ints, int_min_is a.lo.x b.lo.x);
  right = omega (arith, ints, int_max_is a.hi.x b.hi.x);
  down = omega (arith, ints, int_min_is a.lo.y b.lo.y);
  up = omega (arith, ints, int_max_is a.hi.y b.hi.y);
}

bounded_more : (outer b : Box2) (xs : List Leaf) → Contains outer b → Each (IsBounded b) xs → Each (IsBounded outer) xs
bounded_more outer b xs h a = each_map (IsBounded b) (IsBounded outer) (λ leaf k. contains_both outer b leaf.bounds h k) xs a

pub bounded_joined : (b c : Box2) (xs ys : List Leaf) → Each (IsBounded b) xs → Each (IsBounded c) ys → Each (IsBounded (joined b c)) (xs ++ ys)
bounded_joined b c xs ys f g = each_append (IsBounded (joined b c)) xs ys (bounded_more (joined b c) b xs (joined_first b c) f) (bounded_more (joined b c) c ys (joined_second b c) g)

-- ---- ranks on both sides of a split

splits_rise : (s t : ℕ) (ys : List Leaf) → 0 < length ys → Each (IsFrom s) ys → Each (IsBelow t) ys → s ≤ t
splits_rise s t [] h a b = absurd (omega arith)
splits_rise s t (y ∷ ys) h a b = let p : s ≤ y.rank = a.0 in let q : y.rank < t = b.0 in omega arith

-- what is from t on is from s on, as there are leaves between the two
pub wider_from : (s t : ℕ) (ys zs : List Leaf) → 0 < length ys → Each (IsFrom s) ys → Each (IsBelow t) ys → Each (IsFrom t) zs → Each (IsFrom s) (ys ++ zs)
wider_from s t ys zs h a b d =
    let p : s ≤ t = splits_rise s t ys h a b in
    each_append (IsFrom s) ys zs a (each_map (IsFrom t) (IsFrom s) (λ e q. omega arith) zs d)

pub wider_below : (s t : ℕ) (xs ys : List Leaf) → 0 < length ys → Each (IsFrom s) ys → Each (IsBelow t) ys → Each (IsBelow s) xs → Each (IsBelow t) (xs ++ ys)
wider_below s t xs ys h a b d =
    let p : s ≤ t = splits_rise s t ys h a b in
    each_append (IsBelow t) xs ys (each_map (IsBelow s) (IsBelow t) (λ e q. omega arith) xs d) b

pub in_left : (e : Leaf) (s : ℕ) (xs ys : List Leaf) → e.rank < s → Each (IsFrom s) ys → IsIn e (xs ++ ys) → IsIn e xs
in_left e s xs ys h a i =
    elim (in_append e xs ys i) [ inl p ↦ p | inr q ↦ let k : s ≤ e.rank = each_in (IsFrom s) e ys a q in absurd (omega arith) ]

pub in_right : (e : Leaf) (s : ℕ) (xs ys : List Leaf) → s ≤ e.rank → Each (IsBelow s) xs → IsIn e (xs ++ ys) → IsIn e ys
in_right e s xs ys h a i =
    elim (in_append e xs ys i) [ inl p ↦ let k : e.rank < s = each_in (IsBelow s) e xs a p in absurd (omega arith) | inr q ↦ q ]

-- ---- one leaf more

each_middle : {X : Type 0} (P : X → Type 0) (e : X) (front back : List X) → P e → Each P (front ++ back) → Each P (front ++ e ∷ back)
each_middle P e front back p a = each_append P front (e ∷ back) (each_left P front back a) (p, each_right P front back a)

pub each_added : {X : Type 0} (P : X → Type 0) (e : X) (less more : List X) → IsAdded e less more → P e → Each P less → Each P more
each_added P e less more h p a = rw h.is (each_middle P e h.front h.back p (rw h.was at a))

each_unmiddle : {X : Type 0} (P : X → Type 0) (e : X) (front back : List X) → Each P (front ++ e ∷ back) → Each P (front ++ back)
each_unmiddle P e front back a = each_append P front back (each_left P front (e ∷ back) a) (each_right P front (e ∷ back) a).1

pub each_removed : {X : Type 0} (P : X → Type 0) (e : X) (less more : List X) → IsAdded e less more → Each P more → Each P less
each_removed P e less more h a = rw h.was (each_unmiddle P e h.front h.back (rw h.is at a))

pub added_left : {X : Type 0} (e : X) (less more right : List X) → IsAdded e less more → IsAdded e (less ++ right) (more ++ right)
added_left e less more right h = record { front = h.front; back = h.back ++ right; was = rw (h.was, append_assoc) refl; is = rw (h.is, append_assoc) refl }

pub added_right : {X : Type 0} (e : X) (left less more : List X) → IsAdded e less more → IsAdded e (left ++ less) (left ++ more)
added_right e left less more h = record { front = left ++ h.front; back = h.back; was = rw (h.was, append_assoc) refl; is = rw (h.is, append_assoc) refl }

pub only : {X : Type 0} (e : X) (xs : List X) → length xs ≡ 1 → IsIn e xs → xs ≡ e ∷ []
only e [] h i = absurd i
only e (x ∷ []) h i = elim i [ inl p ↦ rw p refl | inr q ↦ absurd q ]
only e (x ∷ y ∷ ys) h i = absurd (omega arith)

pub first_gone : {X : Type 0} (e : X) (xs ys : List X) → xs ≡ e ∷ [] → IsAdded e ys (xs ++ ys)
first_gone e xs ys h = record { front = []; back = ys; was = refl; is = rw h refl }

pub last_gone : {X : Type 0} (e : X) (xs ys : List X) → ys ≡ e ∷ [] → IsAdded e xs (xs ++ ys)
last_gone e xs ys h = record { front = xs; back = []; was = sym (append-nil xs); is = rw h refl }

-- ---- one in the stead of another

each_replaced : {X : Type 0} (P : X → Type 0) (out in_stead : X) (front back : List X) → P in_stead → Each P (front ++ out ∷ back) → Each P (front ++ in_stead ∷ back)
each_replaced P out in_stead front back p a = each_append P front (in_stead ∷ back) (each_left P front (out ∷ back) a) (p, (each_right P front (out ∷ back) a).1)

pub each_refitted : {X : Type 0} (P : X → Type 0) (out in_stead : X) (old new : List X) → IsRefitted out in_stead old new → P in_stead → Each P old → Each P new
each_refitted P out in_stead old new h p a = rw h.is (each_replaced P out in_stead h.front h.back p (rw h.was at a))

replaced_length : {X : Type 0} (out in_stead : X) (front back : List X) → length (front ++ in_stead ∷ back) ≡ length (front ++ out ∷ back)
replaced_length out in_stead [] back = refl
replaced_length out in_stead (x ∷ front) back = ap suc (replaced_length out in_stead front back)

pub refitted_length : {X : Type 0} (out in_stead : X) (old new : List X) → IsRefitted out in_stead old new → length new ≡ length old
refitted_length out in_stead old new h = rw (h.was, h.is) (replaced_length out in_stead h.front h.back)

pub refitted_left : {X : Type 0} (out in_stead : X) (old new right : List X) → IsRefitted out in_stead old new → IsRefitted out in_stead (old ++ right) (new ++ right)
refitted_left out in_stead old new right h = record { front = h.front; back = h.back ++ right; was = rw (h.was, append_assoc) refl; is = rw (h.is, append_assoc) refl }

pub refitted_right : {X : Type 0} (out in_stead : X) (left old new : List X) → IsRefitted out in_stead old new → IsRefitted out in_stead (left ++ old) (left ++ new)
refitted_right out in_stead left old new h = record { front = left ++ h.front; back = h.back; was = rw (h.was, append_assoc) refl; is = rw (h.is, append_assoc) refl }

only_refitted : {X : Type 0} (out in_stead x : X) → IsIn out (x ∷ []) → IsRefitted out in_stead (x ∷ []) (in_stead ∷ [])
only_refitted out in_stead x (inl e) = record { front = []; back = []; was = ap (λ y. y ∷ []) (sym e); is = refl }
only_refitted out in_stead x (inr h) = absurd h

pub alone_refitted : {X : Type 0} (out in_stead x : X) (all : List X) → all ≡ x ∷ [] → IsIn out all → IsRefitted out in_stead all (in_stead ∷ [])
alone_refitted out in_stead x all e h = rw e (only_refitted out in_stead x (rw e at h))
