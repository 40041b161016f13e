-- What is in the scan of all pairs, and that it rises.
use Rattle.std.proofs.Common.{◌≡◌, ℕ, zero, suc, ◌+◌, ◌*◌, ◌^◌, ◌<◌, ◌≤◌, List, [], ◌∷◌, length, Bool, true, false, cond, inl, inr, refl, arith}
use Rattle.contacts_base.specs.declared.near.Proxy.{Proxy}
use Rattle.contacts_base.specs.Near.{is_near}
use Rattle.contacts_base.specs.NearCodes.{pair_code, near_with, near_from}
use Rattle.contacts.specs.Pairs.{proxy_at}
use Rattle.contacts_base.proofs.Members.{IsIn, each_from, in_append, in_left, in_right, in_passed, in_new}
use Rattle.contacts_base.proofs.Rising.{IsRising, rising_append, rising_passed}

-- the code of a near pair of the list, whose first shape is at place n
pub record IsNearFrom (n : ℕ) (ps : List Proxy) (code : ℕ) : Type 0 where
  pub i : ℕ
  pub j : ℕ
  pub before : i < j
  pub within : j < length ps
  pub near : is_near (proxy_at ps i) (proxy_at ps j) ≡ true
  pub is : code ≡ pair_code (n + i) (n + j)

-- the code of the pair of p, at place n, with one of the list, whose first shape is at place m
record IsNearTo (p : Proxy) (n m : ℕ) (qs : List Proxy) (code : ℕ) : Type 0 where
  pub j : ℕ
  pub within : j < length qs
  pub near : is_near p (proxy_at qs j) ≡ true
  pub is : code ≡ pair_code n (m + j)

-- ---- each near pair is in the scan

with_has : (p : Proxy) (n m : ℕ) (qs : List Proxy) (j code : ℕ) → j < length qs → is_near p (proxy_at qs j) ≡ true → code ≡ pair_code n (m + j) → IsIn code (near_with p n m qs)
with_has p n m [] j code lt h e = absurd (omega arith)
with_has p n m (q ∷ qs) zero code lt h e = in_new code (pair_code n m) (is_near p q) (near_with p n (suc m) qs) h (omega arith)
with_has p n m (q ∷ qs) (suc j) code lt h e = in_passed code (pair_code n m) (is_near p q) (near_with p n (suc m) qs) (with_has p n (suc m) qs j code (omega arith) h (omega arith))

pub from_has : (n : ℕ) (ps : List Proxy) (i j code : ℕ) → i < j → j < length ps → is_near (proxy_at ps i) (proxy_at ps j) ≡ true → code ≡ pair_code (n + i) (n + j) → IsIn code (near_from n ps)
from_has n [] i j code b lt h e = absurd (omega arith)
from_has n (p ∷ ps) i zero code b lt h e = absurd (omega arith)
from_has n (p ∷ ps) zero (suc j) code b lt h e = in_left code (near_with p n (suc n) ps) (near_from (suc n) ps) (with_has p n (suc n) ps j code (omega arith) h (omega arith))
from_has n (p ∷ ps) (suc i) (suc j) code b lt h e = in_right code (near_with p n (suc n) ps) (near_from (suc n) ps) (from_has (suc n) ps i j code (omega arith) (omega arith) h (omega arith))

-- ---- each code of the scan is a near pair's

with_later : (p q : Proxy) (n m : ℕ) (qs : List Proxy) (code : ℕ) → IsNearTo p n (suc m) qs code → IsNearTo p n m (q ∷ qs) code
with_later p q n m qs code h = let e : code ≡ pair_code n (suc m + h.j) = h.is in record { j = suc h.j; within = omega (arith, h.within); near = h.near; is = omega arith }

with_step : (p q : Proxy) (n m : ℕ) (qs : List Proxy) (code : ℕ) (t : Bool) (us : List ℕ) → is_near p q ≡ t → (IsIn code us → IsNearTo p n (suc m) qs code) → IsIn code (cond t (pair_code n m ∷ us) us) → IsNearTo p n m (q ∷ qs) code
with_step p q n m qs code true us e f h =
    elim h [
      | inl i ↦ record { j = 0; within = omega arith; near = e; is = omega arith }
      | inr i ↦ with_later p q n m qs code (f i)
    ]
with_step p q n m qs code false us e f h = with_later p q n m qs code (f h)

with_is : (p : Proxy) (n m : ℕ) (qs : List Proxy) (code : ℕ) → IsIn code (near_with p n m qs) → IsNearTo p n m qs code
with_is p n m [] code h = absurd h
with_is p n m (q ∷ qs) code h = with_step p q n m qs code (is_near p q) (near_with p n (suc m) qs) refl (with_is p n (suc m) qs code) h

from_first : (p : Proxy) (n : ℕ) (ps : List Proxy) (code : ℕ) → IsNearTo p n (suc n) ps code → IsNearFrom n (p ∷ ps) code
from_first p n ps code h = let e : code ≡ pair_code n (suc n + h.j) = h.is in record { i = 0; j = suc h.j; before = omega arith; within = omega (arith, h.within); near = h.near; is = omega arith }

from_later : (p : Proxy) (n : ℕ) (ps : List Proxy) (code : ℕ) → IsNearFrom (suc n) ps code → IsNearFrom n (p ∷ ps) code
from_later p n ps code h = let e : code ≡ pair_code (suc n + h.i) (suc n + h.j) = h.is in record { i = suc h.i; j = suc h.j; before = omega (arith, h.before); within = omega (arith, h.within); near = h.near; is = omega arith }

pub from_is : (n : ℕ) (ps : List Proxy) (code : ℕ) → IsIn code (near_from n ps) → IsNearFrom n ps code
from_is n [] code h = absurd h
from_is n (p ∷ ps) code h =
    elim (in_append code (near_with p n (suc n) ps) (near_from (suc n) ps) h) [
      | inl a ↦ from_first p n ps code (with_is p n (suc n) ps code a)
      | inr b ↦ from_later p n ps code (from_is (suc n) ps code b)
    ]

-- ---- the scan rises

with_rises : (p : Proxy) (n m : ℕ) (qs : List Proxy) → IsRising (near_with p n m qs)
with_rises p n m [] = tt
with_rises p n m (q ∷ qs) =
    rising_passed (pair_code n m) (is_near p q) (near_with p n (suc m) qs)
    (each_from (λ c. pair_code n m < c) (near_with p n (suc m) qs) (λ c i. let h : IsNearTo p n (suc m) qs c = with_is p n (suc m) qs c i in let e : c ≡ pair_code n (suc m + h.j) = h.is in omega arith))
    (with_rises p n (suc m) qs)

pub from_rises : (n : ℕ) (ps : List Proxy) → n + length ps ≤ 2 ^ 32 → IsRising (near_from n ps)
from_rises n [] few = tt
from_rises n (p ∷ ps) few =
    rising_append (suc n * 2 ^ 32) (near_with p n (suc n) ps) (near_from (suc n) ps) (with_rises p n (suc n) ps) (from_rises (suc n) ps (omega arith))
    (each_from (λ c. c < suc n * 2 ^ 32) (near_with p n (suc n) ps) (λ c i. let h : IsNearTo p n (suc n) ps c = with_is p n (suc n) ps c i in let e : c ≡ pair_code n (suc n + h.j) = h.is in let w : h.j < length ps = h.within in omega arith))
    (each_from (λ c. suc n * 2 ^ 32 ≤ c) (near_from (suc n) ps) (λ c i. let h : IsNearFrom (suc n) ps c = from_is (suc n) ps c i in let e : c ≡ pair_code (suc n + h.i) (suc n + h.j) = h.is in omega arith))
