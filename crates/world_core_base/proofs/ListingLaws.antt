-- A list of slots that need not be up to date, when one state or none is another than before.
use Rattle.std.proofs.Common.{◌≡◌, ℕ, zero, suc, ◌+◌, ◌<◌, ◌≤◌, Bool, true, false, cond, List, [], ◌∷◌, ◌++◌, length, get_or, slice_set, nat_lt, arith, refl, sym, ap, ◌∙◌, subst, inl, inr}
use Rattle.std.specs.Prelude.{Contains}
use Rattle.std.proofs.lemmas.Bool.{cases_Bool, cases_eq, cases_lt}
use Rattle.std.proofs.lemmas.Bool.Decides.{nat_tests}
use Rattle.std.proofs.lemmas.List.{get_or_append_left, get_or-set_other, get_or_default, get_or_past, length-append}
use Rattle.momenta.specs.declared.state.BodyState.{BodyState}
use Rattle.colour_solver.specs.States.{nobody, places_from}
use Rattle.world_core_base.specs.Awake.{with_state}
use Rattle.world_core_base.specs.Listing.{AreListed, AreSameBut, IsIn, IsListed, IsRelisted, Listing, is_of}
use Rattle.world_core_base.specs.declared.slot_list.Group.{Group}
use Rattle.world_core_base.specs.declared.slot_list.Group.TheVariants.{Awake, Carried}
use Rattle.world_core_base.proofs.SlotsRising.{places_above}

-- ---- slots in a list

pub in_first : (x : ℕ) (xs : List ℕ) → IsIn (x ∷ xs) 0 x
in_first x xs = record { place = 0; from = omega arith; below = omega arith; is = refl }

pub in_more : (x slot : ℕ) (xs : List ℕ) → IsIn xs 0 slot → IsIn (x ∷ xs) 0 slot
in_more x slot xs h = let below = h.below in record { place = suc h.place; from = omega arith; below = omega (arith, below); is = h.is }

-- behind the first
pub in_tail : (x slot : ℕ) (xs : List ℕ) → (x ≡ slot → ⊥) → IsIn (x ∷ xs) 0 slot → IsIn xs 0 slot
in_tail x slot xs off h = by h.place h.below h.is
  where
    by : (place : ℕ) → place < length (x ∷ xs) → get_or (x ∷ xs) place 0 ≡ slot → IsIn xs 0 slot
    by zero below is = absurd (off is)
    by (suc k) below is = record { place = k; from = omega arith; below = omega (arith, below); is = is }

none_in : (slot : ℕ) → IsIn [] 0 slot → ⊥
none_in slot h = let below = h.below in omega (arith, below)

pub in_contains : (slot : ℕ) (xs : List ℕ) → IsIn xs 0 slot → Contains xs slot
in_contains slot xs h = (h.place, h.below, get_or_default xs h.place slot 0 h.below ∙ h.is)

pub contains_in : (slot : ℕ) (xs : List ℕ) → Contains xs slot → IsIn xs 0 slot
contains_in slot xs (k, below, is) = record { place = k; from = omega arith; below = below; is = get_or_default xs k 0 slot below ∙ is }

-- ---- the places of those that pass a test

-- each of them is listed
pub place_in : {X : Type 0} (is : X → Bool) (xs : List X) (n k : ℕ) (d : X) → k < length xs → is (get_or xs k d) ≡ true → IsIn (places_from is n xs) 0 (n + k)
place_in is [] n k d h on = absurd (omega (arith, h))
place_in is (x ∷ xs) n zero d h on =
    let e : n + 0 ≡ n = omega arith in
    rw (on, e) (in_first n (places_from is (suc n) xs))
place_in is (x ∷ xs) n (suc k) d h on =
    let e : n + suc k ≡ suc n + k = omega arith in
    let rest : IsIn (places_from is (suc n) xs) 0 (suc n + k) = place_in is xs (suc n) k d (omega (arith, h)) on in
    elim (cases_Bool (is x)) [
      | inl on1 ↦ rw (on1, e) (in_more n (suc n + k) (places_from is (suc n) xs) rest)
      | inr off1 ↦ rw (off1, e) rest
    ]

-- and no other
pub in_place : {X : Type 0} (is : X → Bool) (xs : List X) (n k : ℕ) (d : X) → IsIn (places_from is n xs) 0 (n + k) → is (get_or xs k d) ≡ true
in_place is [] n k d h = absurd (none_in (n + k) h)
in_place is (x ∷ xs) n zero d h = elim (cases_Bool (is x)) [
  | inl on1 ↦ on1
  | inr off1 ↦
      (let there : IsIn (places_from is (suc n) xs) 0 (n + 0) = rw off1 at h in
      let above = places_above is xs (suc n) there.place 0 there.below in
      let at = there.is in
      absurd (omega (arith, above, at)))
]
in_place is (x ∷ xs) n (suc k) d h =
    let e : n + suc k ≡ suc n + k = omega arith in
    let here : IsIn (places_from is n (x ∷ xs)) 0 (suc n + k) = subst (λ (s : ℕ). IsIn (places_from is n (x ∷ xs)) 0 s) e h in
    elim (cases_Bool (is x)) [
      | inl on1 ↦ (let there : IsIn (n ∷ places_from is (suc n) xs) 0 (suc n + k) = rw on1 at here in in_place is xs (suc n) k d (in_tail n (suc n + k) (places_from is (suc n) xs) (λ f. omega (arith, f)) there))
      | inr off1 ↦ (let there : IsIn (places_from is (suc n) xs) 0 (suc n + k) = rw off1 at here in in_place is xs (suc n) k d there)
    ]

pub place_first : {X : Type 0} (is : X → Bool) (xs : List X) (k : ℕ) (d : X) → k < length xs → is (get_or xs k d) ≡ true → IsIn (places_from is 0 xs) 0 k
place_first is xs k d h on = let e : 0 + k ≡ k = omega arith in subst (λ (s : ℕ). IsIn (places_from is 0 xs) 0 s) e (place_in is xs 0 k d h on)

pub first_place : {X : Type 0} (is : X → Bool) (xs : List X) (k : ℕ) (d : X) → IsIn (places_from is 0 xs) 0 k → is (get_or xs k d) ≡ true
first_place is xs k d h = let e : k ≡ 0 + k = omega arith in in_place is xs 0 k d (subst (λ (s : ℕ). IsIn (places_from is 0 xs) 0 s) e h)

-- ---- lists of states

-- whose state passes the test has a slot
pub is_there : (is : BodyState → Bool) (states : List BodyState) (slot : ℕ) → is nobody ≡ false → is (get_or states slot nobody) ≡ true → slot < length states
is_there is states slot none on = elim (cases_lt slot (length states)) [
  | inl less ↦ less
  | inr more ↦ (let past : is (get_or states slot nobody) ≡ is nobody = ap is (get_or_past states slot nobody more) in absurd (cc (past, none, on)))
]

-- a list that has the slots of the group and no other
pub listed_exactly : (is : BodyState → Bool) (states : List BodyState) (l : Listing) → is nobody ≡ false → l.slots ≡ places_from is 0 states → AreListed is states l
listed_exactly is states l none e = record {
  all = λ slot on. inl (subst (λ (slots : List ℕ). IsIn slots 0 slot) (sym e) (place_first is states slot nobody (is_there is states slot none on) on));
  exact = λ h. e;
}

-- the same list for states of which the same pass
pub listed_alike : (is : BodyState → Bool) (before now : List BodyState) (l : Listing) → is nobody ≡ false → places_from is 0 before ≡ places_from is 0 now → AreListed is before l → AreListed is now l
listed_alike is before now l none e h = record {
  all = λ slot on.
      let there : IsIn (places_from is 0 now) 0 slot = place_first is now slot nobody (is_there is now slot none on) on in
      h.all slot (first_place is before slot nobody (subst (λ (slots : List ℕ). IsIn slots 0 slot) (sym e) there));
  exact = λ p. h.exact p ∙ e;
}

-- the list was changed for one slot
pub listed_again : (is : BodyState → Bool) (before now : List BodyState) (slot : ℕ) (old new : Listing) → AreSameBut slot before now → AreListed is before old → IsRelisted is now slot old new → AreListed is now new
listed_again is before now slot old new same h made = record {
  all = λ other on. elim (cases_eq other slot) [
    | inl here ↦ subst (λ (s : ℕ). IsListed new s) (sym here) (made.own (subst (λ (s : ℕ). is (get_or now s nobody) ≡ true) here on))
    | inr off ↦ made.others other on (h.all other (ap is (sym (same other off)) ∙ on))
  ];
  exact = made.exact;
}

-- ---- what is done to the list for one slot

pub relisted_anew : (is : BodyState → Bool) (states : List BodyState) (slot : ℕ) (old new : Listing) → is nobody ≡ false → new.slots ≡ places_from is 0 states → IsRelisted is states slot old new
relisted_anew is states slot old new none e =
    let listed : AreListed is states new = listed_exactly is states new none e in
    record { own = λ on. listed.all slot on; others = λ other on h. listed.all other on; exact = listed.exact }

-- ---- one state is another

pub same_set : (states : List BodyState) (slot : ℕ) (s : BodyState) → AreSameBut slot states (slice_set states slot s)
same_set states slot s other off = get_or-set_other states slot other s nobody off

same_append : (states : List BodyState) (slot : ℕ) (s : BodyState) → slot ≡ length states → AreSameBut slot states (states ++ s ∷ [])
same_append states slot s e other off = elim (cases_lt other (length states)) [
  | inl less ↦ get_or_append_left states (s ∷ []) nobody other less
  | inr more ↦
      (let long = length-append states (s ∷ []) in
      let past : length (states ++ s ∷ []) ≤ other = beyond other slot (length states) (length (states ++ s ∷ [])) e off more long in
      get_or_past (states ++ s ∷ []) other nobody past ∙ sym (get_or_past states other nobody more))
]
  where
    beyond : (a b n m : ℕ) → b ≡ n → (a ≡ b → ⊥) → n ≤ a → m ≡ n + 1 → m ≤ a
    beyond a b n m e off more long = elim (cases_lt n a) [
      | inl less ↦ omega (arith, less, long)
      | inr not ↦ absurd (off (omega (arith, not, more, e)))
    ]

put_if : (t : Bool) (states : List BodyState) (slot : ℕ) (s : BodyState) → (t ≡ false → slot ≡ length states) → AreSameBut slot states (cond t (slice_set states slot s) (states ++ s ∷ []))
put_if true states slot s h = same_set states slot s
put_if false states slot s h = same_append states slot s (h refl)

pub same_put : (states : List BodyState) (slot : ℕ) (s : BodyState) → slot ≤ length states → AreSameBut slot states (with_state states slot s)
same_put states slot s h = put_if (nat_lt slot (length states)) states slot s (λ off. last slot (length states) h off)
  where
    last : (a b : ℕ) → a ≤ b → nat_lt a b ≡ false → a ≡ b
    last a b le off = grind (arith, nat_tests)

-- ---- the groups

-- what stands for an empty slot is in no group
pub none_of : (group : Group) → is_of group nobody ≡ false
none_of Awake = refl
none_of Carried = refl

-- ---- a slot that is as it was

-- where the same pass, in the same places, the places are the same
places_alike : {X : Type 0} (is : X → Bool) (xs ys : List X) (n : ℕ) (d : X) → is d ≡ false → ((k : ℕ) → is (get_or xs k d) ≡ is (get_or ys k d)) → places_from is n xs ≡ places_from is n ys
places_alike is [] [] n d none same = refl
places_alike is [] (y ∷ ys) n d none same =
    let off : is y ≡ false = sym (same 0) ∙ none in
    rw off (places_alike is [] ys (suc n) d none (λ k. same (suc k)))
places_alike is (x ∷ xs) [] n d none same =
    let off : is x ≡ false = same 0 ∙ none in
    rw off (places_alike is xs [] (suc n) d none (λ k. same (suc k)))
places_alike is (x ∷ xs) (y ∷ ys) n d none same = λ j. cond (same 0 j) (n ∷ places_alike is xs ys (suc n) d none (λ k. same (suc k)) j) (places_alike is xs ys (suc n) d none (λ k. same (suc k)) j)

pub listed_still : (is : BodyState → Bool) (before now : List BodyState) (slot : ℕ) (was : Bool) (l : Listing) → is nobody ≡ false → AreSameBut slot before now → is (get_or before slot nobody) ≡ was → is (get_or now slot nobody) ≡ was → AreListed is before l → AreListed is now l
listed_still is before now slot was l none same was_before was_now h = listed_alike is before now l none (places_alike is before now 0 nobody none alike) h
  where
    alike : (k : ℕ) → is (get_or before k nobody) ≡ is (get_or now k nobody)
    alike k = elim (cases_eq k slot) [
      | inl here ↦ subst (λ (s : ℕ). is (get_or before s nobody) ≡ is (get_or now s nobody)) (sym here) (was_before ∙ sym was_now)
      | inr off ↦ ap is (sym (same k off))
    ]

-- ---- a state is put into its slot

pub listed_set : (is : BodyState → Bool) (states now : List BodyState) (slot : ℕ) (s : BodyState) (old new : Listing) → now ≡ slice_set states slot s → AreListed is states old → IsRelisted is now slot old new → AreListed is now new
listed_set is states now slot s old new e h made = listed_again is states now slot old new (subst (AreSameBut slot states) (sym e) (same_set states slot s)) h made

pub listed_put : (is : BodyState → Bool) (states now : List BodyState) (slot : ℕ) (s : BodyState) (old new : Listing) → slot ≤ length states → now ≡ with_state states slot s → AreListed is states old → IsRelisted is now slot old new → AreListed is now new
listed_put is states now slot s old new there e h made = listed_again is states now slot old new (subst (AreSameBut slot states) (sym e) (same_put states slot s there)) h made
