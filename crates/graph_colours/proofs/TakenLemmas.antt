-- What the bits tell of a list's members, and how they follow them.
use Rattle.std.proofs.Common.{◌≡◌, ℕ, zero, suc, ◌-◌, ◌^◌, ◌<◌, ◌≤◌, ◌==◌, ◌||◌, ◌&&◌, Bool, true, false, not, cond, List, [], ◌∷◌, ◌++◌, length, get_or, slice_set, replicate, take, subst, Option, Some, None, refl, sym, ap, ◌∙◌, arith, inl, inr, get_or-set_same, get_or-set_other}
use Rattle.std.specs.Int.{bit_at}
use Rattle.std.specs.List.{All, list_any}
use Rattle.std.proofs.lemmas.Bool.{cases_eq, cases_lt}
use Rattle.std.proofs.lemmas.List.Elements.{All-nil, All-head, All-tail, All-cons}
use Rattle.std.proofs.lemmas.List.Folds.{list_any_none}
use Rattle.std.proofs.lemmas.Nat.Bits.{bit_at-zero, bit_at_or, bit_at_ones}
use Rattle.graph_colours.specs.declared.limits.TheConstants.{COLOURS}
use Rattle.graph_colours.specs.declared.member.Movers.{Movers}
use Rattle.graph_colours.specs.declared.member.Member.{Member}
use Rattle.graph_colours.specs.Movers.{AreBelow, has_mover, shares}
use Rattle.graph_colours.specs.Members.{AreRising, AreApart, is_free, inserted, without_member}
use Rattle.graph_colours.specs.FoundMembers.{has_id, movers_of}
use Rattle.graph_colours.specs.Colours.{list_at, all_members}
use Rattle.graph_colours.specs.TakenColours.{bit_of, word_at, colour_bit, any_has_mover, AreTakenColours, taken, common, candidates, AreSet}
use Rattle.graph_colours.specs.Own.{AreOwn}
use Rattle.graph_colours.proofs.Cases.{or_pairs, or_false, not_false, true_or_false, not_true_then}
use Rattle.graph_colours.proofs.PlaceLemmas.{not_same, is_same, without_none}
use Rattle.graph_colours.proofs.MoverLemmas.{unshared}
use Rattle.graph_colours.proofs.BitLaws.{bit_true, bit_false, greater_bit, set_bit, clear_bit, both_set, neither_set, overflow_set}
use Rattle.graph_colours.proofs.ListLemmas.{any_false, any_inserted, pairs_head, pairs_tail}

-- ---- which colours are free

any_same : {X : Type 0} (p q : X → Bool) (xs : List X) → ((x : X) → p x ≡ q x) → list_any p xs ≡ list_any q xs
any_same p q [] same = refl
any_same p q (x ∷ xs) same = rw (same x) (ap (λ t. q x || t) (any_same p q xs same))

any_or : {X : Type 0} (p q : X → Bool) (xs : List X) → list_any (λ x. p x || q x) xs ≡ (list_any p xs || list_any q xs)
any_or p q [] = refl
any_or p q (x ∷ xs) = ap (λ t. (p x || q x) || t) (any_or p q xs) ∙ or_pairs (p x) (q x) (list_any p xs) (list_any q xs)

-- a colour is taken where one of its members shares a mover with the constraint
taken_by : {C : Type 0} (lists : List (List (Member C))) (words : List ℕ) (first : ℕ) (second : Option ℕ) (c : ℕ) → AreTakenColours lists words → c < COLOURS → let v : Movers = record { first = first; second = second } in bit_at (taken words v) c ≡ bit_of (list_any (λ m. shares m.movers v) (list_at lists c))
taken_by {C} lists words first None c bits lt =
    let ms : List (Member C) = list_at lists c in
    bits.own first c lt ∙ ap bit_of (any_same (λ m. has_mover m.movers first) (λ m. has_mover m.movers first || false) ms (λ m. sym (or_false (has_mover m.movers first))))
taken_by {C} lists words first (Some s) c bits lt =
    let ms : List (Member C) = list_at lists c in
    bit_at_or (word_at words first) (word_at words s) c
    ∙ rw (bits.own first c lt, bits.own s c lt) (greater_bit (any_has_mover ms first) (any_has_mover ms s))
    ∙ ap bit_of (sym (any_or (λ m. has_mover m.movers first) (λ m. has_mover m.movers s) ms))

pub taken_at : {C : Type 0} (lists : List (List (Member C))) (words : List ℕ) (v : Movers) (c : ℕ) → AreTakenColours lists words → c < COLOURS → bit_at (taken words v) c ≡ bit_of (list_any (λ m. shares m.movers v) (list_at lists c))
taken_at lists words v c bits lt = taken_by lists words v.first v.second c bits lt

pub is_taken : {C : Type 0} (lists : List (List (Member C))) (words : List ℕ) (v : Movers) (c : ℕ) → AreTakenColours lists words → c < COLOURS → bit_at (taken words v) c ≡ 1 → is_free (list_at lists c) v ≡ false
unfolding is_free
is_taken lists words v c bits lt h = ap not (bit_true (list_any (λ m. shares m.movers v) (list_at lists c)) (sym (taken_at lists words v c bits lt) ∙ h))

pub is_untaken : {C : Type 0} (lists : List (List (Member C))) (words : List ℕ) (v : Movers) (c : ℕ) → AreTakenColours lists words → c < COLOURS → bit_at (taken words v) c ≡ 0 → is_free (list_at lists c) v ≡ true
unfolding is_free
is_untaken lists words v c bits lt h = ap not (bit_false (list_any (λ m. shares m.movers v) (list_at lists c)) (sym (taken_at lists words v c bits lt) ∙ h))

-- ---- bits that follow a list

-- one list changes, and its bits
pub bits_changed : {C : Type 0} (lists : List (List (Member C))) (old new : List ℕ) (place : ℕ) (v : Movers) (holds : Bool) (ms : List (Member C)) → place < length lists → AreTakenColours lists old → (place < COLOURS → AreSet old new (has_mover v) place holds) → (COLOURS ≤ place → new ≡ old) → (place < COLOURS → (slot : ℕ) → cond (has_mover v slot) (bit_of holds) (bit_of (any_has_mover (list_at lists place) slot)) ≡ bit_of (any_has_mover ms slot)) → AreTakenColours (slice_set lists place ms) new
bits_changed {C} lists old new place v holds ms within bits set same follows =
    let At : ℕ → ℕ → List (Member C) → Type 0 = λ slot colour l. colour_bit new slot colour ≡ bit_of (any_has_mover l slot) in
    let other : (slot colour : ℕ) → (colour ≡ place → ⊥) → colour_bit new slot colour ≡ colour_bit old slot colour → colour < COLOURS → At slot colour (list_at (slice_set lists place ms) colour) = λ slot colour off kept lt.
    subst (At slot colour) (sym (get_or-set_other lists place colour ms [] off)) (kept ∙ bits.own slot colour lt) in
    let low : place < COLOURS → AreTakenColours (slice_set lists place ms) new = λ lt. record {
      own = λ slot colour below.
          let here : colour ≡ place → At slot colour (list_at (slice_set lists place ms) colour) = λ q.
          let At' : ℕ → Type 0 = λ c. At slot c (list_at (slice_set lists place ms) c) in
          subst At' (sym q) (subst (At slot place) (sym (get_or-set_same lists place ms [] within)) ((set lt).own slot ∙ ap (λ b. cond (has_mover v slot) (bit_of holds) b) (bits.own slot place lt) ∙ follows lt slot)) in
          elim (cases_eq colour place) [ inl q ↦ here q | inr off ↦ other slot colour off ((set lt).others slot colour off) below ];
      no_more = λ slot colour le. (set lt).others slot colour (λ q. omega (arith, q, le, lt)) ∙ bits.no_more slot colour le;
    } in
    let high : COLOURS ≤ place → AreTakenColours (slice_set lists place ms) new = λ le.
    let kept : (slot colour : ℕ) → colour_bit new slot colour ≡ colour_bit old slot colour = λ slot colour. ap (λ (w : List ℕ). colour_bit w slot colour) (same le) in
    record {
      own = λ slot colour below. other slot colour (λ q. omega (arith, q, le, below)) (kept slot colour) below;
      no_more = λ slot colour beyond. kept slot colour ∙ bits.no_more slot colour beyond;
    } in
    elim (cases_lt place COLOURS) [ inl lt ↦ low lt | inr le ↦ high le ]

-- the list gets a member
pub bits_placed : {C : Type 0} (number : C → ℕ) (m : Member C) (lists : List (List (Member C))) (old new : List ℕ) (place : ℕ) → place < length lists → AreTakenColours lists old → (place < COLOURS → AreSet old new (has_mover m.movers) place true) → (COLOURS ≤ place → new ≡ old) → AreTakenColours (slice_set lists place (inserted number m (list_at lists place))) new
bits_placed number m lists old new place within bits set same =
    bits_changed lists old new place m.movers true (inserted number m (list_at lists place)) within bits set same (λ lt slot.
    set_bit (has_mover m.movers slot) (any_has_mover (list_at lists place) slot) ∙ ap bit_of (sym (any_inserted number (λ x. has_mover x.movers slot) m (list_at lists place))))

-- what holds of each member's movers holds of those of the member that has the id
pub found : {C : Type 0} (number : C → ℕ) (id : C) (Q : Movers → Type 0) (ms : List (Member C)) (v : Movers) → movers_of number id ms ≡ Some v → All (λ o. Q o.movers) ms → Q v
found number id Q [] v is each = absurd (let wrong : None ≡ Some v = is in cc)
found {C} number id Q (x ∷ xs) v is each =
    let here : number x.id ≡ number id → Q v = λ q.
    let at : Some x.movers ≡ Some v = rw (is_same (number x.id) (number id) q) at is in
    let same : x.movers ≡ v = cc in
    subst Q same (each 0 x (omega arith)) in
    let there : (number x.id ≡ number id → ⊥) → Q v = λ h.
    let rest : movers_of number id xs ≡ Some v = rw (not_same (number x.id) (number id) h) at is in
    found number id Q xs v rest (λ k d lt. each (suc k) d (omega arith)) in
    elim (cases_eq (number x.id) (number id)) [ inl q ↦ here q | inr h ↦ there h ]

pub any_of : {C : Type 0} (number : C → ℕ) (id : C) (p : Movers → Bool) (ms : List (Member C)) (v : Movers) → movers_of number id ms ≡ Some v → p v ≡ true → list_any (λ m. p m.movers) ms ≡ true
any_of number id p ms v is h = not_false (list_any (λ m. p m.movers) ms) (λ none. true_or_false (p v) h (found number id (λ o. p o ≡ false) ms v is (any_false (λ m. p m.movers) ms none)))

pub has_itself : (k : ℕ) → (k == k) ≡ true
has_itself k = is_same k k refl

pub or_true : (a : Bool) → (a || true) ≡ true
or_true true = refl
or_true false = refl

-- a slot with a bit that is set has a word
pub below_if_taken : (words : List ℕ) (k c : ℕ) → colour_bit words k c ≡ 1 → k < length words
below_if_taken [] k c h = let z : bit_at 0 c ≡ 0 = bit_at-zero c in absurd (omega (arith, z, h))
below_if_taken (w ∷ ws) zero c h = omega arith
below_if_taken (w ∷ ws) (suc k) c h = let r : k < length ws = below_if_taken ws k c h in omega arith

below_by : {C : Type 0} (number : C → ℕ) (id : C) (lists : List (List (Member C))) (words : List ℕ) (c first : ℕ) (second : Option ℕ) → c < COLOURS → AreTakenColours lists words → let v : Movers = record { first = first; second = second } in movers_of number id (list_at lists c) ≡ Some v → AreBelow (length words) v
below_by number id lists words c first None lt bits is =
    let v : Movers = record { first = first; second = None } in
    let at : any_has_mover (list_at lists c) first ≡ true = any_of number id (λ o. has_mover o first) (list_at lists c) v is (ap (λ t. t || false) (has_itself first)) in
    record { first = below_if_taken words first c (bits.own first c lt ∙ ap bit_of at); second = tt }
below_by number id lists words c first (Some s) lt bits is =
    let v : Movers = record { first = first; second = Some s } in
    let at : any_has_mover (list_at lists c) first ≡ true = any_of number id (λ o. has_mover o first) (list_at lists c) v is (ap (λ t. t || (s == first)) (has_itself first)) in
    let by : any_has_mover (list_at lists c) s ≡ true = any_of number id (λ o. has_mover o s) (list_at lists c) v is (ap (λ t. (first == s) || t) (has_itself s) ∙ or_true (first == s)) in
    record { first = below_if_taken words first c (bits.own first c lt ∙ ap bit_of at); second = below_if_taken words s c (bits.own s c lt ∙ ap bit_of by) }

-- a member that is found has movers with words
pub found_below : {C : Type 0} (number : C → ℕ) (id : C) (lists : List (List (Member C))) (words : List ℕ) (c : ℕ) (v : Movers) → c < COLOURS → AreTakenColours lists words → Some v ≡ movers_of number id (list_at lists c) → AreBelow (length words) v
found_below number id lists words c v lt bits is = below_by number id lists words c v.first v.second lt bits (sym is)

head_gone : (t u : Bool) → (t ≡ true → u ≡ false) → u ≡ (not t && (t || u))
head_gone true u h = h refl
head_gone false u h = refl

later_gone : (t v u : Bool) → (v ≡ true → t ≡ false) → (t || (not v && u)) ≡ (not v && (t || u))
later_gone t true u h = ap (λ b. b || false) (h refl)
later_gone t false u h = refl

-- the bits without the member's are those of the members without it
pub bits_without : {C : Type 0} (number : C → ℕ) (id : C) (ms : List (Member C)) (v : Movers) (k : ℕ) → AreRising number ms → AreApart ms → movers_of number id ms ≡ Some v → any_has_mover (without_member number id ms) k ≡ (not (has_mover v k) && any_has_mover ms k)
unfolding without_member
bits_without number id [] v k rising apart is = absurd (let wrong : None ≡ Some v = is in cc)
bits_without {C} number id (x ∷ xs) v k rising apart is =
    let taken_too : List (Member C) → Bool = λ l. any_has_mover l k in
    let clear : All (λ o. shares x.movers o.movers ≡ false) xs = pairs_head (λ m o. shares m.movers o.movers ≡ false) x xs apart in
    let here : number x.id ≡ number id → taken_too (without_member number id (x ∷ xs)) ≡ (not (has_mover v k) && (has_mover x.movers k || taken_too xs)) = λ q.
    let at : Some x.movers ≡ Some v = rw (is_same (number x.id) (number id) q) at is in
    let same : x.movers ≡ v = cc in
    let none : xs ≡ without_member number id xs = without_none number id xs (λ j d lt r. let up : number x.id < number (get_or xs j d).id = rising 0 (suc j) d (omega arith) (omega arith) in omega arith) in
    rw (is_same (number x.id) (number id) q, sym none, sym same) (head_gone (has_mover x.movers k) (taken_too xs) (λ h. list_any_none (λ m. has_mover m.movers k) xs (λ j d lt. unshared x.movers (get_or xs j d).movers k (clear j d lt) h))) in
    let there : (number x.id ≡ number id → ⊥) → taken_too (without_member number id (x ∷ xs)) ≡ (not (has_mover v k) && (has_mover x.movers k || taken_too xs)) = λ h.
    let rest : movers_of number id xs ≡ Some v = rw (not_same (number x.id) (number id) h) at is in
    let far : shares x.movers v ≡ false = found number id (λ o. shares x.movers o ≡ false) xs v rest clear in
    let less : taken_too (without_member number id xs) ≡ (not (has_mover v k) && taken_too xs) = bits_without number id xs v k (pairs_tail (λ y z. number y.id < number z.id) x xs rising) (pairs_tail (λ m o. shares m.movers o.movers ≡ false) x xs apart) rest in
    let off : has_mover v k ≡ true → has_mover x.movers k ≡ false = λ g. not_true_then (has_mover x.movers k) (λ f. true_or_false (has_mover v k) g (unshared x.movers v k far f)) in
    rw (not_same (number x.id) (number id) h) (ap (λ t. has_mover x.movers k || t) less ∙ later_gone (has_mover x.movers k) (has_mover v k) (taken_too xs) off) in
    elim (cases_eq (number x.id) (number id)) [ inl q ↦ here q | inr h ↦ there h ]

-- the list loses the member that has the id
pub bits_removed : {C : Type 0} (number : C → ℕ) (id : C) (lists : List (List (Member C))) (old new : List ℕ) (place : ℕ) (v : Movers) → place < length lists → AreTakenColours lists old → (place < COLOURS → AreSet old new (has_mover v) place false) → (COLOURS ≤ place → new ≡ old) → AreRising number (list_at lists place) → (place < COLOURS → AreApart (list_at lists place)) → Some v ≡ movers_of number id (list_at lists place) → AreTakenColours (slice_set lists place (without_member number id (list_at lists place))) new
bits_removed number id lists old new place v within bits set same rising apart is =
    bits_changed lists old new place v false (without_member number id (list_at lists place)) within bits set same (λ lt slot.
    clear_bit (has_mover v slot) (any_has_mover (list_at lists place) slot) ∙ ap bit_of (sym (bits_without number id (list_at lists place) v slot rising (apart lt) (sym is))))

-- ---- what the bits tell of an id

-- one that has the id has these movers
any_own : {C : Type 0} (number : C → ℕ) (id : C) (p : Movers → Bool) (ms : List (Member C)) (v : Movers) → has_id number id ms ≡ true → AreOwn number id (Some v) ms → p v ≡ true → list_any (λ m. p m.movers) ms ≡ true
unfolding has_id
any_own number id p [] v has own h = absurd (true_or_false false has refl)
any_own {C} number id p (x ∷ xs) v has own h =
    let P : Member C → Type 0 = λ m. number m.id ≡ number id → m.movers ≡ v in
    let here : number x.id ≡ number id → list_any (λ m. p m.movers) (x ∷ xs) ≡ true = λ q. let same : p x.movers ≡ true = ap p (own 0 x (omega arith) q) ∙ h in rw same refl in
    let there : (number x.id ≡ number id → ⊥) → list_any (λ m. p m.movers) (x ∷ xs) ≡ true = λ off.
    let rest : list_any (λ m. number m.id == number id) xs ≡ true = rw (not_same (number x.id) (number id) off) at has in
    let later : list_any (λ m. p m.movers) xs ≡ true = any_own number id p xs v rest (λ k d lt. own (suc k) d (omega arith)) h in
    ap (λ t. p x.movers || t) later ∙ or_true (p x.movers) in
    elim (cases_eq (number x.id) (number id)) [ inl q ↦ here q | inr off ↦ there off ]

common_own : {C : Type 0} (number : C → ℕ) (id : C) (lists : List (List (Member C))) (words : List ℕ) (c first : ℕ) (second : Option ℕ) → c < COLOURS → AreTakenColours lists words → has_id number id (list_at lists c) ≡ true → let v : Movers = record { first = first; second = second } in AreOwn number id (Some v) (list_at lists c) → bit_at (common words v) c ≡ 1
common_own number id lists words c first None lt bits has own =
    let v : Movers = record { first = first; second = None } in
    let at : any_has_mover (list_at lists c) first ≡ true = any_own number id (λ o. has_mover o first) (list_at lists c) v has own (ap (λ t. t || false) (has_itself first)) in
    bits.own first c lt ∙ ap bit_of at
common_own number id lists words c first (Some s) lt bits has own =
    let v : Movers = record { first = first; second = Some s } in
    let at : any_has_mover (list_at lists c) first ≡ true = any_own number id (λ o. has_mover o first) (list_at lists c) v has own (ap (λ t. t || (s == first)) (has_itself first)) in
    let by : any_has_mover (list_at lists c) s ≡ true = any_own number id (λ o. has_mover o s) (list_at lists c) v has own (ap (λ t. (first == s) || t) (has_itself s) ∙ or_true (first == s)) in
    both_set (word_at words first) (word_at words s) c (bits.own first c lt ∙ ap bit_of at) (bits.own s c lt ∙ ap bit_of by)

-- what holds of all members holds of those of one list
pub all_split : {X : Type 0} (P : X → Type 0) (xs ys : List X) → All P (xs ++ ys) → All P xs × All P ys
all_split P [] ys each = (All-nil P, each)
all_split P (x ∷ xs) ys each = let rest = all_split P xs ys (All-tail P x (xs ++ ys) each) in (All-cons P x xs (All-head P x (xs ++ ys) each) rest.0, rest.1)

pub all_in_list : {C : Type 0} (P : Member C → Type 0) (lists : List (List (Member C))) (c : ℕ) → All P (all_members lists) → All P (list_at lists c)
all_in_list P [] c each = All-nil P
all_in_list P (l ∷ ls) zero each = (all_split P l (all_members ls) each).0
all_in_list P (l ∷ ls) (suc c) each = all_in_list P ls c (all_split P l (all_members ls) each).1

-- an id is in no list that is no candidate
pub not_candidate : {C : Type 0} (number : C → ℕ) (id : C) (lists : List (List (Member C))) (words : List ℕ) (o : Option Movers) (c : ℕ) → c ≤ COLOURS → AreTakenColours lists words → AreOwn number id o (all_members lists) → bit_at (candidates words o) c ≡ 0 → has_id number id (list_at lists c) ≡ false
not_candidate number id lists words None c le bits own off =
    let one : bit_at (2 ^ 32 - 1) c ≡ 1 = bit_at_ones 32 c (omega (arith, le)) in
    absurd (omega (arith, one, off))
not_candidate {C} number id lists words (Some v) c le bits own off =
    let P : Member C → Type 0 = λ m. number m.id ≡ number id → m.movers ≡ v in
    let At : ℕ → Type 0 = λ n. bit_at (candidates words (Some v)) n ≡ 0 in
    let last : c ≡ COLOURS → ⊥ = λ q. overflow_set (common words v) (subst At q off) in
    let lt : c < COLOURS = omega (arith, le, last) in
    not_true_then (has_id number id (list_at lists c)) (λ has.
    let one : bit_at (common words v) c ≡ 1 = common_own number id lists words c v.first v.second lt bits has (all_in_list P lists c own) in
    let none : bit_at (common words v) c ≡ 0 = (neither_set (common words v) (2 ^ COLOURS) c off).0 in
    omega (arith, one, none))

-- ---- more words

pub bits_same : {C : Type 0} (lists : List (List (Member C))) (old new : List ℕ) → AreTakenColours lists old → ((slot : ℕ) → word_at new slot ≡ word_at old slot) → AreTakenColours lists new
bits_same lists old new bits same = record {
  own = λ slot c lt. ap (λ w. bit_at w c) (same slot) ∙ bits.own slot c lt;
  no_more = λ slot c le. ap (λ w. bit_at w c) (same slot) ∙ bits.no_more slot c le;
}

pub zeros_beyond : (n k : ℕ) → word_at (replicate n 0) k ≡ 0
zeros_beyond zero k = refl
zeros_beyond (suc n) zero = refl
zeros_beyond (suc n) (suc k) = zeros_beyond n k

pub resized : (words : List ℕ) (n j k : ℕ) → length words ≤ n → word_at (take n words ++ replicate j 0) k ≡ word_at words k
resized [] zero j k le = zeros_beyond j k
resized [] (suc n) j k le = zeros_beyond j k
resized (w ∷ ws) zero j k le = absurd (omega arith)
resized (w ∷ ws) (suc n) j zero le = refl
resized (w ∷ ws) (suc n) j (suc k) le = resized ws n j k (omega arith)

-- no list of as many without members has one
pub none_at : {C : Type 0} (n c : ℕ) → list_at {C = C} (replicate n []) c ≡ []
none_at zero c = refl
none_at (suc n) zero = refl
none_at (suc n) (suc c) = none_at n c

-- words that are 0 have no bit set
pub colour_bit_of_zero : (n slot c : ℕ) → colour_bit (replicate n 0) slot c ≡ 0
colour_bit_of_zero n slot c = ap (λ w. bit_at w c) (zeros_beyond n slot) ∙ bit_at-zero c

-- no word more or less where bits were set
pub same_length : (old new : List ℕ) (place : ℕ) (v : Movers) (holds : Bool) → (place < COLOURS → AreSet old new (has_mover v) place holds) → (COLOURS ≤ place → new ≡ old) → length new ≡ length old
same_length old new place v holds set same = elim (cases_lt place COLOURS) [ inl lt ↦ (set lt).long | inr le ↦ ap (λ (l : List ℕ). length l) (same le) ]
