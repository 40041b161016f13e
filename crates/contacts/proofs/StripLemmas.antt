-- In which strips the shapes are listed, and by which numbers.
use Rattle.std.proofs.Common.{◌≡◌, ℕ, zero, suc, ◌+◌, ◌-◌, ◌*◌, ◌/◌, ◌^◌, ◌<◌, ◌≤◌, List, [], ◌∷◌, length, Bool, true, false, nat_lt, ltb-true, ltb-false, ℤ, ◌≤ℤ◌, inl, inr, refl, ap, arith}
use Rattle.std.specs.Prelude.{slice_index_or}
use Rattle.std.specs.List.{All}
use Rattle.std.specs.List.Sorted.{IsPermutation}
use Rattle.std.proofs.lemmas.Int.{ints}
use Rattle.std.proofs.lemmas.Nat.{le-div, pow_pos, shr_below, shr_high, mod_low}
use Rattle.std.proofs.Math.Nat.{div-mul-le_self, div-lt_iff_lt-mul}
use Rattle.std.proofs.Math.Pow.{pow_mono}
use Rattle.std.proofs.lemmas.List.Sorted.{Contains-permutation, All-permutation}
use Rattle.fixed_geom.specs.declared.boxes.Box2.{Box2}
use Rattle.contacts_base.specs.declared.near.Proxy.{Proxy}
use Rattle.contacts.specs.declared.strips.TheConstants.{LEAST_BITS, PLACES, SPOTS, STEP, STRIPS}
use Rattle.contacts.specs.Pairs.{proxy_at, no_box}
use Rattle.contacts.specs.Sweep.{boxes_of, box_at, column, strip_of, spot, start_in, strip_at, place_at, reach, first_start, firsts_from, furthers_from, starts_up, starts_of, IsPlaceIn}
use Rattle.contacts_base.proofs.Members.{Each, IsIn, each_append, in_left, in_right, in_from_contains, contains_from_in, all_from_each}

-- ---- the boxes by themselves

pub box_is : (ps : List Proxy) (k : ℕ) → slice_index_or (boxes_of ps) k no_box ≡ (proxy_at ps k).fat
box_is [] k = refl
box_is (p ∷ ps) zero = refl
box_is (p ∷ ps) (suc k) = box_is ps k

-- the box of a start's shape
pub box_there : (ps : List Proxy) (s : ℕ) → box_at (boxes_of ps) s ≡ (proxy_at ps (place_at s)).fat
box_there ps s = box_is ps (place_at s)

-- ---- columns, strips and spots rise

pub column_rises : (a b : ℤ) → a ≤ℤ b → column a ≤ column b
unfolding column
column_rises a b h = grind (arith, ints)

over_rises : (a b n : ℕ) → 0 < n → a ≤ b → a / n ≤ b / n
over_rises a b n pos le = let k : a / n * n ≤ a = div-mul-le_self a n in le-div (a / n) b n pos (omega arith)

pub strip_rises : (bits : ℕ) (a b : ℤ) → a ≤ℤ b → strip_of bits a ≤ strip_of bits b
strip_rises bits a b h = over_rises (column a) (column b) (2 ^ bits) (pow_pos bits) (column_rises a b h)

column_small : (x : ℤ) → column x < 2 ^ 38
unfolding column
column_small x = grind (arith, ints)

-- a step along x
abbrev step_of : ℤ → ℕ
step_of x = column x / STEP

step_rises : (a b : ℤ) → a ≤ℤ b → step_of a ≤ step_of b
step_rises a b h = over_rises (column a) (column b) STEP (pow_pos 13) (column_rises a b h)

step_small : (x : ℤ) → step_of x < 2 ^ 25
step_small x = shr_below (column x) 25 13 (column_small x)

pub few_strips : (bits c : ℕ) → LEAST_BITS ≤ bits → c < 2 ^ 38 → c / 2 ^ bits < STRIPS
few_strips bits c least small =
    let wide : 2 ^ LEAST_BITS ≤ 2 ^ bits = pow_mono least in
    let bound : c < STRIPS * 2 ^ bits = omega arith in
    (div-lt_iff_lt-mul (pow_pos bits)).1 bound

-- ---- a start's parts

pub strip_is : (i m : ℕ) (b : Box2) → i < PLACES → strip_at (start_in i b m) ≡ m
strip_is i m b lt =
    let small : step_of b.lo.x < 2 ^ 25 = step_small b.lo.x in
    let e : start_in i b m ≡ m * SPOTS + (step_of b.lo.x * PLACES + i) = omega arith in
    rw e (shr_high m 44 (step_of b.lo.x * PLACES + i) (omega arith))

pub place_is : (i m : ℕ) (b : Box2) → i < PLACES → place_at (start_in i b m) ≡ i
place_is i m b lt =
    let e : start_in i b m ≡ (m * 2 ^ 25 + step_of b.lo.x) * PLACES + i = omega arith in
    rw e (mod_low (m * 2 ^ 25 + step_of b.lo.x) 19 i lt)

-- where the one box begins no further right than the other ends, so do the numbers
pub start_rises : (m j : ℕ) (a b : ℤ) → j < PLACES → a ≤ℤ b → spot m a + j ≤ spot m b + (PLACES - 1)
start_rises m j a b lt h = let s : step_of a ≤ step_of b = step_rises a b h in omega arith

-- ---- the strips of one box

up_later : (bits i : ℕ) (b : Box2) (n k : ℕ) (t : Bool) → nat_lt n (suc k) ≡ t → suc k ≤ suc n → ((j : ℕ) → j < n → IsIn (start_in i b (strip_of bits b.lo.y + suc j)) (starts_up bits i b n)) → IsIn (start_in i b (strip_of bits b.lo.y + suc k)) (starts_up bits i b (suc n))
up_later bits i b n k true e le rest =
    let lt : n < suc k = ltb-true _ _ e in
    let same : k ≡ n = omega arith in
    in_right _ (starts_up bits i b n) _ (inl (ap (λ (m : ℕ). start_in i b (strip_of bits b.lo.y + suc m)) same))
up_later bits i b n k false e le rest =
    let lt : suc k ≤ n = ltb-false _ _ e in
    in_left _ (starts_up bits i b n) _ (rest k (omega arith))

up_has : (bits i : ℕ) (b : Box2) (n k : ℕ) → k < n → IsIn (start_in i b (strip_of bits b.lo.y + suc k)) (starts_up bits i b n)
up_has bits i b zero k lt = absurd (omega arith)
up_has bits i b (suc n) k lt = up_later bits i b n k (nat_lt n (suc k)) refl (omega arith) (up_has bits i b n)

-- each number of the list has its place below b
abbrev ArePlacesBelow : ℕ → List ℕ → Type 0
ArePlacesBelow b = Each (λ (s : ℕ). place_at s < b)

up_places : (bits i : ℕ) (b : Box2) (n top : ℕ) → i < PLACES → i < top → ArePlacesBelow top (starts_up bits i b n)
up_places bits i b zero top small lt = tt
up_places bits i b (suc n) top small lt = each_append (λ (s : ℕ). place_at s < top) (starts_up bits i b n) _ (up_places bits i b n top small lt) (rw (place_is i (strip_of bits b.lo.y + suc n) b small) lt, tt)

-- ---- the strips of all boxes

first_has : (bits n : ℕ) (ps : List Proxy) (k m : ℕ) → k < length ps → m ≡ n + k → IsIn (first_start bits m (proxy_at ps k).fat) (firsts_from bits n (boxes_of ps))
first_has bits n [] k m lt e = absurd (omega arith)
first_has bits n (p ∷ ps) zero m lt e = inl (ap (λ (i : ℕ). first_start bits i p.fat) (omega arith))
first_has bits n (p ∷ ps) (suc k) m lt e = inr (first_has bits (suc n) ps k m (omega arith) (omega arith))

further_has : (bits n : ℕ) (ps : List Proxy) (k m : ℕ) (s : ℕ) → k < length ps → m ≡ n + k → IsIn s (starts_up bits m (proxy_at ps k).fat (reach bits (proxy_at ps k).fat)) → IsIn s (furthers_from bits n (boxes_of ps))
further_has bits n [] k m s lt e h = absurd (omega arith)
further_has bits n (p ∷ ps) zero m s lt e h =
    let f : m ≡ n = omega arith in
    in_left s (starts_up bits n p.fat (reach bits p.fat)) (furthers_from bits (suc n) (boxes_of ps)) (rw f at h)
further_has bits n (p ∷ ps) (suc k) m s lt e h = in_right s (starts_up bits n p.fat (reach bits p.fat)) (furthers_from bits (suc n) (boxes_of ps)) (further_has bits (suc n) ps k m s (omega arith) (omega arith) h)

first_places : (bits n b : ℕ) (ps : List Proxy) → b ≤ PLACES → n + length ps ≤ b → ArePlacesBelow b (firsts_from bits n (boxes_of ps))
first_places bits n b [] few h = tt
first_places bits n b (p ∷ ps) few h = (rw (place_is n (strip_of bits p.fat.lo.y) p.fat (omega arith)) (omega arith), first_places bits (suc n) b ps few (omega arith))

further_places : (bits n b : ℕ) (ps : List Proxy) → b ≤ PLACES → n + length ps ≤ b → ArePlacesBelow b (furthers_from bits n (boxes_of ps))
further_places bits n b [] few h = tt
further_places bits n b (p ∷ ps) few h = each_append (λ (s : ℕ). place_at s < b) (starts_up bits n p.fat (reach bits p.fat)) (furthers_from bits (suc n) (boxes_of ps)) (up_places bits n p.fat (reach bits p.fat) b (omega arith) (omega arith)) (further_places bits (suc n) b ps few (omega arith))

places_below : (bits b : ℕ) (ps : List Proxy) → b ≤ PLACES → length ps ≤ b → ArePlacesBelow b (starts_of bits (boxes_of ps))
places_below bits b ps few h = each_append (λ (s : ℕ). place_at s < b) (firsts_from bits 0 (boxes_of ps)) (furthers_from bits 0 (boxes_of ps)) (first_places bits 0 b ps few (omega arith)) (further_places bits 0 b ps few (omega arith))

pub places_in : (bits : ℕ) (ps : List Proxy) (ss : List ℕ) → length ps ≤ PLACES → IsPermutation (starts_of bits (boxes_of ps)) ss → All (IsPlaceIn ps) ss
places_in bits ps ss few h = All-permutation (IsPlaceIn ps) (starts_of bits (boxes_of ps)) ss h (all_from_each (IsPlaceIn ps) (starts_of bits (boxes_of ps)) (places_below bits (length ps) ps few (omega arith)))

moved : (bits : ℕ) (ps : List Proxy) (ss : List ℕ) (s : ℕ) → IsPermutation (starts_of bits (boxes_of ps)) ss → IsIn s (starts_of bits (boxes_of ps)) → IsIn s ss
moved bits ps ss s perm h = in_from_contains ss s (Contains-permutation (starts_of bits (boxes_of ps)) ss s perm (contains_from_in (starts_of bits (boxes_of ps)) s h))

-- the shape at place i is in the strip m
abbrev pub IsListed : List Proxy → List ℕ → ℕ → ℕ → Type 0
IsListed ps ss i m = IsIn (start_in i (proxy_at ps i).fat m) ss

-- it is in the strip where its box begins
pub listed_first : (bits : ℕ) (ps : List Proxy) (i : ℕ) (ss : List ℕ) → i < length ps → IsPermutation (starts_of bits (boxes_of ps)) ss → IsListed ps ss i (strip_of bits (proxy_at ps i).fat.lo.y)
listed_first bits ps i ss lt perm = let p = proxy_at ps i in moved bits ps ss _ perm (in_left _ (firsts_from bits 0 (boxes_of ps)) (furthers_from bits 0 (boxes_of ps)) (first_has bits 0 ps i i lt (omega arith)))

listed_at : (bits : ℕ) (ps : List Proxy) (i : ℕ) (ss : List ℕ) (m k : ℕ) → i < length ps → IsPermutation (starts_of bits (boxes_of ps)) ss → m ≡ strip_of bits (proxy_at ps i).fat.lo.y + k → k ≤ reach bits (proxy_at ps i).fat → IsListed ps ss i m
listed_at bits ps i ss m zero lt perm e le =
    let f : m ≡ strip_of bits (proxy_at ps i).fat.lo.y = omega arith in
    rw f (listed_first bits ps i ss lt perm)
listed_at bits ps i ss m (suc k) lt perm e le =
    let p = proxy_at ps i in
    rw e (moved bits ps ss _ perm (in_right _ (firsts_from bits 0 (boxes_of ps)) (furthers_from bits 0 (boxes_of ps)) (further_has bits 0 ps i i _ lt (omega arith) (up_has bits i p.fat (reach bits p.fat) k (omega arith)))))

-- it is in the strip of each height between its box's ends
pub listed_from : (bits : ℕ) (ps : List Proxy) (i : ℕ) (ss : List ℕ) (y : ℤ) → i < length ps → IsPermutation (starts_of bits (boxes_of ps)) ss → (proxy_at ps i).fat.lo.y ≤ℤ y → y ≤ℤ (proxy_at ps i).fat.hi.y → IsListed ps ss i (strip_of bits y)
listed_from bits ps i ss y lt perm low high =
    let p = proxy_at ps i in
    let a : strip_of bits p.fat.lo.y ≤ strip_of bits y = strip_rises bits p.fat.lo.y y low in
    let b : strip_of bits y ≤ strip_of bits p.fat.hi.y = strip_rises bits y p.fat.hi.y high in
    listed_at bits ps i ss (strip_of bits y) (strip_of bits y - strip_of bits p.fat.lo.y) lt perm (omega arith) (omega arith)
