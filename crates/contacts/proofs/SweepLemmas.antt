-- The sweep finds the near pairs and no others.
use Rattle.std.proofs.Common.{◌≡◌, ℕ, suc, ◌+◌, ◌-◌, ◌<◌, ◌≤◌, List, [], ◌∷◌, length, get_or, subst, Bool, true, false, cond, ◌&&◌, ◌||◌, Option, None, Some, inl, inr, refl, sym, ap, ◌∙◌, arith, ltb-true, ltb-false, eqb, nat_lt, ℤ, ◌≤ℤ◌, is_lt}
use Rattle.std.specs.Prelude.{int_lt, int_le, ◌==◌}
use Rattle.std.specs.Option.{option_to_list}
use Rattle.std.specs.List.{All, dedup}
use Rattle.std.specs.Int.{int_max}
use Rattle.std.specs.List.Sorted.{IsPermutation, IsSorted}
use Rattle.std.specs.Ordering.{nat_cmp}
use Rattle.std.proofs.lemmas.Int.{ints}
use Rattle.std.proofs.lemmas.Bool.Decides.{nat_tests}
use Rattle.std.proofs.lemmas.List.Sorted.{sorted_far, ranks_by, Contains-permutation, IsPermutation-sym}
use Rattle.std.proofs.lemmas.List.Kept.{Contains-dedup_nat, Contains-from_dedup}
use Rattle.std.proofs.lemmas.Map.Keys.{IsStrictlyIncreasing-dedup}
use Rattle.std.proofs.lemmas.Cmp.{nat_cmp_total}
use Rattle.fixed_geom.specs.Boxes.{Overlaps, spans_meet}
use Rattle.contacts_base.specs.declared.near.Proxy.{Proxy}
use Rattle.contacts_base.specs.Near.{is_near}
use Rattle.contacts_base.specs.NearCodes.{pair_code, near_codes}
use Rattle.fixed_geom.specs.declared.boxes.Box2.{Box2}
use Rattle.contacts.specs.declared.strips.TheConstants.{PLACES}
use Rattle.contacts.specs.Pairs.{proxy_at}
use Rattle.contacts.specs.Sweep.{boxes_of, pair_at, near_pair, strip_of, spot, start_in, strip_at, place_at, starts_of, IsPlaceIn, box_at, end_of, may_meet, pair_of, met, is_dynamic_at, dynamics_of, swept}
use Rattle.contacts_base.proofs.Members.{Each, IsIn, each_from, each_in, in_append, in_left, in_new, in_passed, in_right, in_from_contains, contains_from_in}
use Rattle.contacts.proofs.StripLemmas.{box_there, strip_is, place_is, start_rises, listed_first, listed_from, places_in}
use Rattle.contacts.proofs.NearLemmas.{IsNearFrom, from_has, from_is, from_rises}
use Rattle.contacts_base.proofs.Rising.{IsRising, same_rising, rising_from_increasing}

-- ---- what being near says

-- a shape isn't near itself
same_slot : (n : ℕ) (b : Bool) → cond (n == n) false b ≡ false
same_slot n b = grind (arith, nat_tests)

not_itself : (p : Proxy) → is_near p p ≡ false
unfolding is_near
not_itself p = same_slot p.id.slot _

across_of : (a b d e f g h : Bool) → cond a false (cond b (cond d ((e && f) && (g && h)) false) false) ≡ true → ((e ≡ true) × (f ≡ true)) × ((g ≡ true) × (h ≡ true))
across_of true b d e f g h q = cc
across_of false false d e f g h q = cc
across_of false true false e f g h q = cc
across_of false true true false f g h q = cc
across_of false true true true false g h q = cc
across_of false true true true true false h q = cc
across_of false true true true true true false q = cc
across_of false true true true true true true q = ((refl, refl), (refl, refl))

le_from : (a b : ℤ) → int_le a b ≡ true → a ≤ℤ b
le_from a b h = grind (arith, ints)

not_past : (high low : ℤ) → low ≤ℤ high → int_lt high low ≡ false
not_past high low h = grind (arith, ints)

le_if_not : (a b : ℤ) → int_le a b ≡ false → b ≤ℤ a
le_if_not a b h = grind (arith, ints)

or_true : (b : Bool) → (b || true) ≡ true
or_true true = refl
or_true false = refl

near_overlap : (p q : Proxy) → is_near p q ≡ true → Overlaps p.fat q.fat
unfolding is_near spans_meet
near_overlap p q h =
    let w = across_of (p.id.slot == q.id.slot) (p.dynamic || q.dynamic) _ (int_le p.fat.lo.x q.fat.hi.x) (int_le q.fat.lo.x p.fat.hi.x) (int_le p.fat.lo.y q.fat.hi.y) (int_le q.fat.lo.y p.fat.hi.y) h in
    record { left = le_from _ _ w.0.0; right = le_from _ _ w.0.1; down = le_from _ _ w.1.0; up = le_from _ _ w.1.1 }

-- ---- a pair in either order

pair_true : (ps : List Proxy) (i j : ℕ) → is_near (proxy_at ps i) (proxy_at ps j) ≡ true → pair_at ps i j ≡ Some (pair_code i j)
unfolding pair_at
pair_true ps i j h = rw h refl

pair_step : (t : Bool) (x c : ℕ) → cond t (Some x) None ≡ Some c → (t ≡ true) × (c ≡ x)
pair_step true x c h = (refl, cc)
pair_step false x c h = cc

pair_some : (ps : List Proxy) (i j c : ℕ) → pair_at ps i j ≡ Some c → (is_near (proxy_at ps i) (proxy_at ps j) ≡ true) × (c ≡ pair_code i j)
unfolding pair_at
pair_some ps i j c h = pair_step (is_near (proxy_at ps i) (proxy_at ps j)) (pair_code i j) c h

in_order : (ps : List Proxy) (i j : ℕ) → i < j → near_pair ps i j ≡ pair_at ps i j
unfolding near_pair
in_order ps i j lt = grind (arith, nat_tests)

out_of_order : (ps : List Proxy) (i j : ℕ) → i < j → near_pair ps j i ≡ pair_at ps i j
unfolding near_pair
out_of_order ps i j lt = grind (arith, nat_tests)

ordered : (ps : List Proxy) (i j c : ℕ) → i < j → j < length ps → pair_at ps i j ≡ Some c → IsNearFrom 0 ps c
ordered ps i j c b w h =
    let k : (is_near (proxy_at ps i) (proxy_at ps j) ≡ true) × (c ≡ pair_code i j) = pair_some ps i j c h in
    let e : c ≡ pair_code i j = k.1 in
    record { i = i; j = j; before = b; within = w; near = k.0; is = omega arith }

never_itself : (ps : List Proxy) (i c : ℕ) → pair_at ps i i ≡ Some c → ⊥
never_itself ps i c h =
    let k : (is_near (proxy_at ps i) (proxy_at ps i) ≡ true) × (c ≡ pair_code i i) = pair_some ps i i c h in
    let n : is_near (proxy_at ps i) (proxy_at ps i) ≡ false = not_itself (proxy_at ps i) in
    cc

backwards : (ps : List Proxy) (i j c : ℕ) (t : Bool) → nat_lt j i ≡ t → j ≤ i → i < length ps → pair_at ps j i ≡ Some c → IsNearFrom 0 ps c
backwards ps i j c true e le w h = ordered ps j i c (ltb-true _ _ e) w h
backwards ps i j c false e le w h =
    let same : j ≡ i = omega (arith, ltb-false _ _ e) in
    absurd (never_itself ps i c (rw same at h))

either : (ps : List Proxy) (i j c : ℕ) (t : Bool) → nat_lt i j ≡ t → i < length ps → j < length ps → cond t (pair_at ps i j) (pair_at ps j i) ≡ Some c → IsNearFrom 0 ps c
either ps i j c true e u v h = ordered ps i j c (ltb-true _ _ e) v h
either ps i j c false e u v h = backwards ps i j c (nat_lt j i) refl (ltb-false _ _ e) u h

pair_is_near : (ps : List Proxy) (i j c : ℕ) → i < length ps → j < length ps → near_pair ps i j ≡ Some c → IsNearFrom 0 ps c
unfolding near_pair
pair_is_near ps i j c u v h = either ps i j c (nat_lt i j) refl u v h

pair_step_of : (t : Bool) (o : Option ℕ) (c : ℕ) → cond t o None ≡ Some c → o ≡ Some c
pair_step_of true o c h = h
pair_step_of false o c h = cc

near_of : (bits : ℕ) (ps : List Proxy) (s t c : ℕ) → pair_of bits ps s t ≡ Some c → near_pair ps (place_at s) (place_at t) ≡ Some c
unfolding pair_of
near_of bits ps s t c h = pair_step_of (may_meet bits (strip_at s) (box_at (boxes_of ps) s) (box_at (boxes_of ps) t)) (near_pair ps (place_at s) (place_at t)) c h

-- ---- what the sweep finds

record IsMet (bits : ℕ) (ps : List Proxy) (s : ℕ) (ts : List ℕ) (c : ℕ) : Type 0 where
  pub other : ℕ
  pub among : IsIn other ts
  pub pair : pair_of bits ps s other ≡ Some c

record IsSwept (bits : ℕ) (ps : List Proxy) (ss : List ℕ) (c : ℕ) : Type 0 where
  pub first : ℕ
  pub second : ℕ
  pub first_among : IsIn first ss
  pub second_among : IsIn second ss
  pub pair : pair_of bits ps first second ≡ Some c

not_ended : (c : ℕ) (t : Bool) (xs : List ℕ) → IsIn c (cond t [] xs) → IsIn c xs
not_ended c true xs h = absurd h
not_ended c false xs h = h

in_option : (c : ℕ) (o : Option ℕ) → IsIn c (option_to_list o) → o ≡ Some c
in_option c None h = absurd h
in_option c (Some x) h = elim h [ inl p ↦ ap Some (sym p) | inr q ↦ absurd q ]

met_later : (bits : ℕ) (ps : List Proxy) (s t : ℕ) (ts : List ℕ) (c : ℕ) → IsMet bits ps s ts c → IsMet bits ps s (t ∷ ts) c
met_later bits ps s t ts c h = record { other = h.other; among = inr h.among; pair = h.pair }

met_is : (bits : ℕ) (ps : List Proxy) (s : ℕ) (ts : List ℕ) (c : ℕ) → IsIn c (met bits ps s ts) → IsMet bits ps s ts c
met_is bits ps s [] c h = absurd h
met_is bits ps s (t ∷ ts) c h =
    elim (in_append c (option_to_list (pair_of bits ps s t)) (met bits ps s ts) (not_ended c (nat_lt (end_of (boxes_of ps) s) t) _ h)) [
      | inl a ↦ record { other = t; among = inl refl; pair = in_option c (pair_of bits ps s t) a }
      | inr b ↦ met_later bits ps s t ts c (met_is bits ps s ts c b)
    ]

dynamic_step : (b : Bool) (t s : ℕ) (ds ss : List ℕ) → (IsIn t ds → IsIn t ss) → IsIn t (cond b (s ∷ ds) ds) → IsIn t (s ∷ ss)
dynamic_step true t s ds ss f h = elim h [ inl p ↦ inl p | inr q ↦ inr (f q) ]
dynamic_step false t s ds ss f h = inr (f h)

pub in_dynamics : (ps : List Proxy) (ss : List ℕ) (t : ℕ) → IsIn t (dynamics_of ps ss) → IsIn t ss
in_dynamics ps [] t h = absurd h
in_dynamics ps (s ∷ ss) t h = dynamic_step (is_dynamic_at ps s) t s (dynamics_of ps ss) ss (in_dynamics ps ss t) h

-- what is met among all or among the dynamic ones is met among all
met_of_all : (bits : ℕ) (ps : List Proxy) (s : ℕ) (ss : List ℕ) (c : ℕ) (b : Bool) → IsMet bits ps s (cond b ss (dynamics_of ps ss)) c → IsMet bits ps s ss c
met_of_all bits ps s ss c true h = h
met_of_all bits ps s ss c false h = record { other = h.other; among = in_dynamics ps ss h.other h.among; pair = h.pair }

swept_first : (bits : ℕ) (ps : List Proxy) (s : ℕ) (ss : List ℕ) (c : ℕ) → IsMet bits ps s ss c → IsSwept bits ps (s ∷ ss) c
swept_first bits ps s ss c h = record { first = s; second = h.other; first_among = inl refl; second_among = inr h.among; pair = h.pair }

swept_later : (bits : ℕ) (ps : List Proxy) (s : ℕ) (ss : List ℕ) (c : ℕ) → IsSwept bits ps ss c → IsSwept bits ps (s ∷ ss) c
swept_later bits ps s ss c h = record { first = h.first; second = h.second; first_among = inr h.first_among; second_among = inr h.second_among; pair = h.pair }

swept_is : (bits : ℕ) (ps : List Proxy) (ss : List ℕ) (c : ℕ) → IsIn c (swept bits ps ss) → IsSwept bits ps ss c
swept_is bits ps [] c h = absurd h
swept_is bits ps (s ∷ ss) c h =
    let others : List ℕ = cond (is_dynamic_at ps s) ss (dynamics_of ps ss) in
    elim (in_append c (met bits ps s others) (swept bits ps ss) h) [
      | inl a ↦ swept_first bits ps s ss c (met_of_all bits ps s ss c (is_dynamic_at ps s) (met_is bits ps s others c a))
      | inr b ↦ swept_later bits ps s ss c (swept_is bits ps ss c b)
    ]

-- ---- what the sweep doesn't miss

-- each start is no greater than the later ones
abbrev IsInOrder : List ℕ → Type 0
IsInOrder [] = Unit {0}
IsInOrder (s ∷ ss) = Each (λ t. s ≤ t) ss × IsInOrder ss

no_further : (s t : ℕ) (ss : List ℕ) → Each (λ u. s ≤ u) ss → IsIn t (s ∷ ss) → s ≤ t
no_further s t ss a h = elim h [ inl p ↦ rw p (omega arith) | inr q ↦ each_in (λ u. s ≤ u) t ss a q ]

goes_on : (end start : ℕ) → start ≤ end → nat_lt end start ≡ false
goes_on end start h = grind (arith, nat_tests)

met_has : (bits : ℕ) (ps : List Proxy) (s : ℕ) (ts : List ℕ) (t c : ℕ) → IsIn t ts → IsInOrder ts → t ≤ end_of (boxes_of ps) s → pair_of bits ps s t ≡ Some c → IsIn c (met bits ps s ts)
met_has bits ps s [] t c h low le pair = absurd h
met_has bits ps s (u ∷ us) t c h low le pair =
    let first : u ≤ t = no_further u t us low.0 h in
    rw (goes_on (end_of (boxes_of ps) s) u (omega (arith, first, le))) (elim h [
      | inl p ↦ in_left c (option_to_list (pair_of bits ps s u)) (met bits ps s us) (rw (ap (λ (v : ℕ). pair_of bits ps s v) (sym p) ∙ pair) (inl refl))
      | inr q ↦ in_right c (option_to_list (pair_of bits ps s u)) (met bits ps s us) (met_has bits ps s us t c q low.1 le pair)
    ])

-- ---- of two near shapes one is of a dynamic body, so one that isn't is met among the dynamic ones

one_dynamic_of : (a d r : Bool) → cond a false (cond d r false) ≡ true → d ≡ true
one_dynamic_of true d r q = cc
one_dynamic_of false true r q = refl
one_dynamic_of false false r q = cc

one_dynamic : (p q : Proxy) → is_near p q ≡ true → (p.dynamic || q.dynamic) ≡ true
unfolding is_near
one_dynamic p q h = one_dynamic_of (p.id.slot == q.id.slot) (p.dynamic || q.dynamic) _ h

second_of : (a b : Bool) → (a || b) ≡ true → a ≡ false → b ≡ true
second_of true b h e = cc
second_of false b h e = h

first_of : (a b : Bool) → (a || b) ≡ true → b ≡ false → a ≡ true
first_of true b h e = refl
first_of false b h e = cc

dynamic_in_order : (ps : List Proxy) (i j c : ℕ) (t : Bool) → cond t (pair_at ps i j) (pair_at ps j i) ≡ Some c → (proxy_at ps i).dynamic ≡ false → (proxy_at ps j).dynamic ≡ true
dynamic_in_order ps i j c true h e = second_of (proxy_at ps i).dynamic (proxy_at ps j).dynamic (one_dynamic (proxy_at ps i) (proxy_at ps j) (pair_some ps i j c h).0) e
dynamic_in_order ps i j c false h e = first_of (proxy_at ps j).dynamic (proxy_at ps i).dynamic (one_dynamic (proxy_at ps j) (proxy_at ps i) (pair_some ps j i c h).0) e

other_dynamic : (ps : List Proxy) (i j c : ℕ) → near_pair ps i j ≡ Some c → (proxy_at ps i).dynamic ≡ false → (proxy_at ps j).dynamic ≡ true
unfolding near_pair
other_dynamic ps i j c h e = dynamic_in_order ps i j c (nat_lt i j) h e

dynamics_has : (ps : List Proxy) (ss : List ℕ) (t : ℕ) → IsIn t ss → is_dynamic_at ps t ≡ true → IsIn t (dynamics_of ps ss)
dynamics_has ps [] t h d = absurd h
dynamics_has ps (s ∷ ss) t h d =
    elim h [
      | inl p ↦ in_new t s (is_dynamic_at ps s) (dynamics_of ps ss) (subst (λ (x : ℕ). is_dynamic_at ps x ≡ true) p d) p
      | inr q ↦ in_passed t s (is_dynamic_at ps s) (dynamics_of ps ss) (dynamics_has ps ss t q d)
    ]

each_dynamic : (P : ℕ → Type 0) (ps : List Proxy) (ss : List ℕ) → Each P ss → Each P (dynamics_of ps ss)
each_dynamic P ps ss h = each_from P (dynamics_of ps ss) (λ x q. each_in P x ss h (in_dynamics ps ss x q))

order_step : (b : Bool) (s : ℕ) (ds : List ℕ) → Each (λ t. s ≤ t) ds → IsInOrder ds → IsInOrder (cond b (s ∷ ds) ds)
order_step true s ds a h = (a, h)
order_step false s ds a h = h

dynamics_in_order : (ps : List Proxy) (ss : List ℕ) → IsInOrder ss → IsInOrder (dynamics_of ps ss)
dynamics_in_order ps [] h = tt
dynamics_in_order ps (s ∷ ss) h = order_step (is_dynamic_at ps s) s (dynamics_of ps ss) (each_dynamic (λ t. s ≤ t) ps ss h.0) (dynamics_in_order ps ss h.1)

met_among : (bits : ℕ) (ps : List Proxy) (s : ℕ) (ss : List ℕ) (t c : ℕ) (b : Bool) → is_dynamic_at ps s ≡ b → IsIn t ss → IsInOrder ss → t ≤ end_of (boxes_of ps) s → pair_of bits ps s t ≡ Some c → IsIn c (met bits ps s (cond b ss (dynamics_of ps ss)))
met_among bits ps s ss t c true e h low le pair = met_has bits ps s ss t c h low le pair
met_among bits ps s ss t c false e h low le pair =
    let d : is_dynamic_at ps t ≡ true = other_dynamic ps (place_at s) (place_at t) c (near_of bits ps s t c pair) e in
    met_has bits ps s (dynamics_of ps ss) t c (dynamics_has ps ss t h d) (dynamics_in_order ps ss low) le pair

-- two starts of near shapes in one strip: neither begins further than the other ends
record AreMet (bits : ℕ) (ps : List Proxy) (s t c : ℕ) : Type 0 where
  pub other : place_at s ≡ place_at t → ⊥
  pub first_low : s ≤ end_of (boxes_of ps) t
  pub second_low : t ≤ end_of (boxes_of ps) s
  pub pair : pair_of bits ps s t ≡ Some c
  pub pair_back : pair_of bits ps t s ≡ Some c

-- the pairs of the first start of a list
abbrev met_by : ℕ → List Proxy → ℕ → List ℕ → List ℕ
met_by bits ps s ss = met bits ps s (cond (is_dynamic_at ps s) ss (dynamics_of ps ss))

swept_has : (bits : ℕ) (ps : List Proxy) (ss : List ℕ) (s t c : ℕ) → IsIn s ss → IsIn t ss → IsInOrder ss → AreMet bits ps s t c → IsIn c (swept bits ps ss)
swept_has bits ps [] s t c hs ht low m = absurd hs
swept_has bits ps (u ∷ us) s t c hs ht low m =
    elim hs [
      | inl p ↦ elim ht [
        | inl q ↦ absurd (m.other (ap (λ (x : ℕ). place_at x) (p ∙ sym q)))
        | inr q ↦ in_left c (met_by bits ps u us) (swept bits ps us) (subst (λ (x : ℕ). IsIn c (met_by bits ps x us)) p (met_among bits ps s us t c (is_dynamic_at ps s) refl q low.1 m.second_low m.pair))
      ]
      | inr p ↦ elim ht [
        | inl q ↦ in_left c (met_by bits ps u us) (swept bits ps us) (subst (λ (x : ℕ). IsIn c (met_by bits ps x us)) q (met_among bits ps t us s c (is_dynamic_at ps t) refl p low.1 m.first_low m.pair_back))
        | inr q ↦ in_right c (met_by bits ps u us) (swept bits ps us) (swept_has bits ps us s t c p q low.1 m)
      ]
    ]

above_from : (s : ℕ) (ss : List ℕ) → ((k d : ℕ) → k < length ss → s ≤ get_or ss k d) → Each (λ t. s ≤ t) ss
above_from s [] h = tt
above_from s (t ∷ ts) h = (h 0 t (omega arith), above_from s ts (λ k d lt. h (suc k) d (omega arith)))

in_order_from : (ss : List ℕ) → ((i j d : ℕ) → i ≤ j → j < length ss → get_or ss i d ≤ get_or ss j d) → IsInOrder ss
in_order_from [] h = tt
in_order_from (s ∷ ss) h = (
  above_from s ss (λ k d lt. h 0 (suc k) d (omega arith) (omega arith)),
  in_order_from ss (λ i j d le lt. h (suc i) (suc j) d (omega arith) (omega arith)),
)

le_from_cmp : (a b : ℕ) → is_lt (nat_cmp b a) ≡ false → a ≤ b
le_from_cmp a b h = grind (arith, nat_tests)

sorted_in_order : (ss : List ℕ) → IsSorted nat_cmp ss → IsInOrder ss
sorted_in_order ss h = in_order_from ss (λ i j d le lt. le_from_cmp _ _ (sorted_far _ (ranks_by nat_cmp_total (λ (x : ℕ). x)) ss h i j d le lt))

-- ---- near shapes meet in the strip where the higher of their boxes begins

same_strip : (n : ℕ) → (n == n) ≡ true
same_strip n = grind (arith, nat_tests)

higher : (a b : ℤ) → a ≤ℤ b → int_max a b ≡ b
higher a b h = rw (not_past b a h) refl

higher_after_fate : (a b : ℤ) → a ≤ℤ b → int_max b a ≡ b
higher_after_fate a b h = grind (arith, ints)

meet_at : (bits : ℕ) (b c : Box2) (y : ℤ) → Overlaps b c → int_max b.lo.y c.lo.y ≡ y → may_meet bits (strip_of bits y) b c ≡ true
unfolding may_meet
meet_at bits b c y o e = rw (not_past b.hi.y c.lo.y o.up, not_past c.hi.y b.lo.y o.down, e) (same_strip (strip_of bits y))

-- the pair of the shapes at places i and j, if m is the lowest strip that both are in
abbrev pair_in : ℕ → List Proxy → ℕ → ℕ → ℕ → Option ℕ
pair_in bits ps m i j = cond (may_meet bits m (proxy_at ps i).fat (proxy_at ps j).fat) (near_pair ps i j) None

pair_if : (bits : ℕ) (ps : List Proxy) (s t m i j c : ℕ) → strip_at s ≡ m → place_at s ≡ i → place_at t ≡ j → may_meet bits m (proxy_at ps i).fat (proxy_at ps j).fat ≡ true → near_pair ps i j ≡ Some c → pair_of bits ps s t ≡ Some c
unfolding pair_of
pair_if bits ps s t m i j c strip first second h pair =
    let found : pair_in bits ps m i j ≡ Some c = rw h pair in
    rw (box_there ps s, box_there ps t)
    (subst (λ (x : ℕ). pair_in bits ps x (place_at s) (place_at t) ≡ Some c) (sym strip)
    (subst (λ (x : ℕ). pair_in bits ps m x (place_at t) ≡ Some c) (sym first)
    (subst (λ (x : ℕ). pair_in bits ps m i x ≡ Some c) (sym second) found)))

no_further_than : (ps : List Proxy) (s t m j : ℕ) → strip_at t ≡ m → place_at t ≡ j → s ≤ spot m (proxy_at ps j).fat.hi.x + (PLACES - 1) → s ≤ end_of (boxes_of ps) t
no_further_than ps s t m j strip place h =
    rw (box_there ps t)
    (subst (λ (x : ℕ). s ≤ spot x (proxy_at ps (place_at t)).fat.hi.x + (PLACES - 1)) (sym strip)
    (subst (λ (x : ℕ). s ≤ spot m (proxy_at ps x).fat.hi.x + (PLACES - 1)) (sym place) h))

-- ---- the sweep's codes are the scan's

after_fate : (p q : Proxy) → Overlaps p.fat q.fat → Overlaps q.fat p.fat
after_fate p q o = record { left = o.right; right = o.left; down = o.up; up = o.down }

-- the box at j begins no lower than the one at i, and so in a strip where that one is
pair_listed : (bits : ℕ) (ps : List Proxy) (i j c : ℕ) → (proxy_at ps i).fat.lo.y ≤ℤ (proxy_at ps j).fat.lo.y → length ps ≤ PLACES → i < length ps → j < length ps → (i ≡ j → ⊥) → Overlaps (proxy_at ps i).fat (proxy_at ps j).fat → near_pair ps i j ≡ Some c → near_pair ps j i ≡ Some c → (ss : List ℕ) → IsPermutation (starts_of bits (boxes_of ps)) ss → IsInOrder ss → IsIn c (swept bits ps ss)
pair_listed bits ps i j c le few wi wj other o pair back ss perm low =
    let p = proxy_at ps i in
    let q = proxy_at ps j in
    let y : ℤ = q.fat.lo.y in
    let m : ℕ = strip_of bits y in
    let s : ℕ = start_in i p.fat m in
    let t : ℕ = start_in j q.fat m in
    let si : i < PLACES = omega (arith, wi, few) in
    let sj : j < PLACES = omega (arith, wj, few) in
    let strip_s : strip_at s ≡ m = strip_is i m p.fat si in
    let strip_t : strip_at t ≡ m = strip_is j m q.fat sj in
    let place_s : place_at s ≡ i = place_is i m p.fat si in
    let place_t : place_at t ≡ j = place_is j m q.fat sj in
    let met : AreMet bits ps s t c = record {
      other = λ r. other (sym place_s ∙ r ∙ place_t);
      first_low = no_further_than ps s t m j strip_t place_t (start_rises m i p.fat.lo.x q.fat.hi.x si o.left);
      second_low = no_further_than ps t s m i strip_s place_s (start_rises m j q.fat.lo.x p.fat.hi.x sj o.right);
      pair = pair_if bits ps s t m i j c strip_s place_s place_t (meet_at bits p.fat q.fat y o (higher p.fat.lo.y y le)) pair;
      pair_back = pair_if bits ps t s m j i c strip_t place_t place_s (meet_at bits q.fat p.fat y (after_fate p q o) (higher_after_fate p.fat.lo.y y le)) back;
    } in
    swept_has bits ps ss s t c (listed_from bits ps i ss y wi perm le o.up) (listed_first bits ps j ss wj perm) low met

pair_either : (bits : ℕ) (ps : List Proxy) (i j c : ℕ) (t : Bool) → int_le (proxy_at ps i).fat.lo.y (proxy_at ps j).fat.lo.y ≡ t → length ps ≤ PLACES → i < length ps → j < length ps → (i ≡ j → ⊥) → Overlaps (proxy_at ps i).fat (proxy_at ps j).fat → near_pair ps i j ≡ Some c → near_pair ps j i ≡ Some c → (ss : List ℕ) → IsPermutation (starts_of bits (boxes_of ps)) ss → IsInOrder ss → IsIn c (swept bits ps ss)
pair_either bits ps i j c true e few wi wj other o pair back ss perm low = pair_listed bits ps i j c (le_from _ _ e) few wi wj other o pair back ss perm low
pair_either bits ps i j c false e few wi wj other o pair back ss perm low = pair_listed bits ps j i c (le_if_not _ _ e) few wj wi (λ r. other (sym r)) (after_fate (proxy_at ps i) (proxy_at ps j) o) back pair ss perm low

scan_in_sweep : (bits : ℕ) (ps : List Proxy) (ss : List ℕ) (c : ℕ) → length ps ≤ PLACES → IsPermutation (starts_of bits (boxes_of ps)) ss → IsSorted nat_cmp ss → IsNearFrom 0 ps c → IsIn c (swept bits ps ss)
scan_in_sweep bits ps ss c few perm sorted h =
    let within : h.i < length ps = omega (arith, h.before, h.within) in
    let e : c ≡ pair_code h.i h.j = omega (arith, h.is) in
    let pair : pair_at ps h.i h.j ≡ Some c = pair_true ps h.i h.j h.near ∙ ap Some (sym e) in
    let o : Overlaps (proxy_at ps h.i).fat (proxy_at ps h.j).fat = near_overlap (proxy_at ps h.i) (proxy_at ps h.j) h.near in
    let other : h.i ≡ h.j → ⊥ = λ r. absurd (omega (arith, r, h.before)) in
    pair_either bits ps h.i h.j c (int_le (proxy_at ps h.i).fat.lo.y (proxy_at ps h.j).fat.lo.y) refl few within h.within other o (in_order ps h.i h.j h.before ∙ pair) (out_of_order ps h.i h.j h.before ∙ pair) ss perm (sorted_in_order ss sorted)

sweep_in_scan : (bits : ℕ) (ps : List Proxy) (ss : List ℕ) (c : ℕ) → Each (IsPlaceIn ps) ss → IsSwept bits ps ss c → IsNearFrom 0 ps c
sweep_in_scan bits ps ss c places h = pair_is_near ps (place_at h.first) (place_at h.second) c (each_in (IsPlaceIn ps) h.first ss places h.first_among) (each_in (IsPlaceIn ps) h.second ss places h.second_among) (near_of bits ps h.first h.second c h.pair)

near_in_scan : (ps : List Proxy) (c : ℕ) → IsNearFrom 0 ps c → IsIn c (near_codes ps)
unfolding near_codes
near_in_scan ps c h = from_has 0 ps h.i h.j c h.before h.within h.near h.is

scan_is_near : (ps : List Proxy) (c : ℕ) → IsIn c (near_codes ps) → IsNearFrom 0 ps c
unfolding near_codes
scan_is_near ps c h = from_is 0 ps c h

pub each_from_all : (ps : List Proxy) (ss : List ℕ) → All (IsPlaceIn ps) ss → Each (IsPlaceIn ps) ss
each_from_all ps [] h = tt
each_from_all ps (s ∷ ss) h = (h 0 s (omega arith), each_from_all ps ss (λ k d lt. h (suc k) d (omega arith)))

scan_rises : (ps : List Proxy) → length ps ≤ PLACES → IsRising (near_codes ps)
unfolding near_codes
scan_rises ps few = from_rises 0 ps (omega arith)

-- the sweep's codes, sorted, each once
pub sweep_is_scan : (bits : ℕ) (ps : List Proxy) (ss ys zs : List ℕ) → length ps ≤ PLACES → IsPermutation (starts_of bits (boxes_of ps)) ss → IsSorted nat_cmp ss → IsPermutation (swept bits ps ss) ys → IsSorted nat_cmp ys → zs ≡ dedup eqb ys → zs ≡ near_codes ps
sweep_is_scan bits ps ss ys zs few perm in_line moved sorted kept =
    let places = each_from_all ps ss (places_in bits ps ss few perm) in
    same_rising zs (near_codes ps) (rw kept (rising_from_increasing (dedup eqb ys) (IsStrictlyIncreasing-dedup ys sorted))) (scan_rises ps few)
    (λ c i. near_in_scan ps c (sweep_in_scan bits ps ss c places (swept_is bits ps ss c (in_from_contains (swept bits ps ss) c (Contains-permutation ys (swept bits ps ss) c (IsPermutation-sym (swept bits ps ss) ys moved) (Contains-from_dedup eqb ys c (contains_from_in (dedup eqb ys) c (rw kept at i))))))))
    (λ c i. rw kept (in_from_contains (dedup eqb ys) c (Contains-dedup_nat ys c (Contains-permutation (swept bits ps ss) ys c moved (contains_from_in (swept bits ps ss) c (scan_in_sweep bits ps ss c few perm in_line (scan_is_near ps c i)))))))
