-- The colours of the world that is made of what was read.
use Rattle.std.proofs.Common.{◌≡◌, ℕ, zero, suc, ◌+◌, ◌<◌, ◌≤◌, ◌==◌, ◌&&◌, ◌++◌, ◌⊎◌, ◌↔◌, Bool, true, false, not, cond, nat_lt, List, [], ◌∷◌, length, map, take, Option, Some, None, is_some, Contains, All, count_by, get_or, inl, inr, refl, sym, ap, ◌∙◌, subst, arith}
use Rattle.std.specs.List.{list_all, list_any}
use Rattle.std.proofs.lemmas.Bool.{false≢true}
use Rattle.std.proofs.lemmas.Bool.Decides.{nat_tests}
use Rattle.std.proofs.lemmas.Grind.{flat_map-append}
use Rattle.std.proofs.lemmas.List.{append-nil, length-append, map-append}
use Rattle.std.proofs.lemmas.List.Kept.{AllPairs-cons}
use Rattle.std.proofs.lemmas.List.Sums.{sum_by-append, sum_by-cons}
use Rattle.std.proofs.lemmas.Option.{none-some, same_Some}
use Rattle.contacts_base.proofs.Members.{Each, IsIn, all_from_each, contains_from_in, each_append, in_append, in_from_contains, in_left, in_right}
use Rattle.plain_world.specs.Constraints.{constraint_number}
use Rattle.plain_world.specs.declared.constraint.Constraint.{Constraint}
use Rattle.graph_colours.specs.Colours.{IsColouring, all_members, ids_of}
use Rattle.graph_colours.specs.Members.{AreApart, AreRising, is_free}
use Rattle.graph_colours.specs.Movers.{shares}
use Rattle.graph_colours.specs.declared.limits.TheConstants.{COLOURS}
use Rattle.graph_colours.specs.declared.member.Member.{Member}
use Rattle.graph_colours.specs.declared.member.Movers.{Movers}
use Rattle.graph_colours.proofs.ListLemmas.{any_false, pairs_none}
use Rattle.graph_colours.proofs.MoverLemmas.{shares_back}
use Rattle.islands.specs.Labels.{is_asleep, label_at}
use Rattle.islands.specs.declared.label.IslandState.{IslandState}
use Rattle.islands.specs.declared.label.IslandState.TheVariants.{Asleep, Loose, Whole}
use Rattle.islands.specs.declared.label.Label.{Label}
use Rattle.world_file_base.specs.declared.saved.Membership.{Membership}
use Rattle.sleep_wake.specs.Acting.{AreMovers, are_awake, awake_label, is_mover_awake}
use Rattle.sleep_wake.proofs.AwakeLemmas.{all_awake, awake_first}
use Rattle.solver_sets.proofs.ListLaws.{Rises, in_mapped, mapped_in, pairs_from_rises}
use Rattle.solver_sets.proofs.TieLaws.{tie_number}
use Rattle.world_file.specs.Fitting.{share_no_mover, are_named_well, coloured, colours_below, has_colour, ids_below, ids_coloured, is_coloured_well, is_tie_kept, label_of, members_among, membership_at}
use Rattle.world_file.specs.declared.ties.Tie.{Tie}
use Rattle.world_file.proofs.ReadContacts.{IsColour}
use Rattle.world_file.proofs.SavedIslands.{label_there, same_truth, tie_together}
use Rattle.world_file.proofs.Tests.{both_true, equal_n, not_true, some_item}

-- ---- the lists of the colours

pub ids_are : (ties : List Tie) (n : ℕ) → ids_of (colours_below ties n) ≡ ids_below ties n
ids_are ties zero = refl
ids_are ties (suc n) =
    map-append (λ (ms : List (Member Constraint)). map (λ (m : Member Constraint). m.id) ms) (colours_below ties n) (coloured ties n ∷ [])
    ∙ ap (λ (xs : List (List Constraint)). xs ++ ids_coloured ties n ∷ []) (ids_are ties n)

colours_long : (ties : List Tie) (n : ℕ) → length (colours_below ties n) ≡ n
colours_long ties zero = refl
colours_long ties (suc n) =
    let rest = colours_long ties n in
    let both : length (colours_below ties n ++ coloured ties n ∷ []) ≡ length (colours_below ties n) + 1 = length-append (colours_below ties n) (coloured ties n ∷ []) in
    omega (arith, rest, both)

take_front : {X : Type 0} (n : ℕ) (xs ys : List X) → length xs ≡ n → take n (xs ++ ys) ≡ xs
take_front zero [] ys e = refl
take_front zero (x ∷ xs) ys e = absurd (omega arith)
take_front (suc n) [] ys e = absurd (omega arith)
take_front (suc n) (x ∷ xs) ys e = ap (λ l. x ∷ l) (take_front n xs ys (omega arith))

-- ---- who is in them

in_coloured_by : (t : Tie) (k : ℕ) (b : Bool) (ms : List (Member Constraint)) (m : Member Constraint) → IsIn m (cond b (t.member ∷ ms) ms) → ((m ≡ t.member) × (b ≡ true)) ⊎ IsIn m ms
in_coloured_by t k true ms m h = elim h [ inl e ↦ inl (e, refl) | inr j ↦ inr j ]
in_coloured_by t k false ms m h = inr h

colour_by : (k : ℕ) (o : Option ℕ) → has_colour k o ≡ true → o ≡ Some k
colour_by k None h = absurd (false≢true h)
colour_by k (Some n) h = ap (λ (x : ℕ). Some x) (equal_n n k h)

pub in_coloured : (ties : List Tie) (k : ℕ) (m : Member Constraint) → IsIn m (coloured ties k) → (t : Tie) × IsIn t ties × (t.member ≡ m) × (t.colour ≡ Some k)
in_coloured [] k m h = absurd h
in_coloured (t ∷ ts) k m h = elim (in_coloured_by t k (has_colour k t.colour) (coloured ts k) m h) [
  | inl o ↦ (t, inl refl, sym o.0, colour_by k t.colour o.1)
  | inr j ↦ let o = in_coloured ts k m j in (o.0, inr o.1, o.2, o.3)
]

coloured_in_by : (m : Member Constraint) (b : Bool) (ms : List (Member Constraint)) → b ≡ true → IsIn m (cond b (m ∷ ms) ms)
coloured_in_by m true ms e = inl refl
coloured_in_by m false ms e = absurd (false≢true e)

later_in_by : (m x : Member Constraint) (b : Bool) (ms : List (Member Constraint)) → IsIn m ms → IsIn m (cond b (x ∷ ms) ms)
later_in_by m x true ms h = inr h
later_in_by m x false ms h = h

has_own : (k : ℕ) (o : Option ℕ) → o ≡ Some k → has_colour k o ≡ true
has_own k None e = absurd (none-some k e)
has_own k (Some n) e = let same : n ≡ k = same_Some n k e in grind (arith, nat_tests)

pub coloured_in : (ties : List Tie) (k : ℕ) (t : Tie) → IsIn t ties → t.colour ≡ Some k → IsIn t.member (coloured ties k)
coloured_in [] k t h e = absurd h
coloured_in (x ∷ xs) k t h e = elim h [
  | inl same ↦ subst (λ (v : Tie). IsIn v.member (coloured (x ∷ xs) k)) (sym same) (coloured_in_by x.member (has_colour k x.colour) (coloured xs k) (has_own k x.colour (ap (λ (v : Tie). v.colour) (sym same) ∙ e)))
  | inr j ↦ later_in_by t.member x.member (has_colour k x.colour) (coloured xs k) (coloured_in xs k t j e)
]

abbrev all_below : List Tie → ℕ → List (Member Constraint)
all_below ties n = all_members (colours_below ties n)

all_more : (ties : List Tie) (n : ℕ) → all_below ties (suc n) ≡ all_below ties n ++ coloured ties n
all_more ties n =
    flat_map-append (λ (ms : List (Member Constraint)). ms) (colours_below ties n) (coloured ties n ∷ [])
    ∙ ap (λ (ms : List (Member Constraint)). all_below ties n ++ ms) (append-nil (coloured ties n))

in_below : (ties : List Tie) (n : ℕ) (m : Member Constraint) → IsIn m (all_below ties n) → (t : Tie) × IsIn t ties × (t.member ≡ m) × (is_some t.colour ≡ true)
in_below ties zero m h = absurd h
in_below ties (suc n) m h = elim (in_append m (all_below ties n) (coloured ties n) (subst (λ (ms : List (Member Constraint)). IsIn m ms) (all_more ties n) h)) [
  | inl j ↦ in_below ties n m j
  | inr j ↦ let o = in_coloured ties n m j in (o.0, o.1, o.2, ap (λ (c : Option ℕ). is_some c) o.3)
]

last_or : (ties : List Tie) (n k : ℕ) (t : Tie) (b : Bool) → nat_lt k n ≡ b → k < suc n → IsIn t ties → t.colour ≡ Some k → (k < n → IsIn t.member (all_below ties n)) → IsIn t.member (all_below ties n ++ coloured ties n)
last_or ties n k t true f lt h e rest = let low : k < n = grind (arith, nat_tests) in in_left t.member (all_below ties n) (coloured ties n) (rest low)
last_or ties n k t false f lt h e rest = let last : k ≡ n = grind (arith, nat_tests) in in_right t.member (all_below ties n) (coloured ties n) (coloured_in ties n t h (e ∙ ap (λ (x : ℕ). Some x) last))

below_in : (ties : List Tie) (n k : ℕ) (t : Tie) → k < n → IsIn t ties → t.colour ≡ Some k → IsIn t.member (all_below ties n)
below_in ties zero k t lt h e = absurd (omega arith)
below_in ties (suc n) k t lt h e = subst (λ (ms : List (Member Constraint)). IsIn t.member ms) (sym (all_more ties n)) (last_or ties n k t (nat_lt k n) refl lt h e (λ low. below_in ties n k t low h e))

-- ---- each colour ascends

coloured_later : (ties : List Tie) (k n : ℕ) → ((y : Member Constraint) → IsIn y (members_among ties) → n < tie_number y) → (y : Member Constraint) → IsIn y (coloured ties k) → n < tie_number y
coloured_later ties k n h y i =
    let o = in_coloured ties k y i in
    h y (subst (λ (m : Member Constraint). IsIn m (members_among ties)) o.2 (mapped_in (λ (t : Tie). t.member) ties o.0 o.1))

rises_by : (m : Member Constraint) (b : Bool) (ms : List (Member Constraint)) → ((y : Member Constraint) → IsIn y ms → tie_number m < tie_number y) → Rises tie_number ms → Rises tie_number (cond b (m ∷ ms) ms)
rises_by m true ms h r = (h, r)
rises_by m false ms h r = r

pub coloured_rise : (ties : List Tie) (k : ℕ) → Rises tie_number (members_among ties) → Rises tie_number (coloured ties k)
coloured_rise [] k r = tt
coloured_rise (t ∷ ts) k r = rises_by t.member (has_colour k t.colour) (coloured ts k) (coloured_later ts k (tie_number t.member) r.0) (coloured_rise ts k r.1)

all_rise : (ties : List Tie) (n : ℕ) → Rises tie_number (members_among ties) → Each (AreRising constraint_number) (colours_below ties n)
all_rise ties zero r = tt
all_rise ties (suc n) r = each_append (AreRising constraint_number) (colours_below ties n) (coloured ties n ∷ []) (all_rise ties n r) (pairs_from_rises tie_number (coloured ties n) (coloured_rise ties n r), tt)

-- ---- no two of one colour share a mover

free_all : (ms : List (Member Constraint)) (movers : Movers) → is_free ms movers ≡ true → All (λ (x : Member Constraint). shares movers x.movers ≡ false) ms
unfolding is_free
free_all ms movers h k d lt =
    shares_back movers (get_or ms k d).movers
    ∙ any_false (λ (x : Member Constraint). shares x.movers movers) ms (not_true (list_any (λ (x : Member Constraint). shares x.movers movers) ms) h) k d lt

apart_is : (ms : List (Member Constraint)) → share_no_mover ms ≡ true → AreApart ms
apart_is [] h = pairs_none (λ (m later : Member Constraint). shares m.movers later.movers ≡ false)
apart_is (m ∷ ms) h =
    let o = both_true (is_free ms m.movers) (share_no_mover ms) h in
    AllPairs-cons (λ (m later : Member Constraint). shares m.movers later.movers ≡ false) m ms (free_all ms m.movers o.0) (apart_is ms o.1)

each_apart : (lists : List (List (Member Constraint))) → list_all share_no_mover lists ≡ true → Each AreApart lists
each_apart [] h = tt
each_apart (ms ∷ lists) h = let o = both_true (share_no_mover ms) (list_all share_no_mover lists) h in (apart_is ms o.0, each_apart lists o.1)

-- ---- none stands twice

abbrev Test : Type 0
Test = Member Constraint → Bool

abbrev pub bit : Bool → ℕ
bit b = cond b 1 0

abbrev is_below : ℕ → Option ℕ → Bool
is_below n None = false
is_below n (Some k) = nat_lt k n

-- how many ties of colours below n pass the test
abbrev tally : Test → ℕ → List Tie → ℕ
tally p n [] = 0
tally p n (t ∷ ts) = bit (p t.member && is_below n t.colour) + tally p n ts

count_put : (p : Test) (m : Member Constraint) (b : Bool) (ms : List (Member Constraint)) → count_by p (cond b (m ∷ ms) ms) ≡ bit (p m && b) + count_by p ms
count_put p m true ms = sum_by-cons (λ (x : Member Constraint). cond (p x) 1 0) m ms ∙ ap (λ (b : Bool). bit b + count_by p ms) (sym (and_true (p m)))
  where
    and_true : (a : Bool) → (a && true) ≡ a
    and_true true = refl
    and_true false = refl
count_put p m false ms = let none : bit (p m && false) ≡ 0 = and_false (p m) in omega (arith, none)
  where
    and_false : (a : Bool) → bit (a && false) ≡ 0
    and_false true = refl
    and_false false = refl

one_more : (b : Bool) (n : ℕ) (o : Option ℕ) → bit (b && is_below (suc n) o) ≡ bit (b && is_below n o) + bit (b && has_colour n o)
one_more false n o = refl
one_more true n None = refl
one_more true n (Some k) = grind (arith, nat_tests)

tally_more : (p : Test) (n : ℕ) (ts : List Tie) → tally p (suc n) ts ≡ tally p n ts + count_by p (coloured ts n)
tally_more p n [] = refl
tally_more p n (t ∷ ts) =
    let here = one_more (p t.member) n t.colour in
    let rest = tally_more p n ts in
    let put = count_put p t.member (has_colour n t.colour) (coloured ts n) in
    omega (arith, here, rest, put)

none_below : (b : Bool) (o : Option ℕ) → bit (b && is_below 0 o) ≡ 0
none_below false o = refl
none_below true None = refl
none_below true (Some k) = grind (arith, nat_tests)

tally_none : (p : Test) (ts : List Tie) → tally p 0 ts ≡ 0
tally_none p [] = refl
tally_none p (t ∷ ts) = let here = none_below (p t.member) t.colour in let rest = tally_none p ts in omega (arith, here, rest)

count_is : (p : Test) (ties : List Tie) (n : ℕ) → count_by p (all_below ties n) ≡ tally p n ties
count_is p ties zero = sym (tally_none p ties)
count_is p ties (suc n) =
    let all = ap (λ (ms : List (Member Constraint)). count_by p ms) (all_more ties n) in
    let both = sum_by-append (λ (x : Member Constraint). cond (p x) 1 0) (all_below ties n) (coloured ties n) in
    let rest = count_is p ties n in
    let more = tally_more p n ties in
    omega (arith, all, both, rest, more)

bit_most : (a b : Bool) → bit (a && b) ≤ bit a
bit_most true true = omega arith
bit_most true false = omega arith
bit_most false b = omega arith

tally_most : (p : Test) (n : ℕ) (ts : List Tie) → tally p n ts ≤ count_by p (members_among ts)
tally_most p n [] = omega arith
tally_most p n (t ∷ ts) =
    let here = bit_most (p t.member) (is_below n t.colour) in
    let rest = tally_most p n ts in
    let put = sum_by-cons (λ (x : Member Constraint). cond (p x) 1 0) t.member (members_among ts) in
    omega (arith, here, rest, put)

none_counts : (n : ℕ) (ms : List (Member Constraint)) → ((y : Member Constraint) → IsIn y ms → n < tie_number y) → count_by (λ (m : Member Constraint). tie_number m == n) ms ≡ 0
none_counts n [] h = refl
none_counts n (m ∷ ms) h =
    let high : n < tie_number m = h m (inl refl) in
    let here : bit (tie_number m == n) ≡ 0 = grind (arith, nat_tests) in
    let rest = none_counts n ms (λ y i. h y (inr i)) in
    let put = sum_by-cons (λ (x : Member Constraint). cond (tie_number x == n) 1 0) m ms in
    omega (arith, here, rest, put)

one_by : (n : ℕ) (m : Member Constraint) (ms : List (Member Constraint)) (b : Bool) → (tie_number m == n) ≡ b → ((y : Member Constraint) → IsIn y ms → tie_number m < tie_number y) → count_by (λ (x : Member Constraint). tie_number x == n) ms ≤ 1
    → bit b + count_by (λ (x : Member Constraint). tie_number x == n) ms ≤ 1
one_by n m ms true e h rest =
    let same : tie_number m ≡ n = equal_n (tie_number m) n e in
    let none = none_counts n ms (λ y i. subst (λ (k : ℕ). k < tie_number y) same (h y i)) in
    omega (arith, none)
one_by n m ms false e h rest = omega (arith, rest)

one_counts : (n : ℕ) (ms : List (Member Constraint)) → Rises tie_number ms → count_by (λ (m : Member Constraint). tie_number m == n) ms ≤ 1
one_counts n [] r = omega arith
one_counts n (m ∷ ms) r =
    let put = sum_by-cons (λ (x : Member Constraint). cond (tie_number x == n) 1 0) m ms in
    let one = one_by n m ms (tie_number m == n) refl r.0 (one_counts n ms r.1) in
    omega (arith, put, one)

once_below : (ties : List Tie) (k n : ℕ) → Rises tie_number (members_among ties) → count_by (λ (m : Member Constraint). tie_number m == n) (all_below ties k) ≤ 1
once_below ties k n r =
    let p : Test = λ m. tie_number m == n in
    let is = count_is p ties k in
    let most = tally_most p k ties in
    let one = one_counts n (members_among ties) r in
    omega (arith, is, most, one)

-- ---- a colouring

-- the lists of all colours, and of the overflow
abbrev pub saved_lists : List Tie → List (List (Member Constraint))
saved_lists ties = colours_below ties (COLOURS + 1)

pub colouring_is : (ties : List Tie) → Rises tie_number (members_among ties) → list_all share_no_mover (colours_below ties COLOURS) ≡ true → IsColouring constraint_number (saved_lists ties)
colouring_is ties r apart = record {
  count = colours_long ties (COLOURS + 1);
  rising = all_from_each (AreRising constraint_number) (saved_lists ties) (all_rise ties (COLOURS + 1) r);
  apart = subst (λ (lists : List (List (Member Constraint))). All AreApart lists) (sym (take_front COLOURS (colours_below ties COLOURS) (coloured ties COLOURS ∷ []) (colours_long ties COLOURS))) (all_from_each AreApart (colours_below ties COLOURS) (each_apart (colours_below ties COLOURS) apart));
  once = λ n. once_below ties (COLOURS + 1) n r;
}

-- ---- just those that act have one

asleep_by : (asleep loose : Bool) → is_asleep (cond asleep Asleep (cond loose Loose Whole)) ≡ asleep
asleep_by true loose = refl
asleep_by false true = refl
asleep_by false false = refl

pub awake_by : (o : Option Label) (l : Label) → o ≡ Some l → awake_label o ≡ not (is_asleep l.state)
awake_by None l e = absurd (none-some l e)
awake_by (Some v) l e = ap (λ (x : Label). not (is_asleep x.state)) (same_Some v l e)

awake_is : (ms : List Membership) (slot : ℕ) (l : Label) → label_at (map label_of ms) slot ≡ Some l → is_mover_awake (map label_of ms) slot ≡ not (membership_at ms slot).asleep
awake_is ms slot l e =
    let at = label_there ms slot l e in
    let m : Membership = membership_at ms slot in
    awake_by (label_at (map label_of ms) slot) l e ∙ ap (λ (x : IslandState). not (is_asleep x)) at.state ∙ ap (λ (b : Bool). not b) (asleep_by m.asleep m.loose)

-- what is known of a tie
pub record IsTie (ms : List Membership) (t : Tie) : Type 0 where
  pub movers : AreMovers (map label_of ms) t.member.movers
  pub kept : is_tie_kept ms t ≡ true
  pub well : is_coloured_well ms t ≡ true
  pub colour : IsColour t.colour

coloured_as : (ms : List Membership) (t : Tie) → IsTie ms t → is_some t.colour ≡ is_mover_awake (map label_of ms) t.member.movers.first
coloured_as ms t h = same_truth (is_some t.colour) (not (membership_at ms t.member.movers.first).asleep) h.well ∙ sym (awake_is ms t.member.movers.first h.movers.first.0 h.movers.first.1)

second_too : (ms : List Membership) (t : Tie) → are_named_well ms 0 ms ≡ true → IsTie ms t → is_mover_awake (map label_of ms) t.member.movers.first ≡ true → (b : ℕ) → t.member.movers.second ≡ Some b → is_mover_awake (map label_of ms) b ≡ true
second_too ms t named h awake b e =
    let o = tie_together ms t b named h.kept h.movers e in
    ap (λ (v : Option Label). awake_label v) (o.2 ∙ sym o.1) ∙ awake

acts_if : (ms : List Membership) (t : Tie) → are_named_well ms 0 ms ≡ true → IsTie ms t → is_some t.colour ≡ true → are_awake (map label_of ms) t.member.movers ≡ true
acts_if ms t named h some =
    let first : is_mover_awake (map label_of ms) t.member.movers.first ≡ true = sym (coloured_as ms t h) ∙ some in
    all_awake (map label_of ms) t.member.movers.first t.member.movers.second first (second_too ms t named h first)

pub acting_is : (ms : List Membership) (ties : List Tie) → are_named_well ms 0 ms ≡ true → ((t : Tie) → IsIn t ties → IsTie ms t) → (m : Member Constraint) → Contains (all_members (saved_lists ties)) m ↔ (Contains (members_among ties) m × (are_awake (map label_of ms) m.movers ≡ true))
acting_is ms ties named each m = (
  λ h. let o = in_below ties (COLOURS + 1) m (in_from_contains (all_members (saved_lists ties)) m h) in (
    contains_from_in (members_among ties) m (subst (λ (v : Member Constraint). IsIn v (members_among ties)) o.2 (mapped_in (λ (t : Tie). t.member) ties o.0 o.1)),
    subst (λ (v : Member Constraint). are_awake (map label_of ms) v.movers ≡ true) o.2 (acts_if ms o.0 named (each o.0 o.1) o.3),
  ),
  λ h.
      let o = in_mapped (λ (t : Tie). t.member) ties m (in_from_contains (members_among ties) m h.0) in
      let t : Tie = o.of in
      let same : m ≡ t.member = o.is in
      let awake : is_mover_awake (map label_of ms) t.member.movers.first ≡ true = awake_first (map label_of ms) t.member.movers.first t.member.movers.second (subst (λ (v : Member Constraint). are_awake (map label_of ms) v.movers ≡ true) same h.1) in
      let colour = some_item t.colour (coloured_as ms t (each t o.there) ∙ awake) in
      let few : colour.0 ≤ COLOURS = (each t o.there).colour colour.0 colour.1 in
      contains_from_in (all_members (saved_lists ties)) m (subst (λ (v : Member Constraint). IsIn v (all_members (saved_lists ties))) (sym same) (below_in ties (COLOURS + 1) colour.0 t (omega (arith, few)) o.there colour.1)),
)

-- the colours are of ties
pub lists_are_ties : (ties : List Tie) (m : Member Constraint) → Contains (all_members (saved_lists ties)) m → Contains (members_among ties) m
lists_are_ties ties m h =
    let o = in_below ties (COLOURS + 1) m (in_from_contains (all_members (saved_lists ties)) m h) in
    contains_from_in (members_among ties) m (subst (λ (v : Member Constraint). IsIn v (members_among ties)) o.2 (mapped_in (λ (t : Tie). t.member) ties o.0 o.1))
