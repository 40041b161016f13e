-- Questions by their tests: after a question no clause up to a number is broken, just if none was before and its tests
-- up to this number hold.
use Rattle.std.proofs.Common.{◌≡◌, ℕ, zero, suc, ◌<◌, ◌≤◌, ◌&&◌, ◌||◌, Bool, true, false, cond, nat_lt, List, [], ◌∷◌, Option, Some, None, refl, sym, ap, ◌∙◌, subst, arith}
use Rattle.std.proofs.lemmas.Bool.{false≢true}
use Rattle.std.proofs.lemmas.Bool.Decides.{nat_tests}
use Rattle.graph_colours.proofs.Cases.{by_test}
use Rattle.world_file_base.specs.Asks.{Ask, asked, clause_number, lesser_clause}
use Rattle.world_file_base.specs.declared.clause.Clause.{Clause}
use Rattle.world_file_base.specs.declared.clause.Clause.TheVariants.{Form, Limits, Generations, References, FatBoxes, Memberships, Links, Islands, Colours, Momentum}
use Rattle.world_file_base.specs.declared.reader.Reader.{Reader}
use Rattle.world_file.proofs.Tests.{both_true}

-- ---- tests by the numbers of their clauses

-- the test of each clause from the first on, none where it asks nothing
abbrev pub Tests : Type 0
Tests = List (Option Bool)

abbrev pub Holds : Option Bool → Type 0
Holds None = Unit {0}
Holds (Some b) = b ≡ true

-- the first n of them hold
abbrev pub Hold : ℕ → Tests → Type 0
Hold zero ts = Unit {0}
Hold (suc n) [] = Unit {0}
Hold (suc n) (t ∷ ts) = Holds t × Hold n ts

-- all of them hold
abbrev pub AllHold : Tests → Type 0
AllHold [] = Unit {0}
AllHold (t ∷ ts) = Holds t × AllHold ts

-- one of them after the others
abbrev pub behind : ℕ → Bool → Tests
behind zero b = Some b ∷ []
behind (suc n) b = None ∷ behind n b

-- how many clauses stand before a clause
abbrev pub before : Clause → ℕ
before Form = 0
before Limits = 1
before Generations = 2
before References = 3
before FatBoxes = 4
before Memberships = 5
before Links = 6
before Islands = 7
before Colours = 8
before Momentum = 9

pub number_is : (clause : Clause) → clause_number clause ≡ suc (before clause)
number_is Form = refl
number_is Limits = refl
number_is Generations = refl
number_is References = refl
number_is FatBoxes = refl
number_is Memberships = refl
number_is Links = refl
number_is Islands = refl
number_is Colours = refl
number_is Momentum = refl

-- those of two questions
abbrev pub joined : Option Bool → Option Bool → Option Bool
joined None t = t
joined (Some a) None = Some a
joined (Some a) (Some b) = Some (a && b)

abbrev pub both : Tests → Tests → Tests
both [] ts = ts
both (s ∷ ss) [] = s ∷ ss
both (s ∷ ss) (t ∷ ts) = joined s t ∷ both ss ts

-- they are asked if the test fails
abbrev pub excused : Bool → Option Bool → Option Bool
excused u None = None
excused u (Some b) = Some (u || b)

abbrev pub unless : Bool → Tests → Tests
unless u [] = []
unless u (t ∷ ts) = excused u t ∷ unless u ts

-- ---- what holds of them

pub both_hold : (a b : Bool) → a ≡ true → b ≡ true → (a && b) ≡ true
both_hold true b h k = k
both_hold false b h k = absurd (false≢true h)

joined_to : (s t : Option Bool) → Holds s → Holds t → Holds (joined s t)
joined_to None t h k = k
joined_to (Some a) None h k = h
joined_to (Some a) (Some b) h k = both_hold a b h k

joined_of : (s t : Option Bool) → Holds (joined s t) → Holds s × Holds t
joined_of None t h = (tt, h)
joined_of (Some a) None h = (h, tt)
joined_of (Some a) (Some b) h = both_true a b h

both_to : (n : ℕ) (ss ts : Tests) → Hold n ss → Hold n ts → Hold n (both ss ts)
both_to zero ss ts h k = tt
both_to (suc n) [] ts h k = k
both_to (suc n) (s ∷ ss) [] h k = h
both_to (suc n) (s ∷ ss) (t ∷ ts) h k = (joined_to s t h.0 k.0, both_to n ss ts h.1 k.1)

both_of : (n : ℕ) (ss ts : Tests) → Hold n (both ss ts) → Hold n ss × Hold n ts
both_of zero ss ts h = (tt, tt)
both_of (suc n) [] ts h = (tt, h)
both_of (suc n) (s ∷ ss) [] h = (h, tt)
both_of (suc n) (s ∷ ss) (t ∷ ts) h =
    let one = joined_of s t h.0 in
    let more = both_of n ss ts h.1 in
    ((one.0, more.0), (one.1, more.1))

none_hold : (n : ℕ) → Hold n []
none_hold zero = tt
none_hold (suc n) = tt

all_hold : (n : ℕ) (ts : Tests) → AllHold ts → Hold n ts
all_hold zero ts h = tt
all_hold (suc n) [] h = tt
all_hold (suc n) (t ∷ ts) h = (h.0, all_hold n ts h.1)

behind_true : (n k : ℕ) → Hold n (behind k true)
behind_true zero k = tt
behind_true (suc n) zero = (refl, none_hold n)
behind_true (suc n) (suc k) = (tt, behind_true n k)

behind_early : (n k : ℕ) (b : Bool) → n ≤ k → Hold n (behind k b)
behind_early zero k b le = tt
behind_early (suc n) zero b le = absurd (omega (arith, le))
behind_early (suc n) (suc k) b le = (tt, behind_early n k b (omega (arith, le)))

behind_false : (n k : ℕ) → Hold n (behind k false) → n ≤ k
behind_false zero k h = omega arith
behind_false (suc n) zero h = absurd (false≢true h.0)
behind_false (suc n) (suc k) h = let less = behind_false n k h.1 in omega (arith, less)

excused_true : (t : Option Bool) → Holds (excused true t)
excused_true None = tt
excused_true (Some b) = refl

unless_true : (n : ℕ) (ts : Tests) → Hold n (unless true ts)
unless_true zero ts = tt
unless_true (suc n) [] = tt
unless_true (suc n) (t ∷ ts) = (excused_true t, unless_true n ts)

excused_false : (t : Option Bool) → excused false t ≡ t
excused_false None = refl
excused_false (Some b) = refl

unless_false : (ts : Tests) → unless false ts ≡ ts
unless_false [] = refl
unless_false (t ∷ ts) = ap (λ (o : Option Bool). o ∷ unless false ts) (excused_false t) ∙ ap (λ (os : Tests). t ∷ os) (unless_false ts)

-- ---- what was found broken

-- none of the first n clauses
abbrev pub IsClear : ℕ → Option Clause → Type 0
IsClear n None = Unit {0}
IsClear n (Some clause) = n < clause_number clause

below_other : (a b n : ℕ) → nat_lt a b ≡ true → n < a → n < b
below_other a b n h k = grind (arith, nat_tests)

below_this : (a b n : ℕ) → nat_lt a b ≡ false → n < b → n < a
below_this a b n h k = grind (arith, nat_tests)

clear_by : (n : ℕ) (clause other : Clause) (t : Bool) → nat_lt (clause_number clause) (clause_number other) ≡ t → IsClear n (cond t (Some clause) (Some other)) → (n < clause_number clause) × (n < clause_number other)
clear_by n clause other true e h = (h, below_other (clause_number clause) (clause_number other) n e h)
clear_by n clause other false e h = (below_this (clause_number clause) (clause_number other) n e h, h)

clear_of : (n : ℕ) (clause : Clause) (o : Option Clause) → IsClear n (lesser_clause clause o) → (n < clause_number clause) × IsClear n o
clear_of n clause None h = (h, tt)
clear_of n clause (Some other) h = clear_by n clause other (nat_lt (clause_number clause) (clause_number other)) refl h

clear_to : (n : ℕ) (clause : Clause) (o : Option Clause) → n < clause_number clause → IsClear n o → IsClear n (lesser_clause clause o)
clear_to n clause None h k = h
clear_to n clause (Some other) h k = by_test (λ o. IsClear n o) (nat_lt (clause_number clause) (clause_number other)) (Some clause) (Some other) (λ _. h) (λ _. k)

-- ---- what a question says

-- it asks these tests and nothing else
pub record Says (tests : Tests) (ask : Ask) : Type 0 where
  pub establishes : (n : ℕ) (r : Reader) → IsClear n (ask r).broken → Hold n tests × IsClear n r.broken
  pub stays : (n : ℕ) (r : Reader) → Hold n tests → IsClear n r.broken → IsClear n (ask r).broken

-- one question after the other
pub after : {ss ts : Tests} {f g : Ask} → Says ss f → Says ts g → Says (both ss ts) (λ r. g (f r))
after {ss} {ts} {f} {g} first second = record {
  establishes = λ n r clear.
      let late = second.establishes n (f r) clear in
      let early = first.establishes n r late.1 in
      (both_to n ss ts early.0 late.0, early.1);
  stays = λ n r hold clear.
      let parts = both_of n ss ts hold in
      second.stays n (f r) parts.1 (first.stays n r parts.0 clear);
}

-- nothing is asked
pub idle : (ts : Tests) → AllHold ts → Says ts (λ r. r)
idle ts all = record { establishes = λ n r clear. (all_hold n ts all, clear); stays = λ n r hold clear. clear }

noted_tells : (n : ℕ) (clause : Clause) (o : Option Clause) → IsClear n (lesser_clause clause o) → Hold n (behind (before clause) false) × IsClear n o
noted_tells n clause o clear =
    let parts = clear_of n clause o clear in
    let less = parts.0 in
    let number = number_is clause in
    (behind_early n (before clause) false (omega (arith, less, number)), parts.1)

noted_stays : (n : ℕ) (clause : Clause) (o : Option Clause) → Hold n (behind (before clause) false) → IsClear n o → IsClear n (lesser_clause clause o)
noted_stays n clause o hold clear =
    let less = behind_false n (before clause) hold in
    let number = number_is clause in
    clear_to n clause o (omega (arith, less, number)) clear

pub asks : (b : Bool) (clause : Clause) → Says (behind (before clause) b) (asked b clause)
asks true clause = record { establishes = λ n r clear. (behind_true n (before clause), clear); stays = λ n r hold clear. clear }
asks false clause = record { establishes = λ n r clear. noted_tells n clause r.broken clear; stays = λ n r hold clear. noted_stays n clause r.broken hold clear }

-- it is asked if the test fails
pub asks_unless : {ts : Tests} {f : Ask} (u : Bool) → Says ts f → Says (unless u ts) (λ r. cond u r (f r))
asks_unless {ts} {f} true says = record { establishes = λ n r clear. (unless_true n ts, clear); stays = λ n r hold clear. clear }
asks_unless {ts} {f} false says = record {
  establishes = λ n r clear.
      let told = says.establishes n r clear in
      (subst (λ (os : Tests). Hold n os) (sym (unless_false ts)) told.0, told.1);
  stays = λ n r hold clear. says.stays n r (subst (λ (os : Tests). Hold n os) (unless_false ts) hold) clear;
}

-- other tests that hold where these do, and just there
pub says_too : {ss ts : Tests} {f : Ask} → ((n : ℕ) → Hold n ss → Hold n ts) → ((n : ℕ) → Hold n ts → Hold n ss) → Says ss f → Says ts f
says_too {ss} {ts} {f} to of says = record {
  establishes = λ n r clear. let told = says.establishes n r clear in (to n told.0, told.1);
  stays = λ n r hold clear. says.stays n r (of n hold) clear;
}
