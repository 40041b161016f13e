-- The first clause that the questions find broken is the first of the table whose test fails.
use Rattle.std.proofs.Common.{◌≡◌, ℕ, zero, suc, ◌+◌, ◌<◌, Bool, true, false, not, cond, find, List, [], ◌∷◌, Option, Some, None, refl, sym, ap, ◌∙◌, subst, arith}
use Rattle.std.proofs.lemmas.Bool.{false≢true}
use Rattle.world_file_base.specs.Asks.{Ask, clause_number, no_asks}
use Rattle.world_file_base.specs.declared.clause.Clause.{Clause}
use Rattle.world_file_base.specs.declared.clause.Clause.TheVariants.{Form, Limits, Generations, References, FatBoxes, Memberships, Links, Islands, Colours, Momentum}
use Rattle.world_file.specs.Clauses.{clauses, first_broken, first_unfit, keep_together, keeps}
use Rattle.world_file.specs.AskedParts.{fitting_asks, parts_asks, AskingFindsTheFirst}
use Rattle.world_file.specs.Saved.{Saved, saved_in}
use Rattle.world_file.proofs.ClauseTests.{says_fitting, says_parts}
use Rattle.world_file.proofs.TestLaws.{Hold, IsClear, Says, Tests, after, before, idle, number_is}

-- ---- a clause is known by how many stand before it

clause_at : ℕ → List Clause → Clause
clause_at n [] = Form
clause_at zero (c ∷ cs) = c
clause_at (suc n) (c ∷ cs) = clause_at n cs

at_is : (c : Clause) → clause_at (before c) clauses ≡ c
unfolding clause_at
at_is Form = refl
at_is Limits = refl
at_is Generations = refl
at_is References = refl
at_is FatBoxes = refl
at_is Memberships = refl
at_is Links = refl
at_is Islands = refl
at_is Colours = refl
at_is Momentum = refl

same_clause : (c d : Clause) → before c ≡ before d → c ≡ d
same_clause c d e = sym (at_is c) ∙ ap (λ (n : ℕ). clause_at n clauses) e ∙ at_is d

-- the first clause that is broken is known by which beginnings of the table are kept

below_own : (c : Clause) → before c < clause_number c
below_own c = let number = number_is c in omega (arith, number)

not_own : (n : ℕ) → n < n → ⊥
not_own n h = omega (arith, h)

close : (a b m n : ℕ) → m ≡ suc a → n ≡ suc b → a < n → b < m → a ≡ b
close a b m n e f h k = omega (arith, e, f, h, k)

same_clear : (a b : Option Clause) → ((n : ℕ) → IsClear n a → IsClear n b) → ((n : ℕ) → IsClear n b → IsClear n a) → a ≡ b
same_clear None None to of = refl
same_clear None (Some c) to of = absurd (not_own (clause_number c) (to (clause_number c) tt))
same_clear (Some c) None to of = absurd (not_own (clause_number c) (of (clause_number c) tt))
same_clear (Some c) (Some d) to of =
    let near = close (before c) (before d) (clause_number c) (clause_number d) (number_is c) (number_is d) (to (before c) (below_own c)) (of (before d) (below_own d)) in
    ap (λ (x : Clause). Some x) (same_clause c d near)

-- ---- the tests of a table

abbrev rows : (Clause → Bool) → List Clause → Tests
rows test [] = []
rows test (c ∷ cs) = Some (test c) ∷ rows test cs

abbrev first_in : (Clause → Bool) → List Clause → Option Clause
first_in test cs = find (λ c. not (test c)) cs

-- clauses whose numbers follow n, one by one
abbrev AreFrom : ℕ → List Clause → Type 0
AreFrom n [] = Unit {0}
AreFrom n (c ∷ cs) = (clause_number c ≡ suc n) × AreFrom (suc n) cs

clauses_are : AreFrom 0 clauses
clauses_are = (refl, (refl, (refl, (refl, (refl, (refl, (refl, (refl, (refl, (refl, tt))))))))))

weaker : (n : ℕ) (o : Option Clause) → IsClear (suc n) o → IsClear n o
weaker n None h = tt
weaker n (Some c) h = omega (arith, h)

later_by : (n : ℕ) (c : Clause) (t : Bool) (o : Option Clause) → clause_number c ≡ suc n → IsClear (suc n) o → IsClear n (cond (not t) (Some c) o)
later_by n c true o e clear = weaker n o clear
later_by n c false o e clear = omega (arith, e)

later : (test : Clause → Bool) (n : ℕ) (cs : List Clause) → AreFrom n cs → IsClear n (first_in test cs)
later test n [] are = tt
later test n (c ∷ cs) are = later_by n c (test c) (first_in test cs) are.0 (later test (suc n) cs are.1)

first_tells : (k n m : ℕ) (c : Clause) (t : Bool) (o : Option Clause) → m ≡ suc k + n → clause_number c ≡ suc n → IsClear m (cond (not t) (Some c) o) → (t ≡ true) × IsClear m o
first_tells k n m c true o e f clear = (refl, clear)
first_tells k n m c false o e f clear = absurd (omega (arith, e, f, clear))

table_tells : (test : Clause → Bool) (k n m : ℕ) (cs : List Clause) → m ≡ k + n → AreFrom n cs → IsClear m (first_in test cs) → Hold k (rows test cs)
table_tells test zero n m cs e are clear = tt
table_tells test (suc k) n m [] e are clear = tt
table_tells test (suc k) n m (c ∷ cs) e are clear =
    let one = first_tells k n m c (test c) (first_in test cs) e are.0 clear in
    (one.0, table_tells test k (suc n) m cs (omega (arith, e)) are.1 one.1)

first_stays : (m : ℕ) (c : Clause) (t : Bool) (o : Option Clause) → t ≡ true → IsClear m o → IsClear m (cond (not t) (Some c) o)
first_stays m c true o h clear = clear
first_stays m c false o h clear = absurd (false≢true h)

table_stays : (test : Clause → Bool) (k n m : ℕ) (cs : List Clause) → m ≡ k + n → AreFrom n cs → Hold k (rows test cs) → IsClear m (first_in test cs)
table_stays test zero n m cs e are hold = let same : n ≡ m = omega (arith, e) in subst (λ (x : ℕ). IsClear x (first_in test cs)) same (later test n cs are)
table_stays test (suc k) n m [] e are hold = tt
table_stays test (suc k) n m (c ∷ cs) e are hold = first_stays m c (test c) (first_in test cs) hold.0 (table_stays test k (suc n) m cs (omega (arith, e)) are.1 hold.1)

-- what questions find broken that ask the tests of a table
table_found : (test : Clause → Bool) (ask : Ask) → Says (rows test clauses) ask → (ask no_asks).broken ≡ first_in test clauses
table_found test ask says =
    same_clear (ask no_asks).broken (first_in test clauses)
    (λ n clear. table_stays test n 0 n clauses (omega arith) clauses_are (says.establishes n no_asks clear).0)
    (λ n clear. says.stays n no_asks (table_tells test n 0 n clauses (omega arith) clauses_are clear) tt)

-- ---- of what was read, and of a value

pub found_unfit : (s : Saved) → (fitting_asks s no_asks).broken ≡ first_unfit s
unfolding first_unfit
found_unfit s = table_found (λ c. keep_together c s) (fitting_asks s) (after (idle (Some true ∷ Some true ∷ Some true ∷ None ∷ Some true ∷ []) (refl, (refl, (refl, (tt, (refl, tt)))))) (says_fitting s))

pub asking_finds_the_first : AskingFindsTheFirst
unfolding first_broken
asking_finds_the_first d = table_found (λ c. keeps c d) (λ r. fitting_asks (saved_in d) (parts_asks d r)) (after (says_parts d) (says_fitting (saved_in d)))
