-- Passes over some of the rows: one row more, and one pass after another.
use Rattle.std.proofs.Common.{◌≡◌, ℕ, ◌+◌, ◌-◌, ◌<◌, ◌≤◌, ◌^◌, true, List, [], ◌∷◌, ◌++◌, length, get_or, set, take, drop, All, arith, refl, sym, ap, ◌∙◌, subst}
use Rattle.std.proofs.lemmas.List.{drop-drop, drop-set-add, get_or-drop, length-drop, take_more, take_more_set}
use Rattle.std.proofs.lemmas.List.Elements.{All-append, All-cons, All-nil}
use Rattle.body_handles.specs.declared.slot_table.TheConstants.{MAX_SLOTS}
use Rattle.fixed_geom.specs.Vectors.{plus, zero_vector}
use Rattle.fixed_geom.specs.declared.vectors.Vec2.{Vec2}
use Rattle.momenta.specs.Gains.{IsGain}
use Rattle.momenta.specs.declared.gain.Gain.{Gain}
use Rattle.momenta.specs.declared.state.BodyState.{BodyState}
use Rattle.momenta.specs.declared.state.Ends.{Ends}
use Rattle.colour_solver_base.specs.RowsAfter.{RowAfter}
use Rattle.colour_solver.specs.declared.row_visits.Slots.{Slots}
use Rattle.colour_solver.specs.States.{AreAllStates, AreSameStates, as_vector, total}
use Rattle.colour_solver.specs.RowVisits.{AreRowsOn, IsPassed, IsRowOn, after, between, ends_of, got, passed, rows_passed, share, visit_of}
use Rattle.colour_solver.proofs.SameLaws.{same_on}
use Rattle.colour_solver.proofs.VisitLaws.{given-small}
use Rattle.colour_solver.proofs.VectorLaws.{plus_assoc, plus_zero, zero_plus}

-- ---- one row more

-- the place of the row i among those from n on
place : (n i : ℕ) → n ≤ i → (i + 1 - n) ≡ (i - n) + 1
place n i low = omega (arith, low)

back : (n i : ℕ) → n ≤ i → n + (i - n) ≡ i
back n i low = omega (arith, low)

inside : {R : Type 0} (n i : ℕ) (rows : List R) → n ≤ i → i < length rows → i - n < length (drop n rows)
inside n i rows low h = let long = length-drop n rows in omega (arith, low, h, long)

pub between_more : {R : Type 0} (n i : ℕ) (rows : List R) (d : R) → n ≤ i → i < length rows → between n (i + 1) rows ≡ between n i rows ++ get_or rows i d ∷ []
between_more {R} n i rows d low h =
    ap (λ (k : ℕ). take k (drop n rows)) (place n i low)
    ∙ take_more (drop n rows) (i - n) d (inside n i rows low h)
    ∙ ap (λ (r : R). between n i rows ++ r ∷ []) (get_or-drop n rows (i - n) d ∙ ap (λ (k : ℕ). get_or rows k d) (back n i low))

pub between_set : {R : Type 0} (n i : ℕ) (rows : List R) (r : R) → n ≤ i → i < length rows → between n (i + 1) (set rows i r) ≡ between n i rows ++ r ∷ []
between_set {R} n i rows r low h =
    let moved : drop n (set rows i r) ≡ set (drop n rows) (i - n) r = ap (λ (k : ℕ). drop n (set rows k r)) (sym (back n i low)) ∙ drop-set-add n rows (i - n) r in
    ap (λ (l : List R). take (i + 1 - n) l) moved
    ∙ ap (λ (k : ℕ). take k (set (drop n rows) (i - n) r)) (place n i low)
    ∙ take_more_set (drop n rows) (i - n) r (inside n i rows low h)

-- the rows behind a place are as they were, and so is the row there
pub same_there : {R : Type 0} (i : ℕ) (rows all : List R) (d : R) → drop i rows ≡ drop i all → get_or rows i d ≡ get_or all i d
same_there {R} i rows all d same =
    let here : i + 0 ≡ i = omega arith in
    ap (λ (k : ℕ). get_or rows k d) (sym here) ∙ sym (get_or-drop i rows 0 d) ∙ ap (λ (l : List R). get_or l 0 d) same ∙ get_or-drop i all 0 d ∙ ap (λ (k : ℕ). get_or all k d) here

-- ---- one pass after another

pub passed_then : {R : Type 0} (at : R → Slots) (f : R → Ends → RowAfter R) (ss : List BodyState) (xs ys : List R) → passed at f ss (xs ++ ys) ≡ passed at f (passed at f ss xs) ys
passed_then at f ss [] ys = refl
passed_then at f ss (x ∷ xs) ys = passed_then at f (after at f ss x) xs ys

pub rows_then : {R : Type 0} (at : R → Slots) (f : R → Ends → RowAfter R) (ss : List BodyState) (xs ys : List R) → rows_passed at f ss (xs ++ ys) ≡ rows_passed at f ss xs ++ rows_passed at f (passed at f ss xs) ys
rows_then at f ss [] ys = refl
rows_then {R} at f ss (x ∷ xs) ys = ap (λ (l : List R). (visit_of at f ss x).row ∷ l) (rows_then at f (after at f ss x) xs ys)

pub share_then : {R : Type 0} (at : R → Slots) (f : R → Ends → RowAfter R) (ss : List BodyState) (xs ys : List R) → share at f ss (xs ++ ys) ≡ plus (share at f ss xs) (share at f (passed at f ss xs) ys)
share_then at f ss [] ys = sym (zero_plus (share at f ss ys))
share_then at f ss (x ∷ xs) ys =
    ap (plus (got (ends_of at ss x) (visit_of at f ss x).ends)) (share_then at f (after at f ss x) xs ys)
    ∙ plus_assoc (got (ends_of at ss x) (visit_of at f ss x).ends) (share at f (after at f ss x) xs) (share at f (passed at f (after at f ss x) xs) ys)

adds_both : (a b c v w : Vec2) → b ≡ plus a v → c ≡ plus b w → c ≡ plus a (plus v w)
adds_both a b c v w h k = k ∙ (ap (λ (u : Vec2). plus u w) h ∙ sym (plus_assoc a v w))

pub passed_on : {R : Type 0} (at : R → Slots) (is : R → Type 0) (f : R → Ends → RowAfter R) (ss ts us : List BodyState) (rows more visited rest : List R) (given extra : Vec2) → IsPassed at is f ss rows ts visited given → IsPassed at is f ts more us rest extra
    → IsPassed at is f ss (rows ++ more) us (visited ++ rest) (plus given extra)
passed_on {R} at is f ss ts us rows more visited rest given extra first next = record {
  states = next.states ∙ ap (λ (l : List BodyState). passed at f l more) first.states ∙ sym (passed_then at f ss rows more);
  rows_are =
      ap (λ (l : List R). l ++ rest) first.rows_are ∙ ap (λ (l : List R). rows_passed at f ss rows ++ l) (next.rows_are ∙ ap (λ (l : List BodyState). rows_passed at f l more) first.states) ∙ sym (rows_then at f ss rows more);
  share_is =
      ap (λ (v : Vec2). plus v extra) first.share_is ∙ ap (plus (share at f ss rows)) (next.share_is ∙ ap (λ (l : List BodyState). share at f l more) first.states) ∙ sym (share_then at f ss rows more);
  all_states = next.all_states;
  all_rows = All-append (IsRowOn at is (length us)) visited rest (subst (λ (n : ℕ). AreRowsOn at is n visited) (sym next.same.long) first.all_rows) next.all_rows;
  same = same_on ss ts us first.same next.same;
  momentum = adds_both (total ss) (total ts) (total us) given extra first.momentum next.momentum;
}

one_of : {X : Type 0} (P : X → Type 0) (x : X) → P x → All P (x ∷ [])
one_of P x here = All-cons P x [] here (All-nil P)

-- between two movers nothing is got
pub got_movers : (e after : Ends) → e.a.movable ≡ true → e.b.movable ≡ true → got e after ≡ zero_vector
got_movers e after first second = rw (first, second) refl

-- the visit of one row
pub passed_one : {R : Type 0} (at : R → Slots) (is : R → Type 0) (f : R → Ends → RowAfter R) (ss ts : List BodyState) (r t : R) (given : Vec2) → ts ≡ after at f ss r → t ≡ (visit_of at f ss r).row
    → given ≡ got (ends_of at ss r) (visit_of at f ss r).ends → AreAllStates ts → IsRowOn at is (length ts) t → AreSameStates ss ts
    → total ts ≡ plus (total ss) given → IsPassed at is f ss (r ∷ []) ts (t ∷ []) given
passed_one {R} at is f ss ts r t given are row_is got_is all below same sum = record {
  states = are;
  rows_are = ap (λ (k : R). k ∷ []) row_is;
  share_is = got_is ∙ sym (plus_zero (got (ends_of at ss r) (visit_of at f ss r).ends));
  all_states = all;
  all_rows = one_of (IsRowOn at is (length ts)) t below;
  same = same;
  momentum = sum;
}

pub passed_alike : {R : Type 0} (at : R → Slots) (is : R → Type 0) (f : R → Ends → RowAfter R) (ss ts : List BodyState) (rows old visited new : List R) (given : Vec2) → old ≡ rows → new ≡ visited → IsPassed at is f ss rows ts visited given → IsPassed at is f ss old ts new given
passed_alike {R} at is f ss ts rows old visited new given e h known =
    subst (λ (l : List R). IsPassed at is f ss l ts new given) (sym e) (subst (λ (l : List R). IsPassed at is f ss rows ts l given) (sym h) known)

-- one row more of those from n on
pub passed_more : {R : Type 0} (at : R → Slots) (is : R → Type 0) (f : R → Ends → RowAfter R) (ss ts us : List BodyState) (n i : ℕ) (all rows : List R) (r t : R) (given extra : Vec2) → n ≤ i → i < length all → i < length rows → r ≡ get_or rows i r → drop i rows ≡ drop i all
    → IsPassed at is f ss (between n i all) ts (between n i rows) given → IsPassed at is f ts (r ∷ []) us (t ∷ []) extra → IsPassed at is f ss (between n (i + 1) all) us (between n (i + 1) (set rows i t)) (plus given extra)
passed_more {R} at is f ss ts us n i all rows r t given extra low h there here same first next =
    passed_alike at is f ss us (between n i all ++ r ∷ []) (between n (i + 1) all) (between n i rows ++ t ∷ []) (between n (i + 1) (set rows i t)) (plus given extra)
    (between_more n i all r low h ∙ ap (λ (k : R). between n i all ++ k ∷ []) (sym (here ∙ same_there i rows all r same)))
    (between_set n i rows t low there)
    (passed_on at is f ss ts us (between n i all) (r ∷ []) (between n i rows) (t ∷ []) given extra first next)

-- what changes the total of so few bodies is small
pub passed_small : {R : Type 0} (at : R → Slots) (is : R → Type 0) (f : R → Ends → RowAfter R) (ss ts : List BodyState) (rows visited : List R) (g : Gain) → length ss ≤ MAX_SLOTS → AreAllStates ss → IsPassed at is f ss rows ts visited (as_vector g) → IsGain (2 ^ 78) g
passed_small at is f ss ts rows visited g few all known =
    let still : length ts ≤ MAX_SLOTS = omega (arith, few, known.same.long) in
    let within = given-small ss ts (as_vector g) all known.all_states few still known.momentum in
    record { x = within.x; y = within.y }

-- rows that are the same from one place on are so from a later one on
pub drop_further : {R : Type 0} (n e : ℕ) (rows all : List R) → n ≤ e → drop n rows ≡ drop n all → drop e rows ≡ drop e all
drop_further {R} n e rows all h same =
    let there : n + (e - n) ≡ e = omega (arith, h) in
    ap (λ (k : ℕ). drop k rows) (sym there) ∙ sym (drop-drop (e - n) n rows) ∙ ap (λ (l : List R). drop (e - n) l) same ∙ drop-drop (e - n) n all ∙ ap (λ (k : ℕ). drop k all) there
