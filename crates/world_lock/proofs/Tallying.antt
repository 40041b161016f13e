-- The tallies of a longer list of calls.
use Rattle.std.proofs.Common.{◌≡◌, ◌≢◌, ℕ, zero, suc, ◌+◌, ◌^◌, ◌<◌, eq-eqb, ne_eqb, List, [], ◌∷◌, ◌++◌, length, cond, Bool, true, false, refl, sym, ap, ◌∙◌, arith, length-append}
use Rattle.std.specs.Prelude.{All, ◌==◌, replicate, slice_index_or, slice_set}
use Rattle.std.proofs.lemmas.Int.{ints}
use Rattle.std.proofs.lemmas.List.{append-nil}
use Rattle.fixed_geom.specs.Vectors.{IsWithin, plus}
use Rattle.fixed_geom.specs.declared.vectors.Vec2.{Vec2}
use Rattle.colour_solver.proofs.VectorLaws.{plus_assoc, plus_zero, zero_plus}
use Rattle.seat_book.specs.History.{IsOther, IsPast}
use Rattle.world_rules.specs.Laws.{push_of}
use Rattle.world_lock.specs.declared.tally.Tally.{Tally}
use Rattle.world_lock.specs.Journals.{Line, command_of}
use Rattle.world_lock.specs.Tallies.{IsTally, calls_of, no_calls, pushed_sum, tallies_from, tally_of, with_call}

-- ---- a seat's own calls

own_head : (seat : ℕ) (e : Line) (es : List Line) → e.seat ≡ seat → calls_of seat (e ∷ es) ≡ e ∷ calls_of seat es
own_head seat e es is = ap (λ (b : Bool). cond b (e ∷ calls_of seat es) (calls_of seat es)) (eq-eqb e.seat seat is)

other_head : (seat : ℕ) (e : Line) (es : List Line) → e.seat ≢ seat → calls_of seat (e ∷ es) ≡ calls_of seat es
other_head seat e es other = ap (λ (b : Bool). cond b (e ∷ calls_of seat es) (calls_of seat es)) (ne_eqb e.seat seat other)

by_head : (b : Bool) (e : Line) (xs ys both : List Line) → both ≡ xs ++ ys → cond b (e ∷ both) both ≡ cond b (e ∷ xs) xs ++ ys
by_head true e xs ys both is = ap (λ l. e ∷ l) is
by_head false e xs ys both is = is

pub calls_append : (seat : ℕ) (xs ys : List Line) → calls_of seat (xs ++ ys) ≡ calls_of seat xs ++ calls_of seat ys
calls_append seat [] ys = refl
calls_append seat (x ∷ xs) ys = by_head (x.seat == seat) x (calls_of seat xs) (calls_of seat ys) (calls_of seat (xs ++ ys)) (calls_append seat xs ys)

pub others_none : (seat : ℕ) (since : List Line) → All (IsOther seat) since → calls_of seat since ≡ []
others_none seat [] all = refl
others_none seat (e ∷ es) all = other_head seat e es (all zero e (omega arith)) ∙ others_none seat es (λ k d l. all (suc k) d (omega arith))

-- what the seat has seen has all its calls
pub past_calls : (seat : ℕ) (seen history : List Line) → IsPast seat seen history → calls_of seat history ≡ calls_of seat seen
past_calls seat seen history p = ap (calls_of seat) p.1 ∙ calls_append seat seen p.0 ∙ ap (λ l. calls_of seat seen ++ l) (others_none seat p.0 p.2) ∙ append-nil (calls_of seat seen)

-- ---- one call more

pub pushed-append : (es fs : List Line) → pushed_sum (es ++ fs) ≡ plus (pushed_sum es) (pushed_sum fs)
pushed-append [] fs = sym (zero_plus (pushed_sum fs))
pushed-append (x ∷ xs) fs = ap (plus (push_of (command_of x))) (pushed-append xs fs) ∙ plus_assoc (push_of (command_of x)) (pushed_sum xs) (pushed_sum fs)

pushed-push : (es : List Line) (e : Line) → pushed_sum (es ++ e ∷ []) ≡ plus (pushed_sum es) (push_of (command_of e))
pushed-push es e = pushed-append es (e ∷ []) ∙ ap (plus (pushed_sum es)) (plus_zero (push_of (command_of e)))

length-push : (es : List Line) (e : Line) → length (es ++ e ∷ []) ≡ length es + 1
length-push es e = omega (arith, length-append es (e ∷ []))

tally_one : (seat : ℕ) (es : List Line) (e : Line) → e.seat ≡ seat → with_call (tally_of seat es) (push_of (command_of e)) ≡ tally_of seat (es ++ e ∷ [])
tally_one seat es e is =
    let own : calls_of seat (es ++ e ∷ []) ≡ calls_of seat es ++ e ∷ [] = calls_append seat es (e ∷ []) ∙ ap (λ l. calls_of seat es ++ l) (own_head seat e [] is) in
    let all : plus (pushed_sum (calls_of seat es)) (push_of (command_of e)) ≡ pushed_sum (calls_of seat (es ++ e ∷ [])) = sym (pushed-push (calls_of seat es) e) ∙ ap pushed_sum (sym own) in
    λ i. record { calls = (sym (length-push (calls_of seat es) e) ∙ ap length (sym own)) i; pushed = record { x = (all i).x; y = (all i).y } }

tally_other : (seat : ℕ) (es : List Line) (e : Line) → e.seat ≢ seat → tally_of seat es ≡ tally_of seat (es ++ e ∷ [])
tally_other seat es e other =
    let same : calls_of seat (es ++ e ∷ []) ≡ calls_of seat es = calls_append seat es (e ∷ []) ∙ ap (λ l. calls_of seat es ++ l) (other_head seat e [] other) ∙ append-nil (calls_of seat es) in
    ap (λ (own : List Line). record { calls = length own; pushed = record { x = (pushed_sum own).x; y = (pushed_sum own).y } }) (sym same)

tallies_other : (start n : ℕ) (es : List Line) (e : Line) → e.seat < start → tallies_from start n es ≡ tallies_from start n (es ++ e ∷ [])
tallies_other start zero es e below = refl
tallies_other start (suc n) es e below = λ i. tally_other start es e (λ is. omega arith) i ∷ tallies_other (suc start) n es e (omega arith) i

pub tallies_step : (start n i : ℕ) (es : List Line) (e : Line) → i < n → e.seat ≡ start + i
    → slice_set (tallies_from start n es) i (with_call (slice_index_or (tallies_from start n es) i no_calls) (push_of (command_of e))) ≡ tallies_from start n (es ++ e ∷ [])
tallies_step start zero i es e l is = absurd (omega arith)
tallies_step start (suc n) zero es e l is = λ k. tally_one start es e (omega (arith, is)) k ∷ tallies_other (suc start) n es e (omega (arith, is)) k
tallies_step start (suc n) (suc i) es e l is = λ k. tally_other start es e (λ same. omega (arith, is, same)) k ∷ tallies_step (suc start) n i es e (omega arith) (omega (arith, is)) k

pub tallies_length : (start n : ℕ) (es : List Line) → length (tallies_from start n es) ≡ n
tallies_length start zero es = refl
tallies_length start (suc n) es = ap suc (tallies_length (suc start) n es)

pub tallies_at : (start n i : ℕ) (es : List Line) (d : Tally) → i < n → slice_index_or (tallies_from start n es) i d ≡ tally_of (start + i) es
tallies_at start zero i es d l = absurd (omega arith)
tallies_at start (suc n) zero es d l = let same : start ≡ start + 0 = omega arith in ap (λ (s : ℕ). tally_of s es) same
tallies_at start (suc n) (suc i) es d l =
    let same : suc start + i ≡ start + suc i = omega arith in
    tallies_at (suc start) n i es d (omega arith) ∙ ap (λ (s : ℕ). tally_of s es) same

pub tallies_none : (start n : ℕ) → tallies_from start n [] ≡ replicate n no_calls
tallies_none start zero = refl
tallies_none start (suc n) = ap (λ l. no_calls ∷ l) (tallies_none (suc start) n)

-- ---- sizes

pub small_none : (m n : ℕ) → All (IsTally m) (replicate n no_calls)
small_none m zero k d l = absurd (omega arith)
small_none m (suc n) zero d l = record { calls = omega arith; x = omega arith; y = omega arith }
small_none m (suc n) (suc k) d l = small_none m n k d (omega arith)

pub small_more : (m : ℕ) (t : Tally) → IsTally m t → IsTally (m + 1) t
small_more m t s = let c = s.calls in let x = s.x in let y = s.y in record { calls = omega arith; x = omega arith; y = omega arith }

pub small_with : (m : ℕ) (t : Tally) (j : Vec2) → IsTally m t → IsWithin (2 ^ 40) j → IsTally (m + 1) (with_call t j)
small_with m t j s w =
    let c = s.calls in let x = s.x in let y = s.y in let jx = w.x in let jy = w.y in
    record { calls = omega arith; x = omega (arith, ints); y = omega (arith, ints) }

pub small_set : (m : ℕ) (ts : List Tally) (i : ℕ) (v : Tally) → IsTally (m + 1) v → All (IsTally m) ts → All (IsTally (m + 1)) (slice_set ts i v)
small_set m [] i v one all k d l = absurd (omega arith)
small_set m (t ∷ ts) zero v one all zero d l = one
small_set m (t ∷ ts) zero v one all (suc k) d l = small_more m _ (all (suc k) d (omega arith))
small_set m (t ∷ ts) (suc i) v one all zero d l = small_more m t (all zero d (omega arith))
small_set m (t ∷ ts) (suc i) v one all (suc k) d l = small_set m ts i v one (λ j f h. all (suc j) f (omega arith)) k d (omega arith)
