-- Rows kept in one list with the ends of their colours: what is added, ended and changed.
use Rattle.std.proofs.Common.{◌≡◌, ℕ, zero, suc, ◌+◌, ◌-◌, ◌≤◌, List, [], ◌∷◌, ◌++◌, ◌<◌, length, get_or, take, drop, map, arith, refl, sym, ap, ◌∙◌}
use Rattle.std.specs.List.{flat_map}
use Rattle.std.proofs.lemmas.List.{append_assoc, drop-drop, length-take-le}
use Rattle.colour_solver.specs.ColourRows.{AreEnds, cut, last_end, left_of}

-- ---- lists

take-add : {R : Type 0} (k : ℕ) (rows more : List R) → k ≤ length rows → take k (rows ++ more) ≡ take k rows
take-add zero rows more h = refl
take-add (suc k) [] more h = absurd (omega (arith, h))
take-add {R} (suc k) (r ∷ rows) more h = ap (λ (l : List R). r ∷ l) (take-add k rows more (omega (arith, h)))

drop-add : {R : Type 0} (k : ℕ) (rows more : List R) → k ≤ length rows → drop k (rows ++ more) ≡ drop k rows ++ more
drop-add zero rows more h = refl
drop-add (suc k) [] more h = absurd (omega (arith, h))
drop-add (suc k) (r ∷ rows) more h = drop-add k rows more (omega (arith, h))

take-drop : {R : Type 0} (k : ℕ) (rows : List R) → take k rows ++ drop k rows ≡ rows
take-drop zero rows = refl
take-drop (suc k) [] = refl
take-drop {R} (suc k) (r ∷ rows) = ap (λ (l : List R). r ∷ l) (take-drop k rows)

take-whole : {R : Type 0} (k : ℕ) (rows : List R) → length rows ≤ k → take k rows ≡ rows
take-whole zero [] h = refl
take-whole (suc k) [] h = refl
take-whole zero (r ∷ rows) h = absurd (omega (arith, h))
take-whole {R} (suc k) (r ∷ rows) h = ap (λ (l : List R). r ∷ l) (take-whole k rows (omega (arith, h)))

drop-whole : {R : Type 0} (k : ℕ) (rows : List R) → length rows ≤ k → drop k rows ≡ []
drop-whole zero [] h = refl
drop-whole (suc k) [] h = refl
drop-whole zero (r ∷ rows) h = absurd (omega (arith, h))
drop-whole (suc k) (r ∷ rows) h = drop-whole k rows (omega (arith, h))

take-long : {R : Type 0} (k : ℕ) (rows now : List R) → length now ≡ length rows → length (take k now) ≡ length (take k rows)
take-long zero rows now h = refl
take-long (suc k) [] [] h = refl
take-long (suc k) [] (x ∷ now) h = absurd (omega (arith, h))
take-long (suc k) (r ∷ rows) [] h = absurd (omega (arith, h))
take-long (suc k) (r ∷ rows) (x ∷ now) h = ap suc (take-long k rows now (omega (arith, h)))

pub drop-long : {R : Type 0} (k : ℕ) (rows now : List R) → length now ≡ length rows → length (drop k now) ≡ length (drop k rows)
drop-long zero rows now h = h
drop-long (suc k) [] [] h = refl
drop-long (suc k) [] (x ∷ now) h = absurd (omega (arith, h))
drop-long (suc k) (r ∷ rows) [] h = absurd (omega (arith, h))
drop-long (suc k) (r ∷ rows) (x ∷ now) h = drop-long k rows now (omega (arith, h))

drop-left : {R : Type 0} (k : ℕ) (rows : List R) → k ≤ length rows → (k + length (drop k rows)) ≡ length rows
drop-left zero rows h = omega arith
drop-left (suc k) [] h = absurd (omega (arith, h))
drop-left (suc k) (r ∷ rows) h = let rest = drop-left k rows (omega (arith, h)) in omega (arith, rest)

-- ---- ends

pub ends_within : (n : ℕ) (ends : List ℕ) (last : ℕ) → AreEnds n ends last → n ≤ last
ends_within n [] last h = h
ends_within n (e ∷ ends) last h = let more : e ≤ last = ends_within e ends last h.1 in omega (arith, h.0, more)

-- the rows behind an end
behind : {R : Type 0} (n e last : ℕ) (rows : List R) → n ≤ e → e ≤ last → last ≡ n + length rows → last ≡ e + length (drop (e - n) rows)
behind n e last rows low high long = let cut : ((e - n) + length (drop (e - n) rows)) ≡ length rows = drop-left (e - n) rows (omega (arith, low, high, long)) in omega (arith, low, high, long, cut)

-- ---- all rows

pub cut_all : {R : Type 0} (n : ℕ) (ends : List ℕ) (rows : List R) → flat_map (λ (rs : List R). rs) (cut n ends rows) ++ left_of n ends rows ≡ rows
cut_all n [] rows = refl
cut_all {R} n (e ∷ ends) rows =
    let here : List R = take (e - n) rows in
    let rest : List R = drop (e - n) rows in
    append_assoc here (flat_map (λ (rs : List R). rs) (cut e ends rest)) (left_of e ends rest) ∙ ap (λ (l : List R). here ++ l) (cut_all e ends rest) ∙ take-drop (e - n) rows

-- ---- a row more

pub cut_more : {R : Type 0} (n : ℕ) (ends : List ℕ) (last : ℕ) (rows more : List R) → AreEnds n ends last → last ≡ n + length rows → cut n ends (rows ++ more) ≡ cut n ends rows
cut_more n [] last rows more h long = refl
cut_more n (e ∷ ends) last rows more h long =
    let high : e ≤ last = ends_within e ends last h.1 in
    let inside : e - n ≤ length rows = omega (arith, h.0, high, long) in
    rw (take-add (e - n) rows more inside, drop-add (e - n) rows more inside, cut_more e ends last (drop (e - n) rows) more h.1 (behind n e last rows h.0 high long)) refl

pub left_more : {R : Type 0} (n : ℕ) (ends : List ℕ) (last : ℕ) (rows more : List R) → AreEnds n ends last → last ≡ n + length rows → left_of n ends (rows ++ more) ≡ left_of n ends rows ++ more
left_more n [] last rows more h long = refl
left_more n (e ∷ ends) last rows more h long =
    let high : e ≤ last = ends_within e ends last h.1 in
    let inside : e - n ≤ length rows = omega (arith, h.0, high, long) in
    rw (drop-add (e - n) rows more inside) (left_more e ends last (drop (e - n) rows) more h.1 (behind n e last rows h.0 high long))

pub ends_more : (n : ℕ) (ends : List ℕ) (last more : ℕ) → AreEnds n ends last → last ≤ more → AreEnds n ends more
ends_more n [] last more h k = omega (arith, h, k)
ends_more n (e ∷ ends) last more h k = (h.0, ends_more e ends last more h.1 k)

-- ---- an end more

pub cut_end : {R : Type 0} (n : ℕ) (ends : List ℕ) (last : ℕ) (rows : List R) → AreEnds n ends last → last ≡ n + length rows → cut n (ends ++ last ∷ []) rows ≡ cut n ends rows ++ left_of n ends rows ∷ []
cut_end {R} n [] last rows h long = ap (λ (l : List R). l ∷ []) (take-whole (last - n) rows (omega (arith, long)))
cut_end {R} n (e ∷ ends) last rows h long =
    let high : e ≤ last = ends_within e ends last h.1 in
    ap (λ (l : List (List R)). take (e - n) rows ∷ l) (cut_end e ends last (drop (e - n) rows) h.1 (behind n e last rows h.0 high long))

pub left_end : {R : Type 0} (n : ℕ) (ends : List ℕ) (last : ℕ) (rows : List R) → AreEnds n ends last → last ≡ n + length rows → left_of n (ends ++ last ∷ []) rows ≡ []
left_end n [] last rows h long = drop-whole (last - n) rows (omega (arith, long))
left_end n (e ∷ ends) last rows h long = left_end e ends last (drop (e - n) rows) h.1 (behind n e last rows h.0 (ends_within e ends last h.1) long)

pub ends_end : (n : ℕ) (ends : List ℕ) (last : ℕ) → AreEnds n ends last → AreEnds n (ends ++ last ∷ []) last
ends_end n [] last h = (h, omega arith)
ends_end n (e ∷ ends) last h = (h.0, ends_end e ends last h.1)

-- ---- as many rows

pub cut_long : {R : Type 0} (n : ℕ) (ends : List ℕ) (rows now : List R) → length now ≡ length rows → map length (cut n ends now) ≡ map length (cut n ends rows)
cut_long n [] rows now h = refl
cut_long n (e ∷ ends) rows now h =
    let here : length (take (e - n) now) ≡ length (take (e - n) rows) = take-long (e - n) rows now h in
    let rest : map length (cut e ends (drop (e - n) now)) ≡ map length (cut e ends (drop (e - n) rows)) = cut_long e ends (drop (e - n) rows) (drop (e - n) now) (drop-long (e - n) rows now h) in
    rw (here, rest) refl

-- ---- the first colours

pub cut_count : {R : Type 0} (n : ℕ) (ends : List ℕ) (rows : List R) → length (cut n ends rows) ≡ length ends
cut_count n [] rows = refl
cut_count n (e ∷ ends) rows = ap suc (cut_count e ends (drop (e - n) rows))

-- one colour more
pub cut_next : {R : Type 0} (n : ℕ) (ends : List ℕ) (e : ℕ) (rows : List R) → cut n (ends ++ e ∷ []) rows ≡ cut n ends rows ++ take (e - last_end n ends) (left_of n ends rows) ∷ []
cut_next n [] e rows = refl
cut_next {R} n (x ∷ ends) e rows = ap (λ (l : List (List R)). take (x - n) rows ∷ l) (cut_next x ends e (drop (x - n) rows))

pub last_low : (n : ℕ) (ends : List ℕ) (last : ℕ) → AreEnds n ends last → n ≤ last_end n ends
last_low n [] last h = omega arith
last_low n (e ∷ ends) last h = let more : e ≤ last_end e ends = last_low e ends last h.1 in omega (arith, h.0, more)

-- what is left behind the last end is what stands from there on
pub left_is : {R : Type 0} (n : ℕ) (ends : List ℕ) (last : ℕ) (rows : List R) → AreEnds n ends last → left_of n ends rows ≡ drop (last_end n ends - n) rows
left_is {R} n [] last rows h = let none : 0 ≡ n - n = omega arith in ap (λ (k : ℕ). drop k rows) none
left_is {R} n (e ∷ ends) last rows h =
    let low : e ≤ last_end e ends = last_low e ends last h.1 in
    let way : (e - n) + (last_end e ends - e) ≡ last_end e ends - n = omega (arith, h.0, low) in
    left_is e ends last (drop (e - n) rows) h.1 ∙ drop-drop (last_end e ends - e) (e - n) rows ∙ ap (λ (k : ℕ). drop k rows) way

pub left_from : {R : Type 0} (ends : List ℕ) (last : ℕ) (rows : List R) → AreEnds 0 ends last → left_of 0 ends rows ≡ drop (last_end 0 ends) rows
left_from {R} ends last rows h = let from : last_end 0 ends - 0 ≡ last_end 0 ends = omega arith in left_is 0 ends last rows h ∙ ap (λ (k : ℕ). drop k rows) from

pub ends_taken : (k n : ℕ) (ends : List ℕ) (last : ℕ) → AreEnds n ends last → AreEnds n (take k ends) (last_end n (take k ends))
ends_taken zero n ends last h = omega arith
ends_taken (suc k) n [] last h = omega arith
ends_taken (suc k) n (e ∷ ends) last h = (h.0, ends_taken k e ends last h.1)

pub taken_high : (k n : ℕ) (ends : List ℕ) (last : ℕ) → AreEnds n ends last → last_end n (take k ends) ≤ last
taken_high zero n ends last h = ends_within n ends last h
taken_high (suc k) n [] last h = h
taken_high (suc k) n (e ∷ ends) last h = taken_high k e ends last h.1

pub end_low : (k n : ℕ) (ends : List ℕ) (last d : ℕ) → AreEnds n ends last → k < length ends → last_end n (take k ends) ≤ get_or ends k d
end_low zero n [] last d h lt = absurd (omega (arith, lt))
end_low zero n (e ∷ ends) last d h lt = h.0
end_low (suc k) n [] last d h lt = absurd (omega (arith, lt))
end_low (suc k) n (e ∷ ends) last d h lt = end_low k e ends last d h.1 (omega (arith, lt))

pub end_high : (k n : ℕ) (ends : List ℕ) (last d : ℕ) → AreEnds n ends last → k < length ends → get_or ends k d ≤ last
end_high zero n [] last d h lt = absurd (omega (arith, lt))
end_high zero n (e ∷ ends) last d h lt = ends_within e ends last h.1
end_high (suc k) n [] last d h lt = absurd (omega (arith, lt))
end_high (suc k) n (e ∷ ends) last d h lt = end_high k e ends last d h.1 (omega (arith, lt))

pub last_more : (n : ℕ) (ends : List ℕ) (e : ℕ) → last_end n (ends ++ e ∷ []) ≡ e
last_more n [] e = refl
last_more n (x ∷ ends) e = last_more x ends e

-- colours that have ended don't hang on what stands behind them
pub cut_same : {R : Type 0} (ends : List ℕ) (rows now : List R) → AreEnds 0 ends (last_end 0 ends) → last_end 0 ends ≤ length rows → last_end 0 ends ≤ length now → take (last_end 0 ends) now ≡ take (last_end 0 ends) rows → cut 0 ends now ≡ cut 0 ends rows
cut_same {R} ends rows now h low high same =
    let s = last_end 0 ends in
    let front : cut 0 ends rows ≡ cut 0 ends (take s rows) =
    ap (cut 0 ends) (sym (take-drop s rows)) ∙ cut_more 0 ends s (take s rows) (drop s rows) h (omega (arith, length-take-le s rows low)) in
    let front_now : cut 0 ends now ≡ cut 0 ends (take s now) =
    ap (cut 0 ends) (sym (take-drop s now)) ∙ cut_more 0 ends s (take s now) (drop s now) h (omega (arith, length-take-le s now high)) in
    front_now ∙ ap (cut 0 ends) same ∙ sym front
