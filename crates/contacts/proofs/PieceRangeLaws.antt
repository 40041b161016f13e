-- What the pieces of a list that is cut up have of it.
use Rattle.std.proofs.Common.{◌≡◌, ℕ, ◌+◌, ◌-◌, ◌<◌, ◌≤◌, List, [], ◌∷◌, ◌++◌, length, take, drop, get_or, sym, ap, ◌∙◌, arith}
use Rattle.std.proofs.Math.Seq.{take-add}
use Rattle.std.proofs.lemmas.List.{flat_map_more, take_all, take_more}
use Rattle.contacts.specs.PieceRanges.{PieceRange, items_in, items_of}

-- with one piece more
pub one_more : (P : Type 0) (range : P → PieceRange) (items : List ℕ) (pieces more : List P) (p : P) (first count : ℕ) → more ≡ pieces ++ p ∷ [] → range p ≡ record { first = first; count = count } → items_of range items more ≡ items_of range items pieces ++ take count (drop first items)
one_more P range items pieces more p first count is has =
    ap (items_of range items) is
    ∙ sym (flat_map_more (λ (q : P). items_in items (range q)) [] pieces p)
    ∙ ap (λ (r : PieceRange). items_of range items pieces ++ items_in items r) has

pub cut_more : (items now more : List ℕ) (first count : ℕ) → now ≡ take first items → more ≡ now ++ take count (drop first items) → more ≡ take (first + count) items
cut_more items now more first count h is = is ∙ ap (λ (l : List ℕ). l ++ take count (drop first items)) h ∙ sym (take-add first count items)

all_of : (n first all : ℕ) → first ≤ all → n ≡ all → n ≤ first + (all - first)
all_of n first all h e = omega arith

pub cut_ends : (items now : List ℕ) (first all : ℕ) → first ≤ all → length items ≡ all → now ≡ take (first + (all - first)) items → now ≡ items
cut_ends items now first all le long h = h ∙ take_all (first + (all - first)) items (all_of (length items) first all le long)

pub next_taken : (A : Type 0) (xs : List A) (k : ℕ) (d x : A) → k < length xs → x ≡ get_or xs k d → take k xs ++ x ∷ [] ≡ take (k + 1) xs
next_taken A xs k d x lt is = ap (λ (y : A). take k xs ++ y ∷ []) is ∙ sym (take_more xs k d lt)
