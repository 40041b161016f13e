-- Movers that constraints share.
use Rattle.std.proofs.Common.{◌≡◌, ℕ, ◌==◌, ◌||◌, true, false, Option, Some, None, refl, sym, ap, ◌∙◌, subst, arith}
use Rattle.std.proofs.lemmas.Bool.Decides.{nat_tests}
use Rattle.std.specs.Option.{option_map_or}
use Rattle.graph_colours.specs.declared.member.Movers.{Movers}
use Rattle.graph_colours.specs.Movers.{has_mover, shares}
use Rattle.graph_colours.proofs.Cases.{or_pairs, or_false, or_left, or_right}
use Rattle.graph_colours.proofs.PlaceLemmas.{not_same}

pub same_back : (a b : ℕ) → (a == b) ≡ (b == a)
same_back a b = grind (arith, nat_tests)

-- the same by slots
pub back_by_slots : (a b : ℕ) (a2 b2 : Option ℕ) → let m : Movers = record { first = a; second = a2 } in let o : Movers = record { first = b; second = b2 } in shares m o ≡ shares o m
back_by_slots a b None None = ap (λ t. (t || false) || false) (same_back a b)
back_by_slots a b None (Some d) = rw (same_back b a, same_back d a, or_false (a == b), or_false (a == d)) (sym (or_false ((a == b) || (a == d))))
back_by_slots a b (Some c) None = rw (same_back a b, same_back c b, or_false (b == a), or_false (b == c)) (or_false ((b == a) || (b == c)))
back_by_slots a b (Some c) (Some d) = rw (same_back a b, same_back c b, same_back a d, same_back c d) (or_pairs (b == a) (b == c) (d == a) (d == c))

pub shares_back : (m o : Movers) → shares m o ≡ shares o m
shares_back m o = back_by_slots m.first o.first m.second o.second

-- a slot that one of two has is none of the other's, if they share none
pub not_slot : (m : Movers) (n k : ℕ) → has_mover m n ≡ false → has_mover m k ≡ true → (n == k) ≡ false
not_slot m n k without_it with_it = not_same n k (λ q. let P : ℕ → Type 0 = λ i. has_mover m i ≡ false in let wrong : true ≡ false = sym with_it ∙ subst P q without_it in cc)

pub not_second : (m : Movers) (s : Option ℕ) (k : ℕ) → option_map_or (has_mover m) s false ≡ false → has_mover m k ≡ true → option_map_or (λ other. other == k) s false ≡ false
not_second m None k without_it with_it = refl
not_second m (Some n) k without_it with_it = not_slot m n k without_it with_it

pub unshared : (m o : Movers) (k : ℕ) → shares m o ≡ false → has_mover m k ≡ true → has_mover o k ≡ false
unshared m o k without_it with_it =
    let first : (o.first == k) ≡ false = not_slot m o.first k (or_left (has_mover m o.first) (option_map_or (has_mover m) o.second false) without_it) with_it in
    let second : option_map_or (λ other. other == k) o.second false ≡ false = not_second m o.second k (or_right (has_mover m o.first) (option_map_or (has_mover m) o.second false) without_it) with_it in
    rw (first, second) refl
