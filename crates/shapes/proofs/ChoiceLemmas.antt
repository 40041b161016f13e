-- What the code keeps as the least so far is at the end the least of the list.
use Rattle.std.proofs.Common.{◌≡◌, Bool, true, false, cond, List, [], ◌∷◌, Option, None, Some, map, refl, sym, ◌∙◌, ap}
use Rattle.std.specs.List.{filter}
use Rattle.fixed_geom.proofs.UnbeatenLemmas.{best_of}
use Rattle.shapes.specs.declared.choice.Chosen.{Chosen}
use Rattle.shapes.specs.declared.spots.Pair.{Pair}
use Rattle.shapes.specs.declared.spots.Candidate.{Candidate}
use Rattle.shapes.specs.declared.spots.Spot.{Spot}
use Rattle.shapes.specs.Spots.{of_a, others, spot_of}
use Rattle.shapes.specs.Manifolds.{is_before, is_sooner, least_of, is_second, chosen_spots, spots}
use Rattle.shapes.specs.Choice.{nearer, nearest, sooner, tried, second_from, chosen_from}
use Rattle.shapes.proofs.LeastLemmas.{least_is_best, nearest_is_best}

pushed : (s : Pair) (b : Bool) (c d : Candidate) → cond b (spot_of s c) (spot_of s d) ≡ spot_of s (cond b c d)
pushed s true c d = refl
pushed s false c d = refl

same_order : (s : Pair) (c d : Candidate) → is_sooner (spot_of s d) (spot_of s c) ≡ is_before d.dist d.number c.dist c.number
unfolding spot_of
same_order s c d = refl

sooner_is : (s : Pair) (c d : Candidate) → sooner (spot_of s c) (spot_of s d) ≡ spot_of s (nearer c d)
unfolding sooner nearer
sooner_is s c d =
    ap (λ (b : Bool). cond b (spot_of s d) (spot_of s c)) (same_order s c d) ∙ pushed s (is_before d.dist d.number c.dist c.number) d c

best_is : (s : Pair) (c : Candidate) (cs : List Candidate) → best_of is_sooner (spot_of s c) (map (spot_of s) cs) ≡ spot_of s (nearest c cs)
unfolding sooner
best_is s c [] = refl
best_is s c (d ∷ cs) = ap (λ (t : Spot). best_of is_sooner t (map (spot_of s) cs)) (sooner_is s c d) ∙ best_is s (nearer c d) cs

some_step : (b : Bool) (best t : Spot) (ts : List Spot) (s : Pair) (first : Spot) (cs : List Candidate) →
    second_from s first (Some (sooner best t)) cs ≡ Some (best_of is_sooner (sooner best t) ts) →
    second_from s first (Some best) cs ≡ Some (best_of is_sooner best ts) →
    second_from s first (cond b (Some (sooner best t)) (Some best)) cs ≡ Some (best_of is_sooner best (cond b (t ∷ ts) ts))
unfolding sooner
some_step true best t ts s first cs h l = h
some_step false best t ts s first cs h l = l

second_some : (s : Pair) (first best : Spot) (cs : List Candidate) → second_from s first (Some best) cs ≡ Some (best_of is_sooner best (filter (is_second first) (map (spot_of s) cs)))
unfolding tried sooner
second_some s first best [] = refl
second_some s first best (c ∷ cs) =
    some_step (is_second first (spot_of s c)) best (spot_of s c) (filter (is_second first) (map (spot_of s) cs)) s first cs
    (second_some s first (sooner best (spot_of s c)) cs) (second_some s first best cs)

none_step : (b : Bool) (t : Spot) (ts : List Spot) (s : Pair) (first : Spot) (cs : List Candidate) →
    second_from s first (Some t) cs ≡ Some (best_of is_sooner t ts) →
    second_from s first None cs ≡ least_of ts →
    second_from s first (cond b (Some t) None) cs ≡ least_of (cond b (t ∷ ts) ts)
none_step true t ts s first cs h l = h ∙ sym (least_is_best t ts)
none_step false t ts s first cs h l = l

second_none : (s : Pair) (first : Spot) (cs : List Candidate) → second_from s first None cs ≡ least_of (filter (is_second first) (map (spot_of s) cs))
unfolding tried
second_none s first [] = refl
second_none s first (c ∷ cs) =
    none_step (is_second first (spot_of s c)) (spot_of s c) (filter (is_second first) (map (spot_of s) cs)) s first cs
    (second_some s first (spot_of s c) cs) (second_none s first cs)

abbrev both : Spot → Option Spot → Chosen
both first second = record { first = first; second = second }

pub chosen_are : (s : Pair) → chosen_from s (of_a s 0 s.a.p) (others s) ≡ chosen_spots s
unfolding chosen_from chosen_spots
chosen_are s =
    let head = of_a s 0 s.a.p in
    let first = spot_of s (nearest head (others s)) in
    ap (λ (second : Option Spot). both first second) (second_none s first (head ∷ others s))
    ∙ ap (λ (f : Spot). both f (least_of (filter (is_second f) (spots s)))) (sym (nearest_is_best s ∙ best_is s head (others s)))

pub chosen_is : (s : Pair) (c : Candidate) (cs : List Candidate) (first : Spot) (second : Option Spot) → first ≡ spot_of s (nearest c cs) → second ≡ second_from s first None (c ∷ cs) → both first second ≡ chosen_from s c cs
unfolding chosen_from
chosen_is s c cs first second e h =
    ap (both first) h ∙ ap (λ (f : Spot). both f (second_from s f None (c ∷ cs))) e
