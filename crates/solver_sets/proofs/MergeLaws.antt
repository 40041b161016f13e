-- Merging the keys that begin with those that end is putting each begin among the ends.
use Rattle.std.proofs.Common.{◌≡◌, ℕ, ◌+◌, ◌^◌, ◌<◌, ◌≤◌, Bool, true, false, cond, nat_lt, List, [], ◌∷◌, ◌++◌, length, drop, map, Option, Some, None, option_map, refl, sym, ap, ◌∙◌, subst, arith, ltb-true, ltb-false}
use Rattle.std.specs.List.{cons_option}
use Rattle.std.specs.Option.{option_to_list}
use Rattle.std.proofs.lemmas.List.{append_assoc}
use Rattle.std.proofs.lemmas.Option.{none-some, same_Some}
use Rattle.graph_colours.specs.declared.member.Member.{Member}
use Rattle.graph_colours.proofs.Cases.{by_test}
use Rattle.graph_colours.proofs.PlaceLemmas.{is_lower, not_lower}
use Rattle.contacts_base.specs.declared.key.ContactKey.{ContactKey}
use Rattle.contacts_base.specs.Keys.{key_number}
use Rattle.contacts_base.specs.ChangedKeys.{AreRising}
use Rattle.plain_world.specs.Constraints.{constraint_number}
use Rattle.plain_world.specs.declared.constraint.Constraint.{Constraint}
use Rattle.contacts_base.proofs.Members.{Each, each_from, each_in}
use Rattle.contacts_base.proofs.Rising.{IsRising, rising_from_increasing}
use Rattle.sleep_wake.specs.declared.change.Change.{Change}
use Rattle.sleep_wake.specs.declared.change.Change.TheVariants.{Begin, End}
use Rattle.sleep_wake.specs.Changes.{begins_inserted, change_inserted, change_number}
use Rattle.plain_world.specs.declared.body.Body.{Body}
use Rattle.solver_sets.specs.Merging.{all_ends, begin_of, end_of, ends_from, ends_until, key_tie, merged}
use Rattle.solver_sets.specs.Ties.{contact_bond, key_changes, key_ties, tie_of}
use Rattle.solver_sets.proofs.ListLaws.{Rises, in_map, in_mapped, mapped_in}
use Rattle.solver_sets.proofs.ListingLaws.{drop_past}
use Rattle.solver_sets.proofs.TieLaws.{tie_is}

abbrev number : Change Constraint → ℕ
number d = change_number constraint_number d

-- the number of a contact's tie
abbrev tie_at : ContactKey → ℕ
tie_at key = 2 ^ 80 + key_number key

tie_number_is : (bodies : List (Option Body)) (key : ContactKey) (m : Member Constraint) → key_tie bodies key ≡ Some m → constraint_number m.id ≡ tie_at key
tie_number_is bodies key m e = ap constraint_number (tie_is bodies (contact_bond key) m e).named

-- ---- the ends

map_cons : {X Y : Type 0} (f : X → Y) (o : Option X) (xs : List X) → map f (cons_option o xs) ≡ option_to_list (option_map f o) ++ map f xs
map_cons f None xs = refl
map_cons f (Some x) xs = refl

ends_are : (bodies : List (Option Body)) (ends : List ContactKey) → all_ends bodies ends ≡ map (λ m. End m) (key_ties bodies ends)
ends_are bodies [] = refl
ends_are bodies (e ∷ es) = ap (λ (l : List (Change Constraint)). option_to_list (end_of bodies e) ++ l) (ends_are bodies es) ∙ sym (map_cons (λ (m : Member Constraint). End m) (key_tie bodies e) (key_ties bodies es))

end_number : (bodies : List (Option Body)) (e : ContactKey) (d : Change Constraint) → end_of bodies e ≡ Some d → number d ≡ tie_at e
end_number bodies e d h = by_option (key_tie bodies e) refl h
  where
    by_option : (o : Option (Member Constraint)) → key_tie bodies e ≡ o → option_map (λ (m : Member Constraint). End m) o ≡ Some d → number d ≡ tie_at e
    by_option None q h = absurd (none-some d h)
    by_option (Some m) q h = sym (ap number (same_Some (End m) d h)) ∙ tie_number_is bodies e m q

-- each end is at or beyond a number
each_ends : (bodies : List (Option Body)) (n : ℕ) (es : List ContactKey) → Each (λ e. n ≤ tie_at e) es → Each (λ d. n ≤ number d) (all_ends bodies es)
each_ends bodies n [] h = tt
each_ends bodies n (e ∷ es) h = by_option (end_of bodies e) (λ d q. let same : number d ≡ tie_at e = end_number bodies e d q in let le : n ≤ tie_at e = h.0 in omega (arith, same, le)) (each_ends bodies n es h.1)
  where
    by_option : (o : Option (Change Constraint)) → ((d : Change Constraint) → o ≡ Some d → n ≤ number d) → Each (λ d. n ≤ number d) (all_ends bodies es) → Each (λ d. n ≤ number d) (option_to_list o ++ all_ends bodies es)
    by_option None f r = r
    by_option (Some d) f r = (f d refl, r)

-- ---- begins among them

-- what lies below all begins stays in front
below_one : (n : ℕ) (d : Change Constraint) (ms : List (Member Constraint)) (ds : List (Change Constraint)) → number d < n → Each (λ m. n ≤ constraint_number m.id) ms → begins_inserted constraint_number ms (d ∷ ds) ≡ d ∷ begins_inserted constraint_number ms ds
below_one n d [] ds lt h = refl
below_one n d (m ∷ ms) ds lt h =
    let le : n ≤ constraint_number m.id = h.0 in
    let test : nat_lt (number d) (constraint_number m.id) ≡ true = is_lower (number d) (constraint_number m.id) (omega (arith, lt, le)) in
    let front : cond (nat_lt (number d) (constraint_number m.id)) (d ∷ change_inserted constraint_number (Begin m) (begins_inserted constraint_number ms ds)) (Begin m ∷ d ∷ begins_inserted constraint_number ms ds) ≡ d ∷ change_inserted constraint_number (Begin m) (begins_inserted constraint_number ms ds) = rw test refl in
    ap (change_inserted constraint_number (Begin m)) (below_one n d ms ds lt h.1) ∙ front

below_option : (n : ℕ) (o : Option (Change Constraint)) (ms : List (Member Constraint)) (ds : List (Change Constraint)) → ((d : Change Constraint) → o ≡ Some d → number d < n) → Each (λ m. n ≤ constraint_number m.id) ms
    → begins_inserted constraint_number ms (option_to_list o ++ ds) ≡ option_to_list o ++ begins_inserted constraint_number ms ds
below_option n None ms ds lt h = refl
below_option n (Some d) ms ds lt h = below_one n d ms ds (lt d refl) h

-- the ends before a key stay in front of begins from it on
split : (bodies : List (Option Body)) (b : ContactKey) (ms : List (Member Constraint)) (ends : List ContactKey) → Each (λ m. tie_at b ≤ constraint_number m.id) ms
    → begins_inserted constraint_number ms (all_ends bodies ends) ≡ ends_until bodies b ends ++ begins_inserted constraint_number ms (all_ends bodies (ends_from b ends))
split bodies b ms [] h = refl
split bodies b ms (e ∷ es) h = by_lower (nat_lt (key_number e) (key_number b)) refl (split bodies b ms es h)
  where
    by_lower : (t : Bool) → nat_lt (key_number e) (key_number b) ≡ t → begins_inserted constraint_number ms (all_ends bodies es) ≡ ends_until bodies b es ++ begins_inserted constraint_number ms (all_ends bodies (ends_from b es))
        → begins_inserted constraint_number ms (all_ends bodies (e ∷ es)) ≡ cond t (option_to_list (end_of bodies e) ++ ends_until bodies b es) [] ++ begins_inserted constraint_number ms (all_ends bodies (cond t (ends_from b es) (e ∷ es)))
    by_lower true q rest =
        let lt : key_number e < key_number b = ltb-true (key_number e) (key_number b) q in
        below_option (tie_at b) (end_of bodies e) ms (all_ends bodies es) (λ d r. let same : number d ≡ tie_at e = end_number bodies e d r in omega (arith, lt, same)) h
        ∙ ap (λ (l : List (Change Constraint)). option_to_list (end_of bodies e) ++ l) rest
        ∙ sym (append_assoc (option_to_list (end_of bodies e)) (ends_until bodies b es) (begins_inserted constraint_number ms (all_ends bodies (ends_from b es))))
    by_lower false q rest = refl

each_put : (n : ℕ) (c : Change Constraint) (ds : List (Change Constraint)) → n ≤ number c → Each (λ d. n ≤ number d) ds → Each (λ d. n ≤ number d) (change_inserted constraint_number c ds)
each_put n c [] le h = (le, tt)
each_put n c (d ∷ ds) le h = by_test (λ (l : List (Change Constraint)). Each (λ d. n ≤ number d) l) (nat_lt (number d) (number c)) (d ∷ change_inserted constraint_number c ds) (c ∷ d ∷ ds)
    (λ q. (h.0, each_put n c ds le h.1)) (λ q. (le, h))

each_begins : (n : ℕ) (ms : List (Member Constraint)) (ds : List (Change Constraint)) → Each (λ m. n ≤ constraint_number m.id) ms → Each (λ d. n ≤ number d) ds → Each (λ d. n ≤ number d) (begins_inserted constraint_number ms ds)
each_begins n [] ds h k = k
each_begins n (m ∷ ms) ds h k = each_put n (Begin m) (begins_inserted constraint_number ms ds) h.0 (each_begins n ms ds h.1 k)

-- a begin stands in front of what lies at or beyond its number
front : (m : Member Constraint) (ds : List (Change Constraint)) → Each (λ d. constraint_number m.id ≤ number d) ds → change_inserted constraint_number (Begin m) ds ≡ Begin m ∷ ds
front m [] h = refl
front m (d ∷ ds) h = let test : nat_lt (number d) (constraint_number m.id) ≡ false = not_lower (number d) (constraint_number m.id) h.0 in rw test refl

-- ---- keys that rise

each_from_rising : (b : ContactKey) (ends : List ContactKey) → Rises key_number ends → Each (λ e. tie_at b ≤ tie_at e) (ends_from b ends)
each_from_rising b [] r = tt
each_from_rising b (e ∷ es) r = by_test (λ (l : List ContactKey). Each (λ e. tie_at b ≤ tie_at e) l) (nat_lt (key_number e) (key_number b)) (ends_from b es) (e ∷ es)
    (λ q. each_from_rising b es r.1)
    (λ q. let le : key_number b ≤ key_number e = ltb-false (key_number e) (key_number b) q in
    (omega (arith, le), each_from (λ e. tie_at b ≤ tie_at e) es (λ x h. let lt : key_number e < key_number x = r.0 x h in omega (arith, le, lt))))

rises_from : (b : ContactKey) (ends : List ContactKey) → Rises key_number ends → Rises key_number (ends_from b ends)
rises_from b [] r = tt
rises_from b (e ∷ es) r = by_test (λ (l : List ContactKey). Rises key_number l) (nat_lt (key_number e) (key_number b)) (ends_from b es) (e ∷ es) (λ q. rises_from b es r.1) (λ q. r)

each_ties : (bodies : List (Option Body)) (b : ContactKey) (bs : List ContactKey) → Rises key_number (b ∷ bs) → Each (λ m. tie_at b ≤ constraint_number m.id) (key_ties bodies bs)
each_ties bodies b bs r = each_from (λ m. tie_at b ≤ constraint_number m.id) (key_ties bodies bs) (λ m h.
    let o = in_map (tie_of bodies) (map contact_bond bs) m h in
    let p = in_mapped contact_bond bs o.of o.there in
    let same : constraint_number m.id ≡ tie_at p.of = tie_number_is bodies p.of m (sym (ap (tie_of bodies) p.is) ∙ o.gives) in
    let lt : key_number b < key_number p.of = r.0 p.of p.there in
    omega (arith, same, lt))

-- ---- the merge

merged_step : (bodies : List (Option Body)) (b : ContactKey) (bs ends : List ContactKey) → Rises key_number (b ∷ bs) → Rises key_number ends
    → begins_inserted constraint_number (key_ties bodies (b ∷ bs)) (all_ends bodies ends) ≡ ends_until bodies b ends ++ (option_to_list (begin_of bodies b) ++ begins_inserted constraint_number (key_ties bodies bs) (all_ends bodies (ends_from b ends)))
merged_step bodies b bs ends r s = by_option (key_tie bodies b) refl
  where
    by_option : (o : Option (Member Constraint)) → key_tie bodies b ≡ o → begins_inserted constraint_number (cons_option o (key_ties bodies bs)) (all_ends bodies ends)
        ≡ ends_until bodies b ends ++ (option_to_list (option_map (λ (m : Member Constraint). Begin m) o) ++ begins_inserted constraint_number (key_ties bodies bs) (all_ends bodies (ends_from b ends)))
    by_option None q = split bodies b (key_ties bodies bs) ends (each_ties bodies b bs r)
    by_option (Some m) q =
        let same : constraint_number m.id ≡ tie_at b = tie_number_is bodies b m q in
        let rest : List (Change Constraint) = all_ends bodies (ends_from b ends) in
        let later : Each (λ d. tie_at b ≤ number d) (begins_inserted constraint_number (key_ties bodies bs) rest) =
        each_begins (tie_at b) (key_ties bodies bs) rest (each_ties bodies b bs r) (each_ends bodies (tie_at b) (ends_from b ends) (each_from_rising b ends s)) in
        split bodies b (m ∷ key_ties bodies bs) ends (omega (arith, same), each_ties bodies b bs r)
        ∙ ap (λ (l : List (Change Constraint)). ends_until bodies b ends ++ l) (front m (begins_inserted constraint_number (key_ties bodies bs) rest) (subst (λ (n : ℕ). Each (λ d. n ≤ number d) (begins_inserted constraint_number (key_ties bodies bs) rest)) (sym same) later))

merged_is : (bodies : List (Option Body)) (begins ends : List ContactKey) → Rises key_number begins → Rises key_number ends → merged bodies begins ends ≡ begins_inserted constraint_number (key_ties bodies begins) (all_ends bodies ends)
merged_is bodies [] ends r s = refl
merged_is bodies (b ∷ bs) ends r s =
    ap (λ (l : List (Change Constraint)). ends_until bodies b ends ++ (option_to_list (begin_of bodies b) ++ l)) (merged_is bodies bs (ends_from b ends) r.1 (rises_from b ends s))
    ∙ sym (merged_step bodies b bs ends r s)

rises_by : (keys : List ContactKey) → IsRising (map key_number keys) → Rises key_number keys
rises_by [] r = tt
rises_by (k ∷ ks) r = ((λ x h. each_in (λ y. key_number k < y) (key_number x) (map key_number ks) r.0 (mapped_in key_number ks x h)), rises_by ks r.1)

pub merged_changes : (bodies : List (Option Body)) (begins ends : List ContactKey) → AreRising begins → AreRising ends → merged bodies begins ends ≡ key_changes bodies begins ends
unfolding key_changes
merged_changes bodies begins ends r s =
    merged_is bodies begins ends (rises_by begins (rising_from_increasing (map key_number begins) r)) (rises_by ends (rising_from_increasing (map key_number ends) s))
    ∙ ap (begins_inserted constraint_number (key_ties bodies begins)) (ends_are bodies ends)

-- nothing begins past the end
pub merged_end : (bodies : List (Option Body)) (begins rest : List ContactKey) (i : ℕ) (now all : List (Change Constraint)) → length begins ≤ i → now ++ merged bodies (drop i begins) rest ≡ all → now ++ all_ends bodies rest ≡ all
merged_end bodies begins rest i now all le e = ap (λ (bs : List ContactKey). now ++ merged bodies bs rest) (sym (drop_past begins i le)) ∙ e
