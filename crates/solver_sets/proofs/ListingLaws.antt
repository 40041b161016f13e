-- What loops over joints and contacts list.
use Rattle.std.proofs.Common.{◌≡◌, ℕ, zero, suc, ◌+◌, ◌<◌, ◌≤◌, Bool, true, false, cond, List, [], ◌∷◌, ◌++◌, length, drop, get_or, filter, Option, Some, None, refl, sym, ap, ◌∙◌, arith}
use Rattle.std.proofs.Math.Seq.{drop-cons}
use Rattle.std.proofs.lemmas.List.{length-append}
use Rattle.std.proofs.Math.Numerals.{add-one}
use Rattle.std.specs.List.{filter_map, cons_option}
use Rattle.std.specs.Option.{option_to_list}
use Rattle.std.proofs.lemmas.List.{append-nil, append_assoc}
use Rattle.body_handles.specs.declared.handle.Handle.{Handle}
use Rattle.plain_world.specs.declared.body.Body.{Body}
use Rattle.plain_world.specs.declared.joint.BodyJoint.{BodyJoint}
use Rattle.plain_world.specs.Joints.{is_joint_of}
use Rattle.solver_sets.specs.Ties.{Bond, bond_before, is_bond_of, joint_bond, tie_of, ties_in}
use Rattle.solver_sets.specs.BesideByTies.{joint_tie_of}

-- ---- one element more

pub cons_is : {X : Type 0} (o : Option X) (xs : List X) → cons_option o xs ≡ option_to_list o ++ xs
cons_is None xs = refl
cons_is (Some x) xs = refl

pub drop_is : {X : Type 0} (xs : List X) (i : ℕ) (d : X) → i < length xs → drop i xs ≡ get_or xs i d ∷ drop (i + 1) xs
drop_is xs i d lt = drop-cons xs i d lt ∙ ap (λ (k : ℕ). get_or xs i d ∷ drop k xs) (sym (add-one i))

-- what a function gives of one more element stands at the end of what is listed
pub listed_more : {X Y : Type 0} (f : X → Option Y) (now next : List Y) (o : Option Y) (xs : List X) (i : ℕ) (d : X) → i < length xs → next ≡ now ++ option_to_list o → o ≡ f (get_or xs i d)
    → next ++ filter_map f (drop (i + 1) xs) ≡ now ++ filter_map f (drop i xs)
listed_more f now next o xs i d lt pushed is =
    rw (pushed, is, drop_is xs i d lt, cons_is (f (get_or xs i d)) (filter_map f (drop (i + 1) xs))) (append_assoc now (option_to_list (f (get_or xs i d))) (filter_map f (drop (i + 1) xs)))

pub drop_past : {X : Type 0} (xs : List X) (i : ℕ) → length xs ≤ i → drop i xs ≡ []
drop_past [] zero le = refl
drop_past [] (suc i) le = refl
drop_past (x ∷ xs) zero le = absurd (omega arith)
drop_past (x ∷ xs) (suc i) le = drop_past xs i (omega arith)

-- all are listed past the end
pub listed_all : {X Y : Type 0} (f : X → Option Y) (now all : List Y) (xs : List X) (i : ℕ) → length xs ≤ i → now ++ filter_map f (drop i xs) ≡ all → now ≡ all
listed_all f now all xs i le e = sym (append-nil now) ∙ ap (λ (l : List _). now ++ filter_map f l) (sym (drop_past xs i le)) ∙ e

-- ---- ties of joints

tie_before : (bodies : List (Option Body)) (slot : ℕ) (h : Handle) (o : Option BodyJoint) (bonds : List Bond) → ties_in bodies (filter (is_bond_of slot) (bond_before h o bonds)) ≡ option_to_list (joint_tie_of bodies slot h o) ++ ties_in bodies (filter (is_bond_of slot) bonds)
tie_before bodies slot h None bonds = refl
tie_before bodies slot h (Some j) bonds = by_slot (is_joint_of slot j)
  where
    by_slot : (t : Bool) → ties_in bodies (cond t (joint_bond h j ∷ filter (is_bond_of slot) bonds) (filter (is_bond_of slot) bonds)) ≡ option_to_list (cond t (tie_of bodies (joint_bond h j)) None) ++ ties_in bodies (filter (is_bond_of slot) bonds)
    by_slot true = cons_is (tie_of bodies (joint_bond h j)) (ties_in bodies (filter (is_bond_of slot) bonds))
    by_slot false = refl

-- ---- a filter over two lists

pub filter_append : {X : Type 0} (p : X → Bool) (xs ys : List X) → filter p (xs ++ ys) ≡ filter p xs ++ filter p ys
filter_append p [] ys = refl
filter_append p (x ∷ xs) ys = by_test (p x) x (filter p xs) (filter p ys) (filter p (xs ++ ys)) (filter_append p xs ys)
  where
    by_test : {X : Type 0} (t : Bool) (x : X) (xs ys zs : List X) → zs ≡ xs ++ ys → cond t (x ∷ zs) zs ≡ cond t (x ∷ xs) xs ++ ys
    by_test true x xs ys zs e = ap (λ (l : List _). x ∷ l) e
    by_test false x xs ys zs e = e

-- ---- how long a list gets

-- an item more at most
pub grown_by : {X : Type 0} (old new : List X) (o : Option X) (n : ℕ) → new ≡ old ++ option_to_list o → length old ≤ n → length new ≤ n + 1
grown_by old new None n e h = rw e (rw (append-nil old) (omega (arith, h)))
grown_by old new (Some x) n e h = rw e (rw (length-append old (x ∷ [])) (omega (arith, h)))
