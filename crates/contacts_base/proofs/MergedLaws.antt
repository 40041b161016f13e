-- Two lists that ascend, as one: what becomes of it, and which contact of it has a key.
use Rattle.std.proofs.Common.{◌≡◌, ℕ, suc, ◌<◌, ◌≤◌, ◌==◌, Bool, true, false, cond, List, [], ◌∷◌, get_or, map, nat_lt, Option, Some, None, arith, refl, sym, ap, ◌∙◌, ◌⊎◌, inl, inr}
use Rattle.std.specs.Prelude.{filter}
use Rattle.std.specs.List.{All}
use Rattle.std.specs.Option.{is_some, option_or}
use Rattle.std.proofs.lemmas.Bool.{cases_eq, cases_lt}
use Rattle.std.proofs.lemmas.Bool.Decides.{nat_tests}
use Rattle.std.proofs.lemmas.List.Elements.{All-cons, All-filter, All-head, All-tail}
use Rattle.std.proofs.lemmas.List.Kept.{AllPairs-cons}
use Rattle.contacts_base.specs.declared.key.ContactKey.{ContactKey}
use Rattle.contacts_base.specs.declared.contact.ContactEntry.{ContactEntry}
use Rattle.contacts_base.specs.Keys.{key_number}
use Rattle.contacts_base.specs.Contacts.{lookup, number_of}
use Rattle.contacts_base.specs.Merge.{AreAscending, merged, put_in}
use Rattle.contacts_base.proofs.LookupLemmas.{lookup-later, lookup-none}
use Rattle.contacts_base.proofs.MergeLaws.{IsAtLeast, at_first, is_lower, least_cons, least_later, least_on, not_lower, tail_ascends}

pub is_same : (a b : ℕ) → a ≡ b → (a == b) ≡ true
is_same a b h = grind (arith, nat_tests)

pub not_same : (a b : ℕ) → (a ≡ b → ⊥) → (a == b) ≡ false
not_same a b h = grind (arith, nat_tests)

-- ---- without the item that was put in

all_put : {X : Type 0} (P : X → Type 0) (number : X → ℕ) (e : X) (l : List X) → All P (put_in number e l) → All P l
all_put P number e [] all = λ k d h. absurd (omega (arith, h))
all_put P number e (x ∷ l) all = by_order P number e x l (nat_lt (number x) (number e)) (λ a. all_put P number e l a) all
  where
    by_order : {X : Type 0} (P : X → Type 0) (number : X → ℕ) (e x : X) (l : List X) (t : Bool) → (All P (put_in number e l) → All P l) → All P (cond t (x ∷ put_in number e l) (e ∷ x ∷ l)) → All P (x ∷ l)
    by_order P number e x l true rest all = All-cons P x l (All-head P x (put_in number e l) all) (rest (All-tail P x (put_in number e l) all))
    by_order P number e x l false rest all = All-tail P e (x ∷ l) all

head_below : {X : Type 0} (number : X → ℕ) (x : X) (l : List X) → AreAscending number (x ∷ l) → All (λ y. number x < number y) l
head_below number x l rising k d h = rising 0 (suc k) d (omega arith) (omega (arith, h))

pub ascends_without : {X : Type 0} (number : X → ℕ) (e : X) (l : List X) → AreAscending number (put_in number e l) → AreAscending number l
ascends_without number e [] rising = λ i j d h k. absurd (omega (arith, k))
ascends_without number e (x ∷ l) rising = by_order number e x l (nat_lt (number x) (number e)) (λ r. ascends_without number e l r) rising
  where
    by_order : {X : Type 0} (number : X → ℕ) (e x : X) (l : List X) (t : Bool) → (AreAscending number (put_in number e l) → AreAscending number l) → AreAscending number (cond t (x ∷ put_in number e l) (e ∷ x ∷ l)) → AreAscending number (x ∷ l)
    by_order {X} number e x l true rest rising =
        AllPairs-cons (λ (a b : X). number a < number b) x l (all_put (λ (y : X). number x < number y) number e l (head_below number x (put_in number e l) rising)) (rest (tail_ascends number x (put_in number e l) rising))
    by_order number e x l false rest rising = tail_ascends number e (x ∷ l) rising

-- ---- those that pass a test

low_passes : {X : Type 0} (number : X → ℕ) (e x : X) (a b : Bool) (f g : List X) → number x < number e → g ≡ cond b (put_in number e f) f → cond a (x ∷ g) g ≡ cond b (put_in number e (cond a (x ∷ f) f)) (cond a (x ∷ f) f)
low_passes {X} number e x true true f g less h = rw (is_lower (number x) (number e) less) (ap (λ (l : List X). x ∷ l) h)
low_passes {X} number e x true false f g less h = ap (λ (l : List X). x ∷ l) h
low_passes number e x false true f g less h = h
low_passes number e x false false f g less h = h

first_passes : {X : Type 0} (number : X → ℕ) (e : X) (b : Bool) (f : List X) → IsAtLeast number e f → cond b (e ∷ f) f ≡ cond b (put_in number e f) f
first_passes number e true f least = sym (at_first number e f least)
first_passes number e false f least = refl

pub filter_put : {X : Type 0} (number : X → ℕ) (test : X → Bool) (e : X) (xs : List X) → AreAscending number xs → filter test (put_in number e xs) ≡ cond (test e) (put_in number e (filter test xs)) (filter test xs)
filter_put number test e [] rising = refl
filter_put {X} number test e (x ∷ xs) rising = elim (cases_lt (number x) (number e)) [
  | inl less ↦ rw (is_lower (number x) (number e) less) (low_passes number e x (test x) (test e) (filter test xs) (filter test (put_in number e xs)) less (filter_put number test e xs (tail_ascends number x xs rising)))
  | inr more ↦
      let least : IsAtLeast number e (x ∷ xs) = least_cons number e x xs more (least_on number e x xs more (least_later number x xs rising)) in
      rw (not_lower (number x) (number e) more) (first_passes number e (test e) (filter test (x ∷ xs)) (All-filter test (λ (y : X). number e ≤ number y) (x ∷ xs) least))
]

pub filter_merged : {X : Type 0} (number : X → ℕ) (test : X → Bool) (es rs : List X) → AreAscending number (merged number es rs) → filter test (merged number es rs) ≡ merged number (filter test es) (filter test rs)
filter_merged number test [] rs rising = refl
filter_merged {X} number test (e ∷ es) rs rising =
    let rest : AreAscending number (merged number es rs) = ascends_without number e (merged number es rs) rising in
    filter_put number test e (merged number es rs) rest
    ∙ ap (λ (l : List X). cond (test e) (put_in number e l) l) (filter_merged number test es rs rest)
    ∙ by_first number (test e) e (filter test es) (filter test rs)
  where
    by_first : {X : Type 0} (number : X → ℕ) (t : Bool) (e : X) (es rs : List X) → cond t (put_in number e (merged number es rs)) (merged number es rs) ≡ merged number (cond t (e ∷ es) es) rs
    by_first number true e es rs = refl
    by_first number false e es rs = refl

-- ---- each changed in the same way, its number kept

map_choice : {X Y : Type 0} (f : X → Y) (t : Bool) (xs ys : List X) → map f (cond t xs ys) ≡ cond t (map f xs) (map f ys)
map_choice f true xs ys = refl
map_choice f false xs ys = refl

pub map_put : {X Y : Type 0} (number : X → ℕ) (other : Y → ℕ) (f : X → Y) → ((x : X) → other (f x) ≡ number x) → (e : X) (xs : List X) → map f (put_in number e xs) ≡ put_in other (f e) (map f xs)
map_put number other f same e [] = refl
map_put {X} {Y} number other f same e (x ∷ xs) =
    map_choice f (nat_lt (number x) (number e)) (x ∷ put_in number e xs) (e ∷ x ∷ xs)
    ∙ ap (λ (l : List Y). cond (nat_lt (number x) (number e)) (f x ∷ l) (f e ∷ f x ∷ map f xs)) (map_put number other f same e xs)
    ∙ ap (λ (n : ℕ). cond (nat_lt n (number e)) (f x ∷ put_in other (f e) (map f xs)) (f e ∷ f x ∷ map f xs)) (sym (same x))
    ∙ ap (λ (n : ℕ). cond (nat_lt (other (f x)) n) (f x ∷ put_in other (f e) (map f xs)) (f e ∷ f x ∷ map f xs)) (sym (same e))

pub map_merged : {X Y : Type 0} (number : X → ℕ) (other : Y → ℕ) (f : X → Y) → ((x : X) → other (f x) ≡ number x) → (es rs : List X) → map f (merged number es rs) ≡ merged other (map f es) (map f rs)
map_merged number other f same [] rs = refl
map_merged number other f same (e ∷ es) rs = map_put number other f same e (merged number es rs) ∙ ap (put_in other (f e)) (map_merged number other f same es rs)

-- ---- with no second list

pub merged_none : {X : Type 0} (number : X → ℕ) (es : List X) → AreAscending number es → merged number es [] ≡ es
merged_none number [] rising = refl
merged_none number (e ∷ es) rising = ap (put_in number e) (merged_none number es (tail_ascends number e es rising)) ∙ at_first number e es (least_later number e es rising)

-- ---- the contact with a key

-- the first choice stands before the second, where both can't be
exchanged : {X : Type 0} (a b n : ℕ) (x y l r : Option X) → a < b → l ≡ cond (b == n) y r → cond (a == n) x l ≡ cond (b == n) y (cond (a == n) x r)
exchanged a b n x y l r less h = elim (cases_eq a n) [
  | inl s ↦ rw (is_same a n s, not_same b n (λ q. omega (arith, less, s, q))) refl
  | inr off ↦ rw (not_same a n off) h
]

pub lookup_put : (e : ContactEntry) (es : List ContactEntry) (key : ContactKey) → lookup (put_in number_of e es) key ≡ cond (number_of e == key_number key) (Some e) (lookup es key)
lookup_put e [] key = refl
lookup_put e (x ∷ es) key = elim (cases_lt (number_of x) (number_of e)) [
  | inl less ↦ rw (is_lower (number_of x) (number_of e) less) (exchanged (number_of x) (number_of e) (key_number key) (Some x) (Some e) (lookup (put_in number_of e es) key) (lookup es key) less (lookup_put e es key))
  | inr more ↦ rw (not_lower (number_of x) (number_of e) more) refl
]

or_first : {X : Type 0} (t : Bool) (x a b : Option X) → is_some x ≡ true → cond t x (option_or a b) ≡ option_or (cond t x a) b
or_first true None a b h = cc
or_first true (Some x) a b h = refl
or_first false x a b h = refl

pub lookup_merged : (es rs : List ContactEntry) (key : ContactKey) → lookup (merged number_of es rs) key ≡ option_or (lookup es key) (lookup rs key)
lookup_merged [] rs key = refl
lookup_merged (e ∷ es) rs key =
    lookup_put e (merged number_of es rs) key
    ∙ ap (λ (o : Option ContactEntry). cond (number_of e == key_number key) (Some e) o) (lookup_merged es rs key)
    ∙ or_first (number_of e == key_number key) (Some e) (lookup es key) (lookup rs key) refl

-- ---- no key counts twice

none_beside : (e : ContactEntry) (l : List ContactEntry) (key : ContactKey) → AreAscending number_of (put_in number_of e l) → number_of e ≡ key_number key → lookup l key ≡ None
none_beside e [] key rising is = refl
none_beside e (x ∷ l) key rising is = by_order e x l key (cases_lt (number_of x) (number_of e)) rising is (λ r. none_beside e l key r is)
  where
    by_order : (e x : ContactEntry) (l : List ContactEntry) (key : ContactKey) → (number_of x < number_of e) ⊎ (number_of e ≤ number_of x) → AreAscending number_of (put_in number_of e (x ∷ l)) → number_of e ≡ key_number key → (AreAscending number_of (put_in number_of e l) → lookup l key ≡ None) → lookup (x ∷ l) key ≡ None
    by_order e x l key (inl less) rising is rest =
        let up : AreAscending number_of (x ∷ put_in number_of e l) = rw (is_lower (number_of x) (number_of e) less) at rising in
        lookup-later x l key (λ q. omega (arith, less, is, q)) ∙ rest (tail_ascends number_of x (put_in number_of e l) up)
    by_order e x l key (inr more) rising is rest =
        let up : AreAscending number_of (e ∷ x ∷ l) = rw (not_lower (number_of x) (number_of e) more) at rising in
        lookup-none (x ∷ l) key x (λ k h q. let over : number_of e < number_of (get_or (x ∷ l) k x) = head_below number_of e (x ∷ l) up k x h in omega (arith, over, is, q))

or_none : {X : Type 0} (a b : Option X) → option_or a b ≡ None → b ≡ None
or_none None b h = h
or_none (Some a) b h = cc

-- a key of the first list isn't one of the second
pub only_once : (es rs : List ContactEntry) (key : ContactKey) → AreAscending number_of (merged number_of es rs) → is_some (lookup es key) ≡ true → lookup rs key ≡ None
only_once [] rs key rising h = cc
only_once (e ∷ es) rs key rising h = elim (cases_eq (number_of e) (key_number key)) [
  | inl s ↦ or_none (lookup es key) (lookup rs key) (sym (lookup_merged es rs key) ∙ none_beside e (merged number_of es rs) key rising s)
  | inr off ↦ only_once es rs key (ascends_without number_of e (merged number_of es rs) rising) (ap is_some (sym (lookup-later e es key off)) ∙ h)
]
