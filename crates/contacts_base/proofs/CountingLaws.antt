-- Those contacts of a list that count: by place those whose flag isn't set.
use Rattle.std.proofs.Common.{◌≡◌, ℕ, zero, suc, ◌<◌, ◌==◌, Bool, true, false, cond, not, List, [], ◌∷◌, length, get_or, map, Option, Some, None, arith, refl, sym, ap, ◌∙◌, inl, inr, true≢false}
use Rattle.std.specs.Prelude.{filter, slice_get, slice_set}
use Rattle.std.specs.List.{All}
use Rattle.std.specs.Option.{is_some, option_map}
use Rattle.std.proofs.lemmas.Bool.{cases_eq, cases_lt}
use Rattle.std.proofs.lemmas.List.{get_or_default, get_or-set_other, get_or-set_same, length-set}
use Rattle.std.proofs.lemmas.List.Elements.{All-cons, All-head, All-tail, All-map, All-weaker}
use Rattle.std.proofs.lemmas.List.Kept.{AllPairs-cons}
use Rattle.contacts_base.specs.declared.key.ContactKey.{ContactKey}
use Rattle.contacts_base.specs.declared.contact.Contact.{Contact}
use Rattle.contacts_base.specs.declared.contact.ContactEntry.{ContactEntry}
use Rattle.contacts_base.specs.declared.evaluation.Impulses.{Impulses}
use Rattle.contacts_base.specs.declared.split.Renewal.{Renewal}
use Rattle.contacts_base.specs.Keys.{key_number}
use Rattle.contacts_base.specs.Surfaces.{IsSurface}
use Rattle.contacts_base.specs.Contacts.{AreKeysRising, lookup, number_of}
use Rattle.contacts_base.specs.ContactLists.{AreContacts, IsFirstFrom, contact_set, impulses_given, keys_of, with_points}
use Rattle.contacts_base.specs.Merge.{AreAscending}
use Rattle.contacts_base.specs.Split.{counting, is_over, over_at, renewed}
use Rattle.contacts_base.proofs.ContactsLemmas.{contacts_put}
use Rattle.contacts_base.proofs.LookupLemmas.{keys_later, lookup-at, lookup-beyond, lookup-here, lookup-later, lookup-missed, lookup-none}
use Rattle.contacts_base.proofs.MergeLaws.{tail_ascends}
use Rattle.contacts_base.proofs.MergedLaws.{is_same, not_same}

-- ---- what holds of all of a list holds of those that count

pub all_counting : (P : ContactEntry → Type 0) (over : List Bool) (es : List ContactEntry) → All P es → All P (counting over es)
all_counting P over [] all = all
all_counting P [] (e ∷ es) all = All-cons P e (counting [] es) (All-head P e es all) (all_counting P [] es (All-tail P e es all))
all_counting P (o ∷ over) (e ∷ es) all = by_flag P o e (counting over es) (All-head P e es all) (all_counting P over es (All-tail P e es all))
  where
    by_flag : (P : ContactEntry → Type 0) (o : Bool) (e : ContactEntry) (es : List ContactEntry) → P e → All P es → All P (cond o es (e ∷ es))
    by_flag P true e es one all = all
    by_flag P false e es one all = All-cons P e es one all

head_below : (e : ContactEntry) (es : List ContactEntry) → AreAscending number_of (e ∷ es) → All (λ f. number_of e < number_of f) es
head_below e es rising k d h = rising 0 (suc k) d (omega arith) (omega (arith, h))

pub counting_ascends : (over : List Bool) (es : List ContactEntry) → AreAscending number_of es → AreAscending number_of (counting over es)
counting_ascends over [] rising = rising
counting_ascends [] (e ∷ es) rising =
    AllPairs-cons (λ a b. number_of a < number_of b) e (counting [] es) (all_counting (λ f. number_of e < number_of f) [] es (head_below e es rising)) (counting_ascends [] es (tail_ascends number_of e es rising))
counting_ascends (o ∷ over) (e ∷ es) rising =
    by_flag o e (counting over es) (all_counting (λ f. number_of e < number_of f) over es (head_below e es rising)) (counting_ascends over es (tail_ascends number_of e es rising))
  where
    by_flag : (o : Bool) (e : ContactEntry) (es : List ContactEntry) → All (λ f. number_of e < number_of f) es → AreAscending number_of es → AreAscending number_of (cond o es (e ∷ es))
    by_flag true e es below up = up
    by_flag false e es below up = AllPairs-cons (λ a b. number_of a < number_of b) e es below up

-- ---- where none is over

pub all_count : (over : List Bool) (es : List ContactEntry) → All (λ flag. flag ≡ false) over → counting over es ≡ es
all_count over [] none = refl
all_count [] (e ∷ es) none = ap (λ (l : List ContactEntry). e ∷ l) (all_count [] es none)
all_count (o ∷ over) (e ∷ es) none =
    let P : Bool → Type 0 = λ flag. flag ≡ false in
    let off : o ≡ false = All-head P o over none in
    ap (λ (t : Bool). cond t (counting over es) (e ∷ counting over es)) off ∙ ap (λ (l : List ContactEntry). e ∷ l) (all_count over es (All-tail P o over none))

-- ---- which of them has a key

-- a key that the list hasn't
none_by : (t : Bool) (e : ContactEntry) (o c : Option ContactEntry) → (o ≡ None → c ≡ None) → cond t (Some e) o ≡ None → cond t (Some e) c ≡ None
none_by true e o c rest h = cc
none_by false e o c rest h = rest h

none_by_flag : (o : Bool) (e : ContactEntry) (es : List ContactEntry) (key : ContactKey) → lookup (e ∷ es) key ≡ None → lookup es key ≡ None → lookup (cond o es (e ∷ es)) key ≡ None
none_by_flag true e es key with without = without
none_by_flag false e es key with without = with

later_none : (t : Bool) (e : ContactEntry) (o : Option ContactEntry) → cond t (Some e) o ≡ None → o ≡ None
later_none true e o h = cc
later_none false e o h = h

pub none_counts : (over : List Bool) (es : List ContactEntry) (key : ContactKey) → lookup es key ≡ None → lookup (counting over es) key ≡ None
none_counts over [] key h = refl
none_counts [] (e ∷ es) key h = none_by (number_of e == key_number key) e (lookup es key) (lookup (counting [] es) key) (none_counts [] es key) h
none_counts (o ∷ over) (e ∷ es) key h =
    none_by_flag o e (counting over es) key (none_by (number_of e == key_number key) e (lookup es key) (lookup (counting over es) key) (none_counts over es key) h) (none_counts over es key (later_none (number_of e == key_number key) e (lookup es key) h))

-- a contact after one with the key hasn't it
later_none_has : (e : ContactEntry) (es : List ContactEntry) (key : ContactKey) → AreAscending number_of (e ∷ es) → number_of e ≡ key_number key → lookup es key ≡ None
later_none_has e es key rising is = lookup-none es key e (λ k h q. let up : number_of e < number_of (get_or es k e) = head_below e es rising k e h in omega (arith, up, is, q))

-- the one at a place, unless it is over
pub counted_at : (over : List Bool) (es : List ContactEntry) (key : ContactKey) (p : ℕ) (d : ContactEntry) → AreAscending number_of es → p < length es → number_of (get_or es p d) ≡ key_number key → lookup (counting over es) key ≡ cond (is_over over p) None (Some (get_or es p d))
counted_at over [] key p d rising lt is = absurd (omega (arith, lt))
counted_at [] (e ∷ es) key zero d rising lt is = lookup-here e (counting [] es) key is
counted_at (o ∷ over) (e ∷ es) key zero d rising lt is = by_flag o e (counting over es) key is (none_counts over es key (later_none_has e es key rising is))
  where
    by_flag : (o : Bool) (e : ContactEntry) (es : List ContactEntry) (key : ContactKey) → number_of e ≡ key_number key → lookup es key ≡ None → lookup (cond o es (e ∷ es)) key ≡ cond o None (Some e)
    by_flag true e es key is none = none
    by_flag false e es key is none = lookup-here e es key is
counted_at [] (e ∷ es) key (suc p) d rising lt is =
    let less : number_of e < number_of (get_or es p d) = rising 0 (suc p) d (omega arith) lt in
    lookup-later e (counting [] es) key (λ q. omega (arith, less, is, q)) ∙ counted_at [] es key p d (tail_ascends number_of e es rising) (omega (arith, lt)) is
counted_at (o ∷ over) (e ∷ es) key (suc p) d rising lt is =
    let less : number_of e < number_of (get_or es p d) = rising 0 (suc p) d (omega arith) lt in
    by_flag o e (counting over es) key (λ q. omega (arith, less, is, q)) ∙ counted_at over es key p d (tail_ascends number_of e es rising) (omega (arith, lt)) is
  where
    by_flag : (o : Bool) (e : ContactEntry) (es : List ContactEntry) (key : ContactKey) → (number_of e ≡ key_number key → ⊥) → lookup (cond o es (e ∷ es)) key ≡ lookup es key
    by_flag true e es key off = refl
    by_flag false e es key off = lookup-later e es key off

-- where a search found a contact
pub record IsThere (es : List ContactEntry) (key : ContactKey) (p : ℕ) (e : ContactEntry) : Type 0 where
  pub within : p < length es
  pub number : number_of (get_or es p e) ≡ key_number key
  pub is : get_or es p e ≡ e

pub found_there : (es : List ContactEntry) (key : ContactKey) (p : ℕ) (e : ContactEntry) → AreKeysRising es → IsFirstFrom es (key_number key) p → lookup es key ≡ Some e → IsThere es key p e
found_there es key p e rising first h =
    let within : p < length es = elim (cases_lt p (length es)) [
      | inl lt ↦ lt
      | inr ge ↦ absurd (let wrong : None ≡ Some e = sym (lookup-beyond es key p first.below.before ge) ∙ h in cc)
    ] in
    let number : number_of (get_or es p e) ≡ key_number key = elim (cases_eq (number_of (get_or es p e)) (key_number key)) [
      | inl s ↦ s
      | inr off ↦ absurd (let wrong : None ≡ Some e = sym (missed es key p e rising first within off) ∙ h in cc)
    ] in
    record { within = within; number = number; is = some_is (get_or es p e) e (sym (lookup-at es key p e within (λ k q. first.below.before k e (omega arith) q) number) ∙ h) }
  where
    some_is : (a b : ContactEntry) → Some a ≡ Some b → a ≡ b
    some_is a b h = cc

    missed : (es : List ContactEntry) (key : ContactKey) (p : ℕ) (e : ContactEntry) → AreKeysRising es → IsFirstFrom es (key_number key) p → p < length es → (number_of (get_or es p e) ≡ key_number key → ⊥) → lookup es key ≡ None
    missed es key p e rising first lt off = lookup-missed es key p (get_or es p e) rising first.below.before (λ q. first.there (get_or es p e) q) lt (get_or_default es p e (get_or es p e) lt) off

pub counted_found : (over : List Bool) (es : List ContactEntry) (key : ContactKey) (p : ℕ) (e : ContactEntry) → AreKeysRising es → IsFirstFrom es (key_number key) p → lookup es key ≡ Some e → lookup (counting over es) key ≡ cond (is_over over p) None (Some e)
counted_found over es key p e rising first h =
    let there : IsThere es key p e = found_there es key p e rising first h in
    counted_at over es key p e (keys_later es rising) there.within there.number ∙ ap (λ (x : ContactEntry). cond (is_over over p) None (Some x)) there.is

-- ---- a function that is applied to each

pub map_counting : (f : ContactEntry → ContactEntry) (over : List Bool) (es : List ContactEntry) → map f (counting over es) ≡ counting over (map f es)
map_counting f over [] = refl
map_counting f [] (e ∷ es) = ap (λ (l : List ContactEntry). f e ∷ l) (map_counting f [] es)
map_counting f (o ∷ over) (e ∷ es) = by_flag f o e (counting over es) ∙ ap (λ (l : List ContactEntry). cond o l (f e ∷ l)) (map_counting f over es)
  where
    by_flag : (f : ContactEntry → ContactEntry) (o : Bool) (e : ContactEntry) (es : List ContactEntry) → map f (cond o es (e ∷ es)) ≡ cond o (map f es) (f e ∷ map f es)
    by_flag f true e es = refl
    by_flag f false e es = refl

-- ---- contacts that are over

pub length-over_at : (places : List ℕ) (over : List Bool) → length (over_at places over) ≡ length over
length-over_at [] over = refl
length-over_at (p ∷ places) over = length-over_at places (slice_set over p true) ∙ length-set over p true

-- a place whose flag is set is one of them
flag_within : (over : List Bool) (p : ℕ) → is_over over p ≡ true → p < length over
flag_within [] p is = absurd (true≢false (sym is))
flag_within (o ∷ over) zero is = omega arith
flag_within (o ∷ over) (suc p) is = let lt : p < length over = flag_within over p is in omega (arith, lt)

-- what is over stays so
pub set_stays : (over : List Bool) (q p : ℕ) → is_over over p ≡ true → is_over (slice_set over q true) p ≡ true
set_stays over q p is = elim (cases_eq p q) [
  | inl same ↦ ap (λ (k : ℕ). is_over (slice_set over q true) k) same ∙ get_or-set_same over q true false (let lt : p < length over = flag_within over p is in omega (arith, lt, same))
  | inr off ↦ get_or-set_other over q p true false off ∙ is
]

-- setting a flag that is set, or that isn't there, changes none
pub set_again : (over : List Bool) (p : ℕ) → (p < length over → is_over over p ≡ true) → slice_set over p true ≡ over
set_again [] p is = refl
set_again (o ∷ over) zero is = let on : o ≡ true = is (omega arith) in ap (λ (t : Bool). t ∷ over) (sym on)
set_again (o ∷ over) (suc p) is = ap (λ (l : List Bool). o ∷ l) (set_again over p (λ lt. is (omega (arith, lt))))

-- those that pass a test are over
pub counting_by : (test : ContactEntry → Bool) (over later : List Bool) (es : List ContactEntry) → length over ≡ length es → length later ≡ length es → ((p : ℕ) → is_over over p ≡ true → is_over later p ≡ true)
    → ((p : ℕ) (e : ContactEntry) → slice_get es p ≡ Some e → is_over over p ≡ false → is_over later p ≡ test e) → counting later es ≡ filter (λ e. not (test e)) (counting over es)
counting_by test over later [] same also stays now = refl
counting_by test [] later (e ∷ es) same also stays now = absurd (omega (arith, same))
counting_by test (o ∷ over) [] (e ∷ es) same also stays now = absurd (omega (arith, also))
counting_by test (o ∷ over) (l ∷ later) (e ∷ es) same also stays now =
    by_flags test o l e (counting later es) (counting over es) (stays 0) (now 0 e refl)
    (counting_by test over later es (omega (arith, same)) (omega (arith, also)) (λ p is. stays (suc p) is) (λ p f at is. now (suc p) f at is))
  where
    by_test : (e : ContactEntry) (t : Bool) (es fs : List ContactEntry) → es ≡ fs → cond t es (e ∷ es) ≡ cond (not t) (e ∷ fs) fs
    by_test e true es fs h = h
    by_test e false es fs h = ap (λ (l : List ContactEntry). e ∷ l) h

    by_flags : (test : ContactEntry → Bool) (o l : Bool) (e : ContactEntry) (es fs : List ContactEntry) → (o ≡ true → l ≡ true) → (o ≡ false → l ≡ test e) → es ≡ filter (λ f. not (test f)) fs → cond l es (e ∷ es) ≡ filter (λ f. not (test f)) (cond o fs (e ∷ fs))
    by_flags test true l e es fs stays now h = ap (λ (b : Bool). cond b es (e ∷ es)) (stays refl) ∙ h
    by_flags test false l e es fs stays now h = ap (λ (b : Bool). cond b es (e ∷ es)) (now refl) ∙ by_test e (test e) es (filter (λ f. not (test f)) fs) h

-- ---- impulses that the contact with a key is given

abbrev pub given : ContactKey → Impulses → Option Impulses → ContactEntry → ContactEntry
given key first second e = cond (number_of e == key_number key) (with_points first second e) e

given_by : (t : Bool) (first : Impulses) (second : Option Impulses) (e : ContactEntry) → (cond t (with_points first second e) e).key ≡ e.key
given_by true first second e = refl
given_by false first second e = refl

surface_by : (t : Bool) (first : Impulses) (second : Option Impulses) (e : ContactEntry) → IsSurface e.surface → IsSurface (cond t (with_points first second e) e).surface
surface_by true first second e h = h
surface_by false first second e h = h

pub given_key : (key : ContactKey) (first : Impulses) (second : Option Impulses) (e : ContactEntry) → (given key first second e).key ≡ e.key
given_key key first second e = given_by (number_of e == key_number key) first second e

pub keys_given : (key : ContactKey) (first : Impulses) (second : Option Impulses) (es : List ContactEntry) → keys_of (impulses_given key first second es) ≡ keys_of es
keys_given key first second [] = refl
keys_given key first second (e ∷ es) = ap (λ (k : ContactKey). k ∷ keys_of (impulses_given key first second es)) (given_key key first second e) ∙ ap (λ (l : List ContactKey). e.key ∷ l) (keys_given key first second es)

pub numbers_given : (key : ContactKey) (first : Impulses) (second : Option Impulses) (es : List ContactEntry) → map number_of (impulses_given key first second es) ≡ map number_of es
numbers_given key first second [] = refl
numbers_given key first second (e ∷ es) = ap (λ (k : ContactKey). key_number k ∷ map number_of (impulses_given key first second es)) (given_key key first second e) ∙ ap (λ (l : List ℕ). number_of e ∷ l) (numbers_given key first second es)

pub contacts_given : (key : ContactKey) (first : Impulses) (second : Option Impulses) (es : List ContactEntry) → AreContacts es → AreContacts (impulses_given key first second es)
contacts_given key first second es are = record {
  rising = rw (numbers_given key first second es) are.rising;
  surfaces = All-map (λ e. IsSurface e.surface) (given key first second) es (All-weaker (λ e. IsSurface e.surface) (λ e. IsSurface (given key first second e).surface) (λ e h. surface_by (number_of e == key_number key) first second e h) es are.surfaces);
}

pub given_none : (key : ContactKey) (first : Impulses) (second : Option Impulses) (es : List ContactEntry) → lookup es key ≡ None → impulses_given key first second es ≡ es
given_none key first second [] h = refl
given_none key first second (e ∷ es) h = by_test (number_of e == key_number key) first second e (lookup es key) (impulses_given key first second es) es (given_none key first second es) h
  where
    by_test : (t : Bool) (first : Impulses) (second : Option Impulses) (e : ContactEntry) (o : Option ContactEntry) (fs es : List ContactEntry) → (o ≡ None → fs ≡ es) → cond t (Some e) o ≡ None → cond t (with_points first second e) e ∷ fs ≡ e ∷ es
    by_test true first second e o fs es rest h = cc
    by_test false first second e o fs es rest h = ap (λ (l : List ContactEntry). e ∷ l) (rest h)

pub given_at : (key : ContactKey) (first : Impulses) (second : Option Impulses) (es : List ContactEntry) (p : ℕ) (e : ContactEntry) → AreAscending number_of es → p < length es → get_or es p e ≡ e → number_of e ≡ key_number key → impulses_given key first second es ≡ slice_set es p (with_points first second e)
given_at key first second [] p e rising lt there is = absurd (omega (arith, lt))
given_at key first second (x ∷ es) zero e rising lt there is =
    let same : number_of x ≡ key_number key = ap number_of there ∙ is in
    rw (is_same (number_of x) (key_number key) same) (ap (λ (y : ContactEntry). with_points first second y ∷ impulses_given key first second es) there ∙ ap (λ (l : List ContactEntry). with_points first second e ∷ l) (given_none key first second es (later_none_has x es key rising same)))
given_at key first second (x ∷ es) (suc p) e rising lt there is =
    let less : number_of x < number_of (get_or es p e) = rising 0 (suc p) e (omega arith) lt in
    let off : number_of x ≡ key_number key → ⊥ = λ q. let far : number_of (get_or es p e) ≡ key_number key = ap number_of there ∙ is in omega (arith, less, far, q) in
    rw (not_same (number_of x) (key_number key) off) (ap (λ (l : List ContactEntry). x ∷ l) (given_at key first second es p e (tail_ascends number_of x es rising) (omega (arith, lt)) there is))

-- what a search by key found
pub there_if : (es : List ContactEntry) (key : ContactKey) (p : ℕ) (d : ContactEntry) → AreKeysRising es → IsFirstFrom es (key_number key) p → is_some (lookup es key) ≡ true → (p < length es) × (number_of (get_or es p d) ≡ key_number key)
there_if es key p d rising first some = by_option es key p d rising first (lookup es key) refl some
  where
    by_option : (es : List ContactEntry) (key : ContactKey) (p : ℕ) (d : ContactEntry) → AreKeysRising es → IsFirstFrom es (key_number key) p → (o : Option ContactEntry) → lookup es key ≡ o → is_some o ≡ true → (p < length es) × (number_of (get_or es p d) ≡ key_number key)
    by_option es key p d rising first None h some = cc
    by_option es key p d rising first (Some e) h some =
        let there : IsThere es key p e = found_there es key p e rising first h in
        (there.within, ap number_of (get_or_default es p d e there.within) ∙ there.number)

pub within_if : (es : List ContactEntry) (key : ContactKey) (p : ℕ) → AreKeysRising es → IsFirstFrom es (key_number key) p → is_some (lookup es key) ≡ true → p < length es
within_if [] key p rising first some = cc
within_if (x ∷ es) key p rising first some = (there_if (x ∷ es) key p x rising first some).0

pub none_if : (o : Option ContactEntry) → is_some o ≡ false → o ≡ None
none_if None h = refl
none_if (Some e) h = cc

pub given_missed : (key : ContactKey) (first : Impulses) (second : Option Impulses) (es : List ContactEntry) → is_some (lookup es key) ≡ false → es ≡ impulses_given key first second es
given_missed key first second es none = sym (given_none key first second es (none_if (lookup es key) none))

-- what the code writes
pub given_there : (key : ContactKey) (first : Impulses) (second : Option Impulses) (es : List ContactEntry) (p : ℕ) (e f : ContactEntry) → AreKeysRising es → p < length es → e ≡ get_or es p e → number_of e ≡ key_number key → f ≡ with_points first second e → slice_set es p f ≡ impulses_given key first second es
given_there key first second es p e f rising lt is number set = ap (slice_set es p) set ∙ sym (given_at key first second es p e (keys_later es rising) lt (sym is) number)

pub counts_at : (over : List Bool) (es : List ContactEntry) (key : ContactKey) (p : ℕ) (e : ContactEntry) → AreKeysRising es → p < length es → e ≡ get_or es p e → number_of e ≡ key_number key → is_over over p ≡ false → is_some (lookup (counting over es) key) ≡ true
counts_at over es key p e rising lt is number off =
    ap is_some (counted_at over es key p e (keys_later es rising) lt (ap number_of (sym is) ∙ number) ∙ ap (λ (t : Bool). cond t None (Some (get_or es p e))) off)

pub same_at : (es : List ContactEntry) (p : ℕ) (e f : ContactEntry) → p < length es → e ≡ get_or es p e → f ≡ get_or es p f → f ≡ e
same_at es p e f lt is also = also ∙ get_or_default es p f e lt ∙ sym is

-- ---- contacts that are renewed

key_set : (es : List ContactEntry) (i : ℕ) (c : Contact) (o : Option ContactEntry) → o ≡ slice_get es i → keys_of (contact_set i c es o) ≡ keys_of es
key_set es i c None h = refl
key_set es i c (Some e) h = set_there es i e (record e { contact = c }) (sym h) refl
  where
    set_there : (es : List ContactEntry) (i : ℕ) (e f : ContactEntry) → slice_get es i ≡ Some e → f.key ≡ e.key → keys_of (slice_set es i f) ≡ keys_of es
    set_there [] i e f h same = refl
    set_there (x ∷ xs) zero e f h same = let is : x ≡ e = cc in ap (λ (k : ContactKey). k ∷ keys_of xs) (same ∙ ap (λ (y : ContactEntry). y.key) (sym is))
    set_there (x ∷ xs) (suc i) e f h same = ap (λ (ks : List ContactKey). x.key ∷ ks) (set_there xs i e f h same)

pub keys_renewed : (notes : List Renewal) (es : List ContactEntry) → keys_of (renewed notes es) ≡ keys_of es
keys_renewed [] es = refl
keys_renewed (r ∷ notes) es = keys_renewed notes (contact_set r.place r.contact es (slice_get es r.place)) ∙ key_set es r.place r.contact (slice_get es r.place) refl

pub contacts_renewed : (notes : List Renewal) (es : List ContactEntry) → AreContacts es → AreContacts (renewed notes es)
contacts_renewed [] es are = are
contacts_renewed (r ∷ notes) es are = contacts_renewed notes (contact_set r.place r.contact es (slice_get es r.place)) (contacts_put r.place r.contact es are)

pub length_keys : (es fs : List ContactEntry) → keys_of es ≡ keys_of fs → length es ≡ length fs
length_keys [] [] h = refl
length_keys [] (f ∷ fs) h = cc
length_keys (e ∷ es) [] h = cc
length_keys (e ∷ es) (f ∷ fs) h = let rest : length es ≡ length fs = length_keys es fs (tails e.key f.key (keys_of es) (keys_of fs) h) in omega (arith, rest)
  where
    tails : (a b : ContactKey) (ks ls : List ContactKey) → a ∷ ks ≡ b ∷ ls → ks ≡ ls
    tails a b ks ls h = cc

-- what was found by reference is there
pub found_behind : {B : Type 0} (now : B → ContactEntry) (o : Option B) (t : Bool) (es fs : List ContactEntry) (key : ContactKey) → option_map now o ≡ lookup es key → es ≡ fs → t ≡ is_some o → is_some (lookup fs key) ≡ t
found_behind {B} now o t es fs key found same is = sym (is ∙ by_option now o ∙ ap is_some found ∙ ap (λ (l : List ContactEntry). is_some (lookup l key)) same)
  where
    by_option : {B : Type 0} (now : B → ContactEntry) (o : Option B) → is_some o ≡ is_some (option_map now o)
    by_option now None = refl
    by_option now (Some b) = refl
