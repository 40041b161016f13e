-- What is kept of a long list of contacts and a short one, whatever becomes of them.
use Rattle.std.proofs.Common.{◌≡◌, ℕ, ◌==◌, Bool, true, false, not, List, [], ◌∷◌, length, map, Option, Some, None, arith, refl, sym, ap, ◌∙◌, subst}
use Rattle.std.specs.Prelude.{replicate}
use Rattle.std.specs.List.{All}
use Rattle.std.specs.Option.{ForSome, is_some, option_map, option_or}
use Rattle.std.proofs.lemmas.Bool.Decides.{nat_tests}
use Rattle.std.proofs.lemmas.List.{length-replicate}
use Rattle.std.proofs.lemmas.List.Elements.{All-replicate}
use Rattle.contacts_base.specs.declared.key.ContactKey.{ContactKey}
use Rattle.contacts_base.specs.declared.contact.ContactEntry.{ContactEntry}
use Rattle.contacts_base.specs.declared.evaluation.Impulses.{Impulses}
use Rattle.contacts_base.specs.declared.split.Renewal.{Renewal}
use Rattle.contacts_base.specs.Contacts.{contacts_but, lookup, number_of}
use Rattle.contacts_base.specs.ContactLists.{AreContacts, impulses_given, keys_of}
use Rattle.contacts_base.specs.Merge.{merged}
use Rattle.contacts_base.specs.Split.{Split, carried, contacts_in, counting, or_kept, over_at, renewed}
use Rattle.contacts_base.specs.IsSplit.{IsSplit}
use Rattle.contacts_base.specs.ShortLists.{IsShort}
use Rattle.contacts_base.proofs.ContactsLemmas.{contacts_left}
use Rattle.contacts_base.proofs.LookupLemmas.{keys_later}
use Rattle.contacts_base.proofs.MergedLaws.{filter_merged, lookup_merged, map_merged, merged_none, only_once}
use Rattle.contacts_base.proofs.CountingLaws.{all_count, contacts_given, contacts_renewed, given, given_key, given_none, keys_given, keys_renewed, length-over_at, length_keys, map_counting}
use Rattle.contacts_base.specs.Keys.{key_number}

abbrev pub split_of : List ContactEntry → List Bool → List ContactEntry → Split
split_of long over short = record { long = long; over = over; short = short }

-- ---- all in the long list

pub one_contacts : (es : List ContactEntry) (over : List Bool) (short : List ContactEntry) → AreContacts es → All (λ flag. flag ≡ false) over → short ≡ [] → contacts_in (split_of es over short) ≡ es
one_contacts es over short are none empty =
    ap (merged number_of (counting over es)) empty ∙ ap (λ (l : List ContactEntry). merged number_of l []) (all_count over es none) ∙ merged_none number_of es (keys_later es are.rising)

pub one_is : (s : Split) → IsSplit s → All (λ flag. flag ≡ false) s.over → s.short ≡ [] → contacts_in s ≡ s.long
one_is s is none empty = one_contacts s.long s.over s.short is.long_rises none empty

none_over : (over : List Bool) (n : ℕ) → over ≡ replicate n false → All (λ flag. flag ≡ false) over
none_over over n is = subst (All (λ flag. flag ≡ false)) (sym is) (All-replicate (λ flag. flag ≡ false) n false refl)

-- none of a list is over
pub none_counted : (es : List ContactEntry) (over : List Bool) (n : ℕ) → over ≡ replicate n false → counting over es ≡ es
none_counted es over n is = all_count over es (none_over over n is)

pub made_contacts : (es : List ContactEntry) (over : List Bool) (short : List ContactEntry) (n : ℕ) → AreContacts es → over ≡ replicate n false → short ≡ [] → contacts_in (split_of es over short) ≡ es
made_contacts es over short n are is empty = one_contacts es over short are (none_over over n is) empty

no_contacts : AreContacts []
no_contacts = record { rising = λ k h. absurd (omega (arith, h)); surfaces = λ k d h. absurd (omega (arith, h)) }

pub made_split : (es : List ContactEntry) (over : List Bool) (short : List ContactEntry) (n : ℕ) → AreContacts es → n ≡ length es → over ≡ replicate n false → short ≡ [] → IsSplit (split_of es over short)
made_split es over short n are len is empty = record {
  long_rises = are;
  short_rises = subst AreContacts (sym empty) no_contacts;
  all = subst AreContacts (sym (made_contacts es over short n are is empty)) are;
  flags = ap length is ∙ length-replicate n false ∙ len;
}

-- ---- impulses

pub given_contacts : (key : ContactKey) (first : Impulses) (second : Option Impulses) (s : Split) → contacts_in (split_of (impulses_given key first second s.long) s.over (impulses_given key first second s.short)) ≡ impulses_given key first second (contacts_in s)
given_contacts key first second s =
    let f : ContactEntry → ContactEntry = given key first second in
    ap (λ (l : List ContactEntry). merged number_of l (map f s.short)) (sym (map_counting f s.over s.long)) ∙ sym (map_merged number_of number_of f (λ e. ap key_number (given_key key first second e)) (counting s.over s.long) s.short)

pub given_split : (key : ContactKey) (first : Impulses) (second : Option Impulses) (s : Split) → IsSplit s → IsSplit (split_of (impulses_given key first second s.long) s.over (impulses_given key first second s.short))
given_split key first second s is = record {
  long_rises = contacts_given key first second s.long is.long_rises;
  short_rises = contacts_given key first second s.short is.short_rises;
  all = subst AreContacts (sym (given_contacts key first second s)) (contacts_given key first second (contacts_in s) is.all);
  flags = is.flags ∙ sym (length_keys (impulses_given key first second s.long) s.long (keys_given key first second s.long));
}

-- a contact of the long list that counts isn't in the short one
pub short_stays : (key : ContactKey) (first : Impulses) (second : Option Impulses) (s : Split) → IsSplit s → is_some (lookup (counting s.over s.long) key) ≡ true → impulses_given key first second s.short ≡ s.short
short_stays key first second s is found = given_none key first second s.short (only_once (counting s.over s.long) s.short key (keys_later (contacts_in s) is.all.rising) found)

-- as the code leaves them: by each list's own clause
pub given_is : (key : ContactKey) (first : Impulses) (second : Option Impulses) (s : Split) (long short : List ContactEntry) → long ≡ impulses_given key first second s.long → short ≡ impulses_given key first second s.short → contacts_in (split_of long s.over short) ≡ impulses_given key first second (contacts_in s)
given_is key first second s long short a b = ap (λ (l : List ContactEntry). contacts_in (split_of l s.over short)) a ∙ ap (λ (l : List ContactEntry). contacts_in (split_of (impulses_given key first second s.long) s.over l)) b ∙ given_contacts key first second s

pub given_is_split : (key : ContactKey) (first : Impulses) (second : Option Impulses) (s : Split) (long short : List ContactEntry) → long ≡ impulses_given key first second s.long → short ≡ impulses_given key first second s.short → IsSplit s → IsSplit (split_of long s.over short)
given_is_split key first second s long short a b is =
    subst (λ (l : List ContactEntry). IsSplit (split_of l s.over short)) (sym a) (subst (λ (l : List ContactEntry). IsSplit (split_of (impulses_given key first second s.long) s.over l)) (sym b) (given_split key first second s is))

-- of a list of which some are over
pub given_counted : (key : ContactKey) (first : Impulses) (second : Option Impulses) (over : List Bool) (es given_es : List ContactEntry) → given_es ≡ impulses_given key first second es → counting over given_es ≡ impulses_given key first second (counting over es)
given_counted key first second over es given_es is = ap (counting over) is ∙ sym (map_counting (given key first second) over es)

pub given_short : (key : ContactKey) (first : Impulses) (second : Option Impulses) (over : List Bool) (es given_es : List ContactEntry) → AreContacts es → length over ≡ length es → given_es ≡ impulses_given key first second es → IsShort (record { entries = given_es; over = over })
given_short key first second over es given_es are flags is = record {
  contacts = subst AreContacts (sym is) (contacts_given key first second es are);
  flags = flags ∙ sym (length_keys given_es es (ap keys_of is ∙ keys_given key first second es));
}

-- ---- the contact with a key that is over

pub ended_contacts : (s : Split) (key : ContactKey) (over : List Bool) (short : List ContactEntry) → IsSplit s → counting over s.long ≡ contacts_but key (counting s.over s.long) → short ≡ contacts_but key s.short → contacts_in (split_of s.long over short) ≡ contacts_but key (contacts_in s)
ended_contacts s key over short is first second =
    ap (λ (l : List ContactEntry). merged number_of l short) first
    ∙ ap (merged number_of (contacts_but key (counting s.over s.long))) second
    ∙ sym (filter_merged number_of (λ e. not (number_of e == key_number key)) (counting s.over s.long) s.short (keys_later (contacts_in s) is.all.rising))

pub ended_split : (s : Split) (key : ContactKey) (over : List Bool) (short : List ContactEntry) → IsSplit s → counting over s.long ≡ contacts_but key (counting s.over s.long) → length over ≡ length s.over → short ≡ contacts_but key s.short → IsSplit (split_of s.long over short)
ended_split s key over short is first flags second = record {
  long_rises = is.long_rises;
  short_rises = subst AreContacts (sym second) (contacts_left (λ e. not (number_of e == key_number key)) s.short is.short_rises);
  all = subst AreContacts (sym (ended_contacts s key over short is first second)) (contacts_left (λ e. not (number_of e == key_number key)) (contacts_in s) is.all);
  flags = flags ∙ is.flags;
}

-- ---- what was noted is carried out

pub carried_split : (notes : List Renewal) (ends : List ℕ) (short : Option (List ContactEntry)) (s : Split) → IsSplit s → AreContacts (or_kept short s.short) → AreContacts (contacts_in (carried notes ends short s)) → IsSplit (carried notes ends short s)
carried_split notes ends short s is new all = record {
  long_rises = contacts_renewed notes s.long is.long_rises;
  short_rises = new;
  all = all;
  flags = length-over_at ends s.over ∙ is.flags ∙ sym (length_keys (renewed notes s.long) s.long (keys_renewed notes s.long));
}

-- ---- in the code

pub empty_of : {X : Type 0} (xs : List X) (n : ℕ) (t : Bool) → n ≡ length xs → t ≡ (n == 0) → t ≡ true → xs ≡ []
empty_of [] n t l h e = refl
empty_of (x ∷ xs) n t l h e = let none : n ≡ 0 = grind (arith, nat_tests) in absurd (omega arith)

-- a contact of the long list that counts, or one of the short list
pub found_first : (s : Split) (key : ContactKey) (e : ContactEntry) → lookup (counting s.over s.long) key ≡ Some e → lookup (contacts_in s) key ≡ Some e
found_first s key e h = lookup_merged (counting s.over s.long) s.short key ∙ ap (λ (o : Option ContactEntry). option_or o (lookup s.short key)) h

pub found_second : (s : Split) (key : ContactKey) → lookup (counting s.over s.long) key ≡ None → lookup (contacts_in s) key ≡ lookup s.short key
found_second s key h = lookup_merged (counting s.over s.long) s.short key ∙ ap (λ (o : Option ContactEntry). option_or o (lookup s.short key)) h

-- a list that is given ascends, and so does the one that was there
kept_rises : {V : Type 0} (items : V → List ContactEntry) (o : Option V) (es : List ContactEntry) → ForSome o (λ v. AreContacts (items v)) → AreContacts es → AreContacts (or_kept (option_map items o) es)
kept_rises items None es new old = old
kept_rises items (Some v) es new old = new v refl

-- what is left by the parts' own clauses
pub carried_is_split : {V : Type 0} (items : V → List ContactEntry) (notes : List Renewal) (ends : List ℕ) (short : Option V) (s : Split) (long : List ContactEntry) (over : List Bool) (now : List ContactEntry) → long ≡ renewed notes s.long → over ≡ over_at ends s.over → now ≡ or_kept (option_map items short) s.short
    → IsSplit s → ForSome short (λ v. AreContacts (items v)) → AreContacts (contacts_in (carried notes ends (option_map items short) s)) → IsSplit (split_of long over now)
carried_is_split items notes ends short s long over now a b d is new all =
    subst (λ (l : List ContactEntry). IsSplit (split_of l over now)) (sym a)
    (subst (λ (flags : List Bool). IsSplit (split_of (renewed notes s.long) flags now)) (sym b)
    (subst (λ (l : List ContactEntry). IsSplit (split_of (renewed notes s.long) (over_at ends s.over) l)) (sym d)
    (carried_split notes ends (option_map items short) s is (kept_rises items short s.short new is.short_rises) all)))
