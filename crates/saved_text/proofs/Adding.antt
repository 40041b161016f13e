-- What calls add one after another.
use Rattle.std.proofs.Common.{◌≡◌, ℕ, ◌++◌, ◌∷◌, ◌&&◌, Bool, true, List, [], Ok, Err, Result, IfOk, OnOk, refl, sym, ap, ◌∙◌, append_assoc, append-nil, subst}
use Rattle.std.proofs.lemmas.Bool.{and_parts}
use Rattle.json.specs.Token.{Token, begin_array, begin_object, end_array, end_object, key}
use Rattle.json.specs.Tree as tree
use Rattle.json.specs.Written.{Writes, Written}
use Rattle.serde_json.specs.Data.{Data}
use Rattle.serde_json.specs.View.{items_of}
use Rattle.serde_json.specs.Written.{items_outline, members_outline}
use Rattle.world_file_base.specs.Written.{Member, list_data}
use Rattle.saved_text.specs.Tokens.{Adds, AddsItems, AddsMembers, AddsValue, IsObject, ItemsLeft, MembersLeft, are_whole, each_tokens, have_whole, in_order, members_tokens, tokens_of}
use Rattle.saved_text.specs.Whole.{are_items_whole, is_whole}

-- ---- one after another

pub wrote : {E : Type 0} (u : Unit {0}) (old new : Written) (t : Token) → Writes {E = E} (Ok u) old new t → Adds (t ∷ []) old new
wrote u old new t w = record { tokens_are = w.ok; before = w.room.0 }

after : (ts us : List Token) (a b c : List Token) → b ≡ a ++ ts → c ≡ b ++ us → c ≡ a ++ (ts ++ us)
after ts us a b c first second = second ∙ ap (λ l. l ++ us) first ∙ append_assoc a ts us

-- one token for a value
pub wrote_value : {E : Type 0} (r : Result (Unit {0}) E) (old new : Written) (t : Token) (d : Data) → tokens_of d ≡ t ∷ [] → is_whole d ≡ true → Writes r old new t → OnOk r (AddsValue d old new)
wrote_value (Ok u) old new t d one whole w = record { tokens_are = w.ok ∙ ap (λ ts. old.tokens ++ ts) (sym one); whole = whole; before = w.room.0 }
wrote_value (Err e) old new t d one whole w = tt

both_true : (a b : Bool) → a ≡ true → b ≡ true → a && b ≡ true
both_true a b p q = rw (p, q) refl

-- ---- members

pub member_added : (k : List ℕ) (d : Data) (a b c : Written) → Adds (key k ∷ []) a b → AddsValue d b c → AddsMembers ((k, d) ∷ []) a c
member_added k d a b c named value = record {
  tokens_are = after (key k ∷ []) (tokens_of d) a.tokens b.tokens c.tokens named.tokens_are value.tokens_are ∙ ap (λ l. a.tokens ++ key k ∷ l) (sym (append-nil (tokens_of d)));
  whole = both_true (is_whole d) true value.whole refl;
  before = value.before ∙ named.before;
}

members_both : (ms ns : List Member) → members_tokens (ms ++ ns) ≡ members_tokens ms ++ members_tokens ns
members_both [] ns = refl
members_both (m ∷ ms) ns = ap (λ l. key m.0 ∷ (tokens_of m.1 ++ l)) (members_both ms ns) ∙ ap (λ l. key m.0 ∷ l) (sym (append_assoc (tokens_of m.1) (members_tokens ms) (members_tokens ns)))

whole_both : (ms ns : List Member) → have_whole ms ≡ true → have_whole ns ≡ true → have_whole (ms ++ ns) ≡ true
whole_both [] ns p q = q
whole_both (m ∷ ms) ns p q = let parts = and_parts (is_whole m.1) (have_whole ms) p in both_true (is_whole m.1) (have_whole (ms ++ ns)) parts.0 (whole_both ms ns parts.1 q)

pub members_then : (ms ns : List Member) (a b c : Written) → AddsMembers ms a b → AddsMembers ns b c → AddsMembers (ms ++ ns) a c
members_then ms ns a b c first second = record {
  tokens_are = after (members_tokens ms) (members_tokens ns) a.tokens b.tokens c.tokens first.tokens_are second.tokens_are ∙ ap (λ l. a.tokens ++ l) (sym (members_both ms ns));
  whole = whole_both ms ns first.whole second.whole;
  before = second.before ∙ first.before;
}

-- ---- items

pub item_gone : (d : Data) (rest all : List Data) (old now next : Written) → ItemsLeft (d ∷ rest) all old now → AddsValue d now next → ItemsLeft rest all old next
item_gone d rest all old now next left added = record {
  tokens_are = ap (λ l. l ++ each_tokens rest) added.tokens_are ∙ append_assoc now.tokens (tokens_of d) (each_tokens rest) ∙ left.tokens_are;
  whole = sym (ap (λ t. t && are_whole rest) added.whole) ∙ left.whole;
  before = added.before ∙ left.before;
}

pub list_begun : (all : List Data) (old now : Written) → Adds (begin_array ∷ []) old now → ItemsLeft all all old now
list_begun all old now begun = record {
  tokens_are = ap (λ l. l ++ each_tokens all) begun.tokens_are ∙ append_assoc old.tokens (begin_array ∷ []) (each_tokens all);
  whole = refl;
  before = begun.before;
}

items_ended : (ds : List Data) → tree.items_tokens (items_outline (items_of ds)) ≡ each_tokens ds ++ end_array ∷ []
items_ended [] = refl
items_ended (d ∷ ds) = ap (λ l. tokens_of d ++ l) (items_ended ds) ∙ sym (append_assoc (tokens_of d) (each_tokens ds) (end_array ∷ []))

items_whole : (ds : List Data) → are_items_whole (items_of ds) ≡ are_whole ds
items_whole [] = refl
items_whole (d ∷ ds) = ap (λ t. is_whole d && t) (items_whole ds)

pub list_added : (rest all : List Data) (a b c : Written) → rest ≡ [] → ItemsLeft rest all a b → Adds (end_array ∷ []) b c → AddsValue (list_data all) a c
list_added rest all a b c none left ended = record {
  tokens_are =
      after (begin_array ∷ each_tokens all) (end_array ∷ []) a.tokens b.tokens c.tokens (sym (append-nil b.tokens) ∙ ap (λ ds. b.tokens ++ each_tokens ds) (sym none) ∙ left.tokens_are) ended.tokens_are
      ∙ ap (λ l. a.tokens ++ begin_array ∷ l) (sym (items_ended all));
  whole = items_whole all ∙ sym left.whole ∙ ap are_whole none;
  before = ended.before ∙ left.before;
}

-- ---- an object

members_ended : (ms : List Member) → tree.members_tokens (members_outline (in_order ms)) ≡ members_tokens ms ++ end_object ∷ []
members_ended [] = refl
members_ended (m ∷ ms) = ap (λ l. key m.0 ∷ (tokens_of m.1 ++ l)) (members_ended ms) ∙ ap (λ l. key m.0 ∷ l) (sym (append_assoc (tokens_of m.1) (members_tokens ms) (end_object ∷ [])))

pub object_added : (ms : List Member) (d : Data) (x y z w : Written) → IsObject ms d → Adds (begin_object ∷ []) x y → AddsMembers ms y z → Adds (end_object ∷ []) z w → AddsValue d x w
object_added ms d x y z w object begun members ended = record {
  tokens_are =
      after (begin_object ∷ []) (members_tokens ms ++ end_object ∷ []) x.tokens y.tokens w.tokens begun.tokens_are (after (members_tokens ms) (end_object ∷ []) y.tokens z.tokens w.tokens members.tokens_are ended.tokens_are)
      ∙ ap (λ l. x.tokens ++ l) (sym (ap tokens_of object.is ∙ ap (λ l. begin_object ∷ l) (members_ended ms)));
  whole = ap is_whole object.is ∙ object.ascends ∙ members.whole;
  before = ended.before ∙ members.before ∙ begun.before;
}

-- ---- a call's result

pub if_ok : {A E : Type 0} {P Q : A → Type 0} (r : Result A E) → ((a : A) → P a → Q a) → IfOk r P → IfOk r Q
if_ok (Ok a) f p = f a p
if_ok (Err e) f p = tt

-- ---- items in parts

each_both : (ds es : List Data) → each_tokens (ds ++ es) ≡ each_tokens ds ++ each_tokens es
each_both [] es = refl
each_both (d ∷ ds) es = ap (λ l. tokens_of d ++ l) (each_both ds es) ∙ sym (append_assoc (tokens_of d) (each_tokens ds) (each_tokens es))

whole_after : (ds es : List Data) → are_whole ds ≡ true → are_whole (ds ++ es) ≡ are_whole es
whole_after [] es whole = refl
whole_after (d ∷ ds) es whole = let parts = and_parts (is_whole d) (are_whole ds) whole in ap (λ t. t && are_whole (ds ++ es)) parts.0 ∙ whole_after ds es parts.1

pub items_gone : (ds rest all : List Data) (old now next : Written) → ItemsLeft (ds ++ rest) all old now → AddsItems ds now next → ItemsLeft rest all old next
items_gone ds rest all old now next left added = record {
  tokens_are =
      ap (λ l. l ++ each_tokens rest) added.tokens_are ∙ append_assoc now.tokens (each_tokens ds) (each_tokens rest)
      ∙ ap (λ l. now.tokens ++ l) (sym (each_both ds rest)) ∙ left.tokens_are;
  whole = sym (whole_after ds rest added.whole) ∙ left.whole;
  before = added.before ∙ left.before;
}

pub points_added : (ds es : List Data) (a b c d e : Written) → Adds (begin_array ∷ []) a b → AddsItems ds b c → AddsItems es c d → Adds (end_array ∷ []) d e → AddsValue (list_data (ds ++ es)) a e
points_added ds es a b c d e begun first second ended =
    let all = ds ++ es in
    let one = items_gone ds es all a b c (list_begun all a b begun) first in
    let nil = append-nil es in
    list_added [] all a d e refl (items_gone es [] all a c d (subst (λ (l : List Data). ItemsLeft l all a c) (sym nil) one) second) ended
