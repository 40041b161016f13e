-- A whole value is read of its text.
use Rattle.std.proofs.Common.{◌≡◌, ℕ, ◌&&◌, ◌≤◌, suc, ◌++◌, Bool, true, List, [], Option, Some, option_and_then, option_map, Ordering, Less, Equal, Greater, refl, sym, ap, ◌∙◌, arith, append-nil}
use Rattle.std.specs.Ordering.{is_gt, match_ordering, nat_cmp}
use Rattle.std.specs.Cmp.Lexicographic.{slice_cmp}
use Rattle.std.proofs.lemmas.Bool.{and_parts}
use Rattle.std.proofs.lemmas.Bool.Decides.{nat_tests}
use Rattle.json.specs.Json as json
use Rattle.json.specs.Lex.{tokens}
use Rattle.json.specs.Tree as tree
use Rattle.json.proofs.Printed.Trees.{value-json_tokens}
use Rattle.serde_json.specs.Data.{Data, Items, Members, Num, array, boolean, depth, float, item, items_depth, member, members_depth, negative, no_items, no_members, null, number, object, put, string, unsigned}
use Rattle.serde_json.specs.Read.{max_depth, number_of, of_items, of_json, of_members, read}
use Rattle.serde_json.specs.Written.{items_outline, members_outline, number_text, outline}
use Rattle.serde_json.proofs.Numbers.{number_of-decimal, number_of-negative}
use Rattle.std.specs.Prelude.{pos, negsuc}
use Rattle.json.specs.Print.{print}
use Rattle.json.specs.Written.{Written}
use Rattle.serde_json.proofs.Texts.{print-outline}
use Rattle.saved_text.specs.Texts.{IsTextOf}
use Rattle.saved_text.specs.Tokens.{AddsValue, tokens_of}
use Rattle.saved_text.specs.Whole.{are_items_whole, are_members_whole, is_before, is_narrow, is_whole}

number_read : (n : Num) → is_narrow n ≡ true → number_of (number_text n) ≡ Some n
number_read (unsigned n) narrow = number_of-decimal n (grind (arith, nat_tests))
number_read (negative (pos n)) narrow = cc
number_read (negative (negsuc n)) narrow = number_of-negative n (grind (arith, nat_tests))
number_read (float x) narrow = cc

-- ---- members that are put in the order of their keys

both_true : (a b : Bool) → a ≡ true → b ≡ true → a && b ≡ true
both_true a b p q = rw (p, q) refl

abbrev joined : Members → Members → Members
joined no_members ms = ms
joined (member k d more) ms = member k d (joined more ms)

joined_none : (ms : Members) → joined ms no_members ≡ ms
joined_none no_members = refl
joined_none (member k d ms) = ap (member k d) (joined_none ms)

joined_more : (found more : Members) (k : List ℕ) (d : Data) → joined (joined found (member k d no_members)) more ≡ joined found (member k d more)
joined_more no_members more k d = refl
joined_more (member l e found) more k d = ap (member l e) (joined_more found more k d)

-- the key stands after those of these members
abbrev is_after : List ℕ → Members → Bool
is_after k no_members = true
is_after k (member l e ms) = is_gt (slice_cmp nat_cmp k l) && is_after k ms

abbrev are_before : Members → Members → Bool
are_before no_members ms = true
are_before (member l e found) ms = is_before l ms && are_before found ms

greater_then : (o : Ordering) (a b c : Members) → is_gt o ≡ true → match_ordering o a b c ≡ c
greater_then Less a b c is = cc
greater_then Equal a b c is = cc
greater_then Greater a b c is = refl

put_last : (k : List ℕ) (d : Data) (found : Members) → is_after k found ≡ true → put k d found ≡ joined found (member k d no_members)
put_last k d no_members last = refl
put_last k d (member l e found) last =
    let parts = and_parts (is_gt (slice_cmp nat_cmp k l)) (is_after k found) last in
    greater_then (slice_cmp nat_cmp k l) (member k d (member l e found)) (member l d found) (member l e (put k d found)) parts.0 ∙ ap (member l e) (put_last k d found parts.1)

one_after : (found ms : Members) (k : List ℕ) (d : Data) → are_before found (member k d ms) ≡ true → is_after k found ≡ true
one_after no_members ms k d before = refl
one_after (member l e found) ms k d before =
    let parts = and_parts (is_gt (slice_cmp nat_cmp k l) && is_before l ms) (are_before found (member k d ms)) before in
    both_true (is_gt (slice_cmp nat_cmp k l)) (is_after k found) (and_parts (is_gt (slice_cmp nat_cmp k l)) (is_before l ms) parts.0).0 (one_after found ms k d parts.1)

others_after : (found ms : Members) (k : List ℕ) (d : Data) → are_before found (member k d ms) ≡ true → is_before k ms ≡ true → are_before (joined found (member k d no_members)) ms ≡ true
others_after no_members ms k d before first = both_true (is_before k ms) true first refl
others_after (member l e found) ms k d before first =
    let parts = and_parts (is_gt (slice_cmp nat_cmp k l) && is_before l ms) (are_before found (member k d ms)) before in
    both_true (is_before l ms) (are_before (joined found (member k d no_members)) ms) (and_parts (is_gt (slice_cmp nat_cmp k l)) (is_before l ms) parts.0).1 (others_after found ms k d parts.1 first)

-- ---- what is read of the outline

option_then : {A B : Type 0} (f : A → Option B) (o : Option A) (a : A) → o ≡ Some a → option_and_then f o ≡ f a
option_then f o a is = rw is refl

mutual
  whole_read : (d : Data) → is_whole d ≡ true → of_json (outline d) ≡ Some d
  whole_read null whole = refl
  whole_read (boolean b) whole = refl
  whole_read (number n) whole = ap (option_map number) (number_read n whole)
  whole_read (string s) whole = refl
  whole_read (array ds) whole = ap (option_map array) (items_read ds whole)
  whole_read (object ms) whole = ap (option_map object) (members_read ms no_members refl whole)

  items_read : (ds : Items) → are_items_whole ds ≡ true → of_items (items_outline ds) ≡ Some ds
  items_read no_items whole = refl
  items_read (item d ds) whole =
      let parts = and_parts (is_whole d) (are_items_whole ds) whole in
      option_then (λ e. option_map (item e) (of_items (items_outline ds))) (of_json (outline d)) d (whole_read d parts.0) ∙ ap (option_map (item d)) (items_read ds parts.1)

  members_read : (ms found : Members) → are_before found ms ≡ true → are_members_whole ms ≡ true → of_members (members_outline ms) found ≡ Some (joined found ms)
  members_read no_members found before whole = ap Some (sym (joined_none found))
  members_read (member k d ms) found before whole =
      let first = and_parts (is_before k ms) (is_whole d && are_members_whole ms) whole in
      let parts = and_parts (is_whole d) (are_members_whole ms) first.1 in
      let next = joined found (member k d no_members) in
      option_then (λ e. of_members (members_outline ms) (put k e found)) (of_json (outline d)) d (whole_read d parts.0)
      ∙ ap (of_members (members_outline ms)) (put_last k d found (one_after found ms k d before))
      ∙ members_read ms next (others_after found ms k d before first.0) parts.1
      ∙ ap Some (joined_more found ms k d)

mutual
  outline_depth : (d : Data) → tree.depth (outline d) ≡ depth d
  outline_depth null = refl
  outline_depth (boolean b) = refl
  outline_depth (number n) = refl
  outline_depth (string s) = refl
  outline_depth (array ds) = ap suc (items_outline_depth ds)
  outline_depth (object ms) = ap suc (members_outline_depth ms)

  items_outline_depth : (ds : Items) → tree.items_depth (items_outline ds) ≡ items_depth ds
  items_outline_depth no_items = refl
  items_outline_depth (item d ds) = rw (outline_depth d, items_outline_depth ds) refl

  members_outline_depth : (ms : Members) → tree.members_depth (members_outline ms) ≡ members_depth ms
  members_outline_depth no_members = refl
  members_outline_depth (member k d ms) = rw (outline_depth d, members_outline_depth ms) refl

-- ---- what is read of the text

pub read_again : (d : Data) (text : List ℕ) → is_whole d ≡ true → tokens text ≡ tokens_of d → depth d ≤ max_depth → read text ≡ Some d
read_again d text whole same shallow =
    let deep : tree.depth (outline d) ≤ max_depth = omega (arith, outline_depth d, shallow) in
    ap (λ p. option_and_then of_json (option_and_then (λ p. json.if_last p.0 p.1) p))
    (ap (json.value max_depth) (same ∙ sym (append-nil (tokens_of d))) ∙ value-json_tokens (outline d) max_depth [] deep)
    ∙ whole_read d whole

-- the text of a writer that was given these tokens
pub written_text : (d : Data) (old new : Written) (text : List ℕ) → old.tokens ≡ [] → old.before ≡ [] → AddsValue d old new → text ≡ new.before ++ print new.tokens → tokens (print new.tokens) ≡ new.tokens → IsTextOf d text
written_text d old new text none empty added printed again =
    let all : new.tokens ≡ tokens_of d = added.tokens_are ∙ ap (λ ts. ts ++ tokens_of d) none in
    let bytes : text ≡ print (tokens_of d) = printed ∙ ap (λ bs. bs ++ print new.tokens) (added.before ∙ empty) ∙ ap print all in
    let back : tokens text ≡ tokens_of d = ap tokens (bytes ∙ ap print (sym all)) ∙ again ∙ all in
    record { printed = bytes ∙ print-outline d; again = read_again d text added.whole back }
