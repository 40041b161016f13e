-- A whole value is read of the text that is printed of it.
use Rattle.std.proofs.Common.{◌≡◌, ℕ, suc, ◌^◌, ◌<◌, ◌≤◌, ◌==◌, ◌&&◌, ◌∷◌, [], Bool, true, false, List, drop, cond, get_or, Some, option_and_then, decimal, sym, ap, ◌∙◌, arith}
use Rattle.std.specs.Prelude.{pos, negsuc}
use Rattle.std.proofs.lemmas.Bool.{and_parts, ne_eqb}
use Rattle.std.proofs.lemmas.Bool.Decides.{nat_tests}
use Rattle.std.proofs.lemmas.Fmt.{first_decimal}
use Rattle.json.specs.Lex.{tokens}
use Rattle.json.specs.Print.{IsNumber}
use Rattle.json.specs.Tree.{HasNumbers, ItemsHaveNumbers, MembersHaveNumbers}
use Rattle.json.specs.Word.{after_exponent, after_fraction, after_number, after_whole, head}
use Rattle.json.proofs.Printed.Decimals.{IsNumber-decimal}
use Rattle.json.proofs.Printed.Tokens.{tokens-print}
use Rattle.json.proofs.Printed.Trees.{ArePrintable-json_tokens}
use Rattle.serde_json.specs.Data.{Data, Items, Members, Num, array, boolean, depth, float, item, member, negative, no_items, no_members, null, number, object, string, unsigned}
use Rattle.serde_json.specs.Read.{max_depth, read}
use Rattle.serde_json.specs.Written.{compact_text, items_outline, members_outline, number_text, outline}
use Rattle.serde_json.proofs.Texts.{print-outline}
use Rattle.saved_text.proofs.Reading.{read_again}
use Rattle.saved_text.specs.Tokens.{tokens_of}
use Rattle.saved_text.specs.Whole.{are_items_whole, are_members_whole, is_before, is_narrow, is_whole}

no_minus : (ds : List ℕ) → 48 < get_or ds 0 0 → (head ds == 45) ≡ false
no_minus [] high = absurd (omega arith)
no_minus (d ∷ ds) high = ne_eqb d 45 (λ e. omega arith)

negative_number : (n : ℕ) → n < 2 ^ 63 → IsNumber (45 ∷ decimal (suc n))
unfolding after_number
negative_number n small =
    let ds = decimal (suc n) in
    let other : (head ds == 45) ≡ false = no_minus ds (first_decimal (suc n) (omega arith) (omega (arith, small))) in
    ap (λ (b : Bool). option_and_then after_exponent (option_and_then after_fraction (after_whole (cond b (drop 1 ds) ds)))) (sym other) ∙ IsNumber-decimal (suc n) (omega (arith, small))

pub number_is : (n : Num) → is_narrow n ≡ true → IsNumber (number_text n)
number_is (unsigned n) narrow = IsNumber-decimal n (grind (arith, nat_tests))
number_is (negative (pos n)) narrow = cc
number_is (negative (negsuc n)) narrow = negative_number n (grind (arith, nat_tests))
number_is (float x) narrow = cc

mutual
  have_numbers : (d : Data) → is_whole d ≡ true → HasNumbers (outline d)
  have_numbers null whole = tt
  have_numbers (boolean b) whole = tt
  have_numbers (number n) whole = number_is n whole
  have_numbers (string s) whole = tt
  have_numbers (array ds) whole = items_have_numbers ds whole
  have_numbers (object ms) whole = members_have_numbers ms whole

  items_have_numbers : (ds : Items) → are_items_whole ds ≡ true → ItemsHaveNumbers (items_outline ds)
  items_have_numbers no_items whole = tt
  items_have_numbers (item d ds) whole = let parts = and_parts (is_whole d) (are_items_whole ds) whole in (have_numbers d parts.0, items_have_numbers ds parts.1)

  members_have_numbers : (ms : Members) → are_members_whole ms ≡ true → MembersHaveNumbers (members_outline ms)
  members_have_numbers no_members whole = tt
  members_have_numbers (member k d ms) whole =
      let first = and_parts (is_before k ms) (is_whole d && are_members_whole ms) whole in
      let parts = and_parts (is_whole d) (are_members_whole ms) first.1 in (have_numbers d parts.0, members_have_numbers ms parts.1)

pub read_printed : (d : Data) (text : List ℕ) → is_whole d ≡ true → depth d ≤ max_depth → text ≡ compact_text d → read text ≡ Some d
read_printed d text whole shallow is =
    let printed = tokens-print (tokens_of d) (ArePrintable-json_tokens (outline d) (have_numbers d whole)) in
    read_again d text whole (ap tokens (is ∙ sym (print-outline d)) ∙ printed) shallow
