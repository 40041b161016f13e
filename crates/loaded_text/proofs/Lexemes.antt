-- Lexemes at the front of a text.
use Rattle.std.proofs.Common.{◌≡◌, ℕ, ◌+◌, ◌^◌, ◌<◌, ◌++◌, ◌∷◌, ◌==◌, ◌||◌, ◌⊎◌, inl, inr, [], Bool, true, false, cond, get_or, length, take, List, Some, option_map, refl, sym, ap, ap₂, subst, ◌∙◌, arith, append_assoc}
use Rattle.std.specs.Prelude.{ℤ, nat_lt, pos, negsuc}
use Rattle.std.proofs.lemmas.Bool.{eqb-false, eqb-true, ltb-false, lt-ltb, not-true, or_cases, or_parts}
use Rattle.std.proofs.lemmas.List.{take_more}
use Rattle.std.proofs.lemmas.Bool.Decides.{nat_tests}
use Rattle.json.specs.Json as json
use Rattle.json.specs.Lex.{Lexeme, Place, after_value, begins_colon, between, class, colon, if_allowed, lex, lex_byte, may_begin, operator, operator_lexeme, place_token, punctuate, string_token, token}
use Rattle.json.specs.Print.{escape, quoted}
use Rattle.json.specs.Run.{is_plain}
use Rattle.json.specs.Token.{Token}
use Rattle.json.specs.Word.{ends_word, is_space, word}
use Rattle.json.proofs.Printed.Numbers.{in_word-ended, lex-number}
use Rattle.json.proofs.Printed.Strings.{content-escape, lex-escape}
use Rattle.serde_json.specs.Data.{Num, boolean, float, negative, null, number, string, unsigned}
use Rattle.serde_json.specs.Read.{number_of}
use Rattle.serde_json.specs.Written.{compact_text, number_text}
use Rattle.serde_json.proofs.Numbers.{number_of-decimal, number_of-negative}
use Rattle.saved_text.specs.Whole.{is_narrow}
use Rattle.world_file_base.specs.Written.{integer, natural}
use Rattle.loaded_text.specs.Canonical.{IsBare, IsKey, IsLeaf, IsPlainText}
use Rattle.loaded_text.specs.Leads.{IsSigned}
use Rattle.loaded_text.proofs.Plain.{escape_both, escape_plain, quoted_stands}
use Rattle.loaded_text.proofs.Printed.{number_is}

-- ---- tokens where they may stand

pub allowed : (b : Bool) (t : Token) (k : Place → List Token) (next : Place) → b ≡ true → if_allowed b t k next ≡ t ∷ k next
allowed b t k next e = ap (λ x. if_allowed x t k next) e

truth_placed : (p : Place) (b : Bool) (ls : List Lexeme) → may_begin p ≡ true → punctuate p (token (Token.boolean b) ∷ ls) ≡ Token.boolean b ∷ punctuate after_value ls
unfolding punctuate
truth_placed p b ls may = allowed (may_begin p) (Token.boolean b) (λ n. punctuate n ls) after_value may

null_placed : (p : Place) (ls : List Lexeme) → may_begin p ≡ true → punctuate p (token Token.null ∷ ls) ≡ Token.null ∷ punctuate after_value ls
unfolding punctuate
null_placed p ls may = allowed (may_begin p) Token.null (λ n. punctuate n ls) after_value may

number_placed : (p : Place) (s : List ℕ) (ls : List Lexeme) → may_begin p ≡ true → punctuate p (token (Token.number s) ∷ ls) ≡ Token.number s ∷ punctuate after_value ls
unfolding punctuate
number_placed p s ls may = allowed (may_begin p) (Token.number s) (λ n. punctuate n ls) after_value may

-- ---- spaces and operators

last_or : (P : ℕ → Type 0) (x c : ℕ) (b : Bool) → P c → (b ≡ true → P x) → (b ≡ true) ⊎ ((x == c) ≡ true) → P x
last_or P x c b p f (inl e) = f e
last_or P x c b p f (inr e) = subst P (sym (eqb-true x c e)) p

pub space_passed : (x : ℕ) (xs : List ℕ) → is_space x ≡ true → lex between (x ∷ xs) ≡ lex between xs
unfolding lex
space_passed x xs h =
    let P = λ (y : ℕ). lex between (y ∷ xs) ≡ lex between xs in
    last_or P x 13 _ refl (λ i. last_or P x 10 _ refl (λ j. last_or P x 9 _ refl (λ k. subst P (sym (eqb-true x 32 k)) refl) (or_cases _ _ j)) (or_cases _ _ i)) (or_cases _ _ h)

pub operator_first : (x : ℕ) (xs : List ℕ) → class x ≡ operator → lex between (x ∷ xs) ≡ operator_lexeme x ∷ lex between xs
unfolding lex
operator_first x xs e = ap (λ c. lex_byte between c x xs (λ m. lex m xs)) e

pub none_left : lex between [] ≡ []
unfolding lex
none_left = refl

-- ---- a text between quotes

quoted_lexed : (s r : List ℕ) → lex between (quoted s ++ r) ≡ token (Token.string s) ∷ lex between r
unfolding lex
quoted_lexed s r =
    let e = append_assoc (escape s) (34 ∷ []) r in
    ap (λ l. lex between (34 ∷ l)) e ∙ ap₂ (λ o l. token (string_token o) ∷ l) (content-escape s r) (lex-escape s r)

pub quoted_is : (s old new : List ℕ) → IsPlainText s old new → old ≡ quoted s ++ new
quoted_is s old new h = quoted_stands [] s old old _ _ new h.plain refl h.text_is refl refl

pub quoted_first : (s old new : List ℕ) → IsPlainText s old new → lex between old ≡ token (Token.string s) ∷ lex between new
quoted_first s old new h = ap (lex between) (quoted_is s old new h) ∙ quoted_lexed s new

string_placed : (p : Place) (s : List ℕ) (ls : List Lexeme) → may_begin p ≡ true → begins_colon ls ≡ false → punctuate p (token (Token.string s) ∷ ls) ≡ Token.string s ∷ punctuate after_value ls
unfolding punctuate
string_placed p s ls may none =
    ap (λ b. place_token p (Token.string s) b (λ n. punctuate n ls)) none ∙ allowed (may_begin p) (Token.string s) (λ n. punctuate n ls) after_value may

pub key_placed : (p : Place) (s : List ℕ) (ls : List Lexeme) → may_begin p ≡ true → punctuate p (token (Token.string s) ∷ colon ∷ ls) ≡ Token.key s ∷ punctuate Place.fresh ls
unfolding punctuate
key_placed p s ls may = allowed (may_begin p) (Token.key s) (λ n. punctuate n (colon ∷ ls)) Place.after_key may

pub text_leaf : (s old new : List ℕ) → IsPlainText s old new → IsLeaf old new
text_leaf s old new h = record {
  told = record { said = json.string s; value = string s; reads = refl; said_shallow = omega arith; shallow = omega arith; whole = refl };
  tokens = λ p may none. ap (punctuate p) (quoted_first s old new h) ∙ string_placed p s (lex between new) may none;
  text_is = quoted_is s old new h;
}

-- ---- words

pub true_first : (old new : List ℕ) → old ≡ 116 ∷ 114 ∷ 117 ∷ 101 ∷ new → IsBare old new
unfolding lex word
true_first old new is = record {
  told = record { said = json.boolean true; value = boolean true; reads = refl; said_shallow = omega arith; shallow = omega arith; whole = refl };
  tokens = λ ended p may.
      let lexed : lex between old ≡ token (Token.boolean true) ∷ lex between new = ap (lex between) is ∙ ap₂ (λ b l. token (cond b (Token.boolean true) Token.bad) ∷ l) ended (in_word-ended new ended) in
      ap (punctuate p) lexed ∙ truth_placed p true (lex between new) may;
  text_is = is;
}

pub false_first : (old new : List ℕ) → old ≡ 102 ∷ 97 ∷ 108 ∷ 115 ∷ 101 ∷ new → IsBare old new
unfolding lex word
false_first old new is = record {
  told = record { said = json.boolean false; value = boolean false; reads = refl; said_shallow = omega arith; shallow = omega arith; whole = refl };
  tokens = λ ended p may.
      let lexed : lex between old ≡ token (Token.boolean false) ∷ lex between new = ap (lex between) is ∙ ap₂ (λ b l. token (cond b (Token.boolean false) Token.bad) ∷ l) ended (in_word-ended new ended) in
      ap (punctuate p) lexed ∙ truth_placed p false (lex between new) may;
  text_is = is;
}

pub null_first : (old new : List ℕ) → old ≡ 110 ∷ 117 ∷ 108 ∷ 108 ∷ new → IsBare old new
unfolding lex word
null_first old new is = record {
  told = record { said = json.null; value = null; reads = refl; said_shallow = omega arith; shallow = omega arith; whole = refl };
  tokens = λ ended p may.
      let lexed : lex between old ≡ token Token.null ∷ lex between new = ap (lex between) is ∙ ap₂ (λ b l. token (cond b Token.null Token.bad) ∷ l) ended (in_word-ended new ended) in
      ap (punctuate p) lexed ∙ null_placed p (lex between new) may;
  text_is = is;
}

-- ---- numbers

number_read : (n : Num) → is_narrow n ≡ true → number_of (number_text n) ≡ Some n
number_read (unsigned n) narrow = number_of-decimal n (grind (arith, nat_tests))
number_read (negative (pos n)) narrow = cc
number_read (negative (negsuc n)) narrow = number_of-negative n (grind (arith, nat_tests))
number_read (float x) narrow = cc

number_first : (n : Num) (old new : List ℕ) → is_narrow n ≡ true → old ≡ number_text n ++ new → IsBare old new
number_first n old new narrow is = record {
  told = record { said = json.number (number_text n); value = number n; reads = ap (option_map number) (number_read n narrow); said_shallow = omega arith; shallow = omega arith; whole = narrow };
  tokens = λ ended p may.
      ap (punctuate p) (ap (lex between) is ∙ lex-number (number_text n) new (number_is n narrow) ended)
      ∙ number_placed p (number_text n) (lex between new) may;
  text_is = is;
}

pub natural_first : (n : ℕ) (old new : List ℕ) → n < 2 ^ 64 → old ≡ compact_text (natural n) ++ new → IsBare old new
natural_first n old new small is = number_first (unsigned n) old new (lt-ltb n (2 ^ 64) small) is

pub integer_first : (z : ℤ) (old new : List ℕ) → IsSigned z → old ≡ compact_text (integer z) ++ new → IsBare old new
integer_first (pos n) old new small is = number_first (unsigned n) old new (lt-ltb n (2 ^ 64) (omega (arith, small))) is
integer_first (negsuc n) old new small is = number_first (negative (negsuc n)) old new (lt-ltb n (2 ^ 63) (omega (arith, small))) is

pub bare_leaf : (old new : List ℕ) → ends_word new ≡ true → IsBare old new → IsLeaf old new
bare_leaf old new ended h = record { told = h.told; tokens = λ p may none. h.tokens ended p may; text_is = h.text_is }

-- ---- bytes that stand for themselves

plain_byte : (x : ℕ) → is_plain x ≡ true → escape (x ∷ []) ≡ x ∷ []
plain_byte x plain =
    let none = or_parts ((x == 34) || (x == 92)) (nat_lt x 32) (not-true _ plain) in
    let tests = or_parts (x == 34) (x == 92) none.0 in
    escape_plain x (eqb-false x 34 tests.0) (eqb-false x 92 tests.1) (ltb-false x 32 none.1)

pub plain_more : (bytes : List ℕ) (i : ℕ) → i < length bytes → is_plain (get_or bytes i 0) ≡ true → escape (take i bytes) ≡ take i bytes → escape (take (i + 1) bytes) ≡ take (i + 1) bytes
plain_more bytes i within plain before =
    let next = take_more bytes i 0 within in
    ap escape next ∙ escape_both (take i bytes) (get_or bytes i 0 ∷ []) before (plain_byte (get_or bytes i 0) plain) ∙ sym next

pub key_is : (key start old new one two out before : List ℕ) → lex between old ≡ lex between start → IsPlainText key old new → ((part : List ℕ) → old ≡ part ++ new → one ≡ before ++ part) → lex between new ≡ lex between (58 ∷ two) → out ≡ one ++ 58 ∷ [] → IsKey key start two before out
key_is key start old new one two out before passed plain copied marked pushed = record {
  lexemes = sym passed ∙ quoted_first key old new plain ∙ ap (λ l. token (Token.string key) ∷ l) (marked ∙ operator_first 58 two refl);
  printed = pushed ∙ ap (λ l. l ++ 58 ∷ []) (copied (quoted key) (quoted_is key old new plain)) ∙ append_assoc before (quoted key) (58 ∷ []);
}

-- the same with no space before the colon
pub key_at_once : (key start old new two out before : List ℕ) → lex between old ≡ lex between start → IsPlainText key old new → new ≡ 58 ∷ two → ((part : List ℕ) → old ≡ part ++ two → out ≡ before ++ part) → IsKey key start two before out
key_at_once key start old new two out before passed plain next copied = record {
  lexemes = sym passed ∙ quoted_first key old new plain ∙ ap (λ l. token (Token.string key) ∷ l) (ap (lex between) next ∙ operator_first 58 two refl);
  printed = copied (quoted key ++ 58 ∷ []) (quoted_is key old new plain ∙ ap (λ l. quoted key ++ l) next ∙ sym (append_assoc (quoted key) (58 ∷ []) two));
}
