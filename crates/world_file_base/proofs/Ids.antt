-- An id is just what is written of a handle.
use Rattle.std.proofs.Common.{◌≡◌, ◌≢◌, ℕ, suc, ◌<◌, ◌+◌, ◌^◌, ◌++◌, ◌∷◌, ◌&&◌, ◌==◌, Bool, true, false, cond, List, [], length, get_or, Option, Some, None, refl, sym, ap, ◌∙◌, arith}
use Rattle.std.specs.Fmt.{decimal}
use Rattle.std.specs.Str.{bytes_eq}
use Rattle.std.specs.Str.Parse.{AllDigits, digits_value}
use Rattle.std.proofs.lemmas.Bool.Decides.{nat_tests}
use Rattle.std.proofs.lemmas.Slice.Eq.{bytes_eq-Decides}
use Rattle.std.proofs.lemmas.Fmt.{decimal_is_IsNumeral, digits_decimal}
use Rattle.std.proofs.lemmas.Str.Parse.{IsNumeralModel, numerals_by_value, tells_digits, not_in_digits}
use Rattle.body_handles.specs.declared.handle.Handle.{Handle}
use Rattle.body_handles.specs.IdTexts.{id_text, point}
use Rattle.world_file_base.specs.Texts.{after_point, before_point, handle_of_text, is_narrow, named_by}

own : IsNumeralModel (AllDigits 10) (digits_value 10)
own = numerals_by_value (AllDigits 10) tells_digits

abbrev HasNoPoint : List ℕ → Type 0
HasNoPoint text = (k : ℕ) → k < length text → get_or text k 0 ≢ point

written_has_no_point : (n : ℕ) → n < 2 ^ 32 → HasNoPoint (decimal n)
written_has_no_point n small = not_in_digits own (decimal n) point (digits_decimal own n (omega arith)) (λ within. omega arith)

not_point : (byte : ℕ) → byte ≢ point → (byte == point) ≡ false
not_point byte other = grind (arith, nat_tests)

before_is : (ds gs : List ℕ) → HasNoPoint ds → before_point (ds ++ point ∷ gs) ≡ ds
before_is [] gs none = refl
before_is (d ∷ ds) gs none = rw (not_point d (none 0 (omega arith))) (ap (λ rest. d ∷ rest) (before_is ds gs (λ k within. none (suc k) (omega arith))))

after_is : (ds gs : List ℕ) → HasNoPoint ds → after_point (ds ++ point ∷ gs) ≡ gs
after_is [] gs none = refl
after_is (d ∷ ds) gs none = rw (not_point d (none 0 (omega arith))) (after_is ds gs (λ k within. none (suc k) (omega arith)))

digits_of_written : (n : ℕ) → n < 2 ^ 32 → digits_value 10 (decimal n) ≡ n
digits_of_written n small = (decimal_is_IsNumeral n (omega arith)).1

named_back : (handle : Handle) → handle.slot < 2 ^ 32 → handle.generation < 2 ^ 32 → named_by (id_text handle) ≡ handle
named_back handle slot generation =
    rw (
      before_is (decimal handle.slot) (decimal handle.generation) (written_has_no_point handle.slot slot),
      after_is (decimal handle.slot) (decimal handle.generation) (written_has_no_point handle.slot slot),
      digits_of_written handle.slot slot,
      digits_of_written handle.generation generation,
    ) refl

narrow_is : (handle : Handle) → handle.slot < 2 ^ 32 → handle.generation < 2 ^ 32 → is_narrow handle ≡ true
narrow_is handle slot generation = grind (arith, nat_tests)

both : (a b : Bool) (handle : Handle) → a ≡ true → b ≡ true → cond (a && b) (Some handle) None ≡ Some handle
both true true handle first second = refl
both true false handle first second = cc
both false b handle first second = cc

-- what is written of a handle is read as it
pub written_is_read : (text : List ℕ) (handle : Handle) → handle.slot < 2 ^ 32 → handle.generation < 2 ^ 32 → text ≡ id_text handle → handle_of_text text ≡ Some handle
unfolding handle_of_text
written_is_read text handle slot generation is =
    let named : named_by text ≡ handle = ap named_by is ∙ named_back handle slot generation in
    let same : bytes_eq (id_text (named_by text)) text ≡ true = (bytes_eq-Decides (id_text (named_by text)) text).1 (ap id_text named ∙ sym is) in
    let narrow : is_narrow (named_by text) ≡ true = ap is_narrow named ∙ narrow_is handle slot generation in
    both (is_narrow (named_by text)) (bytes_eq (id_text (named_by text)) text) (named_by text) narrow same ∙ ap Some named

-- where a text is read, it is what is written of the handle, whose parts have 32 bits
pub record IsRead (text : List ℕ) (handle : Handle) : Type 0 where
  pub written : text ≡ id_text handle
  pub slot : handle.slot < 2 ^ 32
  pub generation : handle.generation < 2 ^ 32

read_at : (text : List ℕ) (named handle : Handle) (narrow same : Bool) → is_narrow named ≡ narrow → bytes_eq (id_text named) text ≡ same → cond (narrow && same) (Some named) None ≡ Some handle → IsRead text handle
read_at text named handle true true narrow same e =
    let is : named ≡ handle = cc in
    let written : id_text named ≡ text = (bytes_eq-Decides (id_text named) text).0 same in
    rw (← is) (record { written = sym written; slot = grind (arith, nat_tests); generation = grind (arith, nat_tests) })
read_at text named handle true false narrow same e = cc
read_at text named handle false same-is narrow same e = cc

pub read_is_written : (text : List ℕ) (handle : Handle) → handle_of_text text ≡ Some handle → IsRead text handle
unfolding handle_of_text
read_is_written text handle e = read_at text (named_by text) handle _ _ refl refl e

-- a text that isn't what is written of any handle isn't read
pub none_at : (text : List ℕ) (read : Option Handle) → handle_of_text text ≡ read → ((handle : Handle) → handle.slot < 2 ^ 32 → handle.generation < 2 ^ 32 → text ≡ id_text handle → None ≡ Some handle) → None ≡ read
none_at text None e all = refl
none_at text (Some handle) e all = let is = read_is_written text handle e in all handle is.slot is.generation is.written
