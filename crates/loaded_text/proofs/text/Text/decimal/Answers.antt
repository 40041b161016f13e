use Rattle.std.proofs.Common.{◌≡◌, ◌++◌, ◌∷◌, ℕ, List, None, Some, true≢false, refl, sym, ap, ◌∙◌, rules, arith, to_z-of_z}
use Rattle.std.specs.Int.{w128}
use Rattle.std.specs.Fmt.{signed_decimal}
use Rattle.serde_json.specs.Written.{compact_text}
use mir.Val.{SFits}
use Rattle.world_file_base.specs.Written.{decimal_of}
use Rattle.loaded_text.proofs.Plain.{escape_signed, quoted_stands}
use Rattle.loaded_text.proofs.Signs.{integer_text, quoted_number}
use Rattle.loaded_text.proofs.text.Text.decimal.Goals as goal

pub returns-in_err-number-clause-reads : goal.returns-in_err-number-clause-reads
returns-in_err-number-clause-reads c = λ z tail range ends is.
    let begun = (c.in_ok-expect.ensures.reads (compact_text (decimal_of z) ++ tail) is).1 in
    let inner = (c.in_ok-expect-2.ensures.reads (signed_decimal z ++ (34 ∷ tail)) (begun ∙ quoted_number z tail (omega (arith, range)))).1 in
    let read = c.in_err-number.ensures.reads z (34 ∷ tail) range refl (inner ∙ ap (λ (l : List ℕ). l ++ (34 ∷ tail)) (sym (integer_text z))) in
    let never : None ≡ Some z = read.0 in
    absurd cc

pub returns-in_err-expect-3-clause-reads : goal.returns-in_err-expect-3-clause-reads
returns-in_err-expect-3-clause-reads c = λ z tail range ends is.
    let begun = (c.in_ok-expect.ensures.reads (compact_text (decimal_of z) ++ tail) is).1 in
    let inner = (c.in_ok-expect-2.ensures.reads (signed_decimal z ++ (34 ∷ tail)) (begun ∙ quoted_number z tail (omega (arith, range)))).1 in
    let read = c.in_ok-number.ensures.reads z (34 ∷ tail) range refl (inner ∙ ap (λ (l : List ℕ). l ++ (34 ∷ tail)) (sym (integer_text z))) in
    absurd (true≢false (sym (c.in_err-expect-3.ensures.reads tail read.1).0))

pub returns-clause-text : goal.returns-clause-text
returns-clause-text c =
    let z = c.in_ok-number.number in
    let size = c.in_ok-number.ensures.size in
    let fits : SFits w128 z = search rules in
    simp to_z-of_z (quoted_stands c.args.lead.now (signed_decimal z) _ _ _ _ _ (escape_signed z (omega (arith, size))) c.in_ok-expect.ensures.taken c.in_ok-expect-2.ensures.taken c.in_ok-number.ensures.text c.in_ok-expect-3.ensures.taken)

pub returns-clause-reads : goal.returns-clause-reads
returns-clause-reads c = λ z tail range ends is.
    let begun = (c.in_ok-expect.ensures.reads (compact_text (decimal_of z) ++ tail) is).1 in
    let inner = (c.in_ok-expect-2.ensures.reads (signed_decimal z ++ (34 ∷ tail)) (begun ∙ quoted_number z tail (omega (arith, range)))).1 in
    let read = c.in_ok-number.ensures.reads z (34 ∷ tail) range refl (inner ∙ ap (λ (l : List ℕ). l ++ (34 ∷ tail)) (sym (integer_text z))) in
    let fits : SFits w128 c.in_ok-number.number = search rules in
    simp to_z-of_z (read.0, (c.in_ok-expect-3.ensures.reads tail read.1).1)
