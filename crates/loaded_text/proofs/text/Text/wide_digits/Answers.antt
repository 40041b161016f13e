use Rattle.std.proofs.Common.{ℕ, ◌≡◌, ◌+◌, ◌*◌, ◌^◌, ◌<◌, ◌≤◌, ◌++◌, ◌∷◌, Some, sym, ap, ◌∙◌, arith, decimal}
use Rattle.std.proofs.lemmas.Bool.Decides.{nat_tests}
use Rattle.loaded_text.specs.declared.wide.TheConstants.{BEFORE_A_DIGIT}
use Rattle.loaded_text.specs.Leads.{StartsWithNoDigit}
use Rattle.loaded_text.proofs.Answered.{if_nothing}
use Rattle.loaded_text.proofs.Digits.{first_digit, next_digit}
use Rattle.loaded_text.proofs.Unique.{is_no_number, no_less, same_number, zero_alone}
use Rattle.loaded_text.proofs.text.Text.wide_digits.Goals as goal

pub returns-in_err-first-clause-reads : goal.returns-in_err-first-clause-reads
returns-in_err-first-clause-reads c = λ n tail range ends is. absurd (is_no_number n c.args.self.now.rest.now tail (omega (arith, range)) c.in_err-first.ensures.none is)

pub returns-then-first-eq0-clause-text : goal.returns-then-first-eq0-clause-text
returns-then-first-eq0-clause-text c =
    let zero : c.in_ok-first.first ≡ 0 = grind (arith, nat_tests) in
    first_digit c.in_ok-first.first c.args.self.now.rest.now c.digit.new.self.rest.now c.in_ok-first.ensures.digit.0 c.in_ok-first.ensures.digit.1 ∙ ap (λ (n : ℕ). decimal n ++ c.digit.new.self.rest.now) zero

pub returns-then-first-eq0-clause-reads : goal.returns-then-first-eq0-clause-reads
returns-then-first-eq0-clause-reads c =
    let zero : c.in_ok-first.first ≡ 0 = grind (arith, nat_tests) in
    let front : c.args.self.now.rest.now ≡ 48 ∷ c.digit.new.self.rest.now = c.in_ok-first.ensures.digit.1 ∙ ap (λ (d : ℕ). (48 + d) ∷ c.digit.new.self.rest.now) zero in
    λ n tail range ends is. let z = zero_alone n c.digit.new.self.rest.now tail (omega (arith, range)) (sym front ∙ is) in (ap Some (sym z.0), z.1)

pub loop-digit-init : goal.loop-digit-init
loop-digit-init c =
    let same : c.from-number.result ≡ c.in_ok-first.first = c.from-number.ensures in
    record {
      some = grind (arith, nat_tests);
      text = first_digit c.in_ok-first.first c.args.self.now.rest.now c.digit.new.self.rest.now c.in_ok-first.ensures.digit.0 c.in_ok-first.ensures.digit.1 ∙ ap (λ (n : ℕ). decimal n ++ c.digit.new.self.rest.now) (sym same);
    }

pub returns-then-number-gt-BEFORE_A_DIGIT-clause-reads : goal.returns-then-number-gt-BEFORE_A_DIGIT-clause-reads
returns-then-number-gt-BEFORE_A_DIGIT-clause-reads c =
    let m : ℕ = c.loop-digit.number * 10 + c.in-Some.digit in
    let low : c.loop-digit.number < 2 ^ 128 = omega (arith, c.loop-digit.auto.number-fits) in
    let high : BEFORE_A_DIGIT < c.loop-digit.number = c.if-number-gt-BEFORE_A_DIGIT.true in
    let small : c.in-Some.digit < 10 = c.in-Some.ensures.digit.0 in
    let few : m < 10 ^ 64 = omega (arith, low, small) in
    let front : c.args.self.now.rest.now ≡ decimal m ++ c.digit-in-loop-digit.new.self.rest.now = next_digit c.loop-digit.number c.in-Some.digit c.args.self.now.rest.now c.loop-digit.self.rest.now c.digit-in-loop-digit.new.self.rest.now c.loop-digit.invariant.some small few c.loop-digit.invariant.text c.in-Some.ensures.digit.1 in
    λ n tail range ends is.
    let most : m ≤ n = no_less m n c.digit-in-loop-digit.new.self.rest.now tail few (omega (arith, range)) ends (sym front ∙ is) in
    absurd (omega (arith, most, range, high))

pub loop-digit-preserved : goal.loop-digit-preserved
loop-digit-preserved c =
    let same : c.from.result ≡ c.in-Some.digit = c.from.ensures in
    record {
      some = omega arith;
      text = next_digit c.loop-digit.number c.in-Some.digit c.args.self.now.rest.now c.loop-digit.self.rest.now c.digit-in-loop-digit.new.self.rest.now c.loop-digit.invariant.some c.in-Some.ensures.digit.0
          (let small = c.in-Some.ensures.digit.0 in omega (arith, c.loop-digit.auto.number-fits, small)) c.loop-digit.invariant.text c.in-Some.ensures.digit.1
          ∙ ap (λ (d : ℕ). decimal (c.loop-digit.number * 10 + d) ++ c.digit-in-loop-digit.new.self.rest.now) (sym same);
    }

pub returns-clause-reads : goal.returns-clause-reads
returns-clause-reads c =
    let low : c.loop-digit.number < 2 ^ 128 = omega (arith, c.loop-digit.auto.number-fits) in
    let none : StartsWithNoDigit c.loop-digit.self.rest.now = if_nothing c.digit-in-loop-digit.result _ c.in_default.not-Some c.digit-in-loop-digit.ensures.none in
    let kept : c.digit-in-loop-digit.new.self.rest.now ≡ c.loop-digit.self.rest.now = if_nothing c.digit-in-loop-digit.result _ c.in_default.not-Some c.digit-in-loop-digit.ensures.kept in
    λ n tail range ends is.
    let same = same_number c.loop-digit.number n c.loop-digit.self.rest.now tail (omega (arith, low)) (omega (arith, range)) ends (sym c.loop-digit.invariant.text ∙ is) none in
    (ap Some (sym same.0), kept ∙ same.1)
