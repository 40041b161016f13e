use Rattle.std.proofs.Common.{◌≡◌, ◌<◌, None, Some, neg_ℤ, pos, ap, ◌∙◌, arith, unsigned_abs}
use Rattle.loaded_text.proofs.Answered.{is_answered}
use Rattle.loaded_text.proofs.Signs.{below_zero}
use Rattle.loaded_text.proofs.text.Text.wide_signed.Goals as goal

pub returns-in_err-wide_digits-clause-reads : goal.returns-in_err-wide_digits-clause-reads
returns-in_err-wide_digits-clause-reads c = λ z tail range ends is.
    let sign = below_zero z c.args.self.now.rest.now c.take.new.self.rest.now tail (omega (arith, range)) (c.take.ensures.taken c.if-take.true) is in
    let read = c.in_err-wide_digits.ensures.reads (unsigned_abs z) tail (omega (arith, range)) ends sign.digits in
    let never : None ≡ Some (unsigned_abs z) = read.0 in
    absurd cc

pub returns-in_ok-wide_digits-clause-reads : goal.returns-in_ok-wide_digits-clause-reads
returns-in_ok-wide_digits-clause-reads c = λ z tail range ends is.
    let sign = below_zero z c.args.self.now.rest.now c.take.new.self.rest.now tail (omega (arith, range)) (c.take.ensures.taken c.if-take.true) is in
    let read = c.in_ok-wide_digits.ensures.reads (unsigned_abs z) tail (omega (arith, range)) ends sign.digits in
    let found : Some c.in_ok-wide_digits.field-0 ≡ Some (unsigned_abs z) = read.0 in
    let size : c.in_ok-wide_digits.field-0 ≡ unsigned_abs z = cc in
    let some : 0 < unsigned_abs z = sign.some in
    let answer = is_answered c.negative_of.result (neg_ℤ (pos c.in_ok-wide_digits.field-0)) c.negative_of.ensures.negative (c.negative_of.ensures.fits (omega (arith, size, some)) (omega (arith, size, range))) in
    (answer ∙ ap (λ n. Some (neg_ℤ (pos n))) size ∙ ap Some sign.is, read.1)
