use Rattle.std.proofs.Common.{◌≡◌, true, false, ℤ, refl, sym, ◌∙◌}
use Rattle.fixed_geom.specs.declared.vectors.Vec2.{Vec2}
use Rattle.momenta.specs.declared.state.BodyState.{BodyState}
use Rattle.fixed_geom.specs.Vectors.{opposite}
use Rattle.momenta.specs.Impulses.{fits, given}
use Rattle.momenta.proofs.ImpulseLaws.{IsPairGiven, pair_first, pair_given, pair_second}
use Rattle.momenta.proofs.state.impulse_pair.Goals as goal

abbrev with_momenta : BodyState → Vec2 → ℤ → BodyState
with_momenta s p l = record s { motion = record s.motion { p = p; l = l } }

pub returns-then-not-fits-clause-value : goal.returns-then-not-fits-clause-value
returns-then-not-fits-clause-value c =
    let a = with_momenta c.args.ends.now.a c.momenta_with-a.result.p c.momenta_with-a.result.l in
    let first : a ≡ given (opposite c.args.j) c.args.ra c.args.ends.now.a = rw c.opposite.ensures.value at c.momenta_with-a.ensures.value in
    let out : fits a.motion ≡ false = sym (c.fits.ensures.value c.args.ends.now.a.motion) ∙ c.if-not-fits.true in
    rw (pair_first c.args.j c.args.ra c.args.rb c.args.ends.now a first out) refl

pub returns-then-not-fits-clause-given : goal.returns-then-not-fits-clause-given
returns-then-not-fits-clause-given c =
    let a = with_momenta c.args.ends.now.a c.momenta_with-a.result.p c.momenta_with-a.result.l in
    let first : a ≡ given (opposite c.args.j) c.args.ra c.args.ends.now.a = rw c.opposite.ensures.value at c.momenta_with-a.ensures.value in
    let out : fits a.motion ≡ false = sym (c.fits.ensures.value c.args.ends.now.a.motion) ∙ c.if-not-fits.true in
    rw (pair_first c.args.j c.args.ra c.args.rb c.args.ends.now a first out) refl

pub returns-then-not-fits-2-clause-value : goal.returns-then-not-fits-2-clause-value
returns-then-not-fits-2-clause-value c =
    let a = with_momenta c.args.ends.now.a c.momenta_with-a.result.p c.momenta_with-a.result.l in
    let b = with_momenta c.args.ends.now.b c.momenta_with-b.result.p c.momenta_with-b.result.l in
    let first : a ≡ given (opposite c.args.j) c.args.ra c.args.ends.now.a = rw c.opposite.ensures.value at c.momenta_with-a.ensures.value in
    let within : fits a.motion ≡ true = sym (c.fits.ensures.value c.args.ends.now.a.motion) ∙ c.if-not-fits.false in
    let out : fits b.motion ≡ false = sym (c.fits-2.ensures.value c.args.ends.now.b.motion) ∙ c.if-not-fits-2.true in
    rw (pair_second c.args.j c.args.ra c.args.rb c.args.ends.now a b first c.momenta_with-b.ensures.value within out) refl

pub returns-then-not-fits-2-clause-given : goal.returns-then-not-fits-2-clause-given
returns-then-not-fits-2-clause-given c =
    let a = with_momenta c.args.ends.now.a c.momenta_with-a.result.p c.momenta_with-a.result.l in
    let b = with_momenta c.args.ends.now.b c.momenta_with-b.result.p c.momenta_with-b.result.l in
    let first : a ≡ given (opposite c.args.j) c.args.ra c.args.ends.now.a = rw c.opposite.ensures.value at c.momenta_with-a.ensures.value in
    let within : fits a.motion ≡ true = sym (c.fits.ensures.value c.args.ends.now.a.motion) ∙ c.if-not-fits.false in
    let out : fits b.motion ≡ false = sym (c.fits-2.ensures.value c.args.ends.now.b.motion) ∙ c.if-not-fits-2.true in
    rw (pair_second c.args.j c.args.ra c.args.rb c.args.ends.now a b first c.momenta_with-b.ensures.value within out) refl

both : (c : goal.After-put-2) → IsPairGiven c.args.j c.args.ra c.args.rb c.args.ends.now c.put.new.self c.put-2.new.self
both c =
    let first : c.put.new.self ≡ given (opposite c.args.j) c.args.ra c.args.ends.now.a = c.put.ensures ∙ (rw c.opposite.ensures.value at c.momenta_with-a.ensures.value) in
    let second : c.put-2.new.self ≡ given c.args.j c.args.rb c.args.ends.now.b = c.put-2.ensures ∙ c.momenta_with-b.ensures.value in
    let within : fits c.put.new.self.motion ≡ true = rw c.put.ensures (sym (c.fits.ensures.value c.args.ends.now.a.motion) ∙ c.if-not-fits.false) in
    let within_too : fits c.put-2.new.self.motion ≡ true = rw c.put-2.ensures (sym (c.fits-2.ensures.value c.args.ends.now.b.motion) ∙ c.if-not-fits-2.false) in
    pair_given c.args.j c.args.ra c.args.rb c.args.ends.now c.put.new.self c.put-2.new.self c.requires.states first second within within_too

pub returns-clause-value : goal.returns-clause-value
returns-clause-value c = rw (both c).value refl

pub returns-clause-given : goal.returns-clause-given
returns-clause-given c = rw (both c).value refl

pub returns-clause-states : goal.returns-clause-states
returns-clause-states c = (both c).states

pub returns-clause-same : goal.returns-clause-same
returns-clause-same c = (both c).same

pub returns-clause-sum_x : goal.returns-clause-sum_x
returns-clause-sum_x c = (both c).kept.x

pub returns-clause-sum_y : goal.returns-clause-sum_y
returns-clause-sum_y c = (both c).kept.y
