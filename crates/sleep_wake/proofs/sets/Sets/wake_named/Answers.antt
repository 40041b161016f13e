use Rattle.std.proofs.Common.{◌≡◌, ◌+◌, ◌<◌, ◌∷◌, drop, get_or, length, sym, ap, ◌∙◌, subst, arith}
use Rattle.std.proofs.lemmas.List.{drop_more}
use Rattle.sleep_wake.specs.Acting.{Acting, IsConsistent}
use Rattle.sleep_wake.specs.Sleeping.{islands_woken}
use Rattle.sleep_wake.specs.Sources.{TellsAsleep}
use Rattle.sleep_wake.specs.Waking.{woken_at}
use Rattle.sleep_wake.proofs.KeptLemmas.{waking_keeps}
use Rattle.sleep_wake.proofs.SourceLaws.{tells_on, woken_keeps}
use Rattle.sleep_wake.proofs.sets.Sets.wake_named.Goals as goal

pub loop-place-preserved : goal.loop-place-preserved
loop-place-preserved g c =
    let n = g.C.ConstraintId.number in
    let names = g.T.TieSource.names c.args.source.now in
    let told = g.T.TieSource.ties c.args.source.now in
    let slot = get_or c.args.names.now c.loop-place.place 0 in
    let rest = drop (c.loop-place.place + 1) c.args.names.now in
    let now : Acting g.row.C.Denot = c.loop-place.self.acting in
    let next : Acting g.row.C.Denot = c.wake.new.self.acting in
    let is : next ≡ woken_at n slot now = c.wake.ensures.acting in
    let lt : c.loop-place.place < length c.args.names.now = omega (arith, c.loop-place-test.true, c.loop-place.auto.place-end) in
    let front : drop c.loop-place.place c.args.names.now ≡ slot ∷ rest = drop_more c.args.names.now c.loop-place.place 0 lt in
    let left : islands_woken n (slot ∷ rest) now ≡ islands_woken n c.args.names.now c.args.self.now.acting = rw front at c.loop-place.invariant.rest in
    let P : Acting g.row.C.Denot → Type 0 = λ v. IsConsistent n v in
    let Q : Acting g.row.C.Denot → Type 0 = λ v. TellsAsleep names told v.labels v.ties in
    record {
      consistent = subst P (sym is) (waking_keeps n now slot c.loop-place.invariant.consistent);
      tells = subst Q (sym is) (tells_on names told now (woken_at n slot now) (woken_keeps n slot now) c.loop-place.invariant.tells);
      rest = ap (λ (v : Acting g.row.C.Denot). islands_woken n rest v) is ∙ left;
      room = c.wake.ensures.room ∙ c.loop-place.invariant.room;
      slots = c.wake.ensures.slots ∙ c.loop-place.invariant.slots;
    }
