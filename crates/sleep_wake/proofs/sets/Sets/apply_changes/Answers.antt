use Rattle.std.proofs.Common.{◌≡◌, ◌+◌, ◌<◌, ◌≤◌, ◌∷◌, drop, length, sym, ap, ◌∙◌, subst, arith}
use Rattle.sleep_wake.specs.Acting.{Acting, IsConsistent}
use Rattle.sleep_wake.specs.Changes.{after_changes, after_change}
use Rattle.sleep_wake.specs.ChangeLists.{AreChanges, IsChange, begin_count}
use Rattle.sleep_wake.specs.Sources.{TellsAsleep}
use Rattle.sleep_wake.proofs.FoldLemmas.{Labelled, change_now, change_next, one_count, count_next, changed_labelled, first_is}
use Rattle.sleep_wake.proofs.ChangeOwn.{change_keeps}
use Rattle.sleep_wake.proofs.SourceLaws.{changed_keeps, tells_on}
use Rattle.sleep_wake.proofs.sets.Sets.apply_changes.Goals as goal

pub change-requires-clause-can : goal.change-requires-clause-can
change-requires-clause-can g c =
    let old = c.args.self.now.acting.labels in
    let m = c.index-changes-place.result in
    let rest = drop (c.loop-place.place + 1) c.args.changes.now in
    let now : Acting g.row.C.Denot = c.loop-place.self.acting in
    let lt : c.loop-place.place < length c.args.changes.now = omega (arith, c.loop-place-test.true, c.loop-place.auto.place-end) in
    let front : drop c.loop-place.place c.args.changes.now ≡ m ∷ rest = first_is c.args.changes.now c.loop-place.place m lt c.index-changes-place.is in
    change_now g.C.ConstraintId.number old now.labels now.ties m rest c.loop-place.invariant.labelled (rw front at c.loop-place.invariant.can)

pub change-requires-clause-room : goal.change-requires-clause-room
change-requires-clause-room g c =
    let m = c.index-changes-place.result in
    let rest = drop (c.loop-place.place + 1) c.args.changes.now in
    let now : Acting g.row.C.Denot = c.loop-place.self.acting in
    let lt : c.loop-place.place < length c.args.changes.now = omega (arith, c.loop-place-test.true, c.loop-place.auto.place-end) in
    let front : drop c.loop-place.place c.args.changes.now ≡ m ∷ rest = first_is c.args.changes.now c.loop-place.place m lt c.index-changes-place.is in
    one_count (length now.ties) c.loop-place.self.room m rest (rw front at c.loop-place.invariant.few)

pub loop-place-preserved : goal.loop-place-preserved
loop-place-preserved g c =
    let n = g.C.ConstraintId.number in
    let old = c.args.self.now.acting.labels in
    let m = c.index-changes-place.result in
    let rest = drop (c.loop-place.place + 1) c.args.changes.now in
    let now : Acting g.row.C.Denot = c.loop-place.self.acting in
    let lt : c.loop-place.place < length c.args.changes.now = omega (arith, c.loop-place-test.true, c.loop-place.auto.place-end) in
    let front : drop c.loop-place.place c.args.changes.now ≡ m ∷ rest = first_is c.args.changes.now c.loop-place.place m lt c.index-changes-place.is in
    let next : Acting g.row.C.Denot = c.change.new.self.acting in
    let is : next ≡ after_change n m now = c.change.ensures.acting in
    let one : IsChange n now.labels now.ties m = change_now n old now.labels now.ties m rest c.loop-place.invariant.labelled (rw front at c.loop-place.invariant.can) in
    let can = change_next n old now m rest (rw front at c.loop-place.invariant.can) in
    let left : after_changes n (m ∷ rest) now ≡ after_changes n c.args.changes.now c.args.self.now.acting = rw front at c.loop-place.invariant.rest in
    let few : length next.ties + begin_count rest ≤ c.loop-place.self.room = subst (λ (v : Acting g.row.C.Denot). length v.ties + begin_count rest ≤ c.loop-place.self.room) (sym is) (count_next n now c.loop-place.self.room m rest (rw front at c.loop-place.invariant.few)) in
    let P : Acting g.row.C.Denot → Type 0 = λ v. AreChanges n old v.ties rest in
    let Q : Acting g.row.C.Denot → Type 0 = λ v. Labelled old v.labels in
    let S : Acting g.row.C.Denot → Type 0 = λ v. IsConsistent n v in
    let names = g.T.TieSource.names c.args.source.now in
    let told = g.T.TieSource.ties c.args.source.now in
    let T : Acting g.row.C.Denot → Type 0 = λ v. TellsAsleep names told v.labels v.ties in
    record {
      consistent = subst S (sym is) (change_keeps n m now c.loop-place.invariant.consistent one);
      can = subst P (sym is) can;
      labelled = subst Q (sym is) (λ t h. changed_labelled n m now t (c.loop-place.invariant.labelled t h));
      tells = subst T (sym is) (tells_on names told now (after_change n m now) (changed_keeps n m now c.loop-place.invariant.consistent one) c.loop-place.invariant.tells);
      rest = ap (λ (v : Acting g.row.C.Denot). after_changes n rest v) is ∙ left;
      few = omega (arith, few, c.change.ensures.room);
      room = c.change.ensures.room ∙ c.loop-place.invariant.room;
      slots = c.change.ensures.slots ∙ c.loop-place.invariant.slots;
    }
