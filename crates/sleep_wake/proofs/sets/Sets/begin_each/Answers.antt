use Rattle.std.proofs.Common.{◌≡◌, ◌+◌, ◌<◌, ◌≤◌, ◌∷◌, drop, length, sym, ap, ◌∙◌, subst, arith}
use Rattle.islands.proofs.JoinLemmas.{contains_head}
use Rattle.sleep_wake.specs.Acting.{Acting, IsConsistent}
use Rattle.sleep_wake.specs.Changes.{each_begun, begun}
use Rattle.sleep_wake.specs.ChangeLists.{CanBegin}
use Rattle.sleep_wake.proofs.SetLemmas.{front_is}
use Rattle.sleep_wake.proofs.FoldLemmas.{begin_next, begun_more}
use Rattle.sleep_wake.proofs.KeptLemmas.{beginning_keeps}
use Rattle.sleep_wake.proofs.sets.Sets.begin_each.Goals as goal

pub begin-requires-clause-fresh : goal.begin-requires-clause-fresh
begin-requires-clause-fresh g c =
    let m = c.index-members-place.result in
    let rest = drop (c.loop-place.place + 1) c.args.members.now in
    let lt : c.loop-place.place < length c.args.members.now = omega (arith, c.loop-place-test.true, c.loop-place.auto.place-end) in
    let front : drop c.loop-place.place c.args.members.now ≡ m ∷ rest = front_is c.args.members.now c.loop-place.place m lt c.index-members-place.is in
    let can : CanBegin g.C.ConstraintId.number (m ∷ rest) c.loop-place.self.acting = rw front at c.loop-place.invariant.can in
    can.fresh m (contains_head m rest)

pub begin-requires-clause-awake : goal.begin-requires-clause-awake
begin-requires-clause-awake g c =
    let m = c.index-members-place.result in
    let rest = drop (c.loop-place.place + 1) c.args.members.now in
    let lt : c.loop-place.place < length c.args.members.now = omega (arith, c.loop-place-test.true, c.loop-place.auto.place-end) in
    let front : drop c.loop-place.place c.args.members.now ≡ m ∷ rest = front_is c.args.members.now c.loop-place.place m lt c.index-members-place.is in
    let can : CanBegin g.C.ConstraintId.number (m ∷ rest) c.loop-place.self.acting = rw front at c.loop-place.invariant.can in
    can.awake m (contains_head m rest)

pub begin-requires-clause-room : goal.begin-requires-clause-room
begin-requires-clause-room g c =
    let m = c.index-members-place.result in
    let rest = drop (c.loop-place.place + 1) c.args.members.now in
    let lt : c.loop-place.place < length c.args.members.now = omega (arith, c.loop-place-test.true, c.loop-place.auto.place-end) in
    let front : drop c.loop-place.place c.args.members.now ≡ m ∷ rest = front_is c.args.members.now c.loop-place.place m lt c.index-members-place.is in
    let few : length c.loop-place.self.acting.ties + length (m ∷ rest) ≤ c.loop-place.self.room = rw front at c.loop-place.invariant.few in
    omega (arith, few)

pub loop-place-preserved : goal.loop-place-preserved
loop-place-preserved g c =
    let n = g.C.ConstraintId.number in
    let m = c.index-members-place.result in
    let rest = drop (c.loop-place.place + 1) c.args.members.now in
    let lt : c.loop-place.place < length c.args.members.now = omega (arith, c.loop-place-test.true, c.loop-place.auto.place-end) in
    let front : drop c.loop-place.place c.args.members.now ≡ m ∷ rest = front_is c.args.members.now c.loop-place.place m lt c.index-members-place.is in
    let now : Acting g.row.C.Denot = c.loop-place.self.acting in
    let next : Acting g.row.C.Denot = c.begin.new.self.acting in
    let is : next ≡ begun n m now = c.begin.ensures.acting in
    let can : CanBegin n (m ∷ rest) now = rw front at c.loop-place.invariant.can in
    let few : length now.ties + length (m ∷ rest) ≤ c.loop-place.self.room = rw front at c.loop-place.invariant.few in
    let left : each_begun n (m ∷ rest) now ≡ each_begun n c.args.members.now c.args.self.now.acting = rw front at c.loop-place.invariant.rest in
    let more : length next.ties ≡ length now.ties + 1 = ap (λ (v : Acting g.row.C.Denot). length v.ties) is ∙ begun_more n m now in
    let P : Acting g.row.C.Denot → Type 0 = λ v. CanBegin n rest v in
    let S : Acting g.row.C.Denot → Type 0 = λ v. IsConsistent n v in
    record {
      consistent = subst S (sym is) (beginning_keeps n now m c.loop-place.invariant.consistent (can.fresh m (contains_head m rest)) (can.awake m (contains_head m rest)));
      can = subst P (sym is) (begin_next n m rest now c.loop-place.invariant.consistent can);
      rest = ap (λ (v : Acting g.row.C.Denot). each_begun n rest v) is ∙ left;
      few = omega (arith, few, more, c.begin.ensures.room);
      room = c.begin.ensures.room ∙ c.loop-place.invariant.room;
      slots = c.begin.ensures.slots ∙ c.loop-place.invariant.slots;
    }
