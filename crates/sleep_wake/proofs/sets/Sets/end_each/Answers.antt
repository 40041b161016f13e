use Rattle.std.proofs.Common.{◌≡◌, ◌+◌, ◌<◌, ◌∷◌, drop, length, sym, ap, ◌∙◌, subst, arith}
use Rattle.islands.proofs.JoinLemmas.{contains_head}
use Rattle.sleep_wake.specs.Acting.{Acting, IsConsistent}
use Rattle.sleep_wake.specs.Changes.{each_ended, ended}
use Rattle.sleep_wake.specs.ChangeLists.{CanEnd}
use Rattle.sleep_wake.proofs.SetLemmas.{front_is}
use Rattle.sleep_wake.proofs.FoldLemmas.{are_up, end_next}
use Rattle.sleep_wake.proofs.KeptLemmas.{ending_keeps}
use Rattle.sleep_wake.proofs.sets.Sets.end_each.Goals as goal

pub end-requires-clause-there : goal.end-requires-clause-there
end-requires-clause-there g c =
    let m = c.index-members-place.result in
    let rest = drop (c.loop-place.place + 1) c.args.members.now in
    let lt : c.loop-place.place < length c.args.members.now = omega (arith, c.loop-place-test.true, c.loop-place.auto.place-end) in
    let front : drop c.loop-place.place c.args.members.now ≡ m ∷ rest = front_is c.args.members.now c.loop-place.place m lt c.index-members-place.is in
    let can : CanEnd g.C.ConstraintId.number (m ∷ rest) c.loop-place.self.acting = rw front at c.loop-place.invariant.can in
    can.there m (contains_head m rest)

pub end-requires-clause-awake : goal.end-requires-clause-awake
end-requires-clause-awake g c =
    let m = c.index-members-place.result in
    let rest = drop (c.loop-place.place + 1) c.args.members.now in
    let lt : c.loop-place.place < length c.args.members.now = omega (arith, c.loop-place-test.true, c.loop-place.auto.place-end) in
    let front : drop c.loop-place.place c.args.members.now ≡ m ∷ rest = front_is c.args.members.now c.loop-place.place m lt c.index-members-place.is in
    let can : CanEnd g.C.ConstraintId.number (m ∷ rest) c.loop-place.self.acting = rw front at c.loop-place.invariant.can in
    can.awake m (contains_head m rest)

pub loop-place-preserved : goal.loop-place-preserved
loop-place-preserved g c =
    let n = g.C.ConstraintId.number in
    let m = c.index-members-place.result in
    let rest = drop (c.loop-place.place + 1) c.args.members.now in
    let lt : c.loop-place.place < length c.args.members.now = omega (arith, c.loop-place-test.true, c.loop-place.auto.place-end) in
    let front : drop c.loop-place.place c.args.members.now ≡ m ∷ rest = front_is c.args.members.now c.loop-place.place m lt c.index-members-place.is in
    let now : Acting g.row.C.Denot = c.loop-place.self.acting in
    let next : Acting g.row.C.Denot = c.end.new.self.acting in
    let is : next ≡ ended n m now = c.end.ensures.acting in
    let can : CanEnd n (m ∷ rest) now = rw front at c.loop-place.invariant.can in
    let left : each_ended n (m ∷ rest) now ≡ each_ended n c.args.members.now c.args.self.now.acting = rw front at c.loop-place.invariant.rest in
    let P : Acting g.row.C.Denot → Type 0 = λ v. CanEnd n rest v in
    let S : Acting g.row.C.Denot → Type 0 = λ v. IsConsistent n v in
    record {
      consistent = subst S (sym is) (ending_keeps n now m c.loop-place.invariant.consistent (can.there m (contains_head m rest)) (are_up now.labels m.movers (can.awake m (contains_head m rest))).first);
      can = subst P (sym is) (end_next n m rest now c.loop-place.invariant.consistent can);
      rest = ap (λ (v : Acting g.row.C.Denot). each_ended n rest v) is ∙ left;
      room = c.end.ensures.room ∙ c.loop-place.invariant.room;
      slots = c.end.ensures.slots ∙ c.loop-place.invariant.slots;
    }
