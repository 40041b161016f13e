use Rattle.std.proofs.Common.{◌≡◌, ◌≤◌, ◌+◌, length, drop}
use Rattle.sleep_wake.specs.Acting.{IsConsistent}
use Rattle.sleep_wake.specs.Changes.{each_begun}
use Rattle.sleep_wake.specs.ChangeLists.{CanBegin}
use Rattle.sleep_wake.proofs.sets.Sets.begin_each.Given as goal

abbrev pub invariant-loop-place : goal.invariant-loop-place
invariant-loop-place g l = record {
  consistent : IsConsistent g.C.ConstraintId.number l.self.acting;
  can : CanBegin g.C.ConstraintId.number (drop l.place l.members) l.self.acting;
  rest : each_begun g.C.ConstraintId.number (drop l.place l.members) l.self.acting ≡ each_begun g.C.ConstraintId.number l.members l.fn.self.acting;
  few : length l.self.acting.ties + length (drop l.place l.members) ≤ l.self.room;
  room : l.self.room ≡ l.fn.self.room;
  slots : l.self.slots ≡ l.fn.self.slots;
}
