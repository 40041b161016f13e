use Rattle.std.proofs.Common.{◌≡◌, drop}
use Rattle.sleep_wake.specs.Acting.{IsConsistent}
use Rattle.sleep_wake.specs.Changes.{each_ended}
use Rattle.sleep_wake.specs.ChangeLists.{CanEnd}
use Rattle.sleep_wake.proofs.sets.Sets.end_each.Given as goal

abbrev pub invariant-loop-place : goal.invariant-loop-place
invariant-loop-place g l = record {
  consistent : IsConsistent g.C.ConstraintId.number l.self.acting;
  can : CanEnd g.C.ConstraintId.number (drop l.place l.members) l.self.acting;
  rest : each_ended g.C.ConstraintId.number (drop l.place l.members) l.self.acting ≡ each_ended g.C.ConstraintId.number l.members l.fn.self.acting;
  room : l.self.room ≡ l.fn.self.room;
  slots : l.self.slots ≡ l.fn.self.slots;
}
