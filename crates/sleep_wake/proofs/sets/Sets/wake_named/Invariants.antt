use Rattle.std.proofs.Common.{◌≡◌, drop}
use Rattle.sleep_wake.specs.Acting.{IsConsistent}
use Rattle.sleep_wake.specs.Sleeping.{islands_woken}
use Rattle.sleep_wake.specs.Sources.{TellsAsleep}
use Rattle.sleep_wake.proofs.sets.Sets.wake_named.Given as goal

abbrev pub invariant-loop-place : goal.invariant-loop-place
invariant-loop-place g l = record {
  consistent : IsConsistent g.C.ConstraintId.number l.self.acting;
  tells : TellsAsleep (g.T.TieSource.names l.source) (g.T.TieSource.ties l.source) l.self.acting.labels l.self.acting.ties;
  rest : islands_woken g.C.ConstraintId.number (drop l.place l.names) l.self.acting ≡ islands_woken g.C.ConstraintId.number l.names l.fn.self.acting;
  room : l.self.room ≡ l.fn.self.room;
  slots : l.self.slots ≡ l.fn.self.slots;
}
