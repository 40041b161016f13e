use Rattle.std.proofs.Common.{◌≡◌, ◌≤◌, ◌+◌, length, drop}
use Rattle.sleep_wake.specs.Acting.{IsConsistent}
use Rattle.sleep_wake.specs.Changes.{after_changes}
use Rattle.sleep_wake.specs.ChangeLists.{AreChanges, begin_count}
use Rattle.sleep_wake.specs.Sources.{TellsAsleep}
use Rattle.sleep_wake.proofs.FoldLemmas.{Labelled}
use Rattle.sleep_wake.proofs.sets.Sets.apply_changes.Given as goal

abbrev pub invariant-loop-place : goal.invariant-loop-place
invariant-loop-place g l = record {
  consistent : IsConsistent g.C.ConstraintId.number l.self.acting;
  can : AreChanges g.C.ConstraintId.number l.fn.self.acting.labels l.self.acting.ties (drop l.place l.changes);
  labelled : Labelled l.fn.self.acting.labels l.self.acting.labels;
  tells : TellsAsleep (g.T.TieSource.names l.source) (g.T.TieSource.ties l.source) l.self.acting.labels l.self.acting.ties;
  rest : after_changes g.C.ConstraintId.number (drop l.place l.changes) l.self.acting ≡ after_changes g.C.ConstraintId.number l.changes l.fn.self.acting;
  few : length l.self.acting.ties + begin_count (drop l.place l.changes) ≤ l.self.room;
  room : l.self.room ≡ l.fn.self.room;
  slots : l.self.slots ≡ l.fn.self.slots;
}
