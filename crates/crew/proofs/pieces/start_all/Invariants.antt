use Rattle.std.proofs.Common.{◌≡◌, ◌++◌, ◌≤◌, length, map, vec_capacity, vec_len}
use Rattle.std.specs.List.{flat_map}
use Rattle.crew.specs.Answers.{AreAccepted}
use Rattle.crew.proofs.pieces.start_all.Given as goal

abbrev pub invariant-loop-piece : goal.invariant-loop-piece
invariant-loop-piece g l = record {
  len : vec_len l.pieces ≡ l.piece;
  room : l.of ≤ vec_capacity l.pieces;
  accepted : AreAccepted g.W.Work.accepts l.work l.rest;
  whole : flat_map (λ h. map (g.W.Work.answer h.promise.work.now) h.promise.items.now) l.pieces.items ++ map (g.W.Work.answer l.work) l.rest ≡ map (g.W.Work.answer l.work) l.asked.items.now;
  last : l.of ≤ l.piece → length l.rest ≡ 0;
}
