use Rattle.std.proofs.Common.{◌≡◌, map, false}
use Rattle.std.specs.List.{flat_map}
use Rattle.crew.proofs.pieces.join_all.Given as goal

abbrev pub invariant-loop-piece : goal.invariant-loop-piece
invariant-loop-piece g l = l.refused ≡ false → l.out.items ≡ flat_map (λ h. map (g.W.Work.answer h.promise.work.now) h.promise.items.now) l.yielded
