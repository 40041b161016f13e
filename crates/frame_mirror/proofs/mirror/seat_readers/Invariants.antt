use Rattle.std.proofs.Common.{◌≡◌, ◌≤◌, ◌+◌, vec_len, vec_capacity}
use Rattle.std.specs.Vec.Iter.{into_iter_len}
use Rattle.frame_mirror.proofs.mirror.seat_readers.Given as goal

abbrev pub invariant-loop-mark : goal.invariant-loop-mark
invariant-loop-mark g l =
    (l.readers.items ≡ l.yielded) × (vec_len l.readers + into_iter_len l.mark-iterator ≤ vec_capacity l.readers)
