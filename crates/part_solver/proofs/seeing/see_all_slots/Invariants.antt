use Rattle.std.proofs.Common.{◌≡◌, take, vec_len, vec_capacity}
use Rattle.part_solver.proofs.seeing.see_all_slots.Given as goal

abbrev pub invariant-loop-place : goal.invariant-loop-place
invariant-loop-place l = record {
  done : l.out.items ≡ take l.place l.slots;
  long : vec_len l.out ≡ l.place;
  room : vec_capacity l.out ≡ vec_capacity l.fn.out;
}
