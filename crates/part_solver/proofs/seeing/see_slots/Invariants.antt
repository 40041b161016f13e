use Rattle.std.proofs.Common.{◌≡◌, ◌≤◌, ◌++◌, drop, filter, nat_eq, vec_len, vec_capacity}
use Rattle.part_runs.specs.Hidden.{part_at}
use Rattle.part_solver.proofs.seeing.see_slots.Given as goal

abbrev pub invariant-loop-place : goal.invariant-loop-place
invariant-loop-place l = record {
  done : l.out.items ++ filter (λ slot. nat_eq (part_at l.home slot) l.number) (drop l.place l.slots) ≡ filter (λ slot. nat_eq (part_at l.home slot) l.number) l.slots;
  long : vec_len l.out ≤ l.place;
  room : vec_capacity l.out ≡ vec_capacity l.fn.out;
}
