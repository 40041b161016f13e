use Rattle.std.proofs.Common.{◌≡◌, map, take}
use Rattle.packed_sets.proofs.copying.copies.Given as goal

abbrev pub invariant-loop-place : goal.invariant-loop-place
invariant-loop-place g l = map (λ v. v.items) l.copied.items ≡ map (λ v. v.items) (take l.place l.lists)
