use Rattle.std.proofs.Common.{◌≡◌, false}
use Rattle.std.specs.Prelude.{slice_get}
use Rattle.std.specs.List.{AllWithin}
use Rattle.islands.specs.Labels.{label_at}
use Rattle.world_core.specs.Quiet.{is_flagged_in, is_open_by}
use Rattle.world_core.proofs.sleep_test.are_flagged.Given as goal

abbrev pub invariant-loop-place : goal.invariant-loop-place
invariant-loop-place l = AllWithin (λ slot. is_open_by (label_at l.islands.labels slot) slot (is_flagged_in (slice_get l.flags slot)) ≡ false) l.slots 0 l.place
