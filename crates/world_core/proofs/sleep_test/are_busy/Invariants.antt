use Rattle.std.proofs.Common.{◌≡◌, true}
use Rattle.std.specs.List.{AllWithin}
use Rattle.plain_world.specs.Slots.{body_at}
use Rattle.world_core.specs.Quiet.{is_short_in}
use Rattle.world_core.proofs.sleep_test.are_busy.Given as goal

abbrev pub invariant-loop-place : goal.invariant-loop-place
invariant-loop-place l = AllWithin (λ slot. is_short_in (body_at l.bodies slot) ≡ true) l.awake 0 l.place
