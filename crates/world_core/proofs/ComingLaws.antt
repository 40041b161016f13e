-- A body that comes: all others are as they were.
use Rattle.std.proofs.Common.{◌≡◌, ◌≢◌, ◌≤◌, ℕ, List, length, Option, sym, subst}
use Rattle.plain_world.specs.declared.body.Body.{Body}
use Rattle.plain_world.specs.Slots.{with_body}
use Rattle.plain_world.specs.Slots.{body_at}
use Rattle.world_core_base.specs.Asleep.{IsSleepAlike}
use Rattle.world_core_base.proofs.AsleepLaws.{alike_own, with_item_other}

pub made_beside : (bodies : List (Option Body)) (slot : ℕ) (b : Body) (other : ℕ) → slot ≤ length bodies → other ≢ slot → IsSleepAlike (body_at bodies other) (body_at (with_body bodies slot b) other)
made_beside bodies slot b other le ne = subst (IsSleepAlike (body_at bodies other)) (sym (with_item_other bodies slot b other le ne)) (alike_own (body_at bodies other))
