-- The slots of the awake movers, to which alone a sleep phase goes, and the timers that it reads.
use Rattle.std.specs.Prelude.{◌≡◌, ℕ, ◌<◌, ◌↔◌, true, List, length, Contains}
use Rattle.std.specs.List.{AllPairs, slice_index_or}
use Rattle.islands.specs.Labels.{Labels}
use Rattle.sleep_wake.specs.Acting.{is_mover_awake}

-- the slots of the awake movers, ascending
pub record AreAwakeSlots (labels : Labels) (slots : List ℕ) : Type 0 where
  pub rising : AllPairs (λ slot later. slot < later) slots
  pub each : (slot : ℕ) → Contains slots slot ↔ (is_mover_awake labels slot ≡ true)

-- two lists of timers by slot that are the same for the awake movers
pub record AgreeAwake (labels : Labels) (a b : List ℕ) : Type 0 where
  pub size : length a ≡ length b
  pub same : (slot : ℕ) → is_mover_awake labels slot ≡ true → slice_index_or a slot 0 ≡ slice_index_or b slot 0
