-- The order of handles: that of their own comparison.
use Rattle.std.specs.Prelude.{ℕ}
use Rattle.std.specs.Ordering.{nat_cmp, ordering_then}
use Rattle.std.specs.declared.cmp.Ordering.{Ordering}
use Rattle.body_handles.specs.declared.handle.Handle.{Handle}

abbrev pub slot_of : Handle → ℕ
slot_of h = h.slot

-- the slot decides, then the generation
abbrev pub handle_cmp : Handle → Handle → Ordering
handle_cmp a b = ordering_then (nat_cmp a.slot b.slot) (nat_cmp a.generation b.generation)
