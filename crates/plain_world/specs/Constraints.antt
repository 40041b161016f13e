-- Trusted: The numbers of constraints, in solve order.
use Rattle.std.specs.Prelude.{ℕ, ◌+◌, ◌*◌, ◌^◌}
use Rattle.body_handles.specs.declared.handle.Handle.{Handle}
use Rattle.contacts_base.specs.Keys.{key_number}
use Rattle.plain_world.specs.declared.constraint.Constraint.{Constraint}
use Rattle.plain_world.specs.declared.constraint.Constraint.TheVariants.{Joint, Contact}

abbrev pub joint_number : Handle → ℕ
joint_number h = h.slot * 2 ^ 32 + h.generation

-- joints by slot, then contacts by key
abbrev pub constraint_number : Constraint → ℕ
constraint_number (Joint h) = joint_number h
constraint_number (Contact k) = 2 ^ 80 + key_number k
