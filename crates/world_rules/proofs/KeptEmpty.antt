-- A new world, with nothing in it, is kept.
use Rattle.std.proofs.Common.{◌≡◌, ◌+◌, ◌*◌, ◌≤◌, ◌^◌, [], unsigned_abs, arith, rules, refl, replicate}
use Rattle.std.proofs.lemmas.List.Elements.{All-nil, All-replicate}
use Rattle.std.proofs.lemmas.Option.{none-some}
use Rattle.fixed_geom.specs.Vectors.{IsWithin}
use Rattle.fixed_geom.specs.declared.vectors.Vec2.{Vec2}
use Rattle.body_handles.specs.SlotEntries.{IsSlotEntry}
use Rattle.impulse_ledger.specs.declared.entry.Cause.{Cause}
use Rattle.impulse_ledger.specs.declared.entry.Cause.TheVariants as causes
use Rattle.impulse_ledger.specs.Sums.{total_of}
use Rattle.plain_world.specs.Constraints.{constraint_number}
use Rattle.plain_world.specs.declared.constraint.Constraint.{Constraint}
use Rattle.graph_colours.specs.Colours.{IsColouring, ids_of}
use Rattle.graph_colours.specs.Members.{AreApart, AreRising}
use Rattle.graph_colours.specs.declared.limits.TheConstants.{COLOURS}
use Rattle.sleep_wake.specs.Acting.{IsConsistent}
use Rattle.solver_sets.specs.Ties.{members_of, ties_of}
use Rattle.world_core_base.specs.ContactBodies.{IsContactOf}
use Rattle.world_rules.specs.Apply.{empty_world}
use Rattle.world_rules.specs.Sets.{acting_of}
use Rattle.world_rules.specs.Sound.{HasBodies}
use Rattle.world_rules.specs.World.{book_of, joints_in_slots}
use Rattle.world_rules.proofs.LowerLaws.{empty_is_consistent}
use Rattle.world_rules.proofs.BookLemmas.{AreSmall-weaker}
use Rattle.world_rules.proofs.SoundLaws.{IsKept}

no_total : (g : Vec2) (c : Cause) → (unsigned_abs (total_of c (book_of (empty_world g))).x ≤ 2 ^ 126) × (unsigned_abs (total_of c (book_of (empty_world g))).y ≤ 2 ^ 126)
no_total g causes.Command = (omega arith, omega arith)
no_total g causes.Gravity = (omega arith, omega arith)
no_total g causes.Immovable = (omega arith, omega arith)
no_total g causes.Clamp = (omega arith, omega arith)
no_total g causes.Rest = (omega arith, omega arith)
no_total g causes.Departed = (omega arith, omega arith)

-- lists of no members are a colouring
pub no_colours : IsColouring {C = Constraint} constraint_number (replicate (COLOURS + 1) [])
no_colours = record {
  count = refl;
  rising = All-replicate (AreRising constraint_number) (COLOURS + 1) [] (search rules);
  apart = All-replicate AreApart COLOURS [] (search rules);
  once = λ n. omega arith;
}

empty_consistent : (g : Vec2) → IsConsistent constraint_number (acting_of (empty_world g).plain)
unfolding acting_of ties_of members_of
empty_consistent g = empty_is_consistent (replicate (COLOURS + 1) []) no_colours refl

empty_moved : (g : Vec2) → ids_of (members_of (empty_world g).plain.bodies (joints_in_slots (empty_world g).plain) (empty_world g).plain.colours) ≡ (empty_world g).plain.colours
unfolding members_of
empty_moved g = refl

pub empty_kept : (g : Vec2) → IsWithin (2 ^ 16) g → IsKept (empty_world g)
empty_kept g h = record {
  total_x = refl;
  total_y = refl;
  causes = AreSmall-weaker (2 ^ 126) (2 ^ 126 + 0 * 2 ^ 83) (book_of (empty_world g)) (omega arith) (record { x = λ c. (no_total g c).0; y = λ c. (no_total g c).1 });
  bodies = λ slot b e. cc;
  filters = λ slot b e. absurd (none-some b e);
  timers = λ slot b e. absurd (none-some b e);
  matched = record { slots = refl; few = omega arith; taken = λ slot. refl };
  slot_entries = All-nil IsSlotEntry;
  joint_slots = record { slots = refl; few = omega arith; taken = λ slot. refl };
  joint_entries = All-nil IsSlotEntry;
  joints = λ slot j at. absurd (none-some j at);
  contacts = search rules;
  pairs = All-nil (IsContactOf []);
  there = All-nil (HasBodies []);
  consistent = empty_consistent g;
  tied = λ slot. refl;
  told = λ slot b e. absurd (none-some b e);
  labels = refl;
  moved = empty_moved g;
  gravity = h;
  steps = omega arith;
  calls = omega arith;
}
