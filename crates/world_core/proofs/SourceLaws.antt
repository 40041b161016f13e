-- A world's source tells the constraints and who sleeps as they are.
use Rattle.std.proofs.Common.{◌≡◌, ℕ, true, List, Option, Some, None, refl, sym, ap, ◌∙◌, subst}
use Rattle.std.specs.Prelude.{Contains}
use Rattle.std.proofs.lemmas.Bool.{false≢true}
use Rattle.plain_world.specs.declared.constraint.Constraint.{Constraint}
use Rattle.contacts_base.proofs.Members.{in_from_contains}
use Rattle.contacts_base.specs.declared.contact.ContactEntry.{ContactEntry}
use Rattle.graph_colours.specs.declared.member.Member.{Member}
use Rattle.islands.specs.Labels.{Labels, label_at, sleeping_name}
use Rattle.plain_world.specs.declared.body.Body.{Body}
use Rattle.plain_world.specs.Bodies.{is_mover, is_mover_in, moves}
use Rattle.plain_world.specs.Slots.{body_at}
use Rattle.sleep_wake.specs.Sleeping.{name_at}
use Rattle.solver_sets.specs.Ties.{JointSlots, ties_of}
use Rattle.solver_sets.proofs.TieLaws.{has_movers, in_ties, movers_move, tie_is}
use Rattle.world_core_base.specs.Asleep.{asleep_in, asleep_under}

-- the first mover of a tie is one
first_moves : (bodies : List (Option Body)) (s : JointSlots) (contacts : List ContactEntry) (m : Member Constraint) → Contains (ties_of bodies s contacts) m → moves bodies m.movers.first ≡ true
first_moves bodies s contacts m h =
    let o = in_ties bodies s contacts m (in_from_contains (ties_of bodies s contacts) m h) in
    (movers_move (moves bodies o.of.a) (moves bodies o.of.b) o.of.a o.of.b m.movers (λ slot. moves bodies slot ≡ true) (λ e. e) (λ e. e) (has_movers bodies o.of.a o.of.b m.movers (tie_is bodies o.of m o.gives).movers).movers).0

-- each mover sleeps as its label tells
abbrev pub MoversTold : List (Option Body) → Labels → Type 0
MoversTold bodies labels = (slot : ℕ) (b : Body) → body_at bodies slot ≡ Some b → is_mover b ≡ true → b.asleep ≡ sleeping_name (label_at labels slot)

mover_named : (bodies : List (Option Body)) (labels : Labels) (slot : ℕ) (o : Option Body) → MoversTold bodies labels → body_at bodies slot ≡ o → is_mover_in o ≡ true → asleep_under bodies slot ≡ name_at labels slot
mover_named bodies labels slot None told e m = absurd (false≢true m)
mover_named bodies labels slot (Some b) told e m = ap asleep_in e ∙ told slot b e m

-- so the source knows under which name the first mover of each constraint sleeps
pub first_named : (bodies : List (Option Body)) (s : JointSlots) (contacts : List ContactEntry) (labels : Labels) (ties : List (Member Constraint)) → MoversTold bodies labels → ties_of bodies s contacts ≡ ties → (m : Member Constraint) → Contains ties m → asleep_under bodies m.movers.first ≡ name_at labels m.movers.first
first_named bodies s contacts labels ties told same m h =
    mover_named bodies labels m.movers.first (body_at bodies m.movers.first) told refl (first_moves bodies s contacts m (subst (λ (l : List (Member Constraint)). Contains l m) (sym same) h))
