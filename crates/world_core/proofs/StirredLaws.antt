-- Whom a change of a body wakes, by its constraints.
use Rattle.std.proofs.Common.{◌≡◌, ◌∙◌, ℕ, ◌==◌, ◌||◌, ◌&&◌, Bool, true, false, cond, List, [], ◌∷◌, Option, Some, None, refl, sym, ap}
use Rattle.std.specs.Prelude.{filter}
use Rattle.std.specs.List.{cons_option}
use Rattle.std.proofs.lemmas.Bool.{false≢true}
use Rattle.plain_world.specs.declared.constraint.Constraint.{Constraint}
use Rattle.contacts_base.specs.declared.contact.ContactEntry.{ContactEntry}
use Rattle.graph_colours.specs.declared.member.Member.{Member}
use Rattle.graph_colours.proofs.PlaceLemmas.{same_from}
use Rattle.plain_world.specs.declared.body.Body.{Body}
use Rattle.plain_world.specs.declared.joint.BodyJoint.{BodyJoint}
use Rattle.plain_world.specs.Bodies.{is_mover, is_mover_in, moves}
use Rattle.plain_world.specs.Slots.{AreMatched, body_at}
use Rattle.sleep_wake.specs.Acting.{Acting}
use Rattle.solver_sets.specs.Beside.{stirred_by, stirred_if}
use Rattle.solver_sets.specs.BesideByTies.{first_movers, stirred_among}
use Rattle.solver_sets.specs.Ties.{Bond, JointSlots, bonds_of, is_bond_of, is_enabled, is_enabled_in, tie_of, ties_at, ties_in}
use Rattle.solver_sets.proofs.AmongLaws.{stirred_picked, ties_picked}
use Rattle.world_rules.specs.World.{World, joints_in_slots}
use Rattle.world_core.specs.Inside.{IsWhole}
use Rattle.world_core.proofs.Whole.{whole_kept}

abbrev Ties : Type 0
Ties = List (Member Constraint)

-- ---- whom a change of the body wakes

and_none : (t : Bool) → (t && false) ≡ false
and_none true = refl
and_none false = refl

-- a slot with no enabled body has no constraints
tie_none : (bodies : List (Option Body)) (slot : ℕ) (b : Bond) (t u : Bool) → is_enabled bodies slot ≡ false → (b.a == slot) ≡ t → (b.b == slot) ≡ u → (t || u) ≡ true → tie_of bodies b ≡ None
tie_none bodies slot b true u dark at_a at_b on = rw (ap (is_enabled bodies) (same_from b.a slot at_a) ∙ dark) refl
tie_none bodies slot b false true dark at_a at_b on = rw (ap (is_enabled bodies) (same_from b.b slot at_b) ∙ dark, and_none (is_enabled bodies b.a)) refl
tie_none bodies slot b false false dark at_a at_b on = absurd (false≢true on)

none_more : (bodies : List (Option Body)) (b : Bond) (rest : List Bond) (t : Bool) → (t ≡ true → tie_of bodies b ≡ None) → ties_in bodies rest ≡ [] → ties_in bodies (cond t (b ∷ rest) rest) ≡ []
none_more bodies b rest true none e = ap (λ (o : Option (Member Constraint)). cons_option o (ties_in bodies rest)) (none refl) ∙ e
none_more bodies b rest false none e = e

none_there : (bodies : List (Option Body)) (slot : ℕ) (bonds : List Bond) → is_enabled bodies slot ≡ false → ties_in bodies (filter (is_bond_of slot) bonds) ≡ []
none_there bodies slot [] dark = refl
none_there bodies slot (b ∷ bonds) dark = none_more bodies b (filter (is_bond_of slot) bonds) (is_bond_of slot b) (λ on. tie_none bodies slot b (b.a == slot) (b.b == slot) dark refl refl on) (none_there bodies slot bonds dark)

pub dark_ties : (slot : ℕ) (bodies : List (Option Body)) (s : JointSlots) (contacts : List ContactEntry) → is_enabled bodies slot ≡ false → ties_at slot bodies s contacts ≡ []
unfolding ties_at
dark_ties slot bodies s contacts dark = none_there bodies slot (bonds_of s contacts) dark

by_enabled : (slot : ℕ) (xs : List ℕ) (mover enabled : Bool) → mover ≡ false → (enabled ≡ false → xs ≡ []) → xs ≡ cond mover (slot ∷ []) (cond enabled xs [])
by_enabled slot xs true enabled still dark = absurd (false≢true (sym still))
by_enabled slot xs false true still dark = refl
by_enabled slot xs false false still dark = dark refl

still_if : (o : Option Body) (slot : ℕ) (xs : List ℕ) → is_mover_in o ≡ false → (is_enabled_in o ≡ false → xs ≡ []) → xs ≡ stirred_if o slot xs
still_if None slot xs still dark = dark refl
still_if (Some b) slot xs still dark = by_enabled slot xs (is_mover b) b.enabled still dark

-- by the ties of a body
stirred_at : (slot : ℕ) (bodies : List (Option Body)) (s : JointSlots) (contacts : List ContactEntry) → AreMatched s.slot_entries s.joints → stirred_if (body_at bodies slot) slot (first_movers (ties_at slot bodies s contacts)) ≡ stirred_by bodies s.joints contacts slot
unfolding stirred_among
stirred_at slot bodies s contacts matched = ap (λ (l : Ties). stirred_if (body_at bodies slot) slot (first_movers l)) (sym (ties_picked slot bodies s contacts)) ∙ stirred_picked slot bodies s contacts matched

-- a body that is no mover wakes the movers of its constraints
pub still_stirs : (w : World) (s : Acting Constraint) (slot : ℕ) → IsWhole w s → moves w.plain.bodies slot ≡ false → first_movers (ties_at slot w.plain.bodies (joints_in_slots w.plain) w.plain.contacts) ≡ stirred_by w.plain.bodies w.plain.joints w.plain.contacts slot
still_stirs w s slot is still =
    let ties : Ties = ties_at slot w.plain.bodies (joints_in_slots w.plain) w.plain.contacts in
    still_if (body_at w.plain.bodies slot) slot (first_movers ties) still (λ dark. ap first_movers (dark_ties slot w.plain.bodies (joints_in_slots w.plain) w.plain.contacts dark))
    ∙ stirred_at slot w.plain.bodies (joints_in_slots w.plain) w.plain.contacts (whole_kept w s is).joint_slots

mover_if : (o : Option Body) (slot : ℕ) (xs : List ℕ) → is_mover_in o ≡ true → slot ∷ [] ≡ stirred_if o slot xs
mover_if None slot xs on = absurd (false≢true on)
mover_if (Some b) slot xs on = ap (λ (t : Bool). cond t (slot ∷ []) (cond b.enabled xs [])) (sym on)

-- a mover wakes itself
pub mover_stirs : (bodies : List (Option Body)) (joints : List (Option BodyJoint)) (contacts : List ContactEntry) (slot : ℕ) → moves bodies slot ≡ true → slot ∷ [] ≡ stirred_by bodies joints contacts slot
unfolding stirred_by
mover_stirs bodies joints contacts slot on = mover_if (body_at bodies slot) slot _ on
