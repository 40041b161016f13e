-- One body changed, as a mover or not as it was: the constraints and who sleeps stay as they were.
use Rattle.std.proofs.Common.{◌≡◌, ◌⊎◌, ℕ, zero, suc, ◌*◌, ◌≤◌, List, [], ◌∷◌, Option, Some, inl, inr, refl, sym, ap, ◌∙◌, subst}
use Rattle.std.specs.Prelude.{Contains, slice_set}
use Rattle.std.proofs.lemmas.Option.{same_Some}
use Rattle.plain_world.specs.declared.constraint.Constraint.{Constraint}
use Rattle.graph_colours.specs.Colours.{ids_of}
use Rattle.graph_colours.specs.declared.member.Member.{Member}
use Rattle.islands.specs.Labels.{Labels, label_at, sleeping_name}
use Rattle.plain_world.specs.declared.body.Body.{Body}
use Rattle.plain_world.specs.Bodies.{is_mover, is_mover_in}
use Rattle.plain_world.specs.Slots.{body_at}
use Rattle.solver_sets.specs.Tied.{AreTied}
use Rattle.solver_sets.specs.Alike.{AreAlike}
use Rattle.solver_sets.specs.Ties.{is_enabled_in, members_of}
use Rattle.world_rules.specs.Sets.{acting_of}
use Rattle.world_rules.specs.Sound.{AreTimers, AreTold}
use Rattle.world_rules.specs.World.{World, joints_in_slots}
use Rattle.world_rules.proofs.LowerLaws.{alike_bodies_keep_ties, lists_are_members}
use Rattle.world_rules.proofs.SoundLaws.{IsKept}

-- ---- one slot set

-- what is in a slot of the new list is the new body, or was there before
pub set_case : (bodies : List (Option Body)) (slot : ℕ) (c : Body) (k : ℕ) (d : Body) → body_at (slice_set bodies slot (Some c)) k ≡ Some d → ((k ≡ slot) × (c ≡ d)) ⊎ (body_at bodies k ≡ Some d)
set_case [] slot c k d e = inr e
set_case (a ∷ bs) zero c zero d e = inl (refl, same_Some c d e)
set_case (a ∷ bs) zero c (suc k) d e = inr e
set_case (a ∷ bs) (suc slot) c zero d e = inr e
set_case (a ∷ bs) (suc slot) c (suc k) d e = elim (set_case bs slot c k d e) [ inl p ↦ inl (ap suc p.0, p.1) | inr q ↦ inr q ]

-- what the new body has in common with the old one is as it was in each slot
set_same : {X : Type 0} (f : Option Body → X) (bodies : List (Option Body)) (slot : ℕ) (o : Option Body) → f o ≡ f (body_at bodies slot) → (k : ℕ) → f (body_at (slice_set bodies slot o) k) ≡ f (body_at bodies k)
set_same f [] slot o e k = refl
set_same f (a ∷ bs) zero o e zero = e
set_same f (a ∷ bs) zero o e (suc k) = refl
set_same f (a ∷ bs) (suc slot) o e zero = refl
set_same f (a ∷ bs) (suc slot) o e (suc k) = set_same f bs slot o e k

pub alike_set : (bodies : List (Option Body)) (slot : ℕ) (b c : Body) → body_at bodies slot ≡ Some b → is_mover c ≡ is_mover b → c.enabled ≡ b.enabled → AreAlike bodies (slice_set bodies slot (Some c))
alike_set bodies slot b c at mover enabled = record {
  enabled = set_same is_enabled_in bodies slot (Some c) (enabled ∙ sym (ap is_enabled_in at));
  movers = set_same is_mover_in bodies slot (Some c) (mover ∙ sym (ap is_mover_in at));
}

pub tied_alike : (old new : List (Option Body)) (labels : Labels) → AreAlike old new → AreTied old labels → AreTied new labels
tied_alike old new labels alike tied slot = tied slot ∙ sym (alike.movers slot)

pub told_set : (bodies : List (Option Body)) (slot : ℕ) (b c : Body) (labels : Labels) → body_at bodies slot ≡ Some b → c.asleep ≡ b.asleep → AreTold bodies labels → AreTold (slice_set bodies slot (Some c)) labels
told_set bodies slot b c labels at same told k d e = elim (set_case bodies slot c k d e) [
  | inl p ↦ sym (ap (λ (x : Body). x.asleep) p.1) ∙ same ∙ told slot b at ∙ ap (λ (s : ℕ). sleeping_name (label_at labels s)) (sym p.0)
  | inr there ↦ told k d there
]

pub timers_set : (bodies : List (Option Body)) (slot steps : ℕ) (c : Body) → c.timer ≤ 8 * steps → AreTimers steps bodies → AreTimers steps (slice_set bodies slot (Some c))
timers_set bodies slot steps c small all k d e = elim (set_case bodies slot c k d e) [
  | inl p ↦ subst (λ (x : Body). x.timer ≤ 8 * steps) p.1 small
  | inr there ↦ all k d there
]

-- ---- the constraints of bodies that are alike

alike_members : (w : World) (new : List (Option Body)) → IsKept w → AreAlike w.plain.bodies new → members_of new (joints_in_slots w.plain) w.plain.colours ≡ members_of w.plain.bodies (joints_in_slots w.plain) w.plain.colours
unfolding acting_of
alike_members w new k alike =
    let same = alike_bodies_keep_ties w.plain.bodies new (joints_in_slots w.plain) w.plain.contacts alike in
    ap (members_of new (joints_in_slots w.plain)) (sym k.moved)
    ∙ lists_are_members new (joints_in_slots w.plain) w.plain.contacts (members_of w.plain.bodies (joints_in_slots w.plain) w.plain.colours)
    (λ m h. subst (λ (ts : List (Member Constraint)). Contains ts m) (sym same) (((k.consistent.acting m).0 h).0))

pub alike_acting : (w : World) (new : List (Option Body)) → IsKept w → AreAlike w.plain.bodies new → acting_of (record w.plain { bodies = new }) ≡ acting_of w.plain
unfolding acting_of
alike_acting w new k alike =
    let ties = alike_bodies_keep_ties w.plain.bodies new (joints_in_slots w.plain) w.plain.contacts alike in
    let lists = alike_members w new k alike in
    λ j. record { ties = ties j; labels = w.plain.islands; lists = lists j }

pub alike_moved : (w : World) (new : List (Option Body)) → IsKept w → AreAlike w.plain.bodies new → ids_of (members_of new (joints_in_slots w.plain) w.plain.colours) ≡ w.plain.colours
alike_moved w new k alike = ap ids_of (alike_members w new k alike) ∙ k.moved
