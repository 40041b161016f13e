-- A body that goes, or takes no part any more, leaves what acts consistent: its ties end, and a mover leaves its
-- island.
use Rattle.std.proofs.Common.{◌≡◌, ◌≢◌, ℕ, ◌+◌, ◌<◌, ◌==◌, Bool, true, false, not, List, [], ◌∷◌, length, Option, Some, None, is_some, refl, sym, ap, ◌∙◌, subst}
use Rattle.std.proofs.lemmas.List.{length-set}
use Rattle.std.specs.Prelude.{Contains, filter, slice_set}
use Rattle.graph_colours.specs.declared.member.Member.{Member}
use Rattle.graph_colours.specs.Movers.{has_mover}
use Rattle.graph_colours.proofs.Cases.{not_true, true_or_false}
use Rattle.graph_colours.proofs.PlaceLemmas.{is_same, not_same}
use Rattle.contacts_base.specs.declared.contact.ContactEntry.{ContactEntry}
use Rattle.contacts_base.specs.Contacts.{contacts_without}
use Rattle.plain_world.specs.Constraints.{constraint_number}
use Rattle.plain_world.specs.declared.constraint.Constraint.{Constraint}
use Rattle.body_handles.specs.declared.slot_table.SlotEntry.{SlotEntry}
use Rattle.islands.specs.declared.label.Label.{Label}
use Rattle.islands.specs.Labels.{Labels, label_at}
use Rattle.islands.proofs.JoinLemmas.{contains_head, contains_tail}
use Rattle.plain_world.specs.declared.body.Body.{Body}
use Rattle.plain_world.specs.Bodies as bodies
use Rattle.plain_world.specs.Plain.{Plain}
use Rattle.sleep_wake.proofs.LengthLemmas.{each_ended_long, gone_long}
use Rattle.sleep_wake.specs.Acting.{Acting, AreMovers, IsConsistent, is_mover_awake}
use Rattle.sleep_wake.specs.Bodies.{mover_gone}
use Rattle.sleep_wake.specs.ChangeLists.{CanEnd, each_without}
use Rattle.solver_sets.specs.Joining.{unjoined_all}
use Rattle.solver_sets.specs.Tied.{AreTied}
use Rattle.plain_world.specs.Bodies.{is_mover_in, moves}
use Rattle.solver_sets.specs.Ties.{JointSlots, ties_at, ties_of}
use Rattle.world_rules.specs.Sets.{acting_of, body_gone, ties_ended}
use Rattle.world_rules.specs.World.{World, joints_in_slots}
use Rattle.world_rules.proofs.ActingLaws.{IsActing}
use Rattle.world_rules.proofs.LowerLaws.{awake_stay_awake, ending_each_keeps, going_keeps, going_takes_ties, movers_come_and_go, movers_stay, ties_have_labels}
use Rattle.world_rules.proofs.AwakeLaws.{gone_awake, others_stay}
use Rattle.world_rules.proofs.BesideLaws.{own_item, tied_beside}
use Rattle.world_rules.proofs.JoinLaws.{each_ended_ties}
use Rattle.world_rules.proofs.SoundLaws.{IsKept}
use Rattle.world_rules.proofs.ToldLaws.{NobodyFallsAsleep}

-- ---- the ties of a body end

-- they can, and the body is awake if it is a mover
pub record CanGo (w : World) (slot : ℕ) : Type 0 where
  pub can : CanEnd constraint_number (ties_at slot w.plain.bodies (joints_in_slots w.plain) w.plain.contacts) (acting_of w.plain)
  pub up : moves w.plain.bodies slot ≡ true → is_mover_awake w.plain.islands slot ≡ true

-- what is left once they ended
pub record IsEnded (w : World) (slot : ℕ) (s : Acting Constraint) : Type 0 where
  pub consistent : IsConsistent constraint_number s
  pub ties : s.ties ≡ each_without constraint_number (ties_at slot w.plain.bodies (joints_in_slots w.plain) w.plain.contacts) (ties_of w.plain.bodies (joints_in_slots w.plain) w.plain.contacts)
  pub tied : AreTied w.plain.bodies s.labels
  pub awake : (k : ℕ) → is_mover_awake w.plain.islands k ≡ true → is_mover_awake s.labels k ≡ true

pub is_ended : (w : World) (slot : ℕ) → IsKept w → CanGo w slot → IsEnded w slot (ties_ended slot w.plain)
unfolding acting_of
is_ended w slot k go =
    let ms : List (Member Constraint) = ties_at slot w.plain.bodies (joints_in_slots w.plain) w.plain.contacts in
    record {
      consistent = ending_each_keeps (acting_of w.plain) ms k.consistent go.can;
      ties = each_ended_ties ms (acting_of w.plain);
      tied = λ other. movers_stay.ended (acting_of w.plain) ms other ∙ k.tied other;
      awake = awake_stay_awake.ended (acting_of w.plain) ms k.consistent go.can;
    }

-- ---- a mover goes

filter_same : {X : Type 0} (p : X → Bool) (xs : List X) → ((x : X) → Contains xs x → p x ≡ true) → filter p xs ≡ xs
filter_same p [] h = refl
filter_same p (x ∷ xs) h = rw (h x (contains_head x xs), filter_same p xs (λ y q. h y (contains_tail x xs y q))) refl

moves_from : (bodies : List (Option Body)) (labels : Labels) (k slot : ℕ) (l : Label) → AreTied bodies labels → moves bodies slot ≡ false → label_at labels k ≡ Some l → (k == slot) ≡ false
moves_from bodies labels k slot l tied still at = not_same k slot (λ e. true_or_false (moves bodies slot) (sym (ap (moves bodies) e) ∙ sym (tied k) ∙ ap is_some at) still)

no_mover_by : (bodies : List (Option Body)) (labels : Labels) (slot first : ℕ) (second : Option ℕ) → AreTied bodies labels → moves bodies slot ≡ false → AreMovers labels (record { first = first; second = second }) → has_mover (record { first = first; second = second }) slot ≡ false
no_mover_by bodies labels slot first None tied still are = let a = are.first in rw (moves_from bodies labels first slot a.0 tied still a.1) refl
no_mover_by bodies labels slot first (Some b) tied still are =
    let a = are.first in
    let c = are.second b refl in
    rw (moves_from bodies labels first slot a.0 tied still a.1, moves_from bodies labels b slot c.0 tied still c.1) refl

-- no tie has a mover where there is none
no_mover : (bodies : List (Option Body)) (s : JointSlots) (contacts : List ContactEntry) (labels : Labels) (slot : ℕ) (m : Member Constraint) → AreTied bodies labels → moves bodies slot ≡ false → Contains (ties_of bodies s contacts) m → not (has_mover m.movers slot) ≡ true
no_mover bodies s contacts labels slot m tied still h = ap not (no_mover_by bodies labels slot m.movers.first m.movers.second tied still (ties_have_labels bodies s contacts labels m tied h))

gone_ties : (slot : ℕ) (s : Acting Constraint) → (mover_gone constraint_number slot s).ties ≡ filter (λ m. not (has_mover m.movers slot)) s.ties
unfolding mover_gone
gone_ties slot s = refl

-- the label of one that goes is gone
gone_here : (slot : ℕ) (s : Acting Constraint) → is_some (label_at (mover_gone constraint_number slot s).labels slot) ≡ false
gone_here slot s = movers_come_and_go.gone s slot slot ∙ rw (is_same slot slot refl) refl

gone_there : (slot k : ℕ) (s : Acting Constraint) → k ≢ slot → is_some (label_at (mover_gone constraint_number slot s).labels k) ≡ is_some (label_at s.labels k)
gone_there slot k s far = movers_come_and_go.gone s slot k ∙ rw (not_same k slot far) refl

none_left : {X : Type 0} (p : X → Bool) (xs : List X) → ((x : X) → Contains xs x → not (p x) ≡ true) → filter p xs ≡ []
none_left p [] h = refl
none_left p (x ∷ xs) h = rw (not_true (p x) (h x (contains_head x xs)), none_left p xs (λ y q. h y (contains_tail x xs y q))) refl

-- once its ties ended, a mover is in none
pub ended_alone : (w : World) (slot : ℕ) → IsKept w → CanGo w slot → slot < length w.plain.bodies → filter (λ m. has_mover m.movers slot) (ties_ended slot w.plain).ties ≡ []
ended_alone w slot k go lt =
    let before : Acting Constraint = ties_ended slot w.plain in
    let is = is_ended w slot k go in
    let now : List (Option Body) = slice_set w.plain.bodies slot None in
    let joints : JointSlots = unjoined_all slot (joints_in_slots w.plain) in
    let contacts : List ContactEntry = contacts_without slot w.plain.contacts in
    let labels : Labels = (mover_gone constraint_number slot before).labels in
    let tied : AreTied now labels = tied_beside w.plain.bodies slot None w.plain.islands labels lt k.tied (gone_here slot before) (λ j far. gone_there slot j before far ∙ is.tied j ∙ sym (k.tied j)) in
    let same : before.ties ≡ ties_of now joints contacts = is.ties ∙ sym (going_takes_ties slot w.plain.bodies (joints_in_slots w.plain) w.plain.contacts (record { matched = k.joint_slots; slot_entries = k.joint_entries }) k.contacts).1 in
    none_left (λ (m : Member Constraint). has_mover m.movers slot) before.ties (λ m h. no_mover now joints contacts labels slot m tied (ap is_mover_in (own_item w.plain.bodies slot None lt)) (subst (λ (ms : List (Member Constraint)). Contains ms m) same h))

-- ---- what acts once the body is no mover any more

-- the lists in which another body, or none, is in a slot, and its contacts are gone
abbrev pub beside : ℕ → Option Body → List SlotEntry → JointSlots → Plain → Plain
beside slot o slot_entries s w = record w { slot_entries = slot_entries; bodies = slice_set w.bodies slot o; joint_entries = s.slot_entries; joints = s.joints; contacts = contacts_without slot w.contacts; calls = w.calls + 1 }

-- what becomes of what acts
pub record IsGone (w : World) (u : Plain) (s : Acting Constraint) : Type 0 where
  pub acting : IsActing u s
  pub awake : NobodyFallsAsleep u.bodies s.labels

ended_slots : (w : World) (slot : ℕ) → length (ties_ended slot w.plain).labels ≡ length w.plain.islands
unfolding acting_of
ended_slots w slot = each_ended_long constraint_number (ties_at slot w.plain.bodies (joints_in_slots w.plain) w.plain.contacts) (acting_of w.plain)

pub gone_by : (w : World) (slot : ℕ) (o : Option Body) (slot_entries : List SlotEntry) (joints : JointSlots) (t : Bool) → IsKept w → CanGo w slot → slot < length w.plain.bodies → moves w.plain.bodies slot ≡ t → is_mover_in o ≡ false
    → moves (slice_set w.plain.bodies slot o) slot ≡ false
    → ties_of (slice_set w.plain.bodies slot o) joints (contacts_without slot w.plain.contacts) ≡ each_without constraint_number (ties_at slot w.plain.bodies (joints_in_slots w.plain) w.plain.contacts) (ties_of w.plain.bodies (joints_in_slots w.plain) w.plain.contacts)
    → ((b : Body) → o ≡ Some b → bodies.is_awake b ≡ true → ⊥)
    → IsGone w (beside slot o slot_entries joints w.plain) (body_gone slot t w.plain)
gone_by w slot o slot_entries joints false k go lt e still off ties rests =
    let s : Acting Constraint = ties_ended slot w.plain in
    let is = is_ended w slot k go in
    record {
      acting = record {
        consistent = is.consistent;
        ties = is.ties ∙ sym ties;
        tied = tied_beside w.plain.bodies slot o w.plain.islands s.labels lt k.tied (is.tied slot ∙ e ∙ sym still) (λ j far. is.tied j ∙ sym (k.tied j));
        long = ended_slots w slot ∙ k.labels ∙ sym (length-set w.plain.bodies slot o);
      };
      awake = others_stay w slot o s.labels k (λ j far up. is.awake j up) (λ b at up. absurd (rests b at up));
    }
gone_by w slot o slot_entries joints true k go lt e still off ties rests =
    let before : Acting Constraint = ties_ended slot w.plain in
    let is = is_ended w slot k go in
    let s : Acting Constraint = mover_gone constraint_number slot before in
    let now : List (Option Body) = slice_set w.plain.bodies slot o in
    let contacts : List ContactEntry = contacts_without slot w.plain.contacts in
    let tied : AreTied now s.labels = tied_beside w.plain.bodies slot o w.plain.islands s.labels lt k.tied (gone_here slot before ∙ sym still) (λ j far. gone_there slot j before far ∙ is.tied j ∙ sym (k.tied j)) in
    let same : before.ties ≡ ties_of now joints contacts = is.ties ∙ sym ties in
    record {
      acting = record {
        consistent = going_keeps before slot is.consistent (is.awake slot (go.up e));
        ties = gone_ties slot before
            ∙ filter_same (λ (m : Member Constraint). not (has_mover m.movers slot)) before.ties (λ m h. no_mover now joints contacts s.labels slot m tied off (subst (λ (ms : List (Member Constraint)). Contains ms m) same h))
            ∙ same;
        tied = tied;
        long = gone_long constraint_number slot before ∙ ended_slots w slot ∙ k.labels ∙ sym (length-set w.plain.bodies slot o);
      };
      awake = others_stay w slot o s.labels k (λ j far up. gone_awake slot j before far (is.awake j up)) (λ b at up. absurd (rests b at up));
    }
