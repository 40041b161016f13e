-- A body that is enabled, with its joints, leaves the other bodies as they are.
use Rattle.std.proofs.Common.{◌≡◌, ◌≢◌, ℕ, ◌<◌, List, All, length, Bool, true, false, cond, Option, Some, None, inl, inr, refl, sym, ap, ◌∙◌, subst}
use Rattle.std.specs.Prelude.{slice_set}
use Rattle.std.proofs.lemmas.Bool.{cases_eq}
use Rattle.std.proofs.lemmas.Option.{same_Some}
use Rattle.std.specs.Option.{option_flatten}
use Rattle.graph_colours.specs.declared.member.Member.{Member}
use Rattle.plain_world.specs.Constraints.{constraint_number}
use Rattle.plain_world.specs.declared.constraint.Constraint.{Constraint}
use Rattle.islands.specs.Labels.{label_at, sleeping_name}
use Rattle.islands.proofs.LabelLemmas.{added_here, added_other}
use Rattle.plain_world.specs.declared.body.Body.{Body}
use Rattle.plain_world.specs.Bodies.{AreBodies, IsBody, is_mover, is_mover_in}
use Rattle.plain_world.specs.Changes.{enabled_body}
use Rattle.plain_world.specs.Kinds.{is_dynamic}
use Rattle.plain_world.specs.Sleep.{told}
use Rattle.plain_world.specs.Slots.{body_at}
use Rattle.sleep_wake.specs.Acting.{Acting, are_awake}
use Rattle.sleep_wake.specs.Bodies.{mover_made}
use Rattle.sleep_wake.specs.Changes.{each_begun}
use Rattle.world_rules.specs.Sets.{acting_of, body_come}
use Rattle.world_rules.specs.Sound.{AreTold}
use Rattle.world_rules.specs.World.{World}
use Rattle.world_rules.proofs.KeptMade.{come_consistent}
use Rattle.world_rules.proofs.QuietLaws.{each_begun_alike, told_by_alike}
use Rattle.solver_sets.proofs.SlotLemmas.{below_length, item_at-set_other, none_if, slice_get-with_own}
use Rattle.world_rules.proofs.SlotLemmas.{AreBodies-set}
use Rattle.world_rules.proofs.SoundLaws.{IsKept}
use Rattle.world_rules.proofs.ToldLaws.{told_stays}

off_mover : (b : Body) → b.enabled ≡ false → is_mover b ≡ false
off_mover b off = ap (λ (t : Bool). cond t (is_dynamic b.kind) false) off

-- a disabled body has no label
off_label : (w : World) (slot : ℕ) (b : Body) → IsKept w → body_at w.plain.bodies slot ≡ Some b → b.enabled ≡ false → label_at w.plain.islands slot ≡ None
off_label w slot b k at off = none_if (label_at w.plain.islands slot) (k.tied slot ∙ ap is_mover_in at ∙ off_mover b off)

own_name : (w : World) (slot : ℕ) (c : Body) → label_at w.plain.islands slot ≡ None → sleeping_name (label_at (body_come slot c (acting_of w.plain)).labels slot) ≡ None
unfolding acting_of mover_made
own_name w slot c none = by (is_mover c)
  where
    by : (m : Bool) → sleeping_name (label_at (cond m (mover_made slot (acting_of w.plain)) (acting_of w.plain)).labels slot) ≡ None
    by true = ap sleeping_name (added_here w.plain.islands slot)
    by false = ap sleeping_name none

other_label : (w : World) (slot n : ℕ) (c : Body) → n ≢ slot → label_at (body_come slot c (acting_of w.plain)).labels n ≡ label_at w.plain.islands n
unfolding acting_of mover_made
other_label w slot n c ne = by (is_mover c)
  where
    by : (m : Bool) → label_at (cond m (mover_made slot (acting_of w.plain)) (acting_of w.plain)).labels n ≡ label_at w.plain.islands n
    by true = added_other w.plain.islands slot n ne
    by false = refl

own_body : (bodies : List (Option Body)) (slot : ℕ) (c : Body) → slot < length bodies → body_at (slice_set bodies slot (Some c)) slot ≡ Some c
own_body bodies slot c lt = ap option_flatten (slice_get-with_own true bodies slot (Some c) (λ e. lt) (λ e. cc))

-- the bodies with the one that is enabled sleep as the labels say
enabled_told : (w : World) (slot : ℕ) (b : Body) → IsKept w → body_at w.plain.bodies slot ≡ Some b → b.enabled ≡ false → AreTold (slice_set w.plain.bodies slot (Some (enabled_body b))) (body_come slot (enabled_body b) (acting_of w.plain)).labels
enabled_told w slot b k at off n d e = elim (cases_eq n slot) [
  | inl same ↦
      let here : body_at (slice_set w.plain.bodies slot (Some (enabled_body b))) slot ≡ Some d = sym (ap (body_at (slice_set w.plain.bodies slot (Some (enabled_body b)))) same) ∙ e in
      let is : enabled_body b ≡ d = same_Some (enabled_body b) d (sym (own_body w.plain.bodies slot (enabled_body b) (below_length w.plain.bodies slot b at)) ∙ here) in
      sym (ap (λ (x : Body). x.asleep) is) ∙ sym (own_name w slot (enabled_body b) (off_label w slot b k at off))
      ∙ ap (λ (j : ℕ). sleeping_name (label_at (body_come slot (enabled_body b) (acting_of w.plain)).labels j)) (sym same)
  | inr apart ↦ k.told n d (sym (item_at-set_other w.plain.bodies slot (Some (enabled_body b)) n apart) ∙ e) ∙ ap sleeping_name (sym (other_label w slot n (enabled_body b) apart))
]

-- it comes and its joints begin, while their movers are awake
pub enabling_told : (w : World) (slot : ℕ) (b : Body) (ms : List (Member Constraint)) → IsKept w → body_at w.plain.bodies slot ≡ Some b → b.enabled ≡ false → IsBody (enabled_body b)
    → All (λ (m : Member Constraint). are_awake (body_come slot (enabled_body b) (acting_of w.plain)).labels m.movers ≡ true) ms
    → told (each_begun constraint_number ms (body_come slot (enabled_body b) (acting_of w.plain))).labels (slice_set w.plain.bodies slot (Some (enabled_body b))) ≡ slice_set w.plain.bodies slot (Some (enabled_body b))
unfolding acting_of
enabling_told w slot b ms k at off is up =
    let new : List (Option Body) = slice_set w.plain.bodies slot (Some (enabled_body b)) in
    let s : Acting Constraint = body_come slot (enabled_body b) (acting_of w.plain) in
    let bodies : AreBodies new = AreBodies-set w.plain.bodies slot (Some (enabled_body b)) k.bodies (λ d f. let same : enabled_body b ≡ d = cc in subst IsBody same is) in
    let consistent = come_consistent (is_mover (enabled_body b)) slot (acting_of w.plain) k.consistent (off_label w slot b k at off) in
    told_by_alike s.labels (each_begun constraint_number ms s).labels new (each_begun_alike ms s consistent.islands.partition up) ∙ told_stays s.labels new bodies (enabled_told w slot b k at off)
