-- Who is awake: after islands were woken, and after movers come and go; and that who is awake isn't told to sleep.
use Rattle.std.proofs.Common.{◌≡◌, ◌≢◌, ℕ, zero, suc, ◌==◌, ◌&&◌, ◌||◌, Bool, true, false, cond, nat_lt, List, [], ◌∷◌, length, Option, Some, None, refl, sym, ap, ◌∙◌, inl, inr, slice_set, get_or-set_other}
use Rattle.std.specs.Prelude.{Contains}
use Rattle.std.proofs.lemmas.Bool.{cases_eq, false≢true}
use Rattle.std.specs.Option.{option_map_or}
use Rattle.graph_colours.specs.declared.member.Member.{Member}
use Rattle.graph_colours.specs.Movers.{has_mover}
use Rattle.graph_colours.proofs.PlaceLemmas.{same_from}
use Rattle.plain_world.specs.Constraints.{constraint_number}
use Rattle.plain_world.specs.declared.constraint.Constraint.{Constraint}
use Rattle.islands.specs.declared.label.IslandState.TheVariants.{Loose}
use Rattle.islands.specs.declared.label.Label.{Label}
use Rattle.islands.specs.Labels.{Labels, is_in, label_at, lowest_member, relabelled, taken_out, left_behind}
use Rattle.islands.proofs.LabelLemmas.{relabel_at}
use Rattle.plain_world.specs.declared.body.Body.{Body}
use Rattle.plain_world.specs.Bodies as bodies
use Rattle.plain_world.specs.Slots.{body_at}
use Rattle.sleep_wake.specs.Acting.{Acting, are_awake, awake_label, is_mover_awake}
use Rattle.sleep_wake.specs.Bodies.{mover_gone}
use Rattle.sleep_wake.proofs.ListLemmas.{in_links}
use Rattle.plain_world.specs.Bodies.{moves}
use Rattle.solver_sets.specs.Ties.{ties_of}
use Rattle.world_rules.specs.Sets.{acting_of, with_woken}
use Rattle.world_rules.specs.World.{World, joints_in_slots}
use Rattle.world_rules.proofs.ActingLaws.{awake_name, stay_awake}
use Rattle.world_rules.proofs.ActingLaws as acting
use Rattle.world_rules.proofs.LowerLaws.{linked_stand_together, the_named_are_awake}
use Rattle.solver_sets.proofs.SlotLemmas.{item_at-set_other}
use Rattle.world_rules.proofs.SoundLaws.{IsKept}
use Rattle.world_rules.proofs.ToldLaws.{NobodyFallsAsleep}

-- ---- a mover that goes

relabel_awake : (t : Bool) (low : ℕ) (o : Option Label) → awake_label o ≡ true → awake_label (cond t (Some (record { name = low; state = Loose })) o) ≡ true
relabel_awake true low o h = refl
relabel_awake false low o h = h

left_awake : (t : Bool) (low name k : ℕ) (labels : Labels) → is_mover_awake labels k ≡ true → is_mover_awake (cond t (relabelled name name (record { name = low; state = Loose }) labels) labels) k ≡ true
left_awake true low name k labels h =
    ap awake_label (relabel_at name name (record { name = low; state = Loose }) labels k) ∙ relabel_awake (is_in (label_at labels k) name || is_in (label_at labels k) name) low (label_at labels k) h
left_awake false low name k labels h = h

without_awake : (o : Option Label) (slot k : ℕ) (labels : Labels) → k ≢ slot → is_mover_awake labels k ≡ true → is_mover_awake (option_map_or (λ (label : Label). left_behind (lowest_member label.name (slice_set labels slot None)) label.name (slice_set labels slot None)) o labels) k ≡ true
without_awake None slot k labels far h = h
without_awake (Some l) slot k labels far h =
    let rest : Labels = slice_set labels slot None in
    left_awake (nat_lt (lowest_member l.name rest) (length rest)) (lowest_member l.name rest) l.name k rest (ap awake_label (get_or-set_other labels slot k None None far) ∙ h)

-- the others stay awake
pub gone_awake : (slot k : ℕ) (s : Acting Constraint) → k ≢ slot → is_mover_awake s.labels k ≡ true → is_mover_awake (mover_gone constraint_number slot s).labels k ≡ true
unfolding mover_gone taken_out
gone_awake slot k s far h = without_awake (label_at s.labels slot) slot k s.labels far h

-- ---- islands that were woken

-- a mover of which the island was woken is awake
pub named_awake : (w : World) (slots : List ℕ) (slot : ℕ) → IsKept w → Contains slots slot → moves w.plain.bodies slot ≡ true → is_mover_awake (with_woken w.plain slots).islands slot ≡ true
unfolding acting_of
named_awake w slots slot k h moving = the_named_are_awake (acting_of w.plain) slots slot k.consistent h (k.tied slot ∙ moving)

-- two movers of a constraint are both awake, or neither is
second_as : (w : World) (m : Member Constraint) (b : ℕ) → IsKept w → Contains (ties_of w.plain.bodies (joints_in_slots w.plain) w.plain.contacts) m → m.movers.second ≡ Some b → is_mover_awake w.plain.islands m.movers.first ≡ is_mover_awake w.plain.islands b
unfolding acting_of
second_as w m b k h e = (linked_stand_together (acting_of w.plain) m.movers.first b k.consistent (inl (in_links (acting_of w.plain).ties m m.movers.first b h refl e))).1

pub both_awake : (labels : Labels) (first : ℕ) (second : Option ℕ) → is_mover_awake labels first ≡ true → ((b : ℕ) → second ≡ Some b → is_mover_awake labels b ≡ true) → (is_mover_awake labels first && option_map_or (is_mover_awake labels) second true) ≡ true
both_awake labels first None a b = rw a refl
both_awake labels first (Some slot) a b = rw (a, b slot refl) refl

-- if the first mover of a tie is awake, all are
pub first_wakes : (w : World) (m : Member Constraint) → IsKept w → Contains (ties_of w.plain.bodies (joints_in_slots w.plain) w.plain.contacts) m → is_mover_awake w.plain.islands m.movers.first ≡ true → are_awake w.plain.islands m.movers ≡ true
first_wakes w m k h up = both_awake w.plain.islands m.movers.first m.movers.second up (λ b e. sym (second_as w m b k h e) ∙ up)

mover_wakes : (w : World) (m : Member Constraint) (slot first : ℕ) (second : Option ℕ) → IsKept w → Contains (ties_of w.plain.bodies (joints_in_slots w.plain) w.plain.contacts) m → m.movers.first ≡ first → m.movers.second ≡ second
    → has_mover (record { first = first; second = second }) slot ≡ true → is_mover_awake w.plain.islands slot ≡ true → is_mover_awake w.plain.islands m.movers.first ≡ true
mover_wakes w m slot first None k h e f has up = let same : first ≡ slot = same_from first slot (or_first (first == slot) has) in ap (is_mover_awake w.plain.islands) (e ∙ same) ∙ up
  where
    or_first : (t : Bool) → (t || false) ≡ true → t ≡ true
    or_first true q = refl
    or_first false q = q
mover_wakes w m slot first (Some b) k h e f has up = by (first == slot) (b == slot) refl refl has
  where
    by : (t u : Bool) → (first == slot) ≡ t → (b == slot) ≡ u → (t || u) ≡ true → is_mover_awake w.plain.islands m.movers.first ≡ true
    by true u p q r = ap (is_mover_awake w.plain.islands) (e ∙ same_from first slot p) ∙ up
    by false true p q r = second_as w m b k h f ∙ ap (is_mover_awake w.plain.islands) (same_from b slot q) ∙ up
    by false false p q r = absurd (false≢true r)

-- if one mover of a tie is awake, all are
pub one_wakes : (w : World) (m : Member Constraint) (slot : ℕ) → IsKept w → Contains (ties_of w.plain.bodies (joints_in_slots w.plain) w.plain.contacts) m → has_mover m.movers slot ≡ true → is_mover_awake w.plain.islands slot ≡ true → are_awake w.plain.islands m.movers ≡ true
one_wakes w m slot k h has up = first_wakes w m k h (mover_wakes w m slot m.movers.first m.movers.second k h refl refl has up)

-- ---- bodies

-- the island of a body that is awake is awake
pub body_awake : (w : World) (slot : ℕ) (b : Body) → IsKept w → body_at w.plain.bodies slot ≡ Some b → bodies.is_awake b ≡ true → is_mover_awake w.plain.islands slot ≡ true
body_awake w slot b k at h = acting.awake_label w.plain.bodies w.plain.islands slot b k.tied k.told at h

-- nobody falls asleep
pub all_stay : (w : World) (labels : Labels) → IsKept w → ((k : ℕ) → is_mover_awake w.plain.islands k ≡ true → is_mover_awake labels k ≡ true) → NobodyFallsAsleep w.plain.bodies labels
all_stay w labels kept more = stay_awake w.plain.bodies w.plain.islands labels kept.tied kept.told more

own_at : (bs : List (Option Body)) (slot : ℕ) (o : Option Body) (b : Body) → body_at (slice_set bs slot o) slot ≡ Some b → o ≡ Some b
own_at [] slot o b e = cc
own_at (a ∷ bs) zero o b e = e
own_at (a ∷ bs) (suc slot) o b e = own_at bs slot o b e

-- nor beside a slot, where there is another body now
pub others_stay : (w : World) (slot : ℕ) (o : Option Body) (labels : Labels) → IsKept w → ((k : ℕ) → k ≢ slot → is_mover_awake w.plain.islands k ≡ true → is_mover_awake labels k ≡ true) → ((b : Body) → o ≡ Some b → bodies.is_awake b ≡ true → is_mover_awake labels slot ≡ true)
    → NobodyFallsAsleep (slice_set w.plain.bodies slot o) labels
others_stay w slot o labels kept more own k b at h =
    awake_name (label_at labels k) (elim (cases_eq k slot) [
      | inl e ↦ let there : body_at (slice_set w.plain.bodies slot o) slot ≡ Some b = sym (ap (body_at (slice_set w.plain.bodies slot o)) e) ∙ at in
          ap (is_mover_awake labels) e ∙ own b (own_at w.plain.bodies slot o b there) h
      | inr far ↦ more k far (body_awake w k b kept (sym (item_at-set_other w.plain.bodies slot o k far) ∙ at) h)
    ])
