-- The contacts of the world that is made of what was read.
use Rattle.std.proofs.Common.{◌≡◌, ℕ, ◌<◌, ◌≤◌, ◌==◌, ◌||◌, Bool, true, false, not, cond, nat_lt, List, [], ◌∷◌, length, map, slice_get, Option, Some, None, is_some, All, inl, inr, refl, sym, ap, ◌∙◌, arith}
use Rattle.std.specs.List.{list_all}
use Rattle.std.proofs.lemmas.Bool.{false≢true}
use Rattle.std.proofs.lemmas.Option.{none-some, same_Some, slice_get_within}
use Rattle.contacts_base.proofs.Members.{Each, all_from_each, each_from, each_in}
use Rattle.contacts_base.proofs.Rising.{IsRising, increasing_from_rising}
use Rattle.contacts_base.specs.Contacts.{AreKeysRising, number_of}
use Rattle.contacts_base.specs.Evaluate.{touches}
use Rattle.contacts_base.specs.Keys.{key_number}
use Rattle.contacts_base.specs.Limits.{IsContact}
use Rattle.contacts_base.specs.declared.contact.Contact.{Contact}
use Rattle.contacts_base.specs.declared.contact.ContactPoint.{ContactPoint}
use Rattle.graph_colours.proofs.MoverLemmas.{same_back}
use Rattle.plain_world.specs.Formed.{HasPoints, shape_with_id, shape_of_body}
use Rattle.plain_world.specs.Kinds.{is_dynamic}
use Rattle.plain_world.specs.Slots.{body_at, shapes_in}
use Rattle.plain_world.specs.declared.body.Body.{Body}
use Rattle.world_file_base.specs.SavedContacts.{no_points}
use Rattle.world_file_base.specs.declared.saved.SavedContact.{SavedContact}
use Rattle.shapes.specs.declared.shape.ShapeDef.{ShapeDef}
use Rattle.plain_world.specs.Bodies.{is_mover_in}
use Rattle.solver_sets.specs.Ties.{is_enabled_in}
use Rattle.solver_sets.proofs.SlotLemmas.{below_length}
use Rattle.world_core_base.specs.ContactBodies.{AreContactsOf, IsContactOf}
use Rattle.world_file.specs.Fitting.{are_points, are_rising_after, entry_read, has_points, is_above, is_contact_fitting, is_dynamic_body}
use Rattle.world_rules.specs.Sound.{HasBodies}
use Rattle.world_file.proofs.ReadContacts.{IsSavedContact}
use Rattle.world_file.proofs.ReadPoints.{IsPoint, OnPoint}
use Rattle.world_file.proofs.SavedTies.{DoesTouch}
use Rattle.world_file.proofs.Tests.{all_pass, below, both_true, either_true, not_true, some_item}

-- ---- what fitting tells

pub record IsFittingContact (bodies : List (Option Body)) (c : SavedContact) : Type 0 where
  pub saved : IsSavedContact c
  pub first : is_some (shape_with_id bodies c.key.first) ≡ true
  pub second : is_some (shape_with_id bodies c.key.second) ≡ true
  pub order : c.key.first.slot < c.key.second.slot
  pub mover : (is_dynamic_body (body_at bodies c.key.first.slot) || is_dynamic_body (body_at bodies c.key.second.slot)) ≡ true
  pub has : has_points c ≡ true

fitting_one : (bodies : List (Option Body)) (c : SavedContact) → IsSavedContact c → is_contact_fitting bodies c ≡ true → IsFittingContact bodies c
fitting_one bodies c saved h =
    let a = both_true (is_some (shape_with_id bodies c.key.first)) _ h in
    let b = both_true (is_some (shape_with_id bodies c.key.second)) _ a.1 in
    let d = both_true (nat_lt c.key.first.slot c.key.second.slot) _ b.1 in
    let e = both_true (is_dynamic_body (body_at bodies c.key.first.slot) || is_dynamic_body (body_at bodies c.key.second.slot)) (has_points c) d.1 in
    record { saved = saved; first = a.0; second = b.0; order = below c.key.first.slot c.key.second.slot d.0; mover = e.0; has = e.1 }

pub fitting_each : (bodies : List (Option Body)) (cs : List SavedContact) → Each IsSavedContact cs → list_all (is_contact_fitting bodies) cs ≡ true → Each (IsFittingContact bodies) cs
fitting_each bodies cs saved h = each_from (IsFittingContact bodies) cs (λ c i. fitting_one bodies c (each_in IsSavedContact c cs saved i) (all_pass (is_contact_fitting bodies) cs h c i))

-- ---- points

first_there : (first second : Option ContactPoint) (n : ℕ) → are_points first second n ≡ true → is_some first ≡ true
first_there None second n h = h
first_there (Some p) second n h = refl

touching_by : (t : Bool) (k : Contact) (n : ℕ) → ((n == 0) ≡ true → k ≡ no_points) → cond t (are_points k.first k.second n) (n == 0) ≡ true → t ≡ touches k
touching_by true k n none h = sym (first_there k.first k.second n h)
touching_by false k n none h = sym (ap touches (none h))

touching_is : (bodies : List (Option Body)) (c : SavedContact) → IsFittingContact bodies c → DoesTouch c
touching_is bodies c h = touching_by c.touching c.contact c.points h.saved.none h.has

pub touching_each : (bodies : List (Option Body)) (cs : List SavedContact) → Each (IsFittingContact bodies) cs → Each DoesTouch cs
touching_each bodies [] all = tt
touching_each bodies (c ∷ cs) all = (touching_is bodies c all.0, touching_each bodies cs all.1)

on_point : (o : Option ContactPoint) (p : ContactPoint) → OnPoint o → o ≡ Some p → IsPoint p
on_point None p h e = absurd (none-some p e)
on_point (Some q) p h e = rw (← same_Some q p e) h

beside_by : (t : Bool) (first second : Option ContactPoint) (n : ℕ) → (first ≡ None → second ≡ None) → ((n == 0) ≡ true → second ≡ None) → cond t (are_points first second n) (n == 0) ≡ true
    → (q : ContactPoint) → second ≡ Some q → (p : ContactPoint) × (first ≡ Some p) × ((q.candidate == p.candidate) ≡ false)
beside_by true None second n beside none h q e = absurd (false≢true h)
beside_by true (Some p) None n beside none h q e = absurd (none-some q e)
beside_by true (Some p) (Some s) n beside none h q e =
    let apart = not_true (p.candidate == s.candidate) (both_true (n == 2) (not (p.candidate == s.candidate)) h).1 in
    (p, refl, ap (λ (x : ContactPoint). x.candidate == p.candidate) (sym (same_Some s q e)) ∙ same_back s.candidate p.candidate ∙ apart)
beside_by false first second n beside none h q e = absurd (none-some q (sym (none h) ∙ e))

points_have : (bodies : List (Option Body)) (c : SavedContact) → IsFittingContact bodies c → HasPoints c.contact
points_have bodies c h = record {
  first = λ p e. (on_point c.contact.first p h.saved.points.first e).candidate;
  second = λ p e. (on_point c.contact.second p h.saved.points.second e).candidate;
  beside = beside_by c.touching c.contact.first c.contact.second c.points h.saved.points.beside (λ e. ap (λ (k : Contact). k.second) (h.saved.none e)) h.has;
}

contact_is : (c : SavedContact) → IsSavedContact c → IsContact c.contact
contact_is c h = record {
  first = λ p e. (on_point c.contact.first p h.points.first e).point;
  second = λ p e. (on_point c.contact.second p h.points.second e).point;
}

-- ---- the bodies of a contact

record IsThere (o : Option Body) (index : ℕ) : Type 0 where
  body : is_some o ≡ true
  enabled : is_enabled_in o ≡ true
  shape : index < shapes_in o

there_by : (t : Bool) (shapes : List ShapeDef) (index : ℕ) → is_some (cond t (slice_get shapes index) None) ≡ true → (t ≡ true) × (index < cond t (length shapes) 0)
there_by true shapes index h = let o = some_item (slice_get shapes index) h in (refl, slice_get_within shapes index o.0 o.1)
there_by false shapes index h = absurd (false≢true h)

is_there : (o : Option Body) (index : ℕ) → is_some (shape_of_body o index) ≡ true → IsThere o index
is_there None index h = absurd (false≢true h)
is_there (Some b) index h = let o = there_by b.enabled b.shapes index h in record { body = refl; enabled = o.0; shape = o.1 }

mover_by : (t u : Bool) → t ≡ true → u ≡ true → cond t u false ≡ true
mover_by true u e h = h
mover_by false u e h = absurd (false≢true e)

moves_by : (o : Option Body) → is_enabled_in o ≡ true → is_dynamic_body o ≡ true → is_mover_in o ≡ true
moves_by None e h = h
moves_by (Some b) e h = mover_by b.enabled (is_dynamic b.kind) e h

in_reach : (bodies : List (Option Body)) (slot : ℕ) → is_some (body_at bodies slot) ≡ true → slot < length bodies
in_reach bodies slot h = let o = some_item (body_at bodies slot) h in below_length bodies slot o.0 o.1

contact_of : (bodies : List (Option Body)) (c : SavedContact) → IsFittingContact bodies c → IsContactOf bodies (entry_read bodies c)
contact_of bodies c h =
    let first = is_there (body_at bodies c.key.first.slot) c.key.first.index h.first in
    let second = is_there (body_at bodies c.key.second.slot) c.key.second.index h.second in
    let order = h.order in
    record {
      first = in_reach bodies c.key.first.slot first.body;
      second = in_reach bodies c.key.second.slot second.body;
      apart = λ e. omega (arith, order, e);
      mover = elim (either_true (is_dynamic_body (body_at bodies c.key.first.slot)) (is_dynamic_body (body_at bodies c.key.second.slot)) h.mover) [
        | inl x ↦ inl (moves_by (body_at bodies c.key.first.slot) first.enabled x)
        | inr x ↦ inr (moves_by (body_at bodies c.key.second.slot) second.enabled x)
      ];
      contact = contact_is c h.saved;
    }

has_bodies : (bodies : List (Option Body)) (c : SavedContact) → IsFittingContact bodies c → HasBodies bodies (entry_read bodies c)
has_bodies bodies c h =
    let first = is_there (body_at bodies c.key.first.slot) c.key.first.index h.first in
    let second = is_there (body_at bodies c.key.second.slot) c.key.second.index h.second in
    record { first = first.body; second = second.body; first_shape = first.shape; second_shape = second.shape; order = h.order; surface = refl; named = h.saved.named; points = points_have bodies c h }

pub each_mapped : {X Y : Type 0} (P : Y → Type 0) (Q : X → Type 0) (f : X → Y) (xs : List X) → ((x : X) → Q x → P (f x)) → Each Q xs → Each P (map f xs)
each_mapped P Q f [] h all = tt
each_mapped P Q f (x ∷ xs) h all = (h x all.0, each_mapped P Q f xs h all.1)

pub contacts_of : (bodies : List (Option Body)) (cs : List SavedContact) → Each (IsFittingContact bodies) cs → AreContactsOf bodies (map (entry_read bodies) cs)
contacts_of bodies cs all = all_from_each (IsContactOf bodies) (map (entry_read bodies) cs) (each_mapped (IsContactOf bodies) (IsFittingContact bodies) (entry_read bodies) cs (contact_of bodies) all)

pub contacts_there : (bodies : List (Option Body)) (cs : List SavedContact) → Each (IsFittingContact bodies) cs → All (HasBodies bodies) (map (entry_read bodies) cs)
contacts_there bodies cs all = all_from_each (HasBodies bodies) (map (entry_read bodies) cs) (each_mapped (HasBodies bodies) (IsFittingContact bodies) (entry_read bodies) cs (has_bodies bodies) all)

-- ---- the keys ascend

abbrev numbers : List (Option Body) → List SavedContact → List ℕ
numbers bodies cs = map number_of (map (entry_read bodies) cs)

above_by : (t : Bool) (u : Bool) → cond t u false ≡ true → (t ≡ true) × (u ≡ true)
above_by true u h = (refl, h)
above_by false u h = absurd (false≢true h)

rising_head : (c : SavedContact) (cs : List SavedContact) (last : Option ℕ) → are_rising_after last (c ∷ cs) ≡ true → (is_above last (key_number c.key) ≡ true) × (are_rising_after (Some (key_number c.key)) cs ≡ true)
rising_head c cs last h = above_by (is_above last (key_number c.key)) (are_rising_after (Some (key_number c.key)) cs) h

all_above : (bodies : List (Option Body)) (n : ℕ) (cs : List SavedContact) (k : ℕ) → n ≤ k → are_rising_after (Some k) cs ≡ true → Each (λ m. n < m) (numbers bodies cs)
all_above bodies n [] k low h = tt
all_above bodies n (c ∷ cs) k low h =
    let o = rising_head c cs (Some k) h in
    let up : k < key_number c.key = below k (key_number c.key) o.0 in
    (omega (arith, low, up), all_above bodies n cs (key_number c.key) (omega (arith, low, up)) o.1)

keys_rise : (bodies : List (Option Body)) (last : Option ℕ) (cs : List SavedContact) → are_rising_after last cs ≡ true → IsRising (numbers bodies cs)
keys_rise bodies last [] h = tt
keys_rise bodies last (c ∷ cs) h =
    let o = rising_head c cs last h in
    (all_above bodies (key_number c.key) cs (key_number c.key) (omega arith) o.1, keys_rise bodies (Some (key_number c.key)) cs o.1)

pub contacts_rise : (bodies : List (Option Body)) (cs : List SavedContact) → are_rising_after None cs ≡ true → AreKeysRising (map (entry_read bodies) cs)
contacts_rise bodies cs h = increasing_from_rising (numbers bodies cs) (keys_rise bodies None cs h)
