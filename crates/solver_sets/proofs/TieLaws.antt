-- Which ties a world has: they rise, are named, have labels, and changes that they don't see leave them.
use Rattle.std.proofs.Common.{◌≡◌, ℕ, suc, ◌^◌, ◌<◌, ◌&&◌, Bool, true, false, cond, is_some, List, [], ◌∷◌, ◌++◌, length, map, Option, Some, None, All, inl, inr, refl, sym, ap, ap₂, ◌∙◌, subst, arith}
use Rattle.std.specs.List.{filter_map}
use Rattle.std.proofs.lemmas.Bool.{false≢true}
use Rattle.std.proofs.lemmas.Option.{none-some, same_Some, slice_get_within}
use Rattle.std.proofs.lemmas.List.Elements.{All-contains}
use Rattle.body_handles.specs.SlotEntries.{IsSlotEntry}
use Rattle.graph_colours.specs.declared.member.Movers.{Movers}
use Rattle.graph_colours.specs.declared.member.Member.{Member}
use Rattle.graph_colours.specs.Colours.{all_members, ids_of}
use Rattle.contacts_base.proofs.Members.{IsIn, in_from_contains, contains_from_in, in_left, in_right}
use Rattle.contacts_base.specs.declared.contact.ContactEntry.{ContactEntry}
use Rattle.plain_world.specs.declared.constraint.Constraint.{Constraint}
use Rattle.plain_world.specs.declared.constraint.Constraint.TheVariants.{Joint}
use Rattle.plain_world.specs.Constraints.{constraint_number}
use Rattle.islands.specs.declared.label.Label.{Label}
use Rattle.islands.specs.Labels.{label_at}
use Rattle.plain_world.specs.declared.body.Body.{Body}
use Rattle.plain_world.specs.declared.joint.BodyJoint.{BodyJoint}
use Rattle.solver_sets.specs.Laws as laws
use Rattle.solver_sets.specs.Alike.{AreJointSlots, HaveSameEnds, ends_in}
use Rattle.plain_world.specs.Bodies.{moves}
use Rattle.solver_sets.specs.Ties.{Bond, IsKeyWithin, IsConstraintWithin, JointSlots, Lists, bond_before, bonds_of, contact_bond, is_enabled, joint_bonds, joint_bonds_from, member_of, members_of, movers_if, movers_of, movers_with, tie_of, tie_with, ties_in, ties_of, touching_keys}
use Rattle.solver_sets.proofs.BondLaws.{IsContactBond, IsJointBond, bond_number, bonds_rise, in_bonds, place_is}
use Rattle.solver_sets.proofs.ListLaws.{ComesOf, Rises, in_map, map_in, map_same, pairs_from_rises, rises_map}

-- ---- a bond's tie

abbrev pub tie_number : Member Constraint → ℕ
tie_number m = constraint_number m.id

-- the tie has the bond's name and the movers of its bodies
pub record IsTieOf (bodies : List (Option Body)) (b : Bond) (m : Member Constraint) : Type 0 where
  pub named : m.id ≡ b.id
  pub movers : movers_with bodies b.a b.b ≡ Some m.movers

tie_is_by : (id : Constraint) (o : Option Movers) (m : Member Constraint) → tie_with id o ≡ Some m → (m.id ≡ id) × (o ≡ Some m.movers)
tie_is_by id None m e = absurd (none-some m e)
tie_is_by id (Some v) m e = let same = same_Some (record { id = id; movers = v }) m e in (sym (ap (λ (x : Member Constraint). x.id) same), ap (λ (x : Member Constraint). Some x.movers) same)

pub tie_is : (bodies : List (Option Body)) (b : Bond) (m : Member Constraint) → tie_of bodies b ≡ Some m → IsTieOf bodies b m
tie_is bodies b m e = let o = tie_is_by b.id (movers_with bodies b.a b.b) m e in record { named = o.0; movers = o.1 }

pub is_tie : (bodies : List (Option Body)) (b : Bond) (m : Member Constraint) → IsTieOf bodies b m → tie_of bodies b ≡ Some m
is_tie bodies b m h = ap₂ (λ (id : Constraint) (o : Option Movers). tie_with id o) (sym h.named) h.movers

pub ties_rise_in : (bodies : List (Option Body)) (bonds : List Bond) → Rises bond_number bonds → Rises tie_number (ties_in bodies bonds)
ties_rise_in bodies bonds r = rises_map (tie_of bodies) bond_number tie_number bonds (λ b m e. ap constraint_number (tie_is bodies b m e).named) r

pub ties_rise : laws.TiesRise
unfolding ties_of
ties_rise bodies s contacts are rising = pairs_from_rises tie_number (ties_in bodies (bonds_of s contacts)) (ties_rise_in bodies (bonds_of s contacts) (bonds_rise s contacts are rising))

-- a tie comes of a bond
pub in_ties : (bodies : List (Option Body)) (s : JointSlots) (contacts : List ContactEntry) (m : Member Constraint) → IsIn m (ties_of bodies s contacts) → ComesOf (tie_of bodies) (bonds_of s contacts) m
unfolding ties_of
in_ties bodies s contacts m h = in_map (tie_of bodies) (bonds_of s contacts) m h

pub ties_in_of : (bodies : List (Option Body)) (s : JointSlots) (contacts : List ContactEntry) (b : Bond) (m : Member Constraint) → IsIn b (bonds_of s contacts) → tie_of bodies b ≡ Some m → IsIn m (ties_of bodies s contacts)
unfolding ties_of
ties_in_of bodies s contacts b m h e = map_in (tie_of bodies) (bonds_of s contacts) b m h e

-- ---- names

joint_named : (s : JointSlots) (b : Bond) → AreJointSlots s → IsJointBond s b → IsConstraintWithin b.id
joint_named s b are h =
    let is : IsSlotEntry h.place = place_is s.slot_entries h.slot h.place are.slot_entries h.at_place in
    let bounded = is.bounded in
    let slots = are.matched.slots in
    let few = are.matched.few in
    let within : h.slot < length s.slot_entries = slice_get_within s.slot_entries h.slot h.place h.at_place in
    let low : h.slot < 2 ^ 32 = omega (arith, slots, few, within) in
    let short : h.place.generation < 2 ^ 32 = omega (arith, bounded) in
    subst (λ (v : Bond). IsConstraintWithin v.id) (sym h.is) (low, short)

contact_named : (contacts : List ContactEntry) (b : Bond) → All (λ (e : ContactEntry). IsKeyWithin e.key) contacts → IsContactBond contacts b → IsConstraintWithin b.id
contact_named contacts b all h = subst (λ (v : Bond). IsConstraintWithin v.id) (sym h.is) (All-contains (λ (e : ContactEntry). IsKeyWithin e.key) contacts h.entry all (contains_from_in contacts h.entry h.there))

pub ties_named : laws.TiesAreWithin
ties_named bodies s contacts m are all h =
    let o = in_ties bodies s contacts m (in_from_contains (ties_of bodies s contacts) m h) in
    subst IsConstraintWithin (sym (tie_is bodies o.of m o.gives).named) (elim (in_bonds s contacts o.of o.there) [
      | inl p ↦ joint_named s o.of are p
      | inr q ↦ contact_named contacts o.of all q
    ])

-- ---- labels

there_is : (o : Option Label) → is_some o ≡ true → (l : Label) × (o ≡ Some l)
there_is None e = absurd (false≢true e)
there_is (Some l) e = (l, refl)

-- which movers a pair of bodies has
pub record HasMovers (bodies : List (Option Body)) (a b : ℕ) (m : Movers) : Type 0 where
  pub enabled_a : is_enabled bodies a ≡ true
  pub enabled_b : is_enabled bodies b ≡ true
  pub movers : movers_if (moves bodies a) (moves bodies b) a b ≡ Some m

both_by : (x y : Bool) (o : Option Movers) (m : Movers) → cond (x && y) o None ≡ Some m → (x ≡ true) × (y ≡ true) × (o ≡ Some m)
both_by true true o m e = (refl, refl, e)
both_by true false o m e = absurd (none-some m e)
both_by false y o m e = absurd (none-some m e)

pub has_movers : (bodies : List (Option Body)) (a b : ℕ) (m : Movers) → movers_with bodies a b ≡ Some m → HasMovers bodies a b m
has_movers bodies a b m e = let o = both_by (is_enabled bodies a) (is_enabled bodies b) (movers_if (moves bodies a) (moves bodies b) a b) m e in record { enabled_a = o.0; enabled_b = o.1; movers = o.2 }

-- each mover is one of the two bodies, and a mover
pub movers_move : (x y : Bool) (a b : ℕ) (m : Movers) (P : ℕ → Type 0) → (x ≡ true → P a) → (y ≡ true → P b) → movers_if x y a b ≡ Some m → P m.first × ((slot : ℕ) → m.second ≡ Some slot → P slot)
movers_move true true a b m P f g e =
    let same = same_Some (record { first = a; second = Some b }) m e in
    subst (λ (v : Movers). P v.first × ((slot : ℕ) → v.second ≡ Some slot → P slot)) same (f refl, (λ slot k. subst P (same_Some b slot k) (g refl)))
movers_move true false a b m P f g e =
    let same = same_Some (record { first = a; second = None }) m e in
    subst (λ (v : Movers). P v.first × ((slot : ℕ) → v.second ≡ Some slot → P slot)) same (f refl, (λ slot k. absurd (none-some slot k)))
movers_move false true a b m P f g e =
    let same = same_Some (record { first = b; second = None }) m e in
    subst (λ (v : Movers). P v.first × ((slot : ℕ) → v.second ≡ Some slot → P slot)) same (g refl, (λ slot k. absurd (none-some slot k)))
movers_move false false a b m P f g e = absurd (none-some m e)

pub movers_have_labels : laws.MoversHaveLabels
movers_have_labels bodies labels a b m tied e =
    let P : ℕ → Type 0 = λ slot. (l : Label) × (label_at labels slot ≡ Some l) in
    let o = movers_move (moves bodies a) (moves bodies b) a b m P (λ t. there_is (label_at labels a) (tied a ∙ t)) (λ t. there_is (label_at labels b) (tied b ∙ t)) (has_movers bodies a b m e).movers in
    record { first = o.0; second = o.1 }

pub ties_have_labels : laws.TiesHaveLabels
ties_have_labels bodies s contacts labels m tied h =
    let o = in_ties bodies s contacts m (in_from_contains (ties_of bodies s contacts) m h) in
    movers_have_labels bodies labels o.of.a o.of.b m.movers tied (tie_is bodies o.of m o.gives).movers

-- ---- lists of ties are those of their names

-- a tie is found by its name
pub member_is : (bodies : List (Option Body)) (s : JointSlots) (contacts : List ContactEntry) (m : Member Constraint) → IsIn m (ties_of bodies s contacts) → member_of bodies s m.id ≡ Some m
member_is bodies s contacts m h =
    let o = in_ties bodies s contacts m h in
    let t = tie_is bodies o.of m o.gives in
    let same : movers_of bodies s o.of.id ≡ movers_with bodies o.of.a o.of.b = elim (in_bonds s contacts o.of o.there) [
      | inl p ↦ subst (λ (v : Bond). movers_of bodies s v.id ≡ movers_with bodies v.a v.b) (sym p.is) (rw p.at_joint refl)
      | inr q ↦ subst (λ (v : Bond). movers_of bodies s v.id ≡ movers_with bodies v.a v.b) (sym q.is) refl
    ] in
    ap (tie_with m.id) (ap (movers_of bodies s) t.named ∙ same ∙ t.movers)

list_is : (f : Constraint → Option (Member Constraint)) (ms : List (Member Constraint)) → ((m : Member Constraint) → IsIn m ms → f m.id ≡ Some m) → filter_map f (map (λ (m : Member Constraint). m.id) ms) ≡ ms
list_is f [] h = refl
list_is f (m ∷ ms) h = rw (h m (inl refl), list_is f ms (λ x k. h x (inr k))) refl

lists_are : (f : Constraint → Option (Member Constraint)) (lists : Lists) → ((m : Member Constraint) → IsIn m (all_members lists) → f m.id ≡ Some m) → map (filter_map f) (ids_of lists) ≡ lists
lists_are f [] h = refl
lists_are f (ms ∷ lists) h = rw (list_is f ms (λ m k. h m (in_left m ms (all_members lists) k)), lists_are f lists (λ m k. h m (in_right m ms (all_members lists) k))) refl

pub lists_members : laws.ListsAreMembers
unfolding members_of
lists_members bodies s contacts lists all = lists_are (member_of bodies s) lists (λ m h. member_is bodies s contacts m (in_from_contains (ties_of bodies s contacts) m (all m (contains_from_in (all_members lists) m h))))

-- ---- changes that no tie sees

pub same_movers : (old new : List (Option Body)) (a b : ℕ) → is_enabled new a ≡ is_enabled old a → is_enabled new b ≡ is_enabled old b → moves new a ≡ moves old a → moves new b ≡ moves old b → movers_with new a b ≡ movers_with old a b
same_movers old new a b p q r t = rw (p, q, r, t) refl

pub same_tie : (old new : List (Option Body)) (b : Bond) → movers_with new b.a b.b ≡ movers_with old b.a b.b → tie_of new b ≡ tie_of old b
same_tie old new b e = ap (tie_with b.id) e

pub alike_ties : laws.AlikeBodiesKeepTies
unfolding ties_of
alike_ties old new s contacts h = map_same (tie_of new) (tie_of old) (bonds_of s contacts) (λ b k. same_tie old new b (same_movers old new b.a b.b (h.enabled b.a) (h.enabled b.b) (h.movers b.a) (h.movers b.b)))

same_before : (h : _) (o p : Option BodyJoint) (bonds : List Bond) → ends_in o ≡ ends_in p → bond_before h o bonds ≡ bond_before h p bonds
same_before h None None bonds e = refl
same_before h None (Some j) bonds e = absurd (none-some (j.a, j.b) e)
same_before h (Some i) None bonds e = absurd (none-some (i.a, i.b) (sym e))
same_before h (Some i) (Some j) bonds e = let same = same_Some (i.a, i.b) (j.a, j.b) e in ap (λ (v : ℕ × ℕ). record { id = Joint h; a = v.0; b = v.1 } ∷ bonds) same

same_joint_bonds : (n : ℕ) (slot_entries : List _) (old new : List (Option BodyJoint)) → map ends_in new ≡ map ends_in old → joint_bonds_from n slot_entries new ≡ joint_bonds_from n slot_entries old
same_joint_bonds n [] old new e = refl
same_joint_bonds n (p ∷ slot_entries) [] [] e = refl
same_joint_bonds n (p ∷ slot_entries) [] (o ∷ new) e = cc
same_joint_bonds n (p ∷ slot_entries) (o ∷ old) [] e = cc
same_joint_bonds n (p ∷ slot_entries) (o ∷ old) (q ∷ new) e =
    let head : ends_in q ≡ ends_in o = cc in
    let tail : map ends_in new ≡ map ends_in old = cc in
    ap (bond_before (record { slot = n; generation = p.generation }) q) (same_joint_bonds (suc n) slot_entries old new tail)
    ∙ same_before (record { slot = n; generation = p.generation }) q o (joint_bonds_from (suc n) slot_entries old) head

pub same_bonds : (old new : JointSlots) → new.slot_entries ≡ old.slot_entries → HaveSameEnds old.joints new.joints → joint_bonds new ≡ joint_bonds old
same_bonds old new e h = rw e (same_joint_bonds 0 old.slot_entries old.joints new.joints h)

pub impulses_ties : laws.ImpulsesKeepTies
unfolding ties_of
impulses_ties bodies old new contacts e h = ap (λ (bonds : List Bond). ties_in bodies (bonds ++ map contact_bond (touching_keys contacts))) (same_bonds old new e h)

pub touching_ties : laws.SameTouchingKeepTies
unfolding ties_of
touching_ties bodies s old new e = ap (λ keys. ties_in bodies (joint_bonds s ++ map contact_bond keys)) e
