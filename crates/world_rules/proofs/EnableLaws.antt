-- The joints of a body that is enabled: their movers are the body itself and those it is joined to.
use Rattle.std.proofs.Common.{◌≡◌, ◌≢◌, ◌⊎◌, ℕ, suc, ◌==◌, ◌&&◌, ◌||◌, Bool, true, false, cond, List, [], ◌∷◌, Option, Some, None, inl, inr, refl, sym, ap, ◌∙◌, subst, arith}
use Rattle.std.specs.Prelude.{Contains, filter}
use Rattle.std.specs.List.{cons_option, filter_map}
use Rattle.std.proofs.lemmas.Bool.{cases_eq, false≢true}
use Rattle.std.proofs.lemmas.Option.{none-some, same_Some}
use Rattle.body_handles.specs.declared.handle.Handle.{Handle}
use Rattle.body_handles.specs.declared.slot_table.SlotEntry.{SlotEntry}
use Rattle.graph_colours.specs.declared.member.Movers.{Movers}
use Rattle.graph_colours.specs.declared.member.Member.{Member}
use Rattle.graph_colours.proofs.PlaceLemmas.{not_same, same_from}
use Rattle.plain_world.specs.declared.constraint.Constraint.{Constraint}
use Rattle.islands.proofs.JoinLemmas.{contains_cases, contains_head, contains_tail}
use Rattle.plain_world.specs.declared.body.Body.{Body}
use Rattle.plain_world.specs.declared.joint.BodyJoint.{BodyJoint}
use Rattle.solver_sets.specs.Beside.{joined_by, joined_to, mover_at, mover_beside}
use Rattle.solver_sets.specs.Alike.{AreAlikeBeside}
use Rattle.plain_world.specs.Bodies.{moves}
use Rattle.solver_sets.specs.Ties.{Bond, JointSlots, is_bond_of, is_enabled, joint_bond, joint_bonds_from, joint_ties_at, movers_if, movers_with, tie_of, tie_with}

-- the mover in the slot is one of these
abbrev pub IsMoverOf : Movers → ℕ → Type 0
IsMoverOf m k = (m.first ≡ k) ⊎ (m.second ≡ Some k)

-- each mover of the constraint is the one in the slot, or one of the others
abbrev pub AreAmong : ℕ → List ℕ → Member Constraint → Type 0
AreAmong slot others m = (k : ℕ) → IsMoverOf m.movers k → (k ≡ slot) ⊎ Contains others k

-- ---- the movers of two bodies

-- a mover of two bodies is one of them
record IsOneOf (a b k : ℕ) (m : Bool) : Type 0 where
  one : (k ≡ a) ⊎ (k ≡ b)
  mover : m ≡ true

one_by : (bodies : List (Option Body)) (t x y : Bool) (a b k : ℕ) (m : Movers) → moves bodies a ≡ x → moves bodies b ≡ y → cond t (movers_if x y a b) None ≡ Some m → IsMoverOf m k → IsOneOf a b k (moves bodies k)
one_by bodies true true true a b k m e f h is =
    let of : IsMoverOf (record { first = a; second = Some b }) k = subst (λ (v : Movers). IsMoverOf v k) (sym (same_Some (record { first = a; second = Some b }) m h)) is in
    elim of [
      | inl p ↦ record { one = inl (sym p); mover = ap (moves bodies) (sym p) ∙ e }
      | inr p ↦ let same : b ≡ k = same_Some b k p in record { one = inr (sym same); mover = ap (moves bodies) (sym same) ∙ f }
    ]
one_by bodies true true false a b k m e f h is =
    let of : IsMoverOf (record { first = a; second = None }) k = subst (λ (v : Movers). IsMoverOf v k) (sym (same_Some (record { first = a; second = None }) m h)) is in
    elim of [
      | inl p ↦ record { one = inl (sym p); mover = ap (moves bodies) (sym p) ∙ e }
      | inr p ↦ absurd (none-some k p)
    ]
one_by bodies true false true a b k m e f h is =
    let of : IsMoverOf (record { first = b; second = None }) k = subst (λ (v : Movers). IsMoverOf v k) (sym (same_Some (record { first = b; second = None }) m h)) is in
    elim of [
      | inl p ↦ record { one = inr (sym p); mover = ap (moves bodies) (sym p) ∙ f }
      | inr p ↦ absurd (none-some k p)
    ]
one_by bodies true false false a b k m e f h is = absurd (none-some m h)
one_by bodies false x y a b k m e f h is = absurd (none-some m h)

one_of : (bodies : List (Option Body)) (a b k : ℕ) (m : Movers) → movers_with bodies a b ≡ Some m → IsMoverOf m k → IsOneOf a b k (moves bodies k)
one_of bodies a b k m h is = one_by bodies (is_enabled bodies a && is_enabled bodies b) (moves bodies a) (moves bodies b) a b k m refl refl h is

-- ---- the mover beside the one in the slot

at_mover : (bodies : List (Option Body)) (k : ℕ) → moves bodies k ≡ true → mover_at bodies k ≡ Some k
at_mover bodies k h = rw h refl

beside_by : (old : List (Option Body)) (slot a b k : ℕ) (t u : Bool) → (a == slot) ≡ t → (b == slot) ≡ u → (t || u) ≡ true → k ≢ slot → moves old k ≡ true → (k ≡ a) ⊎ (k ≡ b) → cond t (mover_at old b) (cond u (mover_at old a) None) ≡ Some k
beside_by old slot a b k true u e f h far on of = elim of [
  | inl p ↦ absurd (far (p ∙ same_from a slot e))
  | inr p ↦ ap (mover_at old) (sym p) ∙ at_mover old k on
]
beside_by old slot a b k false true e f h far on of = elim of [
  | inl p ↦ ap (mover_at old) (sym p) ∙ at_mover old k on
  | inr p ↦ absurd (far (p ∙ same_from b slot f))
]
beside_by old slot a b k false false e f h far on of = absurd (false≢true h)

moved_before : (slot k : ℕ) (old new : List (Option Body)) → AreAlikeBeside slot old new → k ≢ slot → moves new k ≡ true → moves old k ≡ true
moved_before slot k old new h far on = sym (h.movers k (not_same slot k (λ e. far (sym e)))) ∙ on

joined_beside : (slot a b k : ℕ) (old new : List (Option Body)) → AreAlikeBeside slot old new → ((a == slot) || (b == slot)) ≡ true → IsOneOf a b k (moves new k) → (k ≡ slot) ⊎ (mover_beside old slot a b ≡ Some k)
joined_beside slot a b k old new alike here is = elim (cases_eq k slot) [
  | inl e ↦ inl e
  | inr far ↦ inr (beside_by old slot a b k (a == slot) (b == slot) refl refl here far (moved_before slot k old new alike far is.mover) is.one)
]

-- ---- lists

cons_in : {X : Type 0} (o : Option X) (xs : List X) (x : X) → Contains (cons_option o xs) x → (o ≡ Some x) ⊎ Contains xs x
cons_in None xs x h = inr h
cons_in (Some y) xs x h = elim (contains_cases y xs x h) [ inl e ↦ inl (ap Some e) | inr q ↦ inr q ]

in_rest : {X : Type 0} (o : Option X) (xs : List X) (x : X) → Contains xs x → Contains (cons_option o xs) x
in_rest None xs x h = h
in_rest (Some y) xs x h = contains_tail y xs x h

in_first : {X : Type 0} (o : Option X) (xs : List X) (x : X) → o ≡ Some x → Contains (cons_option o xs) x
in_first {X} o xs x e = subst (λ (v : Option X). Contains (cons_option v xs) x) (sym e) (contains_head x xs)

none_among : (slot : ℕ) (others : List ℕ) (m : Member Constraint) → Contains [] m → AreAmong slot others m
none_among slot others m h = absurd (omega (arith, h.1))

among_more : (slot : ℕ) (o : Option ℕ) (others : List ℕ) (m : Member Constraint) → AreAmong slot others m → AreAmong slot (cons_option o others) m
among_more slot o others m h k is = elim (h k is) [ inl e ↦ inl e | inr q ↦ inr (in_rest o others k q) ]

-- ---- the joints of a body

tie_movers : (id : Constraint) (o : Option Movers) (m : Member Constraint) → tie_with id o ≡ Some m → o ≡ Some m.movers
tie_movers id None m e = absurd (none-some m e)
tie_movers id (Some v) m e = ap (λ (x : Member Constraint). Some x.movers) (same_Some (record { id = id; movers = v }) m e)

-- those of one joint
bond_among : (slot : ℕ) (old new : List (Option Body)) (h : Handle) (j : BodyJoint) (others : List ℕ) (m : Member Constraint) → AreAlikeBeside slot old new → is_bond_of slot (joint_bond h j) ≡ true → tie_of new (joint_bond h j) ≡ Some m → AreAmong slot (cons_option (joined_by old slot (Some j)) others) m
bond_among slot old new h j others m alike here e k is =
    elim (joined_beside slot j.a j.b k old new alike here (one_of new j.a j.b k m.movers (tie_movers (joint_bond h j).id (movers_with new j.a j.b) m e) is)) [
      | inl p ↦ inl p
      | inr p ↦ inr (in_first (joined_by old slot (Some j)) others k p)
    ]

next_among : (slot : ℕ) (old new : List (Option Body)) (h : Handle) (j : BodyJoint) (bonds : List Bond) (others : List ℕ) (m : Member Constraint) (t : Bool) → AreAlikeBeside slot old new → is_bond_of slot (joint_bond h j) ≡ t
    → (Contains (filter_map (tie_of new) bonds) m → AreAmong slot others m) → Contains (filter_map (tie_of new) (cond t (joint_bond h j ∷ bonds) bonds)) m → AreAmong slot (cons_option (joined_by old slot (Some j)) others) m
next_among slot old new h j bonds others m true alike here rest within =
    elim (cons_in (tie_of new (joint_bond h j)) (filter_map (tie_of new) bonds) m within) [
      | inl e ↦ bond_among slot old new h j others m alike here e
      | inr q ↦ among_more slot (joined_by old slot (Some j)) others m (rest q)
    ]
next_among slot old new h j bonds others m false alike here rest within = among_more slot (joined_by old slot (Some j)) others m (rest within)

all_among : (slot n : ℕ) (old new : List (Option Body)) (slot_entries : List SlotEntry) (joints : List (Option BodyJoint)) (m : Member Constraint) → AreAlikeBeside slot old new
    → Contains (filter_map (tie_of new) (filter (is_bond_of slot) (joint_bonds_from n slot_entries joints))) m → AreAmong slot (filter_map (joined_by old slot) joints) m
all_among slot n old new [] joints m alike h = none_among slot (filter_map (joined_by old slot) joints) m h
all_among slot n old new (p ∷ slot_entries) [] m alike h = none_among slot [] m h
all_among slot n old new (p ∷ slot_entries) (None ∷ joints) m alike h = all_among slot (suc n) old new slot_entries joints m alike h
all_among slot n old new (p ∷ slot_entries) (Some j ∷ joints) m alike h =
    let handle : Handle = record { slot = n; generation = p.generation } in
    next_among slot old new handle j (filter (is_bond_of slot) (joint_bonds_from (suc n) slot_entries joints)) (filter_map (joined_by old slot) joints) m (is_bond_of slot (joint_bond handle j)) alike refl
    (λ q. all_among slot (suc n) old new slot_entries joints m alike q) h

-- the movers of its joints are the body itself, and those that it is joined to
pub joints_among : (slot : ℕ) (old new : List (Option Body)) (s : JointSlots) (m : Member Constraint) → AreAlikeBeside slot old new → Contains (joint_ties_at slot new s) m → AreAmong slot (joined_to old s.joints slot) m
unfolding joint_ties_at joined_to
joints_among slot old new s m alike h = all_among slot 0 old new s.slot_entries s.joints m alike h

-- and they are movers
bond_moves : (new : List (Option Body)) (b : Bond) (m : Member Constraint) (k : ℕ) → tie_of new b ≡ Some m → IsMoverOf m.movers k → moves new k ≡ true
bond_moves new b m k e is = (one_of new b.a b.b k m.movers (tie_movers b.id (movers_with new b.a b.b) m e) is).mover

ties_move : (new : List (Option Body)) (bonds : List Bond) (m : Member Constraint) (k : ℕ) → Contains (filter_map (tie_of new) bonds) m → IsMoverOf m.movers k → moves new k ≡ true
ties_move new [] m k h is = absurd (omega (arith, h.1))
ties_move new (b ∷ bonds) m k h is = elim (cons_in (tie_of new b) (filter_map (tie_of new) bonds) m h) [
  | inl e ↦ bond_moves new b m k e is
  | inr q ↦ ties_move new bonds m k q is
]

pub joints_move : (slot : ℕ) (new : List (Option Body)) (s : JointSlots) (m : Member Constraint) (k : ℕ) → Contains (joint_ties_at slot new s) m → IsMoverOf m.movers k → moves new k ≡ true
unfolding joint_ties_at
joints_move slot new s m k h is = ties_move new (filter (is_bond_of slot) (joint_bonds_from 0 s.slot_entries s.joints)) m k h is
