-- What begins and ends to touch is what begins and ends between the ties.
use Rattle.std.proofs.Common.{◌≡◌, ℕ, suc, ◌+◌, ◌^◌, ◌<◌, ◌==◌, Bool, true, false, not, cond, nat_lt, List, [], ◌∷◌, length, map, Option, Some, None, All, refl, sym, ap, ap₂, ◌∙◌, subst, arith, inl, inr}
use Rattle.std.proofs.lemmas.Bool.{false≢true}
use Rattle.std.proofs.lemmas.List.{length-map}
use Rattle.std.proofs.lemmas.List.Elements.{All-contains}
use Rattle.std.proofs.lemmas.Option.{none-some, same_Some}
use Rattle.graph_colours.specs.declared.member.Member.{Member}
use Rattle.graph_colours.specs.FoundMembers.{has_id}
use Rattle.graph_colours.proofs.Cases.{by_test, true_or_false, not_true}
use Rattle.graph_colours.proofs.PlaceLemmas.{is_same, not_same, same_from}
use Rattle.contacts_base.specs.declared.key.ShapeId.{ShapeId}
use Rattle.contacts_base.specs.declared.key.ContactKey.{ContactKey}
use Rattle.contacts_base.specs.declared.contact.ContactEntry.{ContactEntry}
use Rattle.contacts_base.specs.Contacts.{AreKeysRising, is_touching, lookup, number_of}
use Rattle.contacts_base.specs.Evaluate.{touches}
use Rattle.contacts_base.specs.Keys.{key_number}
use Rattle.contacts_base.specs.Changes.{key_if_new, key_if_touching, keys_touching_only_in}
use Rattle.body_handles.specs.declared.handle.Handle.{Handle}
use Rattle.plain_world.specs.Constraints.{constraint_number, joint_number}
use Rattle.plain_world.specs.declared.constraint.Constraint.{Constraint}
use Rattle.plain_world.specs.declared.constraint.Constraint.TheVariants.{Contact, Joint}
use Rattle.contacts_base.proofs.Members.{IsIn, in_from_contains, contains_from_in}
use Rattle.sleep_wake.specs.declared.change.Change.{Change}
use Rattle.sleep_wake.specs.declared.change.Change.TheVariants.{Begin, End}
use Rattle.sleep_wake.specs.Changes.{begins_inserted, change_inserted}
use Rattle.sleep_wake.specs.ChangeLists.{begin_count, changes_between, only_in, AreChanges}
use Rattle.sleep_wake.proofs.ListLemmas.{has_from, rising_filter}
use Rattle.sleep_wake.proofs.ChangeLemmas.{changes_fold}
use Rattle.sleep_wake.proofs.BetweenLemmas.{changes_are}
use Rattle.plain_world.specs.declared.body.Body.{Body}
use Rattle.solver_sets.specs.Laws as laws
use Rattle.solver_sets.specs.Alike.{AreJointSlots}
use Rattle.solver_sets.specs.Ties.{Bond, IsKeyWithin, IsConstraintWithin, JointSlots, bonds_of, contact_bond, key_changes, key_ties, tie_of, ties_of}
use Rattle.solver_sets.proofs.BondLaws.{bond_number, bonds_in, contact_above, in_bonds, joint_below, joints_in, joints_rise, rises_from_keys}
use Rattle.solver_sets.proofs.ListLaws.{Rises, filter_in, in_filter, in_map, in_mapped, length_map, map_in, mapped_in, only_one, pairs_from_rises, rises_map, rises_mapped, same_members}
use Rattle.solver_sets.proofs.MemberLaws.{no_id}
use Rattle.solver_sets.proofs.TieLaws.{in_ties, tie_is, tie_number, ties_have_labels, ties_in_of, ties_rise, ties_rise_in}

-- ---- keys by their numbers

same_id : (a b : ShapeId) → a.slot ≡ b.slot → a.index ≡ b.index → a ≡ b
same_id a b p q = ap₂ (λ (slot index : ℕ). record { slot = slot; index = index }) p q

pub same_key : (a b : ContactKey) → IsKeyWithin a → IsKeyWithin b → key_number a ≡ key_number b → a ≡ b
same_key a b p q e =
    let i = p.first in
    let j = p.second in
    let k = p.slot in
    let x = q.first in
    let y = q.second in
    let z = q.slot in
    ap₂ (λ (first second : ShapeId). record { first = first; second = second })
    (same_id a.first b.first (omega (arith, i, j, k, x, y, z, e)) (omega (arith, i, j, k, x, y, z, e)))
    (same_id a.second b.second (omega (arith, i, j, k, x, y, z, e)) (omega (arith, i, j, k, x, y, z, e)))

same_handle : (a b : Handle) → (a.slot < 2 ^ 32) × (a.generation < 2 ^ 32) → (b.slot < 2 ^ 32) × (b.generation < 2 ^ 32) → joint_number a ≡ joint_number b → a ≡ b
same_handle a b p q e =
    let i = p.0 in
    let j = p.1 in
    let x = q.0 in
    let y = q.1 in
    ap₂ (λ (slot generation : ℕ). record { slot = slot; generation = generation }) (omega (arith, i, j, x, y, e)) (omega (arith, i, j, x, y, e))

pub same_constraint : (a b : Constraint) → IsConstraintWithin a → IsConstraintWithin b → constraint_number a ≡ constraint_number b → a ≡ b
same_constraint (Joint h) (Joint k) p q e = ap Joint (same_handle h k p q e)
same_constraint (Joint h) (Contact key) p q e = let i = p.0 in let j = p.1 in absurd (omega (arith, i, j, e))
same_constraint (Contact key) (Joint h) p q e = let i = q.0 in let j = q.1 in absurd (omega (arith, i, j, e))
same_constraint (Contact key) (Contact other) p q e = ap Contact (same_key key other p q (omega (arith, e)))

-- ---- contacts by their keys

pub found_at : (es : List ContactEntry) (key : ContactKey) (e : ContactEntry) → Rises number_of es → IsIn e es → number_of e ≡ key_number key → lookup es key ≡ Some e
found_at [] key e r h q = absurd h
found_at (x ∷ es) key e r h q = elim h [
  | inl p ↦ let same : (number_of x == key_number key) ≡ true = is_same (number_of x) (key_number key) (ap number_of (sym p) ∙ q) in rw same (ap Some (sym p))
  | inr k ↦ let lt : number_of x < number_of e = r.0 e k in let far : (number_of x == key_number key) ≡ false = not_same (number_of x) (key_number key) (λ s. omega (arith, lt, s, q)) in rw far (found_at es key e r.1 k q)
]

-- a contact with the key that touches
pub record IsTouchingAt (es : List ContactEntry) (key : ContactKey) : Type 0 where
  pub entry : ContactEntry
  pub there : IsIn entry es
  pub number : number_of entry ≡ key_number key
  pub touching : touches entry.contact ≡ true

touching_by : (x : ContactEntry) (es : List ContactEntry) (key : ContactKey) (t : Bool) → (number_of x == key_number key) ≡ t → is_touching (cond t (Some x) (lookup es key)) ≡ true → (is_touching (lookup es key) ≡ true → IsTouchingAt es key) → IsTouchingAt (x ∷ es) key
touching_by x es key true e h rest = record { entry = x; there = inl refl; number = same_from (number_of x) (key_number key) e; touching = h }
touching_by x es key false e h rest = let o = rest h in record { entry = o.entry; there = inr o.there; number = o.number; touching = o.touching }

pub touching_at : (es : List ContactEntry) (key : ContactKey) → is_touching (lookup es key) ≡ true → IsTouchingAt es key
touching_at [] key h = absurd (false≢true h)
touching_at (x ∷ es) key h = touching_by x es key (number_of x == key_number key) refl h (touching_at es key)

-- ---- the keys that begin

-- the key is that of a contact that touches, and didn't touch among the others
record IsNewKey (others entries : List ContactEntry) (key : ContactKey) : Type 0 where
  entry : ContactEntry
  there : IsIn entry entries
  touching : touches entry.contact ≡ true
  new : is_touching (lookup others entry.key) ≡ false
  is : key ≡ entry.key

key_by : (t u : Bool) (k key : ContactKey) → cond t (cond u None (Some k)) None ≡ Some key → (t ≡ true) × (u ≡ false) × (key ≡ k)
key_by true true k key e = absurd (none-some key e)
key_by true false k key e = (refl, refl, sym (same_Some k key e))
key_by false u k key e = absurd (none-some key e)

in_keys : (others entries : List ContactEntry) (key : ContactKey) → IsIn key (keys_touching_only_in others entries) → IsNewKey others entries key
unfolding key_if_touching key_if_new
in_keys others entries key h =
    let o = in_map (key_if_touching others) entries key h in
    let p = key_by (touches o.of.contact) (is_touching (lookup others o.of.key)) o.of.key key o.gives in
    record { entry = o.of; there = o.there; touching = p.0; new = p.1; is = p.2 }

keys_in : (others entries : List ContactEntry) (e : ContactEntry) → IsIn e entries → touches e.contact ≡ true → is_touching (lookup others e.key) ≡ false → IsIn e.key (keys_touching_only_in others entries)
unfolding key_if_touching key_if_new
keys_in others entries e h touching new = map_in (key_if_touching others) entries e e.key h (rw (touching, new) refl)

keys_rise : (others entries : List ContactEntry) → AreKeysRising entries → Rises key_number (keys_touching_only_in others entries)
unfolding key_if_touching key_if_new
keys_rise others entries r = rises_map (key_if_touching others) number_of key_number entries (λ e key q. ap key_number (key_by (touches e.contact) (is_touching (lookup others e.key)) e.key key q).2) (rises_from_keys entries r)

lifted : (keys : List ContactKey) → Rises key_number keys → Rises (λ k. 2 ^ 80 + key_number k) keys
lifted [] r = tt
lifted (k ∷ keys) r = ((λ x h. let lt : key_number k < key_number x = r.0 x h in omega (arith, lt)), lifted keys r.1)

pub key_ties_rise : (bodies : List (Option Body)) (keys : List ContactKey) → Rises key_number keys → Rises tie_number (key_ties bodies keys)
key_ties_rise bodies keys r = ties_rise_in bodies (map contact_bond keys) (rises_mapped contact_bond (λ k. 2 ^ 80 + key_number k) bond_number keys (λ k. refl) (lifted keys r))

-- ---- the ties that begin

named_in : (es : List ContactEntry) (e : ContactEntry) → All (λ (e : ContactEntry). IsKeyWithin e.key) es → IsIn e es → IsKeyWithin e.key
named_in es e all h = All-contains (λ (e : ContactEntry). IsKeyWithin e.key) es e all (contains_from_in es e h)

-- a tie that isn't among the others is one of a contact that begins
begins_tie : (bodies : List (Option Body)) (s : JointSlots) (old new : List ContactEntry) (m : Member Constraint) → All (λ (e : ContactEntry). IsKeyWithin e.key) old → All (λ (e : ContactEntry). IsKeyWithin e.key) new
    → IsIn m (ties_of bodies s new) → has_id constraint_number m.id (ties_of bodies s old) ≡ false → IsIn m (key_ties bodies (keys_touching_only_in old new))
begins_tie bodies s old new m all every h fresh =
    let o = in_ties bodies s new m h in
    let not_old : IsIn o.of (bonds_of s old) → ⊥ = λ k. has_from constraint_number m.id (ties_of bodies s old) m fresh (contains_from_in (ties_of bodies s old) m (ties_in_of bodies s old o.of m k o.gives)) refl in
    elim (in_bonds s new o.of o.there) [
      | inl p ↦ absurd (not_old (bonds_in s old o.of (inl p)))
      | inr q ↦ by_touching q.entry.key (is_touching (lookup old q.entry.key)) refl
          (λ e. let t = touching_at old q.entry.key e in
          let same : t.entry.key ≡ q.entry.key = same_key t.entry.key q.entry.key (named_in old t.entry all t.there) (named_in new q.entry every q.there) t.number in
          absurd (not_old (bonds_in s old o.of (inr (record { entry = t.entry; there = t.there; touching = t.touching; is = q.is ∙ ap contact_bond (sym same) })))))
          (λ e. map_in (tie_of bodies) (map contact_bond (keys_touching_only_in old new)) (contact_bond q.entry.key) m
          (mapped_in contact_bond (keys_touching_only_in old new) q.entry.key (keys_in old new q.entry q.there q.touching e)) (sym (ap (tie_of bodies) q.is) ∙ o.gives))
    ]
  where
    by_touching : {A : Type 0} (key : ContactKey) (t : Bool) → is_touching (lookup old key) ≡ t → (is_touching (lookup old key) ≡ true → A) → (is_touching (lookup old key) ≡ false → A) → A
    by_touching key true e f g = f e
    by_touching key false e f g = g e

tie_begins : (bodies : List (Option Body)) (s : JointSlots) (old new : List ContactEntry) (m : Member Constraint) → AreJointSlots s → AreKeysRising old → IsIn m (key_ties bodies (keys_touching_only_in old new)) → IsIn m (ties_of bodies s new) × (has_id constraint_number m.id (ties_of bodies s old) ≡ false)
tie_begins bodies s old new m are rising h =
    let o = in_map (tie_of bodies) (map contact_bond (keys_touching_only_in old new)) m h in
    let p = in_mapped contact_bond (keys_touching_only_in old new) o.of o.there in
    let k = in_keys old new p.of p.there in
    let is : o.of ≡ contact_bond k.entry.key = p.is ∙ ap contact_bond k.is in
    let named = (tie_is bodies o.of m o.gives).named in
    let mine : constraint_number m.id ≡ 2 ^ 80 + key_number k.entry.key = ap constraint_number named ∙ ap bond_number is in (
      ties_in_of bodies s new o.of m (bonds_in s new o.of (inr (record { entry = k.entry; there = k.there; touching = k.touching; is = is }))) o.gives,
      no_id constraint_number (ties_of bodies s old) m.id (λ x q e.
          let a = in_ties bodies s old x q in
          let other : constraint_number x.id ≡ bond_number a.of = ap constraint_number (tie_is bodies a.of x a.gives).named in
          elim (in_bonds s old a.of a.there) [
            | inl j ↦ let low = joint_below s a.of are j in omega (arith, low, other, mine, e)
            | inr c ↦
                let number : bond_number a.of ≡ 2 ^ 80 + key_number c.entry.key = ap bond_number c.is in
                let same : number_of c.entry ≡ key_number k.entry.key = omega (arith, number, other, mine, e) in
                true_or_false (is_touching (lookup old k.entry.key)) (ap is_touching (found_at old k.entry.key c.entry (rises_from_keys old rising) c.there same) ∙ c.touching) k.new
          ]),
    )

only_ties : (bodies : List (Option Body)) (s : JointSlots) (old new : List ContactEntry) → AreJointSlots s → AreKeysRising old → AreKeysRising new → All (λ (e : ContactEntry). IsKeyWithin e.key) old → All (λ (e : ContactEntry). IsKeyWithin e.key) new
    → key_ties bodies (keys_touching_only_in old new) ≡ only_in constraint_number (ties_of bodies s old) (ties_of bodies s new)
only_ties bodies s old new are r q all every =
    let before : List (Member Constraint) = ties_of bodies s old in
    let after : List (Member Constraint) = ties_of bodies s new in
    let fresh : Member Constraint → Bool = λ m. not (has_id constraint_number m.id before) in
    same_members constraint_number (key_ties bodies (keys_touching_only_in old new)) (only_in constraint_number before after)
    (pairs_from_rises tie_number (key_ties bodies (keys_touching_only_in old new)) (key_ties_rise bodies (keys_touching_only_in old new) (keys_rise old new q)))
    (rising_filter constraint_number fresh after (ties_rise bodies s new are q))
    (λ m h. let o = tie_begins bodies s old new m are r h in filter_in fresh after m o.0 (ap not o.1))
    (λ m h. let o = in_filter fresh after m h in begins_tie bodies s old new m all every o.0 (not_true (has_id constraint_number m.id before) o.1))

pub keys_change : laws.KeysChange
unfolding key_changes
keys_change bodies s old new are r q all every =
    ap₂ (λ (begins ends : List (Member Constraint)). begins_inserted constraint_number begins (map (λ m. End m) ends))
    (only_ties bodies s old new are r q all every) (only_ties bodies s new old are q r every all)

-- ---- the same names

bonds_same : (s : JointSlots) (old new : List ContactEntry) (a b : Bond) → AreJointSlots s → All (λ (e : ContactEntry). IsKeyWithin e.key) old → All (λ (e : ContactEntry). IsKeyWithin e.key) new → IsIn a (bonds_of s old) → IsIn b (bonds_of s new) → bond_number a ≡ bond_number b → a ≡ b
bonds_same s old new a b are all every h k e = elim (in_bonds s old a h) [
  | inl p ↦ elim (in_bonds s new b k) [
    | inl q ↦ only_one bond_number _ a b (joints_rise s are) (joints_in s a p) (joints_in s b q) e
    | inr q ↦ let low = joint_below s a are p in let high = contact_above new b q in absurd (omega (arith, low, high, e))
  ]
  | inr p ↦ elim (in_bonds s new b k) [
    | inl q ↦ let low = joint_below s b are q in let high = contact_above old a p in absurd (omega (arith, low, high, e))
    | inr q ↦
        let x : bond_number a ≡ 2 ^ 80 + key_number p.entry.key = ap bond_number p.is in
        let y : bond_number b ≡ 2 ^ 80 + key_number q.entry.key = ap bond_number q.is in
        let same : p.entry.key ≡ q.entry.key = same_key p.entry.key q.entry.key (named_in old p.entry all p.there) (named_in new q.entry every q.there) (omega (arith, x, y, e)) in
        p.is ∙ ap contact_bond same ∙ sym q.is
  ]
]

pub same_names : laws.SameIdsSameTies
same_names bodies s old new x y are all every h k e =
    let o = in_ties bodies s old x (in_from_contains (ties_of bodies s old) x h) in
    let p = in_ties bodies s new y (in_from_contains (ties_of bodies s new) y k) in
    let a = ap constraint_number (tie_is bodies o.of x o.gives).named in
    let b = ap constraint_number (tie_is bodies p.of y p.gives).named in
    let same : o.of ≡ p.of = bonds_same s old new o.of p.of are all every o.there p.there (sym a ∙ e ∙ b) in
    same_Some x y (sym o.gives ∙ ap (tie_of bodies) same ∙ p.gives)

-- ---- they may turn

pub keys_can_change : laws.KeysCanChange
keys_can_change bodies s old new labels are r q all every tied =
    let before : List (Member Constraint) = ties_of bodies s old in
    let after : List (Member Constraint) = ties_of bodies s new in
    subst (λ (changes : List (Change Constraint)). AreChanges constraint_number labels before changes) (sym (keys_change bodies s old new are r q all every))
    (changes_fold constraint_number labels before (changes_between constraint_number before after)
    (changes_are constraint_number labels before after (ties_rise bodies s old are r) (ties_rise bodies s new are q) (λ m h. ties_have_labels bodies s new labels m tied h)))

count_put : (m : Member Constraint) (ds : List (Change Constraint)) → begin_count (change_inserted constraint_number (Begin m) ds) ≡ suc (begin_count ds)
count_put m [] = refl
count_put m (Begin d ∷ ds) = by_test (λ (l : List (Change Constraint)). begin_count l ≡ suc (suc (begin_count ds))) (nat_lt (constraint_number d.id) (constraint_number m.id)) (Begin d ∷ change_inserted constraint_number (Begin m) ds) (Begin m ∷ Begin d ∷ ds) (λ q. ap (λ (n : ℕ). suc n) (count_put m ds)) (λ q. refl)
count_put m (End d ∷ ds) = by_test (λ (l : List (Change Constraint)). begin_count l ≡ suc (begin_count ds)) (nat_lt (constraint_number d.id) (constraint_number m.id)) (End d ∷ change_inserted constraint_number (Begin m) ds) (Begin m ∷ End d ∷ ds) (λ q. count_put m ds) (λ q. refl)

count_begins : (ms : List (Member Constraint)) (ds : List (Change Constraint)) → begin_count (begins_inserted constraint_number ms ds) ≡ length ms + begin_count ds
count_begins [] ds = omega arith
count_begins (m ∷ ms) ds = let one = count_put m (begins_inserted constraint_number ms ds) in let rest = count_begins ms ds in omega (arith, one, rest)

count_ends : (ms : List (Member Constraint)) → begin_count (map (λ m. End m) ms) ≡ 0
count_ends [] = refl
count_ends (m ∷ ms) = count_ends ms

pub few_begin : laws.FewBegin
unfolding key_changes
few_begin bodies begins ends =
    let total = count_begins (key_ties bodies begins) (map (λ m. End m) (key_ties bodies ends)) in
    let none = count_ends (key_ties bodies ends) in
    let few = length_map (tie_of bodies) (map contact_bond begins) in
    let same : length (map contact_bond begins) ≡ length begins = length-map begins contact_bond in
    omega (arith, total, none, few, same)
