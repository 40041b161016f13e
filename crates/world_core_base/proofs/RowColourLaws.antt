-- No two rows of a colour share a mover.
use Rattle.std.proofs.Common.{◌≡◌, ◌≢◌, ℕ, zero, suc, ◌<◌, true, false, List, [], ◌∷◌, length, get_or, take, map, Option, Some, None, All, arith, refl, sym, ap, ◌∙◌, subst}
use Rattle.std.specs.Prelude.{option_map}
use Rattle.std.specs.List.{slice_get, cons_option, filter_map, AllPairs}
use Rattle.std.proofs.lemmas.List.Elements.{All-map, All-take}
use Rattle.std.proofs.lemmas.Option.{none-some, same_Some}
use Rattle.momenta.specs.declared.state.BodyState.{BodyState}
use Rattle.contacts_base.specs.declared.key.ContactKey.{ContactKey}
use Rattle.contacts_base.specs.declared.contact.ContactEntry.{ContactEntry}
use Rattle.contacts_base.specs.Contacts.{lookup}
use Rattle.plain_world.specs.declared.constraint.Constraint.{Constraint}
use Rattle.plain_world.specs.declared.constraint.Constraint.TheVariants.{Contact, Joint}
use Rattle.graph_colours.specs.declared.limits.TheConstants.{COLOURS}
use Rattle.graph_colours.specs.declared.member.Movers.{Movers}
use Rattle.graph_colours.specs.declared.member.Member.{Member}
use Rattle.graph_colours.specs.Members.{AreApart}
use Rattle.graph_colours.specs.Movers.{has_mover, shares}
use Rattle.graph_colours.proofs.MoverLemmas.{unshared}
use Rattle.colour_solver_base.specs.declared.row.Bodies as pairs
use Rattle.colour_solver_base.specs.declared.row.ContactRow.{ContactRow}
use Rattle.colour_solver.specs.Colour.{IsColour, ShareNone, is_mover}
use Rattle.colour_solver.specs.declared.row_visits.Slots.{Slots}
use Rattle.colour_solver.specs.declared.constraint_row.ConstraintRow.{ConstraintRow}
use Rattle.colour_solver.specs.declared.constraint_row.ConstraintRow.TheVariants as rows
use Rattle.colour_solver.specs.ConstraintVisits.{constraint_slots}
use Rattle.joint_rows.specs.Rows.{joint_row}
use Rattle.plain_world.specs.declared.joint.BodyJoint.{BodyJoint}
use Rattle.plain_world.specs.Joints.{joint_at}
use Rattle.world_core_base.specs.ConstraintRows.{constraint_row, joint_bodies, joint_ends, joint_row_in, rows_in}
use Rattle.world_core_base.specs.Gather.{bodies_of, ends_at, row_in, row_of}
use Rattle.world_core_base.specs.RowColours.{HasBoth, HasItsMovers, HasMovers, JointHasMovers, RowsAreColours}
use Rattle.world_core_base.proofs.ContactLaws.{row_bodies, row_is}

-- ---- the bodies of a row

-- the row r of a contact is of the one with this key
record IsRowOfKey (key : ContactKey) (r : ContactRow) : Type 0 where
  a : r.bodies.a ≡ key.first.slot
  b : r.bodies.b ≡ key.second.slot

of_entry : (states : List BodyState) (key : ContactKey) (o : Option ContactEntry) (r : ContactRow) → row_in states key o ≡ Some r → IsRowOfKey key r
of_entry states key None r e = absurd (cc e)
of_entry states key (Some f) r e =
    let here : r.bodies ≡ bodies_of key f.surface = row_bodies (bodies_of key f.surface) (ends_at states key) f.contact r e in
    record { a = ap (λ (p : pairs.Bodies). p.a) here; b = ap (λ (p : pairs.Bodies). p.b) here }

of_key : (states : List BodyState) (contacts : List ContactEntry) (key : ContactKey) (r : ContactRow) → row_of states contacts (Contact key) ≡ Some r → IsRowOfKey key r
of_key states contacts key r e = of_entry states key (lookup contacts key) r (sym (row_is states contacts key) ∙ e)

-- the row r is of two bodies, of which those that move are among the movers
record IsAmong (states : List BodyState) (movers : Movers) (r : ConstraintRow) : Type 0 where
  first : ℕ
  second : ℕ
  both : HasBoth states movers first second
  a : (constraint_slots r).a ≡ first
  b : (constraint_slots r).b ≡ second

of_joint : (states : List BodyState) (movers : Movers) (slot : ℕ) (o : Option BodyJoint) (r : ConstraintRow) → JointHasMovers states movers o → option_map rows.Joint (joint_row_in states slot o) ≡ Some r → IsAmong states movers r
unfolding joint_row
of_joint states movers slot None r has e = absurd (none-some r e)
of_joint states movers slot (Some j) r has e =
    let same : r ≡ rows.Joint (joint_row (joint_bodies slot j) (joint_ends states j) j.joint) = sym (same_Some (rows.Joint (joint_row (joint_bodies slot j) (joint_ends states j) j.joint)) r e) in
    record { first = j.a; second = j.b; both = has; a = ap (λ (q : ConstraintRow). (constraint_slots q).a) same; b = ap (λ (q : ConstraintRow). (constraint_slots q).b) same }

of_contact : (states : List BodyState) (contacts : List ContactEntry) (movers : Movers) (key : ContactKey) (o : Option ContactRow) (r : ConstraintRow) → HasBoth states movers key.first.slot key.second.slot
    → row_of states contacts (Contact key) ≡ o → option_map rows.Contact o ≡ Some r → IsAmong states movers r
of_contact states contacts movers key None r has is e = absurd (none-some r e)
of_contact states contacts movers key (Some q) r has is e =
    let of : IsRowOfKey key q = of_key states contacts key q is in
    let same : r ≡ rows.Contact q = sym (same_Some (rows.Contact q) r e) in
    record { first = key.first.slot; second = key.second.slot; both = has; a = ap (λ (p : ConstraintRow). (constraint_slots p).a) same ∙ of.a; b = ap (λ (p : ConstraintRow). (constraint_slots p).b) same ∙ of.b }

of_id : (states : List BodyState) (joints : List (Option BodyJoint)) (contacts : List ContactEntry) (movers : Movers) (c : Constraint) (r : ConstraintRow) → HasMovers states joints movers c → constraint_row states joints contacts c ≡ Some r → IsAmong states movers r
of_id states joints contacts movers (Joint h) r has e = of_joint states movers h.slot (joint_at joints h.slot) r has e
of_id states joints contacts movers (Contact key) r has e = of_contact states contacts movers key (row_of states contacts (Contact key)) r has refl e

-- ---- two rows

-- a mover in the slot i and a body in the slot j, each in a constraint of its own
not_shared : (states : List BodyState) (m n : Movers) (i j k l : ℕ) → i ≡ k → j ≡ l → shares m n ≡ false → (is_mover states k ≡ true → has_mover m k ≡ true) → (is_mover states l ≡ true → has_mover n l ≡ true) → is_mover states i ≡ true → i ≢ j
not_shared states m n i j k l at_i at_j apart has_k has_l moves same =
    let one : k ≡ l = sym at_i ∙ same ∙ at_j in
    let here : is_mover states k ≡ true = ap (is_mover states) (sym at_i) ∙ moves in
    let there : has_mover n l ≡ true = has_l (ap (is_mover states) (sym one) ∙ here) in
    let without_it : has_mover n l ≡ false = subst (λ (s : ℕ). has_mover n s ≡ false) one (unshared m n k apart (has_k here)) in
    let wrong : true ≡ false = sym there ∙ without_it in
    cc wrong

share_none : (states : List BodyState) (joints : List (Option BodyJoint)) (contacts : List ContactEntry) (m n : Member Constraint) (r e : ConstraintRow) → HasItsMovers states joints m → HasItsMovers states joints n → shares m.movers n.movers ≡ false
    → constraint_row states joints contacts m.id ≡ Some r → constraint_row states joints contacts n.id ≡ Some e → ShareNone constraint_slots states r e
share_none states joints contacts m n r e has_m has_n apart is_r is_e =
    let p : IsAmong states m.movers r = of_id states joints contacts m.movers m.id r has_m is_r in
    let q : IsAmong states n.movers e = of_id states joints contacts n.movers n.id e has_n is_e in
    let one : Slots = constraint_slots r in
    let other : Slots = constraint_slots e in
    record {
      a_a = not_shared states m.movers n.movers one.a other.a p.first q.first p.a q.a apart p.both.first q.both.first;
      a_b = not_shared states m.movers n.movers one.a other.b p.first q.second p.a q.b apart p.both.first q.both.second;
      b_a = not_shared states m.movers n.movers one.b other.a p.second q.first p.b q.a apart p.both.second q.both.first;
      b_b = not_shared states m.movers n.movers one.b other.b p.second q.second p.b q.b apart p.both.second q.both.second;
    }

-- ---- the rows of a list

-- y is what f makes of an x with P
record IsFrom {X Y : Type 0} (f : X → Option Y) (P : X → Type 0) (y : Y) : Type 0 where
  pub of : X
  pub holds : P of
  pub made : f of ≡ Some y

from_first : {X Y : Type 0} (f : X → Option Y) (P : X → Type 0) (x : X) (ys : List Y) (o : Option Y) (j : ℕ) (y : Y) → f x ≡ o → P x → ((i : ℕ) → slice_get ys i ≡ Some y → IsFrom f P y) → slice_get (cons_option o ys) j ≡ Some y → IsFrom f P y
from_first f P x ys None j y e here rest is = rest j is
from_first f P x ys (Some z) zero y e here rest is = record { of = x; holds = here; made = e ∙ is }
from_first f P x ys (Some z) (suc j) y e here rest is = rest j is

from_members : {X Y : Type 0} (f : X → Option Y) (P : X → Type 0) (xs : List X) (j : ℕ) (y : Y) → All P xs → slice_get (filter_map f xs) j ≡ Some y → IsFrom f P y
from_members f P [] j y all is = absurd (cc is)
from_members f P (x ∷ xs) j y all is =
    from_first f P x (filter_map f xs) (f x) j y refl (all zero x (omega arith)) (λ i at. from_members f P xs i y (λ k d lt. all (suc k) d (omega (arith, lt))) at) is

pairs_first : {X Y : Type 0} (f : X → Option Y) (S : Y → Y → Type 0) (x : X) (ys : List Y) (o : Option Y) (i j : ℕ) (y w : Y) → f x ≡ o → ((z : Y) (k : ℕ) → f x ≡ Some z → slice_get ys k ≡ Some w → S z w)
    → ((k l : ℕ) → k < l → slice_get ys k ≡ Some y → slice_get ys l ≡ Some w → S y w) → i < j → slice_get (cons_option o ys) i ≡ Some y → slice_get (cons_option o ys) j ≡ Some w → S y w
pairs_first f S x ys None i j y w e here rest lt at_i at_j = rest i j lt at_i at_j
pairs_first f S x ys (Some z) zero zero y w e here rest lt at_i at_j = absurd (omega (arith, lt))
pairs_first f S x ys (Some z) (suc i) zero y w e here rest lt at_i at_j = absurd (omega (arith, lt))
pairs_first f S x ys (Some z) zero (suc j) y w e here rest lt at_i at_j = here y j (e ∙ at_i) at_j
pairs_first f S x ys (Some z) (suc i) (suc j) y w e here rest lt at_i at_j = rest i j (omega (arith, lt)) at_i at_j

pub pairs_made : {X Y : Type 0} (f : X → Option Y) (P : X → Type 0) (Q : X → X → Type 0) (S : Y → Y → Type 0) → ((x z : X) (y w : Y) → P x → P z → Q x z → f x ≡ Some y → f z ≡ Some w → S y w)
    → (xs : List X) → All P xs → AllPairs Q xs → (i j : ℕ) (y w : Y) → i < j → slice_get (filter_map f xs) i ≡ Some y → slice_get (filter_map f xs) j ≡ Some w → S y w
pairs_made f P Q S law [] all apart i j y w lt at_i at_j = absurd (cc at_i)
pairs_made {X} f P Q S law (x ∷ xs) all apart i j y w lt at_i at_j =
    let rest : All P xs = λ k d h. all (suc k) d (omega (arith, h)) in
    let more : AllPairs Q xs = λ k l d h g. apart (suc k) (suc l) d (omega (arith, h)) (omega (arith, g)) in
    let later : All (λ (z : X). P z × Q x z) xs = λ k d h. (rest k d h, apart zero (suc k) d (omega arith) (omega (arith, h))) in
    pairs_first f S x (filter_map f xs) (f x) i j y w refl
    (λ z k is at. let from : IsFrom f (λ (z : X). P z × Q x z) w = from_members f (λ (z : X). P z × Q x z) xs k w later at in law x from.of z w (all zero x (omega arith)) from.holds.0 from.holds.1 is from.made)
    (λ k l h a b. pairs_made f P Q S law xs rest more k l y w h a b)
    lt at_i at_j

members_apart : (states : List BodyState) (joints : List (Option BodyJoint)) (contacts : List ContactEntry) (members : List (Member Constraint)) → All (HasItsMovers states joints) members → AreApart members → IsColour constraint_slots states (rows_in states joints contacts members)
members_apart states joints contacts members all apart = λ i j r e lt at_i at_j.
    pairs_made (λ (m : Member Constraint). constraint_row states joints contacts m.id) (HasItsMovers states joints) (λ (m n : Member Constraint). shares m.movers n.movers ≡ false) (ShareNone constraint_slots states)
    (λ m n x y has_m has_n apart is_x is_y. share_none states joints contacts m n x y has_m has_n apart is_x is_y) members all apart i j r e lt at_i at_j

-- ---- the rows of each colour

get_or-mapped : {X Y : Type 0} (f : X → Y) (xs : List X) (i : ℕ) (d : X) (e : Y) → i < length xs → get_or (map f xs) i e ≡ f (get_or xs i d)
get_or-mapped f [] i d e h = absurd (omega (arith, h))
get_or-mapped f (x ∷ xs) zero d e h = refl
get_or-mapped f (x ∷ xs) (suc i) d e h = get_or-mapped f xs i d e (omega (arith, h))

get_or-taken : {X : Type 0} (n : ℕ) (xs : List X) (i : ℕ) (d : X) → i < n → get_or (take n xs) i d ≡ get_or xs i d
get_or-taken zero xs i d h = absurd (omega (arith, h))
get_or-taken (suc n) [] i d h = refl
get_or-taken (suc n) (x ∷ xs) zero d h = refl
get_or-taken (suc n) (x ∷ xs) (suc i) d h = get_or-taken n xs i d (omega (arith, h))

length-taken : {X : Type 0} (n : ℕ) (xs : List X) → n < length xs → length (take n xs) ≡ n
length-taken zero xs h = refl
length-taken (suc n) [] h = absurd (omega (arith, h))
length-taken (suc n) (x ∷ xs) h = ap suc (length-taken n xs (omega (arith, h)))

pub colour_rows_apart : RowsAreColours
colour_rows_apart states joints contacts lists colour has apart many lt =
    let inside : colour < length lists = omega (arith, lt, many) in
    let long = length-taken COLOURS lists many in
    let here : AreApart (get_or lists colour []) = subst AreApart (get_or-taken COLOURS lists colour [] lt) (apart colour [] (omega (arith, lt, long))) in
    subst (IsColour constraint_slots states) (sym (get_or-mapped (rows_in states joints contacts) lists colour [] [] inside)) (members_apart states joints contacts (get_or lists colour []) (has colour [] inside) here)

-- of all colours but the overflow
pub gathered_apart : (states : List BodyState) (joints : List (Option BodyJoint)) (contacts : List ContactEntry) (lists : List (List (Member Constraint))) → All (All (HasItsMovers states joints)) lists → All AreApart (take COLOURS lists)
    → All (λ (rs : List ConstraintRow). IsColour constraint_slots states rs) (map (rows_in states joints contacts) (take COLOURS lists))
gathered_apart states joints contacts lists has apart =
    let have : All (All (HasItsMovers states joints)) (take COLOURS lists) = All-take (All (HasItsMovers states joints)) COLOURS lists has in
    All-map (λ (rs : List ConstraintRow). IsColour constraint_slots states rs) (rows_in states joints contacts) (take COLOURS lists)
    (λ k d lt. members_apart states joints contacts (get_or (take COLOURS lists) k d) (have k d lt) (apart k d lt))
