-- What rows give back to the contacts is what the definition has made of them: the impulses of the points, and nothing
-- else.
use Rattle.std.proofs.Common.{◌≡◌, ◌≢◌, inl, inr, ℕ, suc, ◌==◌, Bool, true, false, cond, List, [], ◌∷◌, map, Option, Some, None, All, pos, refl, sym, ap, ◌∙◌, subst}
use Rattle.std.specs.Prelude.{option_map}
use Rattle.std.specs.List.{slice_get, filter_map, cons_option}
use Rattle.std.proofs.lemmas.Bool.{cases_eq, eq-eqb, eqb-true}
use Rattle.std.proofs.lemmas.List.Elements.{All-nil, All-cons}
use Rattle.std.proofs.lemmas.Option.{none-some, same_Some, slice_get-map}
use Rattle.momenta.specs.declared.state.BodyState.{BodyState}
use Rattle.momenta.specs.declared.state.Ends.{Ends}
use Rattle.contacts_base.specs.Keys.{key_number}
use Rattle.contacts_base.specs.Contacts.{AreKeysRising, lookup, number_of}
use Rattle.contacts_base.specs.ContactLists.{with_impulses, with_second}
use Rattle.contacts_base.specs.declared.contact.Contact.{Contact}
use Rattle.contacts_base.specs.declared.contact.ContactEntry.{ContactEntry}
use Rattle.contacts_base.specs.declared.contact.ContactPoint.{ContactPoint}
use Rattle.contacts_base.specs.declared.evaluation.Impulses.{Impulses}
use Rattle.contacts_base.specs.declared.key.ContactKey.{ContactKey}
use Rattle.plain_world.specs.declared.constraint.Constraint.{Constraint}
use Rattle.plain_world.specs.declared.constraint.Constraint.TheVariants as constraints
use Rattle.colour_solver_base.specs.declared.row.Bodies as pairs
use Rattle.colour_solver_base.specs.declared.row.ContactRow.{ContactRow}
use Rattle.colour_solver_base.specs.Rows.{contact_row, is_springy, key_of, point_row, row_from}
use Rattle.world_core_base.specs.Gather.{bodies_of, ends_at, impulses_of, row_in, row_of, with_row, with_rows}
use Rattle.world_core_base.proofs.ContactLaws.{given_each, row_bodies, row_given, row_is, rows_given}
use Rattle.world_core_base.proofs.SolvingContacts.{lookup_there}

-- ---- a contact without its impulses

abbrev pub bare_point : ContactPoint → ContactPoint
bare_point p = record p { normal_impulse = pos 0; tangent_impulse = pos 0 }

-- one that doesn't touch is as it is
abbrev bare_points : Option ContactPoint → Option ContactPoint → Contact
bare_points None second = record { first = None; second = second }
bare_points (Some p) second = record { first = Some (bare_point p); second = option_map bare_point second }

abbrev pub bare_contact : Contact → Contact
bare_contact c = bare_points c.first c.second

abbrev pub bare : ContactEntry → ContactEntry
bare e = record e { contact = bare_contact e.contact }

-- ---- the impulses of a row put back

abbrev impulses_in : ContactPoint → Impulses
impulses_in p = record { normal_impulse = p.normal_impulse; tangent_impulse = p.tangent_impulse }

row_impulses : (springy : Bool) (n : Ends) (p : ContactPoint) → impulses_of (point_row springy n p) ≡ impulses_in p
unfolding point_row
row_impulses springy n p = refl

second_impulses : (springy : Bool) (n : Ends) (o : Option ContactPoint) → option_map impulses_of (option_map (point_row springy n) o) ≡ option_map impulses_in o
second_impulses springy n None = refl
second_impulses springy n (Some p) = ap (λ (i : Impulses). Some i) (row_impulses springy n p)

-- a point with the impulses of one that has no other difference
filled : (p q : ContactPoint) → bare_point q ≡ bare_point p → with_impulses (impulses_in p) q ≡ p
filled p q e = ap (with_impulses (impulses_in p)) e

filled_second : (o q : Option ContactPoint) → option_map bare_point q ≡ option_map bare_point o → with_second (option_map impulses_in o) q ≡ o
filled_second None None e = refl
filled_second None (Some q) e = absurd (none-some (bare_point q) (sym e))
filled_second (Some p) None e = absurd (none-some (bare_point p) e)
filled_second (Some p) (Some q) e = ap (λ (z : ContactPoint). Some z) (filled p q (same_Some (bare_point q) (bare_point p) e))

abbrev contact_of : Option ContactPoint → Option ContactPoint → Contact
contact_of first second = record { first = first; second = second }

filled_points : (p : ContactPoint) (second : Option ContactPoint) (a b : Option ContactPoint) → bare_points a b ≡ bare_points (Some p) second
    → contact_of (option_map (with_impulses (impulses_in p)) a) (with_second (option_map impulses_in second) b) ≡ contact_of (Some p) second
filled_points p second None b e = absurd (none-some (bare_point p) (ap (λ (c : Contact). c.first) e))
filled_points p second (Some q) b e =
    let first : bare_point q ≡ bare_point p = same_Some (bare_point q) (bare_point p) (ap (λ (c : Contact). c.first) e) in
    λ j. contact_of (Some (filled p q first j)) (filled_second second b (ap (λ (c : Contact). c.second) e) j)

-- with the impulses that a row has, e was the contact f without other differences
row_back_by : (pair : pairs.Bodies) (n : Ends) (first second : Option ContactPoint) (r : ContactRow) (a b : Option ContactPoint) → row_from pair n first second ≡ Some r → bare_points a b ≡ bare_points first second
    → contact_of (option_map (with_impulses (impulses_of r.first)) a) (with_second (option_map impulses_of r.second) b) ≡ contact_of first second
row_back_by pair n None second r a b is e = absurd (none-some r is)
row_back_by pair n (Some p) second r a b is e =
    let row : record { bodies = pair; first = point_row (is_springy pair) n p; second = option_map (point_row (is_springy pair) n) second } ≡ r = cc in
    let firsts : impulses_of r.first ≡ impulses_in p = ap (λ (r : ContactRow). impulses_of r.first) (sym row) ∙ row_impulses (is_springy pair) n p in
    let seconds : option_map impulses_of r.second ≡ option_map impulses_in second = ap (λ (r : ContactRow). option_map impulses_of r.second) (sym row) ∙ second_impulses (is_springy pair) n second in
    (λ j. contact_of (option_map (with_impulses (firsts j)) a) (with_second (seconds j) b)) ∙ filled_points p second a b e

row_back : (pair : pairs.Bodies) (n : Ends) (e f : ContactEntry) (r : ContactRow) → contact_row pair n f.contact ≡ Some r → bare e ≡ bare f → with_row r e ≡ f
row_back pair n e f r is same =
    let keys : e.key ≡ f.key = ap (λ (e : ContactEntry). e.key) same in
    let surfaces : e.surface ≡ f.surface = ap (λ (e : ContactEntry). e.surface) same in
    let contacts : (with_row r e).contact ≡ f.contact = row_back_by pair n f.contact.first f.contact.second r e.contact.first e.contact.second is (ap (λ (e : ContactEntry). e.contact) same) in
    λ j. record { key = keys j; surface = surfaces j; contact = contacts j }

-- a contact that doesn't touch is as it was
still_by : (first second a b : Option ContactPoint) → first ≡ None → bare_points a b ≡ bare_points first second → contact_of a b ≡ contact_of first second
still_by (Some p) second a b is e = absurd (none-some p (sym is))
still_by None second None b is e = e
still_by None second (Some q) b is e = absurd (none-some (bare_point q) (sym (ap (λ (c : Contact). c.first) e)))

still : (e f : ContactEntry) → f.contact.first ≡ None → bare e ≡ bare f → e ≡ f
still e f is same =
    let keys : e.key ≡ f.key = ap (λ (e : ContactEntry). e.key) same in
    let surfaces : e.surface ≡ f.surface = ap (λ (e : ContactEntry). e.surface) same in
    let contacts : e.contact ≡ f.contact = still_by f.contact.first f.contact.second e.contact.first e.contact.second is (ap (λ (e : ContactEntry). e.contact) same) in
    λ j. record { key = keys j; surface = surfaces j; contact = contacts j }

-- ---- all impulses put back

-- the constraint isn't the contact
abbrev pub IsOther : ContactEntry → Constraint → Type 0
IsOther f (constraints.Joint h) = Unit {0}
IsOther f (constraints.Contact key) = number_of f ≢ key_number key

no_first : (pair : pairs.Bodies) (n : Ends) (first second : Option ContactPoint) → row_from pair n first second ≡ None → first ≡ None
no_first pair n None second is = refl
no_first pair n (Some p) second is = absurd (none-some _ (sym is))

-- what is looked up goes by the number of the key
lookup_same : (es : List ContactEntry) (k j : ContactKey) → key_number k ≡ key_number j → lookup es k ≡ lookup es j
lookup_same [] k j same = refl
lookup_same (e ∷ es) k j same = λ i. cond (number_of e == same i) (Some e) (lookup_same es k j same i)

-- The contacts e and f differ in their impulses at most, and in nothing where f is that of none of the constraints.
record IsDue (todo : List Constraint) (e f : ContactEntry) : Type 0 where
  same : bare e ≡ bare f
  others : All (IsOther f) todo → e ≡ f

-- nothing is due to a contact that has its impulses
due_none : (todo : List Constraint) (f : ContactEntry) → IsDue todo f f
due_none todo f = record { same = refl; others = λ all. refl }

-- a constraint that isn't the contact gives it nothing
due_other : (id : Constraint) (todo : List Constraint) (e f : ContactEntry) → IsOther f id → IsDue (id ∷ todo) e f → IsDue todo e f
due_other id todo e f other due = record { same = due.same; others = λ all. due.others (All-cons (IsOther f) id todo other all) }

-- nor does one that has no row
due_no_row : (states : List BodyState) (fs : List ContactEntry) (id : Constraint) (todo : List Constraint) (e f : ContactEntry) → lookup fs f.key ≡ Some f → row_of states fs id ≡ None → IsDue (id ∷ todo) e f → IsDue todo e f
due_no_row states fs (constraints.Joint h) todo e f there none due = due_other (constraints.Joint h) todo e f tt due
due_no_row states fs (constraints.Contact key) todo e f there none due = elim (cases_eq (number_of f) (key_number key)) [
  | inl is ↦
      let found : lookup fs key ≡ Some f = lookup_same fs key f.key (sym is) ∙ there in
      let untouched : f.contact.first ≡ None = no_first (bodies_of key f.surface) (ends_at states key) f.contact.first f.contact.second (ap (row_in states key) (sym found) ∙ sym (row_is states fs key) ∙ none) in
      subst (λ (d : ContactEntry). IsDue todo d f) (sym (still e f untouched due.same)) (due_none todo f)
  | inr ne ↦ due_other (constraints.Contact key) todo e f ne due
]

-- what a row of a list is of
record IsRowOfContact (fs : List ContactEntry) (key : ContactKey) (r : ContactRow) : Type 0 where
  entry : ContactEntry
  pair : pairs.Bodies
  bodies : Ends
  there : lookup fs key ≡ Some entry
  named : key_of r.bodies ≡ key
  made : contact_row pair bodies entry.contact ≡ Some r

row_of_contact : (states : List BodyState) (fs : List ContactEntry) (key : ContactKey) (r : ContactRow) → row_of states fs (constraints.Contact key) ≡ Some r → IsRowOfContact fs key r
row_of_contact states fs key r is = by (lookup fs key) refl (sym (row_is states fs key) ∙ is)
  where
    by : (o : Option ContactEntry) → lookup fs key ≡ o → row_in states key o ≡ Some r → IsRowOfContact fs key r
    by None look made = absurd (none-some r made)
    by (Some e) look made = record {
      entry = e;
      pair = bodies_of key e.surface;
      bodies = ends_at states key;
      there = look;
      named = ap key_of (row_bodies (bodies_of key e.surface) (ends_at states key) e.contact r made);
      made = made;
    }

-- the row of a contact gives it what is due to it
due_by : (t : Bool) (fs : List ContactEntry) (key : ContactKey) (todo : List Constraint) (e f : ContactEntry) (r : ContactRow) → (number_of e == key_number key) ≡ t → lookup fs f.key ≡ Some f → IsRowOfContact fs key r → IsDue (constraints.Contact key ∷ todo) e f
    → IsDue todo (cond t (with_row r e) e) f
due_by true fs key todo e f r test there row due =
    let numbers : number_of e ≡ number_of f = ap number_of due.same in
    let key_is : key_number f.key ≡ key_number key = sym numbers ∙ eqb-true (number_of e) (key_number key) test in
    let one : row.entry ≡ f = same_Some row.entry f (sym row.there ∙ lookup_same fs key f.key (sym key_is) ∙ there) in
    let back : with_row r e ≡ f = row_back row.pair row.bodies e f r (ap (λ (g : ContactEntry). contact_row row.pair row.bodies g.contact) (sym one) ∙ row.made) due.same in
    subst (λ (d : ContactEntry). IsDue todo d f) (sym back) (due_none todo f)
due_by false fs key todo e f r test there row due =
    let numbers : number_of e ≡ number_of f = ap number_of due.same in
    due_other (constraints.Contact key) todo e f (λ is. cc (sym test ∙ eq-eqb (number_of e) (key_number key) (numbers ∙ is))) due

due_row : (states : List BodyState) (fs : List ContactEntry) (id : Constraint) (todo : List Constraint) (e f : ContactEntry) (r : ContactRow) → lookup fs f.key ≡ Some f → row_of states fs id ≡ Some r → IsDue (id ∷ todo) e f → IsDue todo (row_given r e) f
unfolding row_of
due_row states fs (constraints.Joint h) todo e f r there is due = absurd (none-some r is)
due_row states fs (constraints.Contact key) todo e f r there is due =
    let row : IsRowOfContact fs key r = row_of_contact states fs key r is in
    subst (λ (k : ContactKey). IsDue todo (cond (number_of e == key_number k) (with_row r e) e) f) (sym row.named)
    (due_by (number_of e == key_number key) fs key todo e f r refl there row due)

-- the rows' impulses make f of e
one_back : (states : List BodyState) (todo : List Constraint) (fs : List ContactEntry) (e f : ContactEntry) → lookup fs f.key ≡ Some f → IsDue todo e f → rows_given (filter_map (row_of states fs) todo) e ≡ f
one_back states [] fs e f there due = due.others (All-nil (IsOther f))
one_back states (id ∷ todo) fs e f there due = by (row_of states fs id) refl (λ d more. one_back states todo fs d f there more)
  where
    by : (o : Option ContactRow) → row_of states fs id ≡ o → ((d : ContactEntry) → IsDue todo d f → rows_given (filter_map (row_of states fs) todo) d ≡ f) → rows_given (cons_option o (filter_map (row_of states fs) todo)) e ≡ f
    by None is rest = rest e (due_no_row states fs id todo e f there is due)
    by (Some r) is rest = rest (row_given r e) (due_row states fs id todo e f r there is due)

-- ---- and so of all contacts

bare_there : (es fs : List ContactEntry) (j : ℕ) (e f : ContactEntry) → map bare es ≡ map bare fs → slice_get es j ≡ Some e → slice_get fs j ≡ Some f → bare e ≡ bare f
bare_there es fs j e f barely at_e at_f =
    same_Some (bare e) (bare f)
    (sym (slice_get-map bare es j ∙ ap (option_map bare) at_e) ∙ ap (λ (l : List ContactEntry). slice_get l j) barely ∙ slice_get-map bare fs j ∙ ap (option_map bare) at_f)

each_made : (g : ContactEntry → ContactEntry) (es fs : List ContactEntry) → map bare es ≡ map bare fs → ((j : ℕ) (e f : ContactEntry) → slice_get es j ≡ Some e → slice_get fs j ≡ Some f → g e ≡ f) → map g es ≡ fs
each_made g [] [] barely h = refl
each_made g [] (f ∷ fs) barely h = absurd (cc barely)
each_made g (e ∷ es) [] barely h = absurd (cc barely)
each_made g (e ∷ es) (f ∷ fs) barely h = λ i. h 0 e f refl refl i ∷ each_made g es fs (cc barely) (λ j. h (suc j)) i

-- the contacts are as in the other list but those of these constraints
abbrev pub IsSameBeside : List ContactEntry → List Constraint → List ContactEntry → Type 0
IsSameBeside es todo fs = (j : ℕ) (f : ContactEntry) → slice_get fs j ≡ Some f → All (IsOther f) todo → slice_get es j ≡ Some f

-- the rows' impulses make fs of es
pub rows_back : (states : List BodyState) (todo : List Constraint) (es fs : List ContactEntry) → AreKeysRising fs → map bare es ≡ map bare fs → IsSameBeside es todo fs → with_rows es (filter_map (row_of states fs) todo) ≡ fs
rows_back states todo es fs rising barely same =
    let rows : List ContactRow = filter_map (row_of states fs) todo in
    given_each rows es
    ∙ each_made (rows_given rows) es fs barely (λ j e f at_e at_f. one_back states todo fs e f (lookup_there fs j f rising at_f) (record {
      same = bare_there es fs j e f barely at_e at_f;
      others = λ all. same_Some e f (sym at_e ∙ same j f at_f all);
    }))
