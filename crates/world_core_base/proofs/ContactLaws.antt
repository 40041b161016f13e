-- The rows of a step's contacts, and the impulses given back to the contacts.
use Rattle.std.proofs.Common.{◌≡◌, append_assoc, ℕ, zero, suc, ◌+◌, ◌*◌, ◌^◌, ◌<◌, ◌==◌, List, [], ◌∷◌, ◌++◌, length, get_or, drop, map, is_some, Option, Some, None, Bool, true, false, cond, arith, refl, sym, ap, ◌∙◌, subst, All, add-one}
use Rattle.std.specs.Prelude.{option_map}
use Rattle.std.specs.Option.{ForSome, option_to_list}
use Rattle.std.specs.List.{cons_option, filter_map}
use Rattle.std.proofs.Math.Seq.{drop-cons}
use Rattle.std.proofs.lemmas.Bool.{eqb-true}
use Rattle.std.proofs.lemmas.Option.{none-some, same_Some}
use Rattle.std.proofs.lemmas.List.Elements.{All-append, All-head, All-map, All-same, All-tail}
use Rattle.momenta.specs.declared.state.BodyState.{BodyState}
use Rattle.momenta.specs.declared.state.Ends.{Ends}
use Rattle.contacts_base.specs.Keys.{key_number}
use Rattle.contacts_base.specs.Contacts.{lookup, number_of}
use Rattle.contacts_base.specs.ContactLists.{AreContacts, with_impulses, with_second}
use Rattle.contacts_base.specs.Evaluate.{touches}
use Rattle.contacts_base.specs.Limits.{IsContactPoint}
use Rattle.contacts_base.specs.declared.key.ShapeId.{ShapeId}
use Rattle.contacts_base.specs.declared.key.ContactKey.{ContactKey}
use Rattle.contacts_base.specs.declared.contact.Contact.{Contact}
use Rattle.contacts_base.specs.declared.contact.ContactEntry.{ContactEntry}
use Rattle.contacts_base.specs.declared.contact.ContactPoint.{ContactPoint}
use Rattle.plain_world.specs.declared.constraint.Constraint.TheVariants as constraints
use Rattle.colour_solver_base.specs.declared.row.Bodies as pairs
use Rattle.colour_solver_base.specs.declared.row.ContactRow.{ContactRow}
use Rattle.colour_solver_base.specs.declared.row.PointRow.{PointRow}
use Rattle.colour_solver_base.specs.Rows.{IsPointRow, IsRow, contact_row, is_springy, key_of, point_row, row_from}
use Rattle.plain_world.specs.declared.body.Body.{Body}
use Rattle.world_core_base.specs.Gather.{AreContactsOn, IsContactOn, IsContactRowBelow, bodies_of, impulses_of, put_row, row_in, row_of, states_of, with_row, with_rows}
use Rattle.world_core_base.specs.ContactBodies.{AreContactsOf, IsContactOf}
use Rattle.world_core_base.proofs.GatherLaws.{length-states}

-- ---- keys by their numbers

abbrev id_of : ℕ → ℕ → ShapeId
id_of slot index = record { slot = slot; index = index }

abbrev key_with : ShapeId → ShapeId → ContactKey
key_with first second = record { first = first; second = second }

abbrev row_with : pairs.Bodies → PointRow → Option PointRow → ContactRow
row_with bodies first second = record { bodies = bodies; first = first; second = second }

made_id : (s t i j : ℕ) → s ≡ t → i ≡ j → id_of s i ≡ id_of t j
made_id s t i j e f = rw (e, f)

same_ids : (a b : ShapeId) → a.slot * 256 + a.index ≡ b.slot * 256 + b.index → a.index < 256 → b.index < 256 → a ≡ b
same_ids a b e h k =
    let slots : a.slot ≡ b.slot = omega arith in
    let indices : a.index ≡ b.index = omega arith in
    made_id a.slot b.slot a.index b.index slots indices

made_key : (a b c d : ShapeId) → a ≡ b → c ≡ d → key_with a c ≡ key_with b d
made_key a b c d e f = rw (e, f)

pub same_keys : (k j : ContactKey) → key_number k ≡ key_number j → k.first.index < 256 → k.second.index < 256 → k.second.slot < 2 ^ 32 → j.first.index < 256 → j.second.index < 256 → j.second.slot < 2 ^ 32 → k ≡ j
same_keys k j e a b c f g h =
    let firsts : k.first.slot * 256 + k.first.index ≡ j.first.slot * 256 + j.first.index = omega arith in
    let seconds : k.second.slot * 256 + k.second.index ≡ j.second.slot * 256 + j.second.index = omega arith in
    made_key k.first j.first k.second j.second (same_ids k.first j.first firsts a f) (same_ids k.second j.second seconds b g)

-- ---- the contact with a key

found_if : (P : ContactEntry → Type 0) (t : Bool) (e f : ContactEntry) (es : List ContactEntry) (key : ContactKey) → (number_of e == key_number key) ≡ t → P e → (lookup es key ≡ Some f → P f × (number_of f ≡ key_number key))
    → cond t (Some e) (lookup es key) ≡ Some f → P f × (number_of f ≡ key_number key)
found_if P true e f es key test here later is = subst (λ (g : ContactEntry). P g × (number_of g ≡ key_number key)) (same_Some e f is) (here, eqb-true (number_of e) (key_number key) test)
found_if P false e f es key test here later is = later is

found_all : (P : ContactEntry → Type 0) (es : List ContactEntry) (key : ContactKey) (f : ContactEntry) → All P es → lookup es key ≡ Some f → P f × (number_of f ≡ key_number key)
found_all P [] key f all is = absurd (none-some f is)
found_all P (e ∷ es) key f all is = found_if P (number_of e == key_number key) e f es key refl (All-head P e es all) (λ q. found_all P es key f (All-tail P e es all) q) is

-- the contact with a key is one of all
pub found_is : (P : ContactEntry → Type 0) (es : List ContactEntry) (key : ContactKey) (f : ContactEntry) → All P es → lookup es key ≡ Some f → P f
found_is P es key f all is = (found_all P es key f all is).0

-- and has the number of the key
pub found_number : (es : List ContactEntry) (key : ContactKey) (f : ContactEntry) → lookup es key ≡ Some f → number_of f ≡ key_number key
found_number es key f is = (found_all (λ e. Unit {0}) es key f (λ k d lt. tt) is).1

-- ---- rows

from_bodies : (bodies : pairs.Bodies) (ends : Ends) (first second : Option ContactPoint) (x : ContactRow) → row_from bodies ends first second ≡ Some x → x.bodies ≡ bodies
from_bodies bodies ends None second x e = cc
from_bodies bodies ends (Some p) second x e =
    let same : row_with bodies (point_row (is_springy bodies) ends p) (option_map (point_row (is_springy bodies) ends) second) ≡ x = cc in
    ap (λ (r : ContactRow). r.bodies) (sym same)

pub row_bodies : (bodies : pairs.Bodies) (ends : Ends) (c : Contact) (x : ContactRow) → contact_row bodies ends c ≡ Some x → x.bodies ≡ bodies
row_bodies bodies ends c x e = from_bodies bodies ends c.first c.second x e

pub row_below : (states : List BodyState) (key : ContactKey) (e : ContactEntry) (ends : Ends) (x : ContactRow) → IsContactOn states e → e.key ≡ key
    → contact_row (bodies_of key e.surface) ends e.contact ≡ Some x → IsRow x → IsContactRowBelow (length states) x
row_below states key e ends x of keys is row =
    let here : x.bodies ≡ bodies_of key e.surface = row_bodies (bodies_of key e.surface) ends e.contact x is in
    let a : x.bodies.a ≡ e.key.first.slot = ap (λ (p : pairs.Bodies). p.a) here ∙ sym (ap (λ (k : ContactKey). k.first.slot) keys) in
    let b : x.bodies.b ≡ e.key.second.slot = ap (λ (p : pairs.Bodies). p.b) here ∙ sym (ap (λ (k : ContactKey). k.second.slot) keys) in
    record { row = row; a = rw a of.first; b = rw b of.second; apart = rw (a, b) of.apart }

-- the row of a contact by its key
pub row_is : (states : List BodyState) (contacts : List ContactEntry) (key : ContactKey) → row_of states contacts (constraints.Contact key) ≡ row_in states key (lookup contacts key)
unfolding row_of
row_is states contacts key = refl

-- ---- rows one after another

cons_is : {Y : Type 0} (o : Option Y) (ys : List Y) → cons_option o ys ≡ option_to_list o ++ ys
cons_is None ys = refl
cons_is (Some y) ys = refl

pub row_more : {X Y : Type 0} (f : X → Option Y) (rows all : List Y) (members : List X) (i : ℕ) (d : X) → i < length members → rows ++ filter_map f (drop i members) ≡ all
    → (rows ++ option_to_list (f (get_or members i d))) ++ filter_map f (drop (i + 1) members) ≡ all
row_more {X} {Y} f rows all members i d h e =
    let here = f (get_or members i d) in
    let rest = filter_map f (drop (suc i) members) in
    rw add-one (append_assoc rows (option_to_list here) rest
    ∙ ap (λ (l : List Y). rows ++ l) (sym (cons_is here rest))
    ∙ ap (λ (l : List X). rows ++ filter_map f l) (sym (drop-cons members i d h))
    ∙ e)

one_all : {X : Type 0} (P : X → Type 0) (o : Option X) → ForSome o P → All P (option_to_list o)
one_all P None h k d lt = absurd (omega arith)
one_all P (Some x) h zero d lt = h x refl
one_all P (Some x) h (suc k) d lt = absurd (omega arith)

pub all_more : {X : Type 0} (P : X → Type 0) (xs : List X) (o : Option X) → All P xs → ForSome o P → All P (xs ++ option_to_list o)
all_more P xs o all h = All-append P xs (option_to_list o) all (one_all P o h)

-- ---- the impulses given back

-- what one contact has got of a row, and of rows one after another
abbrev pub row_given : ContactRow → ContactEntry → ContactEntry
row_given r e = cond (number_of e == key_number (key_of r.bodies)) (with_row r e) e

abbrev pub rows_given : List ContactRow → ContactEntry → ContactEntry
rows_given [] e = e
rows_given (r ∷ rs) e = rows_given rs (row_given r e)

same_list : {X : Type 0} (xs : List X) → xs ≡ map (λ x. x) xs
same_list [] = refl
same_list {X} (x ∷ xs) = ap (λ (l : List X). x ∷ l) (same_list xs)

map_then : {X Y Z : Type 0} (f : Y → Z) (g : X → Y) (xs : List X) → map f (map g xs) ≡ map (λ x. f (g x)) xs
map_then f g [] = refl
map_then {X} {Y} {Z} f g (x ∷ xs) = ap (λ (l : List Z). f (g x) ∷ l) (map_then f g xs)

-- each contact has got what it gets by itself
pub given_each : (rows : List ContactRow) (contacts : List ContactEntry) → with_rows contacts rows ≡ map (rows_given rows) contacts
given_each [] contacts = same_list contacts
given_each (r ∷ rs) contacts = given_each rs (put_row r contacts) ∙ map_then (rows_given rs) (row_given r) contacts

one_same : {B : Type 0} (f : ContactEntry → B) (t : Bool) (r : ContactRow) (e : ContactEntry) → f (with_row r e) ≡ f e → f (cond t (with_row r e) e) ≡ f e
one_same f true r e h = h
one_same f false r e h = refl

each_same : {B : Type 0} (f : ContactEntry → B) → ((r : ContactRow) (e : ContactEntry) → f (with_row r e) ≡ f e) → (rows : List ContactRow) (e : ContactEntry) → f (rows_given rows e) ≡ f e
each_same f h [] e = refl
each_same f h (r ∷ rs) e = each_same f h rs (row_given r e) ∙ one_same f (number_of e == key_number (key_of r.bodies)) r e (h r e)

map_same : {X B : Type 0} (f : X → B) (g : X → X) → ((x : X) → f (g x) ≡ f x) → (xs : List X) → map f (map g xs) ≡ map f xs
map_same f g h [] = refl
map_same f g h (x ∷ xs) = λ i. h x i ∷ map_same f g h xs i

-- what no row changes is as it was
pub rows_same : {B : Type 0} (f : ContactEntry → B) → ((r : ContactRow) (e : ContactEntry) → f (with_row r e) ≡ f e) → (contacts : List ContactEntry) (rows : List ContactRow) → map f (with_rows contacts rows) ≡ map f contacts
rows_same f h contacts rows = ap (map f) (given_each rows contacts) ∙ map_same f (rows_given rows) (each_same f h rows) contacts

pub keys_stay : (contacts : List ContactEntry) (rows : List ContactRow) → map number_of (with_rows contacts rows) ≡ map number_of contacts
keys_stay contacts rows = rows_same number_of (λ r e. refl) contacts rows

one_kept : (P : ContactEntry → Type 0) (t : Bool) (r : ContactRow) (e : ContactEntry) → P (with_row r e) → P e → P (cond t (with_row r e) e)
one_kept P true r e h p = h
one_kept P false r e h p = p

each_kept : (P : ContactEntry → Type 0) (Q : ContactRow → Type 0) → ((r : ContactRow) (e : ContactEntry) → Q r → P e → P (with_row r e)) → (rows : List ContactRow) (e : ContactEntry) → All Q rows → P e → P (rows_given rows e)
each_kept P Q h [] e all p = p
each_kept P Q h (r ∷ rs) e all p = each_kept P Q h rs (row_given r e) (All-tail Q r rs all) (one_kept P (number_of e == key_number (key_of r.bodies)) r e (h r e (All-head Q r rs all) p) p)

-- what each row of a kind keeps, all such rows keep
pub rows_kept : (P : ContactEntry → Type 0) (Q : ContactRow → Type 0) → ((r : ContactRow) (e : ContactEntry) → Q r → P e → P (with_row r e)) → (contacts : List ContactEntry) (rows : List ContactRow) → All Q rows → All P contacts → All P (with_rows contacts rows)
rows_kept P Q h contacts rows whole all =
    All-same P (with_rows contacts rows) (map (rows_given rows) contacts) (given_each rows contacts)
    (All-map P (rows_given rows) contacts (λ k d lt. each_kept P Q h rows (get_or contacts k d) whole (all k d lt)))

point_kept : (o : Option ContactPoint) (r : PointRow) → IsPointRow r → ForSome o IsContactPoint → ForSome (option_map (with_impulses (impulses_of r)) o) IsContactPoint
point_kept None r row h p e = cc
point_kept (Some q) r row h p e =
    let same : with_impulses (impulses_of r) q ≡ p = cc in
    let is : IsContactPoint q = h q refl in
    subst IsContactPoint same (record { normal = is.normal; separation = is.separation; ra = is.ra; rb = is.rb; normal_impulse_low = row.normal_low; normal_impulse_high = row.normal_high; tangent_impulse = row.tangent_impulse })

second_kept : (o : Option ContactPoint) (r : Option PointRow) → ForSome r IsPointRow → ForSome o IsContactPoint → ForSome (with_second (option_map impulses_of r) o) IsContactPoint
second_kept o None row h = h
second_kept o (Some r) row h = point_kept o r (row r refl) h

contact_kept : (bodies : List (Option Body)) (r : ContactRow) (e : ContactEntry) → IsRow r → IsContactOf bodies e → IsContactOf bodies (with_row r e)
contact_kept bodies r e row of = record {
  first = of.first;
  second = of.second;
  apart = of.apart;
  mover = of.mover;
  contact = record { first = point_kept e.contact.first r.first row.first of.contact.first; second = second_kept e.contact.second r.second row.second of.contact.second };
}

pub contacts_stay : (bodies : List (Option Body)) (contacts : List ContactEntry) (rows : List ContactRow) → All IsRow rows → AreContactsOf bodies contacts → AreContactsOf bodies (with_rows contacts rows)
contacts_stay bodies contacts rows whole all = rows_kept (IsContactOf bodies) IsRow (contact_kept bodies) contacts rows whole all

-- ---- which contacts touch

some_mapped : (f : ContactPoint → ContactPoint) (o : Option ContactPoint) → is_some (option_map f o) ≡ is_some o
some_mapped f (Some p) = refl
some_mapped f None = refl

-- a contact touches as before when it has got the impulses of a row
pub touches_with_row : (r : ContactRow) (e : ContactEntry) → touches (with_row r e).contact ≡ touches e.contact
touches_with_row r e = some_mapped (with_impulses (impulses_of r.first)) e.contact.first

-- ---- the contacts as a step finds them

pub contacts_on : (bodies : List (Option Body)) (contacts : List ContactEntry) → AreContacts contacts → AreContactsOf bodies contacts → AreContactsOn (states_of bodies) contacts
contacts_on bodies contacts is all = λ k d lt.
    let e = get_or contacts k d in
    let of : IsContactOf bodies e = all k d lt in
    let long = length-states bodies in
    record {
      first = omega (arith, of.first, long);
      second = omega (arith, of.second, long);
      apart = of.apart;
      surface = is.surfaces k d lt;
      contact = of.contact;
    }
