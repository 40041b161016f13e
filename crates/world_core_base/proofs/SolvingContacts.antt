-- Contacts by key: a contact that is put back, and its row.
use Rattle.std.proofs.Common.{◌≡◌, ◌≢◌, ℕ, zero, suc, ◌==◌, Bool, true, false, cond, List, [], ◌∷◌, map, Option, Some, arith, refl, sym, ap, ◌∙◌}
use Rattle.std.specs.Prelude.{option_map}
use Rattle.std.specs.List.{slice_get}
use Rattle.std.proofs.lemmas.Bool.{eqb-true}
use Rattle.std.proofs.lemmas.Bool.Decides.{nat_tests}
use Rattle.std.proofs.lemmas.Option.{get_or_from_slice_get, same_Some, slice_get_within}
use Rattle.momenta.specs.declared.state.BodyState.{BodyState}
use Rattle.contacts_base.specs.Keys.{key_number}
use Rattle.contacts_base.specs.Contacts.{AreKeysRising, lookup, number_of}
use Rattle.contacts_base.specs.declared.contact.Contact.{Contact}
use Rattle.contacts_base.specs.declared.contact.ContactEntry.{ContactEntry}
use Rattle.contacts_base.specs.declared.key.ContactKey.{ContactKey}
use Rattle.plain_world.specs.declared.constraint.Constraint.TheVariants as constraints
use Rattle.contacts_base.proofs.Members.{in_from_place}
use Rattle.contacts.proofs.PartLemmas.{lookup_in}
use Rattle.contacts_base.proofs.Rising.{rising_from_increasing}
use Rattle.world_core_base.specs.Gather.{row_in, row_of}
use Rattle.world_core_base.specs.Solving.{with_contact}
use Rattle.world_core_base.proofs.ContactLaws.{row_is}

-- ---- a contact that is put back

abbrev with_points_of : Contact → ContactEntry → ContactEntry
with_points_of c e = record e { contact = c }

other_put_by : (t : Bool) (key k : ContactKey) (c : Contact) (e : ContactEntry) (es : List ContactEntry) → (number_of e == key_number key) ≡ t → key_number key ≢ key_number k → lookup (with_contact key c es) k ≡ lookup es k
    → lookup (cond t (with_points_of c e ∷ es) (e ∷ with_contact key c es)) k ≡ lookup (e ∷ es) k
other_put_by true key k c e es test ne rest =
    let here : number_of e ≡ key_number key = eqb-true (number_of e) (key_number key) test in
    let other : (number_of e == key_number k) ≡ false = eqb_false_from (number_of e) (key_number k) (λ same. ne (sym here ∙ same)) in
    ap (λ (t : Bool). cond t (Some (with_points_of c e)) (lookup es k)) other ∙ sym (ap (λ (t : Bool). cond t (Some e) (lookup es k)) other)
  where
    eqb_false_from : (a b : ℕ) → a ≢ b → (a == b) ≡ false
    eqb_false_from a b h = grind (arith, nat_tests)
other_put_by false key k c e es test ne rest = ap (λ (o : Option ContactEntry). cond (number_of e == key_number k) (Some e) o) rest

pub lookup_put_other : (key k : ContactKey) (c : Contact) (es : List ContactEntry) → key_number key ≢ key_number k → lookup (with_contact key c es) k ≡ lookup es k
lookup_put_other key k c [] ne = refl
lookup_put_other key k c (e ∷ es) ne = other_put_by (number_of e == key_number key) key k c e es refl ne (lookup_put_other key k c es ne)

same_put_by : (t : Bool) (key : ContactKey) (c : Contact) (e : ContactEntry) (es : List ContactEntry) → (number_of e == key_number key) ≡ t → lookup (with_contact key c es) key ≡ option_map (with_points_of c) (lookup es key)
    → lookup (cond t (with_points_of c e ∷ es) (e ∷ with_contact key c es)) key ≡ option_map (with_points_of c) (cond t (Some e) (lookup es key))
same_put_by true key c e es test rest = ap (λ (t : Bool). cond t (Some (with_points_of c e)) (lookup es key)) test
same_put_by false key c e es test rest = ap (λ (t : Bool). cond t (Some e) (lookup (with_contact key c es) key)) test ∙ rest

pub lookup_put_same : (key : ContactKey) (c : Contact) (es : List ContactEntry) → lookup (with_contact key c es) key ≡ option_map (with_points_of c) (lookup es key)
lookup_put_same key c [] = refl
lookup_put_same key c (e ∷ es) = same_put_by (number_of e == key_number key) key c e es refl (lookup_put_same key c es)

idle_put_by : (t : Bool) (key : ContactKey) (e f : ContactEntry) (es : List ContactEntry) → cond t (Some e) (lookup es key) ≡ Some f → (lookup es key ≡ Some f → with_contact key f.contact es ≡ es)
    → cond t (with_points_of f.contact e ∷ es) (e ∷ with_contact key f.contact es) ≡ e ∷ es
idle_put_by true key e f es is rest = ap (λ (g : ContactEntry). with_points_of g.contact e ∷ es) (sym (same_Some e f is))
idle_put_by false key e f es is rest = ap (λ (l : List ContactEntry). e ∷ l) (rest is)

-- what is there already
pub put_idle : (key : ContactKey) (es : List ContactEntry) (f : ContactEntry) → lookup es key ≡ Some f → with_contact key f.contact es ≡ es
put_idle key [] f is = refl
put_idle key (e ∷ es) f is = idle_put_by (number_of e == key_number key) key e f es is (λ h. put_idle key es f h)

-- ---- the contact at a place

-- a contact of a list in which no key stands twice is the one with its key
pub lookup_there : (es : List ContactEntry) (j : ℕ) (e : ContactEntry) → AreKeysRising es → slice_get es j ≡ Some e → lookup es e.key ≡ Some e
lookup_there es j e rising is =
    lookup_in es e (rising_from_increasing (map number_of es) rising) (in_from_place e es j (slice_get_within es j e is) (get_or_from_slice_get es j e e is))

-- contacts with other keys stay where they are
put_else_by : (t : Bool) (j : ℕ) (key : ContactKey) (c : Contact) (d e : ContactEntry) (es : List ContactEntry) → (number_of d == key_number key) ≡ t → number_of e ≢ key_number key
    → ((k : ℕ) → slice_get es k ≡ Some e → slice_get (with_contact key c es) k ≡ Some e) → slice_get (d ∷ es) j ≡ Some e → slice_get (cond t (with_points_of c d ∷ es) (d ∷ with_contact key c es)) j ≡ Some e
put_else_by true zero key c d e es test ne rest is = absurd (ne (ap number_of (sym (same_Some d e is)) ∙ eqb-true (number_of d) (key_number key) test))
put_else_by true (suc j) key c d e es test ne rest is = is
put_else_by false zero key c d e es test ne rest is = is
put_else_by false (suc j) key c d e es test ne rest is = rest j is

pub put_else : (j : ℕ) (key : ContactKey) (c : Contact) (e : ContactEntry) (es : List ContactEntry) → number_of e ≢ key_number key → slice_get es j ≡ Some e → slice_get (with_contact key c es) j ≡ Some e
put_else j key c e [] ne is = is
put_else j key c e (d ∷ es) ne is = put_else_by (number_of d == key_number key) j key c d e es refl ne (λ k at. put_else k key c e es ne at) is

-- ---- the row of a contact

-- a contact that is put back leaves the rows of others
pub row_put_other : (states : List BodyState) (key : ContactKey) (c : Contact) (es : List ContactEntry) (k : ContactKey) → key_number key ≢ key_number k → row_of states (with_contact key c es) (constraints.Contact k) ≡ row_of states es (constraints.Contact k)
row_put_other states key c es k ne = row_is states (with_contact key c es) k ∙ ap (row_in states k) (lookup_put_other key k c es ne) ∙ sym (row_is states es k)
