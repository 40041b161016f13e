-- Contacts that stand in a text, and their points.
use Rattle.std.proofs.Common.{◌≡◌, ℕ, ◌+◌, ◌≤◌, ◌==◌, ◌++◌, ◌∷◌, [], Bool, false, true, not, List, Option, Some, None, codes, refl, sym, ap, ap₂, ◌∙◌, arith, append-nil}
use Rattle.contacts_base.specs.Limits.{IsPackable}
use Rattle.contacts_base.specs.declared.contact.ContactPoint.{ContactPoint}
use Rattle.contacts_base.specs.declared.key.ShapeId.{ShapeId}
use Rattle.saved_text.specs.Tokens.{in_order}
use Rattle.serde_json.specs.Data.{Data, boolean, depth, object}
use Rattle.serde_json.specs.View.{items_of}
use Rattle.serde_json.specs.Written.{comma_if}
use Rattle.world_file_base.specs.Asks.{no_asks}
use Rattle.world_file_base.specs.SavedContacts.{contact_in, contact_members, contacts_in, no_points, point_in, point_members, shape_id_of, with_point, point_data}
use Rattle.world_file_base.specs.AskedContacts.{contact_asks, contacts_asks, point_asks}
use Rattle.world_file_base.specs.Written.{integer, list_data, natural, natural_or_null, vector_of}
use Rattle.world_file_base.specs.declared.reader.Reader.{Reader}
use Rattle.world_file_base.specs.declared.saved.SavedContact.{SavedContact}
use Rattle.world_file_base.specs.declared.version.Version.TheVariants.{Second}
use Rattle.loaded_text.specs.Contacts.{ContactsHold, PointsHold}
use Rattle.loaded_text.specs.Stands.{Holds, Stands, key_text}
use Rattle.loaded_text.specs.declared.points.Points.{Points}
use Rattle.loaded_text.proofs.ShapeLaws.{at_most}
use Rattle.loaded_text.proofs.Joined.{item_more, list_stands, member_then, no_item, no_member, object_stands}
use Rattle.loaded_text.proofs.Lists.{ItemsSoFar, added_more, asked_more, list_ends, list_shallow, none_so_far, one_more}
use Rattle.world_file.proofs.BackParts.{IsContactHeld, contact_read, point_back}
use Rattle.world_file.proofs.ReadPoints.{IsPoint}

-- ---- a point

pub is_packable : (p : ContactPoint) → IsPoint p → IsPackable p
is_packable p h = record { normal = h.point.normal; separation = h.point.separation; ra = h.point.ra; rb = h.point.rb; candidate = h.candidate }

pub point_holds : (p : ContactPoint) (a b c d e f g h i k : List ℕ) → IsPoint p
    → a ≡ 123 ∷ b
    → Stands (key_text false (codes "candidate")) (natural p.candidate) b c
    → Stands (key_text true (codes "normal")) (vector_of p.normal) c d
    → Stands (key_text true (codes "push")) (integer p.normal_impulse) d e
    → Stands (key_text true (codes "ra")) (vector_of p.ra) e f
    → Stands (key_text true (codes "rb")) (vector_of p.rb) f g
    → Stands (key_text true (codes "sep")) (integer p.separation) g h
    → Stands (key_text true (codes "slip")) (integer p.tangent_impulse) h i
    → i ≡ 125 ∷ k
    → Holds [] point_in point_asks 2 p a k
unfolding point_data
point_holds p a b c d e f g h i k fits begun one two three four five six seven close =
    let members =
    member_then false _ (codes "candidate") (natural p.candidate) _ b c i refl one
    (member_then true _ (codes "normal") (vector_of p.normal) _ c d i refl two
    (member_then true _ (codes "push") (integer p.normal_impulse) _ d e i refl three
    (member_then true _ (codes "ra") (vector_of p.ra) _ e f i refl four
    (member_then true _ (codes "rb") (vector_of p.rb) _ f g i refl five
    (member_then true _ (codes "sep") (integer p.separation) _ g h i refl six
    (member_then true _ (codes "slip") (integer p.tangent_impulse) [] h i i refl seven (no_member true i))))))) in
    let read = point_back p fits in
    record {
      value = object (in_order (point_members p));
      stands = object_stands [] (point_members p) a a b i k refl begun members close refl;
      shallow = at_most (depth (object (in_order (point_members p)))) 2 refl;
      is = read.value;
      asks = read.asks no_asks;
    }

-- ---- the points of a contact

one_depth : (d : Data) → depth d ≤ 2 → depth (list_data (d ∷ [])) ≤ 3
one_depth d low = omega (arith, low)

two_depth : (d e : Data) → depth d ≤ 2 → depth e ≤ 2 → depth (list_data (d ∷ e ∷ [])) ≤ 3
two_depth d e low also = omega (arith, low, also)

pub one_point_holds : (lead : List ℕ) (points : Points) (p : ContactPoint) (a b c d e : List ℕ) → points.contact ≡ record { first = Some p; second = None } → points.count ≡ 1
    → a ≡ lead ++ b → b ≡ 91 ∷ c → Holds [] point_in point_asks 2 p c d → d ≡ 93 ∷ e → PointsHold lead points a e
one_point_holds lead points p a b c d e contact count before begun h close =
    let items = item_more [] h.value 0 c c c d (no_item c) refl refl h.stands in
    record {
      items = h.value ∷ [];
      stands = list_stands lead (h.value ∷ []) a b c d e before begun items close;
      shallow = one_depth h.value h.shallow;
      contact = ap (λ (q : ContactPoint). with_point no_points q) h.is ∙ sym contact;
      count = sym count;
      asks = h.asks;
    }

pub two_points_hold : (lead : List ℕ) (points : Points) (p q : ContactPoint) (a b c d e f g : List ℕ) → points.contact ≡ record { first = Some p; second = Some q } → points.count ≡ 2
    → a ≡ lead ++ b → b ≡ 91 ∷ c → Holds [] point_in point_asks 2 p c d → d ≡ 44 ∷ e → Holds [] point_in point_asks 2 q e f → f ≡ 93 ∷ g → PointsHold lead points a g
two_points_hold lead points p q a b c d e f g contact count before begun h comma k close =
    let one = item_more [] h.value 0 c c c d (no_item c) refl refl h.stands in
    let two = item_more (h.value ∷ []) k.value 1 c d e f one refl comma k.stands in
    record {
      items = h.value ∷ k.value ∷ [];
      stands = list_stands lead (h.value ∷ k.value ∷ []) a b c f g before begun two close;
      shallow = two_depth h.value k.value h.shallow k.shallow;
      contact = ap₂ (λ (x y : ContactPoint). with_point (with_point no_points x) y) h.is k.is ∙ sym contact;
      count = sym count;
      asks = ap (λ r. point_asks k.value r) h.asks ∙ k.asks;
    }

-- ---- a contact

contact_depth : (first second : ShapeId) (colour : Option ℕ) (points : List Data) (touching : Bool) → depth (list_data points) ≤ 3 → depth (object (in_order (contact_members first second colour points touching))) ≤ 4
contact_depth first second None points touching low = omega (arith, low)
contact_depth first second (Some k) points touching low = omega (arith, low)

abbrev pub contact_by : ShapeId → ShapeId → Bool → Option ℕ → Points → SavedContact
contact_by first second touching colour points = record { key = record { first = first; second = second }; touching = touching; colour = colour; contact = points.contact; points = points.count }

pub contact_holds : (first second : ShapeId) (colour : Option ℕ) (points : Points) (touching : Bool) (a b c d e f g h : List ℕ) → IsContactHeld first second colour
    → a ≡ 123 ∷ b
    → Stands (key_text false (codes "a")) (shape_id_of first) b c
    → Stands (key_text true (codes "b")) (shape_id_of second) c d
    → Stands (key_text true (codes "colour")) (natural_or_null colour) d e
    → PointsHold (key_text true (codes "points")) points e f
    → Stands (key_text true (codes "touching")) (boolean touching) f g
    → g ≡ 125 ∷ h
    → Holds [] (contact_in Second) (contact_asks Second) 4 (contact_by first second touching colour points) a h
contact_holds first second colour points touching a b c d e f g h fits begun one two three four five close =
    let items = four.items in
    let members =
    member_then false _ (codes "a") (shape_id_of first) _ b c g refl one
    (member_then true _ (codes "b") (shape_id_of second) _ c d g refl two
    (member_then true _ (codes "colour") (natural_or_null colour) _ d e g refl three
    (member_then true _ (codes "points") (list_data items) _ e f g refl four.stands
    (member_then true _ (codes "touching") (boolean touching) [] f g g refl five (no_member true g))))) in
    let read = contact_read first second colour items touching fits in
    record {
      value = object (in_order (contact_members first second colour items touching));
      stands = object_stands [] (contact_members first second colour items touching) a a b g h refl begun members close refl;
      shallow = contact_depth first second colour items touching four.shallow;
      is = read.value ∙ (λ i. record { key = record { first = first; second = second }; touching = touching; colour = colour; contact = four.contact i; points = four.count i });
      asks = read.asks no_asks ∙ four.asks;
    }

-- ---- lists of contacts

contacts_more : (ds : List Data) (d : Data) → contacts_in Second (items_of (ds ++ (d ∷ []))) ≡ contacts_in Second (items_of ds) ++ (contact_in Second d ∷ [])
contacts_more [] d = refl
contacts_more (e ∷ ds) d = ap (λ l. contact_in Second e ∷ l) (contacts_more ds d)

asks_more : (ds : List Data) (d : Data) (r : Reader) → contacts_asks Second (items_of (ds ++ (d ∷ []))) r ≡ contact_asks Second d (contacts_asks Second (items_of ds) r)
asks_more [] d r = refl
asks_more (e ∷ ds) d r = asks_more ds d (contact_asks Second e r)

-- so many contacts
pub record ContactsSoFar (n : ℕ) (old now : List SavedContact) (text rest : List ℕ) : Type 0 where
  pub items : List Data
  pub so_far : ItemsSoFar 4 n items text rest
  pub contacts : now ≡ old ++ contacts_in Second (items_of items)
  pub asks : contacts_asks Second (items_of items) no_asks ≡ no_asks

pub no_contact_yet : (old : List SavedContact) (a : List ℕ) → ContactsSoFar 0 old old a a
no_contact_yet old a = record { items = []; so_far = none_so_far 4 a; contacts = sym (append-nil old); asks = refl }

pub contact_more : (n : ℕ) (old now next : List SavedContact) (contact : SavedContact) (a b c e : List ℕ) → ContactsSoFar n old now a b → b ≡ comma_if (not (n == 0)) ++ c → Holds [] (contact_in Second) (contact_asks Second) 4 contact c e
    → next ≡ now ++ (contact ∷ []) → ContactsSoFar (n + 1) old next a e
contact_more n old now next contact a b c e before comma h is =
    let ds = before.items in
    let d = h.value in
    record {
      items = ds ++ (d ∷ []);
      so_far = one_more 4 n ds d a b c e before.so_far comma h.stands h.shallow;
      contacts = added_more old now next (contacts_in Second (items_of ds)) (contacts_in Second (items_of (ds ++ (d ∷ [])))) contact before.contacts is (contacts_more ds d ∙ ap (λ (x : SavedContact). contacts_in Second (items_of ds) ++ (x ∷ [])) h.is);
      asks = asked_more (contacts_asks Second (items_of ds)) (contact_asks Second d) (contacts_asks Second (items_of (ds ++ (d ∷ [])))) no_asks before.asks h.asks (asks_more ds d no_asks);
    }

pub contacts_end : (lead : List ℕ) (n : ℕ) (old now : List SavedContact) (a b c d e : List ℕ) → a ≡ lead ++ b → b ≡ 91 ∷ c → ContactsSoFar n old now c d → d ≡ 93 ∷ e → ContactsHold lead old now a e
contacts_end lead n old now a b c d e before begun found close = record {
  items = found.items;
  stands = list_ends lead 4 n found.items a b c d e before begun found.so_far close;
  shallow = list_shallow 4 n found.items c d found.so_far;
  contacts = found.contacts;
  asks = found.asks;
}
