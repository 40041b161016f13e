-- Shapes that stand in a text are read as these.
use Rattle.std.proofs.Common.{◌≡◌, ℕ, ◌^◌, ◌<◌, ◌≤◌, ◌+◌, ◌==◌, ◌++◌, ◌∷◌, [], false, true, not, List, codes, ℤ, refl, sym, ap, ◌∙◌, arith, append-nil}
use Rattle.fixed_geom.specs.declared.vectors.Vec2.{Vec2}
use Rattle.loaded_text.specs.Leads.{IsSigned}
use Rattle.saved_text.specs.Tokens.{in_order}
use Rattle.serde_json.specs.Data.{Data, depth, object}
use Rattle.serde_json.specs.View.{items_of}
use Rattle.serde_json.specs.Written.{comma_if}
use Rattle.shapes.specs.declared.shape.Shape.{Shape}
use Rattle.shapes.specs.declared.shape.Shape.TheVariants.{Circle, Capsule, Segment}
use Rattle.world_file_base.specs.Asks.{no_asks}
use Rattle.world_file_base.specs.Reading.{greatest_group, least_group}
use Rattle.world_file_base.specs.SavedShapes.{defs_in, fats_in, shape_in, shape_of}
use Rattle.world_file_base.specs.AskedShapes.{shape_asks, shapes_asks}
use Rattle.world_file_base.specs.Written.{Member, corners_of, ends_of, integer, natural, vector_of}
use Rattle.world_file_base.specs.declared.reader.Reader.{Reader}
use Rattle.world_file_base.specs.declared.saved_shapes.SavedShape.{SavedShape}
use Rattle.loaded_text.specs.Shapes.{IsSurround, ShapesHold, surround_members}
use Rattle.loaded_text.specs.Stands.{Holds, IsSignedVector, MembersStand, Stands, key_text}
use Rattle.loaded_text.specs.declared.forms.Surround.{Surround}
use Rattle.loaded_text.specs.declared.saved_shapes.LoadedShapes.{LoadedShapes}
use Rattle.loaded_text.proofs.Joined.{member_then, members_then, no_member, object_stands}
use Rattle.loaded_text.proofs.Lists.{ItemsSoFar, added_more, asked_more, list_ends, list_shallow, none_so_far, one_more}
use Rattle.world_file.proofs.BackShapes.{IsFormHeld, IsShapeBack, shape_read}
use Rattle.world_file.proofs.Tests.{between_is}

abbrev pub shape_by : Shape → ℕ → Surround → ℤ → SavedShape
shape_by shape category s restitution = record {
  def = record { shape = shape; friction = s.friction; restitution = restitution; filter = record { category = category; mask = s.mask; group = s.group } };
  fat = s.fat;
}

surround_then : (s : Surround) (ns : List Member) (a b c : List ℕ) → MembersStand true (surround_members s) a b → MembersStand true ns b c → MembersStand true (surround_members s ++ ns) a c
surround_then s ns a b c first second =
    members_then true (codes "fat", corners_of s.fat) ((codes "friction", integer s.friction) ∷ (codes "group", integer s.group) ∷ (codes "mask", natural s.mask) ∷ []) ns a b c first second

pub at_most : (n k : ℕ) → n ≡ k → n ≤ k
at_most n k e = omega (arith, e)

-- what is read of a shape with this surround
shape_read_back : (shape : Shape) (category : ℕ) (s : Surround) (restitution : ℤ) → IsFormHeld shape → category < 2 ^ 64 → IsSurround s → IsSigned restitution → IsShapeBack (shape_by shape category s restitution).def s.fat
shape_read_back shape category s restitution form small fits bouncy =
    let few = fits.mask in
    let group = between_is least_group greatest_group s.group fits.group in
    shape_read (shape_by shape category s restitution).def s.fat (record { form = form; friction = fits.friction; restitution = bouncy; filter = record { category = omega (arith, small); mask = omega (arith, few); least = group.least; most = group.most }; corners = fits.fat })

-- ---- circles

abbrev round_end : ℤ → ℤ → List Member
round_end radius restitution = (codes "radius", integer radius) ∷ (codes "restitution", integer restitution) ∷ []

abbrev circle_members : ℕ → Vec2 → Surround → ℤ → ℤ → List Member
circle_members category center s radius restitution = (codes "category", natural category) ∷ (codes "circle", vector_of center) ∷ (surround_members s ++ round_end radius restitution)

pub circle_holds : (category : ℕ) (center : Vec2) (s : Surround) (radius restitution : ℤ) (a b c d e f g h : List ℕ)
    → category < 2 ^ 64 → IsSignedVector center → IsSurround s → IsSigned radius → IsSigned restitution
    → a ≡ 123 ∷ b
    → Stands (key_text false (codes "category")) (natural category) b c
    → Stands (key_text true (codes "circle")) (vector_of center) c d
    → MembersStand true (surround_members s) d e
    → Stands (key_text true (codes "radius")) (integer radius) e f
    → Stands (key_text true (codes "restitution")) (integer restitution) f g
    → g ≡ 125 ∷ h
    → Holds [] shape_in shape_asks 3 (shape_by (Circle center radius) category s restitution) a h
unfolding shape_of
circle_holds category center s radius restitution a b c d e f g h small signed fits round bouncy begun first second third fourth fifth close =
    let members =
    member_then false _ (codes "category") (natural category) _ b c g refl first
    (member_then true _ (codes "circle") (vector_of center) _ c d g refl second
    (surround_then s (round_end radius restitution) d e g third
    (member_then true _ (codes "radius") (integer radius) _ e f g refl fourth
    (member_then true _ (codes "restitution") (integer restitution) [] f g g refl fifth (no_member true g))))) in
    let read = shape_read_back (Circle center radius) category s restitution (signed, round) small fits bouncy in
    record {
      value = object (in_order (circle_members category center s radius restitution));
      stands = object_stands [] (circle_members category center s radius restitution) a a b g h refl begun members close refl;
      shallow = at_most (depth (object (in_order (circle_members category center s radius restitution)))) 3 refl;
      is = read.value;
      asks = read.asks no_asks;
    }

-- ---- capsules

abbrev capsule_members : Vec2 → Vec2 → ℕ → Surround → ℤ → ℤ → List Member
capsule_members first second category s radius restitution = (codes "capsule", ends_of first second) ∷ (codes "category", natural category) ∷ (surround_members s ++ round_end radius restitution)

pub capsule_holds : (one two : Vec2) (category : ℕ) (s : Surround) (radius restitution : ℤ) (a b c d e f g h : List ℕ)
    → IsSignedVector one → IsSignedVector two → category < 2 ^ 64 → IsSurround s → IsSigned radius → IsSigned restitution
    → a ≡ 123 ∷ b
    → Stands (key_text false (codes "capsule")) (ends_of one two) b c
    → Stands (key_text true (codes "category")) (natural category) c d
    → MembersStand true (surround_members s) d e
    → Stands (key_text true (codes "radius")) (integer radius) e f
    → Stands (key_text true (codes "restitution")) (integer restitution) f g
    → g ≡ 125 ∷ h
    → Holds [] shape_in shape_asks 3 (shape_by (Capsule one two radius) category s restitution) a h
unfolding shape_of
capsule_holds one two category s radius restitution a b c d e f g h signed also small fits round bouncy begun first second third fourth fifth close =
    let members =
    member_then false _ (codes "capsule") (ends_of one two) _ b c g refl first
    (member_then true _ (codes "category") (natural category) _ c d g refl second
    (surround_then s (round_end radius restitution) d e g third
    (member_then true _ (codes "radius") (integer radius) _ e f g refl fourth
    (member_then true _ (codes "restitution") (integer restitution) [] f g g refl fifth (no_member true g))))) in
    let read = shape_read_back (Capsule one two radius) category s restitution (signed, (also, round)) small fits bouncy in
    record {
      value = object (in_order (capsule_members one two category s radius restitution));
      stands = object_stands [] (capsule_members one two category s radius restitution) a a b g h refl begun members close refl;
      shallow = at_most (depth (object (in_order (capsule_members one two category s radius restitution)))) 3 refl;
      is = read.value;
      asks = read.asks no_asks;
    }

-- ---- segments

abbrev segment_end : ℤ → Vec2 → Vec2 → List Member
segment_end restitution first second = (codes "restitution", integer restitution) ∷ (codes "segment", ends_of first second) ∷ []

abbrev segment_members : ℕ → Surround → ℤ → Vec2 → Vec2 → List Member
segment_members category s restitution first second = (codes "category", natural category) ∷ (surround_members s ++ segment_end restitution first second)

pub segment_holds : (category : ℕ) (s : Surround) (restitution : ℤ) (one two : Vec2) (a b c d e f g : List ℕ)
    → category < 2 ^ 64 → IsSurround s → IsSigned restitution → IsSignedVector one → IsSignedVector two
    → a ≡ 123 ∷ b
    → Stands (key_text false (codes "category")) (natural category) b c
    → MembersStand true (surround_members s) c d
    → Stands (key_text true (codes "restitution")) (integer restitution) d e
    → Stands (key_text true (codes "segment")) (ends_of one two) e f
    → f ≡ 125 ∷ g
    → Holds [] shape_in shape_asks 3 (shape_by (Segment one two) category s restitution) a g
unfolding shape_of
segment_holds category s restitution one two a b c d e f g small fits bouncy signed also begun first second third fourth close =
    let members =
    member_then false _ (codes "category") (natural category) _ b c f refl first
    (surround_then s (segment_end restitution one two) c d f second
    (member_then true _ (codes "restitution") (integer restitution) _ d e f refl third
    (member_then true _ (codes "segment") (ends_of one two) [] e f f refl fourth (no_member true f)))) in
    let read = shape_read_back (Segment one two) category s restitution (signed, also) small fits bouncy in
    record {
      value = object (in_order (segment_members category s restitution one two));
      stands = object_stands [] (segment_members category s restitution one two) a a b f g refl begun members close refl;
      shallow = at_most (depth (object (in_order (segment_members category s restitution one two)))) 3 refl;
      is = read.value;
      asks = read.asks no_asks;
    }

-- ---- lists of shapes

defs_more : (ds : List Data) (d : Data) → defs_in (items_of (ds ++ (d ∷ []))) ≡ defs_in (items_of ds) ++ ((shape_in d).def ∷ [])
defs_more [] d = refl
defs_more (e ∷ ds) d = ap (λ l. (shape_in e).def ∷ l) (defs_more ds d)

fats_more : (ds : List Data) (d : Data) → fats_in (items_of (ds ++ (d ∷ []))) ≡ fats_in (items_of ds) ++ ((shape_in d).fat ∷ [])
fats_more [] d = refl
fats_more (e ∷ ds) d = ap (λ l. (shape_in e).fat ∷ l) (fats_more ds d)

asks_more : (ds : List Data) (d : Data) (r : Reader) → shapes_asks (items_of (ds ++ (d ∷ []))) r ≡ shape_asks d (shapes_asks (items_of ds) r)
asks_more [] d r = refl
asks_more (e ∷ ds) d r = asks_more ds d (shape_asks e r)

-- so many shapes
pub record ShapesSoFar (n : ℕ) (old now : LoadedShapes) (text rest : List ℕ) : Type 0 where
  pub items : List Data
  pub so_far : ItemsSoFar 3 n items text rest
  pub shapes : now.shapes ≡ old.shapes ++ defs_in (items_of items)
  pub fats : now.fats ≡ old.fats ++ fats_in (items_of items)
  pub asks : shapes_asks (items_of items) no_asks ≡ no_asks

pub no_shape_yet : (old : LoadedShapes) (a : List ℕ) → ShapesSoFar 0 old old a a
no_shape_yet old a = record { items = []; so_far = none_so_far 3 a; shapes = sym (append-nil old.shapes); fats = sym (append-nil old.fats); asks = refl }

pub shape_more : (n : ℕ) (old now next : LoadedShapes) (shape : SavedShape) (a b c e : List ℕ) → ShapesSoFar n old now a b → b ≡ comma_if (not (n == 0)) ++ c → Holds [] shape_in shape_asks 3 shape c e
    → next.shapes ≡ now.shapes ++ (shape.def ∷ []) → next.fats ≡ now.fats ++ (shape.fat ∷ []) → ShapesSoFar (n + 1) old next a e
shape_more n old now next shape a b c e before comma h def fat =
    let ds = before.items in
    let d = h.value in
    record {
      items = ds ++ (d ∷ []);
      so_far = one_more 3 n ds d a b c e before.so_far comma h.stands h.shallow;
      shapes = added_more old.shapes now.shapes next.shapes (defs_in (items_of ds)) (defs_in (items_of (ds ++ (d ∷ [])))) shape.def before.shapes def (defs_more ds d ∙ ap (λ (s : SavedShape). defs_in (items_of ds) ++ (s.def ∷ [])) h.is);
      fats = added_more old.fats now.fats next.fats (fats_in (items_of ds)) (fats_in (items_of (ds ++ (d ∷ [])))) shape.fat before.fats fat (fats_more ds d ∙ ap (λ (s : SavedShape). fats_in (items_of ds) ++ (s.fat ∷ [])) h.is);
      asks = asked_more (shapes_asks (items_of ds)) (shape_asks d) (shapes_asks (items_of (ds ++ (d ∷ [])))) no_asks before.asks h.asks (asks_more ds d no_asks);
    }

pub shapes_end : (lead : List ℕ) (n : ℕ) (old now : LoadedShapes) (a b c d e : List ℕ) → a ≡ lead ++ b → b ≡ 91 ∷ c → ShapesSoFar n old now c d → d ≡ 93 ∷ e → ShapesHold lead old now a e
shapes_end lead n old now a b c d e before begun found close = record {
  items = found.items;
  stands = list_ends lead 3 n found.items a b c d e before begun found.so_far close;
  shallow = list_shallow 3 n found.items c d found.so_far;
  shapes = found.shapes;
  fats = found.fats;
  asks = found.asks;
}
