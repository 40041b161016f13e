-- Shapes are read as they are written.
use Rattle.std.proofs.Common.{◌≡◌, ◌^◌, List, [], ◌∷◌, length, ℤ, refl, ap, ap₂, ◌∙◌, arith}
use Rattle.std.proofs.lemmas.Int.{ints}
use Rattle.plain_world.specs.Formed.{HasFilter}
use Rattle.serde_json.specs.View.{items_of}
use Rattle.contacts_base.proofs.Members.{Each}
use Rattle.fixed_geom.specs.Boxes.{IsBoxWithin}
use Rattle.fixed_geom.specs.declared.boxes.Box2.{Box2}
use Rattle.shapes.specs.Shapes.{IsShape, IsShapeDef}
use Rattle.shapes.specs.declared.filter.Filter.{Filter}
use Rattle.shapes.specs.declared.shape.Shape.{Shape}
use Rattle.shapes.specs.declared.shape.Shape.TheVariants.{Circle, Capsule, Segment}
use Rattle.shapes.specs.declared.shape.ShapeDef.{ShapeDef}
use Rattle.world_file_base.specs.Reading.{greatest_group, least_group}
use Rattle.world_file_base.specs.declared.reader.Reader.{Reader}
use Rattle.world_file_base.specs.SavedShapes.{defs_in, fats_in, form_in, most_bits, most_corner, shape_in, shape_of, shapes_of}
use Rattle.world_file_base.specs.AskedShapes.{form_asks, shape_asks, shapes_asks}
use Rattle.world_file_base.specs.declared.saved_shapes.SavedShape.{SavedShape}
use Rattle.world_file.proofs.BackNumbers.{between_true, corners_back, number_back, signed_back, unsigned_back, vector_back, AreHeld, IsHeld, within_held}

pub record IsShapeBack (def : ShapeDef) (fat : Box2) : Type 0 where
  pub value : shape_in (shape_of def fat) ≡ record { def = def; fat = fat }
  pub asks : (r : Reader) → shape_asks (shape_of def fat) r ≡ r

-- 64 bits hold the numbers of a form
abbrev pub IsFormHeld : Shape → Type 0
IsFormHeld (Circle center radius) = AreHeld center × IsHeld radius
IsFormHeld (Capsule first second radius) = AreHeld first × (AreHeld second × IsHeld radius)
IsFormHeld (Segment first second) = AreHeld first × AreHeld second

-- and all of a shape
pub record IsShapeHeld (def : ShapeDef) (fat : Box2) : Type 0 where
  pub form : IsFormHeld def.shape
  pub friction : IsHeld def.friction
  pub restitution : IsHeld def.restitution
  pub filter : HasFilter def.filter
  pub corners : IsBoxWithin (2 ^ 37) fat

shape_back : (s : Shape) (friction restitution : ℤ) (filter : Filter) (fat : Box2) → let def : ShapeDef = record { shape = s; friction = friction; restitution = restitution; filter = filter } in IsShapeHeld def fat → IsShapeBack def fat
unfolding shape_in shape_of shape_asks form_in form_asks
shape_back (Circle center radius) friction restitution filter fat h =
    let x = vector_back center h.form.0 in
    let k = number_back radius h.form.1 in
    let f = number_back friction h.friction in
    let e = number_back restitution h.restitution in
    let c = unsigned_back most_bits filter.category h.filter.category in
    let m = unsigned_back most_bits filter.mask h.filter.mask in
    let g = signed_back least_group greatest_group filter.group (between_true least_group greatest_group filter.group h.filter.least h.filter.most) in
    let b = corners_back most_corner fat (omega arith) h.corners in
    record {
      value = λ i. record { def = record { shape = Circle (x.value i) (k.value i); friction = f.value i; restitution = e.value i; filter = record { category = c.value i; mask = m.value i; group = g.value i } }; fat = b.value i };
      asks = λ r. b.asks _ ∙ g.asks _ ∙ m.asks _ ∙ c.asks _ ∙ e.asks _ ∙ f.asks _ ∙ k.asks _ ∙ x.asks r;
    }
shape_back (Capsule first second radius) friction restitution filter fat h =
    let x = vector_back first h.form.0 in
    let y = vector_back second h.form.1.0 in
    let k = number_back radius h.form.1.1 in
    let f = number_back friction h.friction in
    let e = number_back restitution h.restitution in
    let c = unsigned_back most_bits filter.category h.filter.category in
    let m = unsigned_back most_bits filter.mask h.filter.mask in
    let g = signed_back least_group greatest_group filter.group (between_true least_group greatest_group filter.group h.filter.least h.filter.most) in
    let b = corners_back most_corner fat (omega arith) h.corners in
    record {
      value = λ i. record { def = record { shape = Capsule (x.value i) (y.value i) (k.value i); friction = f.value i; restitution = e.value i; filter = record { category = c.value i; mask = m.value i; group = g.value i } }; fat = b.value i };
      asks = λ r. b.asks _ ∙ g.asks _ ∙ m.asks _ ∙ c.asks _ ∙ e.asks _ ∙ f.asks _ ∙ k.asks _ ∙ y.asks _ ∙ x.asks r;
    }
shape_back (Segment first second) friction restitution filter fat h =
    let x = vector_back first h.form.0 in
    let y = vector_back second h.form.1 in
    let f = number_back friction h.friction in
    let e = number_back restitution h.restitution in
    let c = unsigned_back most_bits filter.category h.filter.category in
    let m = unsigned_back most_bits filter.mask h.filter.mask in
    let g = signed_back least_group greatest_group filter.group (between_true least_group greatest_group filter.group h.filter.least h.filter.most) in
    let b = corners_back most_corner fat (omega arith) h.corners in
    record {
      value = λ i. record { def = record { shape = Segment (x.value i) (y.value i); friction = f.value i; restitution = e.value i; filter = record { category = c.value i; mask = m.value i; group = g.value i } }; fat = b.value i };
      asks = λ r. b.asks _ ∙ g.asks _ ∙ m.asks _ ∙ c.asks _ ∙ e.asks _ ∙ f.asks _ ∙ y.asks _ ∙ x.asks r;
    }

pub shape_read : (def : ShapeDef) (fat : Box2) → IsShapeHeld def fat → IsShapeBack def fat
shape_read def fat h = shape_back def.shape def.friction def.restitution def.filter fat h

form_held : (s : Shape) → IsShape s → IsFormHeld s
form_held (Circle center radius) h = let small = h.radius in (within_held (2 ^ 24) center (omega arith) h.first, omega (arith, ints, small))
form_held (Capsule first second radius) h = let small = h.radius in (within_held (2 ^ 24) first (omega arith) h.first, (within_held (2 ^ 24) second (omega arith) h.second, omega (arith, ints, small)))
form_held (Segment first second) h = (within_held (2 ^ 24) first (omega arith) h.first, within_held (2 ^ 24) second (omega arith) h.second)

shape_is : (def : ShapeDef) (fat : Box2) → IsShapeDef def → HasFilter def.filter → IsBoxWithin (2 ^ 37) fat → IsShapeBack def fat
shape_is def fat h filter small =
    let friction = h.friction_small in
    let restitution = h.restitution_small in
    shape_read def fat (record { form = form_held def.shape h.shape; friction = omega (arith, ints, friction); restitution = omega (arith, ints, restitution); filter = filter; corners = small })

-- ---- those of a body

pub record AreShapesBack (shapes : List ShapeDef) (boxes : List Box2) : Type 0 where
  pub defs : defs_in (items_of (shapes_of shapes boxes)) ≡ shapes
  pub fats : fats_in (items_of (shapes_of shapes boxes)) ≡ boxes
  pub asks : (r : Reader) → shapes_asks (items_of (shapes_of shapes boxes)) r ≡ r

pub shapes_back : (defs : List ShapeDef) (fats : List Box2) → length fats ≡ length defs → Each IsShapeDef defs → Each (λ (d : ShapeDef). HasFilter d.filter) defs → Each (IsBoxWithin (2 ^ 37)) fats → AreShapesBack defs fats
shapes_back [] [] e hs fs bs = record { defs = refl; fats = refl; asks = λ r. refl }
shapes_back [] (fat ∷ fats) e hs fs bs = absurd (omega arith)
shapes_back (def ∷ defs) [] e hs fs bs = absurd (omega arith)
shapes_back (def ∷ defs) (fat ∷ fats) e hs fs bs =
    let one = shape_is def fat hs.0 fs.0 bs.0 in
    let rest = shapes_back defs fats (omega arith) hs.1 fs.1 bs.1 in
    record {
      defs = ap₂ (λ (x : ShapeDef) (xs : List ShapeDef). x ∷ xs) (ap (λ (v : SavedShape). v.def) one.value) rest.defs;
      fats = ap₂ (λ (x : Box2) (xs : List Box2). x ∷ xs) (ap (λ (v : SavedShape). v.fat) one.value) rest.fats;
      asks = λ r. rest.asks (shape_asks (shape_of def fat) r) ∙ one.asks r;
    }
