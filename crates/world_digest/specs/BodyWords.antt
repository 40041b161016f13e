-- Trusted: Bodies as words.
use Rattle.std.specs.Prelude.{ℕ, ◌+◌, ◌++◌, List, [], ◌∷◌, Option, Some, None}
use Rattle.fixed_geom.specs.declared.boxes.Box2.{Box2}
use Rattle.fixed_geom.specs.declared.vectors.Vec2.{Vec2}
use Rattle.body_handles.specs.declared.slot_table.SlotEntry.{SlotEntry}
use Rattle.islands.specs.declared.label.IslandState.{IslandState}
use Rattle.islands.specs.declared.label.IslandState.TheVariants.{Whole, Loose, Asleep}
use Rattle.islands.specs.declared.label.Label.{Label}
use Rattle.momenta.specs.declared.mass.MassData.{MassData}
use Rattle.momenta.specs.declared.motion.Motion.{Motion}
use Rattle.plain_world.specs.Kinds.{carried_by}
use Rattle.plain_world.specs.declared.body.Body.{Body}
use Rattle.plain_world.specs.declared.kind.Kind.{Kind}
use Rattle.plain_world.specs.declared.kind.Kind.TheVariants.{Static, Kinematic, Dynamic}
use Rattle.shapes.specs.Shapes.{first_end, radius_of, second_end}
use Rattle.shapes.specs.declared.filter.Filter.{Filter}
use Rattle.shapes.specs.declared.shape.Shape.{Shape}
use Rattle.shapes.specs.declared.shape.Shape.TheVariants.{Circle, Capsule, Segment}
use Rattle.shapes.specs.declared.shape.ShapeDef.{ShapeDef}
use Rattle.world_digest.specs.Sums.{integer_word, list_words, truth_word, wide_words}

abbrev pub vector_words : Vec2 → List ℕ
vector_words v = integer_word v.x ∷ integer_word v.y ∷ []

-- a slot: at which generation it stands, and whether it is given out
abbrev pub slot_entry_words : SlotEntry → List ℕ
slot_entry_words p = p.generation ∷ truth_word p.live ∷ []

abbrev pub form_word : Shape → ℕ
form_word (Circle center radius) = 0
form_word (Capsule first second radius) = 1
form_word (Segment first second) = 2

-- the form, both ends of the core, and the radius
abbrev pub form_words : Shape → List ℕ
form_words s = form_word s ∷ (vector_words (first_end s) ++ vector_words (second_end s) ++ integer_word (radius_of s) ∷ [])

abbrev pub filter_words : Filter → List ℕ
filter_words f = f.category ∷ f.mask ∷ integer_word f.group ∷ []

abbrev pub shape_words : ShapeDef → List ℕ
shape_words d = form_words d.shape ++ (integer_word d.friction ∷ integer_word d.restitution ∷ filter_words d.filter)

abbrev pub box_words : Box2 → List ℕ
box_words b = vector_words b.lo ++ vector_words b.hi

abbrev pub kind_word : Kind → ℕ
kind_word Static = 0
kind_word (Kinematic course) = 1
kind_word Dynamic = 2

-- the kind, and the course with which it is carried along: zeros but for a kinematic body
abbrev pub kind_words : Kind → List ℕ
kind_words k = kind_word k ∷ (vector_words (carried_by k).velocity ++ integer_word (carried_by k).spin ∷ [])

abbrev pub motion_words : Motion → List ℕ
motion_words m = vector_words m.p ++ wide_words m.l ++ vector_words m.x ++ integer_word m.rot.c ∷ integer_word m.rot.s ∷ []

abbrev pub mass_words : MassData → List ℕ
mass_words m = integer_word m.mass ∷ integer_word m.inertia ∷ []

-- the name of the island with which it sleeps and 1, or 0
abbrev pub sleep_word : Option ℕ → ℕ
sleep_word None = 0
sleep_word (Some name) = name + 1

abbrev pub state_words : Body → List ℕ
state_words b = truth_word b.enabled ∷ sleep_word b.asleep ∷ b.timer ∷ []

abbrev pub body_words : Body → List ℕ
body_words b = motion_words b.motion ++ mass_words b.mass ++ kind_words b.kind ++ state_words b ++ list_words shape_words b.shapes ++ list_words box_words b.fats

-- ---- the islands of movers

abbrev pub island_state_word : IslandState → ℕ
island_state_word Whole = 0
island_state_word Loose = 1
island_state_word Asleep = 2

abbrev pub label_words : Label → List ℕ
label_words l = l.name ∷ island_state_word l.state ∷ []
