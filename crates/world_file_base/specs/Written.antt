-- Trusted: How values are written.
use Rattle.std.specs.Prelude.{ℕ, ◌∷◌, List, [], Option, Some, None, ℤ}
use Rattle.std.specs.Fmt.{signed_decimal}
use Rattle.serde_json.specs.Data.{Data, Members, array, null, number, put, string, unsigned, no_members, object}
use Rattle.serde_json.specs.Find.{of_integer}
use Rattle.serde_json.specs.View.{items_of, members_view}
use Rattle.world_file_base.specs.declared.members.Members as declared
use Rattle.fixed_geom.specs.declared.vectors.Vec2.{Vec2}
use Rattle.fixed_geom.specs.declared.boxes.Box2.{Box2}
use Rattle.body_handles.specs.declared.handle.Handle.{Handle}
use Rattle.body_handles.specs.IdTexts.{id_text}

-- what an object has so far
abbrev pub written : declared.Members → Members
written m = members_view m.members.entries

-- a key and its value
abbrev pub Member : Type 0
Member = List ℕ × Data

-- these members, put one after the other
abbrev pub with_members : List Member → Members → Members
with_members [] ms = ms
with_members (m ∷ more) ms = with_members more (put m.0 m.1 ms)

-- the object that has them
abbrev pub object_of : List Member → Data
object_of members = object (with_members members no_members)

abbrev pub list_data : List Data → Data
list_data items = array (items_of items)

abbrev pub pair_data : Data → Data → Data
pair_data first second = list_data (first ∷ second ∷ [])

-- a number without a sign
abbrev pub natural : ℕ → Data
natural n = number (unsigned n)

-- a number with a sign
abbrev pub integer : ℤ → Data
integer z = number (of_integer z)

abbrev pub vector_of : Vec2 → Data
vector_of v = pair_data (integer v.x) (integer v.y)

abbrev pub ends_of : Vec2 → Vec2 → Data
ends_of first second = pair_data (vector_of first) (vector_of second)

abbrev pub corners_of : Box2 → Data
corners_of b = ends_of b.lo b.hi

-- a number as a text
abbrev pub decimal_of : ℤ → Data
decimal_of z = string (signed_decimal z)

abbrev pub id_of : Handle → Data
id_of handle = string (id_text handle)

-- a number, or null
abbrev pub natural_or_null : Option ℕ → Data
natural_or_null None = null
natural_or_null (Some n) = natural n
