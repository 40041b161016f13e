-- Values without lists of any length in them, and members that have such values.
use Rattle.std.specs.Prelude.{ℕ, List}
use Rattle.std.specs.Borrow.{Bor}
use Rattle.serde_json.specs.Data.{Data, boolean, string}
use Rattle.fixed_geom.specs.declared.facings.Rot.{Rot}
use Rattle.world_file_base.specs.SavedBodies.{kind_name}
use Rattle.world_file_base.specs.SavedContacts.{shape_id_of}
use Rattle.world_file_base.specs.SavedTotals.{total_data}
use Rattle.world_file_base.specs.Written.{Member, decimal_of, ends_of, integer, natural, natural_or_null, vector_of}
use Rattle.saved_text.specs.declared.leaves.Leaf.{Leaf}
use Rattle.saved_text.specs.declared.leaves.Leaf.TheVariants.{Truth, Natural, Count, Integer, Group, Text, Decimal, Kind, Colour, Island, Vector, Facing, Ends, Shape, Total}

abbrev pub facing_of : Rot → Data
facing_of rot = vector_of (record { x = rot.c; y = rot.s })

abbrev pub data_of : Leaf → Data
data_of (Truth holds) = boolean holds
data_of (Natural n) = natural n
data_of (Count n) = natural n
data_of (Integer z) = integer z.now
data_of (Group z) = integer z.now
data_of (Text text) = string text.now
data_of (Decimal z) = decimal_of z.now
data_of (Kind kind) = string (kind_name kind)
data_of (Colour colour) = natural_or_null colour
data_of (Island island) = natural_or_null island
data_of (Vector v) = vector_of v
data_of (Facing rot) = facing_of rot
data_of (Ends first second) = ends_of first second
data_of (Shape id) = shape_id_of id
data_of (Total total) = total_data total

abbrev pub member_of : Bor (List ℕ) × Leaf → Member
member_of m = (m.0.now, data_of m.1)
