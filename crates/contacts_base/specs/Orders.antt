-- The order of the names of shapes and of contacts: that of their own comparison.
use Rattle.std.specs.Ordering.{nat_cmp, ordering_then}
use Rattle.std.specs.declared.cmp.Ordering.{Ordering}
use Rattle.contacts_base.specs.declared.key.ShapeId.{ShapeId}
use Rattle.contacts_base.specs.declared.key.ContactKey.{ContactKey}

-- the slot decides, then the index
abbrev pub shape_id_cmp : ShapeId → ShapeId → Ordering
shape_id_cmp a b = ordering_then (nat_cmp a.slot b.slot) (nat_cmp a.index b.index)

-- the first shape decides, then the second
abbrev pub contact_key_cmp : ContactKey → ContactKey → Ordering
contact_key_cmp a b = ordering_then (shape_id_cmp a.first b.first) (shape_id_cmp a.second b.second)
