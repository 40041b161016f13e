-- Trusted: The numbers of shapes and contacts, which rise with their names.
use Rattle.std.specs.Prelude.{ℕ, ◌+◌, ◌*◌, ◌^◌}
use Rattle.contacts_base.specs.declared.key.ShapeId.{ShapeId}
use Rattle.contacts_base.specs.declared.key.ContactKey.{ContactKey}

-- the slot decides, then the index, which is below 256
abbrev pub id_number : ShapeId → ℕ
id_number i = i.slot * 256 + i.index

-- the first shape decides, then the second, whose number is below 2^40
abbrev pub key_number : ContactKey → ℕ
key_number k = id_number k.first * 2 ^ 40 + id_number k.second
