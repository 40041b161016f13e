use Rattle.std.proofs.Common.{◌≡◌, drop}
use Rattle.contacts_base.specs.Keys.{id_number}
use Rattle.contacts.specs.Known.{found}
use Rattle.check_parts.proofs.contacts_table.shape_with_id.Given as goal

abbrev pub invariant-loop-place : goal.invariant-loop-place
invariant-loop-place l = found (drop l.place l.shapes) (id_number l.id) ≡ found l.shapes (id_number l.id)
