-- Which bodies' shapes have moved, by marks.
use Rattle.std.proofs.Common.{◌≡◌, ◌<◌, ◌≤◌, List, length, get_or, Bool, true, sym, ◌∙◌, arith}
use Rattle.std.specs.Prelude.{◌/◌}
use Rattle.std.proofs.lemmas.List.{get_or_default, get_or_past}
use Rattle.contacts_base.specs.declared.key.ShapeId.{ShapeId}
use Rattle.contacts_base.specs.Keys.{id_number}
use Rattle.contacts.specs.Fates.{moved_by}

pub mark_there : (marks : List Bool) (i : ShapeId) (m d : Bool) → i.index < 256 → i.slot < length marks → m ≡ get_or marks i.slot d → m ≡ moved_by marks (id_number i)
mark_there marks i m d small lt is =
    let at : id_number i / 256 ≡ i.slot = omega arith in
    rw at (is ∙ get_or_default marks i.slot d true lt)

pub mark_beyond : (marks : List Bool) (i : ShapeId) → i.index < 256 → length marks ≤ i.slot → true ≡ moved_by marks (id_number i)
mark_beyond marks i small h =
    let at : id_number i / 256 ≡ i.slot = omega arith in
    rw at (sym (get_or_past marks i.slot true h))
