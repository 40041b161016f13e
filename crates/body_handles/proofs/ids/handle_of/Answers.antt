use Rattle.std.proofs.Common.{◌≡◌, refl}
use Rattle.body_handles.proofs.Decimals.{id_parts}
use Rattle.body_handles.proofs.ids.handle_of.Goals as goal

pub returns-in_err-slot-clause-all : goal.returns-in_err-slot-clause-all
returns-in_err-slot-clause-all c = λ handle slot generation is.
    absurd (rw c.in_err-slot.was at (id_parts c.args.text.now handle c.split_once.result c.split_once.ensures.cases slot is))

pub returns-in_err-part_of-clause-all : goal.returns-in_err-part_of-clause-all
returns-in_err-part_of-clause-all c = λ handle slot generation is.
    let parts = rw c.in_ok-slot.was at (id_parts c.args.text.now handle c.split_once.result c.split_once.ensures.cases slot is) in
    let read = c.in_err-part_of.ensures.all handle.slot slot parts.0 in absurd (cc)

pub returns-in_err-part_of-2-clause-all : goal.returns-in_err-part_of-2-clause-all
returns-in_err-part_of-2-clause-all c = λ handle slot generation is.
    let parts = rw c.in_ok-slot.was at (id_parts c.args.text.now handle c.split_once.result c.split_once.ensures.cases slot is) in
    let read = c.in_err-part_of-2.ensures.all handle.generation generation parts.1 in absurd (cc)

pub returns-clause-all : goal.returns-clause-all
returns-clause-all c = λ handle slot generation is.
    let parts = rw c.in_ok-slot.was at (id_parts c.args.text.now handle c.split_once.result c.split_once.ensures.cases slot is) in
    let first = c.in_ok-part_of.ensures.all handle.slot slot parts.0 in
    let second = c.in_ok-part_of-2.ensures.all handle.generation generation parts.1 in
    let slot_is : c.in_ok-part_of.field-0 ≡ handle.slot = cc in
    let generation_is : c.in_ok-part_of-2.field-0 ≡ handle.generation = cc in
    rw (slot_is, generation_is) refl
