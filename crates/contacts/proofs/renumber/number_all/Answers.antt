use Rattle.std.proofs.Common.{List, length, subst, sym, ◌∙◌}
use Rattle.contacts.specs.declared.number_book.NumberedContact.{NumberedContact}
use Rattle.contacts.specs.NumberBooks.{HasRoomFor}
use Rattle.contacts.proofs.KeptLaws.{can_make_first, first_numbered}
use Rattle.contacts.proofs.renumber.number_all.Goals as goal

pub make_all-requires-clause-can : goal.make_all-requires-clause-can
make_all-requires-clause-can c =
    let was : HasRoomFor c.deref.result.now c.reserve_for.new.self = c.in_ok-reserve_for.ensures.room in
    let room : HasRoomFor c.deref.result.now c.begin.new.self = record { slots = was.slots; below = was.below; room = c.begin.ensures.room (length c.deref.result.now) was.slots was.room } in
    can_make_first c.args.entries.now c.deref-2.result.now c.begin.new.self (c.deref-2.ensures.value ∙ c.in_ok-note_fresh.ensures.noted) c.requires.rising (c.begin.ensures.same.contacts ∙ c.reserve_for.ensures.same.contacts ∙ c.new-numbers.ensures.contacts)
    (subst (λ (made : List NumberedContact). HasRoomFor made c.begin.new.self) (c.deref.ensures.value ∙ sym c.deref-2.ensures.value) room)

pub returns-clause-numbered : goal.returns-clause-numbered
returns-clause-numbered c =
    first_numbered c.args.entries.now c.deref-2.result.now c.begin.new.self.contacts.items c.make_all.new.self.contacts.items c.make_all.new.self.made.items (c.deref-2.ensures.value ∙ c.in_ok-note_fresh.ensures.noted) (c.begin.ensures.same.contacts ∙ c.reserve_for.ensures.same.contacts ∙ c.new-numbers.ensures.contacts)
    c.make_all.ensures.made c.make_all.ensures.book.once
