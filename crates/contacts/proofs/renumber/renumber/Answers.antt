use Rattle.std.proofs.Common.{◌≢◌, ℕ, List, Option, Some, sym, subst}
use Rattle.contacts.specs.declared.number_book.NumberedContact.{NumberedContact}
use Rattle.contacts.specs.Numbered.{AreNumbered, number_key_at}
use Rattle.contacts.specs.NumberBooks.{gone_of}
use Rattle.contacts.proofs.NumberChangeLaws.{change_numbered, change_turnover, nothing_done, parts_done, touched_absent}
use Rattle.contacts.proofs.renumber.renumber.Goals as goal

pub make_all-requires-clause-can : goal.make_all-requires-clause-can
make_all-requires-clause-can c =
    let r = c.requires.room c.if-pending.true in
    let first = c.set_all_touching.ensures in
    let second = c.set_all_touching-then-pending.ensures in
    rw c.deref-then-pending-2.ensures.value (record {
      room = record { slots = r.slots; below = r.below; room = second.room _ r.slots (first.room _ r.slots (c.begin.ensures.room _ r.slots r.room)) };
      rising = c.requires.rising;
      absent = λ d h. touched_absent _ _ _ _ d.key second.touched (touched_absent _ _ _ _ d.key first.touched (subst (λ (l : List (Option NumberedContact)). (number : ℕ) → number_key_at l number ≢ Some d.key) (sym c.begin.ensures.same.contacts) (c.requires.absent d h)));
    })

pub returns-then-pending-clause-change : goal.returns-then-pending-clause-change
returns-then-pending-clause-change c = λ old new are change.
    let p = c.args.pending.now in
    change_numbered old new p.made.items p.gone.items p.begin.items p.end.items c.args.numbers.now.contacts.items c.set_all_touching.new.self.contacts.items c.set_all_touching-then-pending.new.self.contacts.items c.make_all.new.self.contacts.items c.end_all.new.self.contacts.items c.end_all.new.self.made.items (gone_of c.end_all.new.self) are change
    (parts_done _ _ _ _ _ _ _ _ _ _ _ _ _ _ _ _ _ c.deref.ensures.value c.deref-then-pending.ensures.value c.deref-then-pending-3.ensures.value c.deref-then-pending-2.ensures.value c.begin.ensures.same.contacts c.end_all.ensures.made
    c.set_all_touching.ensures.touched c.set_all_touching-then-pending.ensures.touched c.make_all.ensures.made c.end_all.ensures.gone c.end_all.ensures.book.once)

pub returns-then-pending-clause-turnover : goal.returns-then-pending-clause-turnover
returns-then-pending-clause-turnover c = λ old new are change.
    let p = c.args.pending.now in
    change_turnover old new p.made.items p.gone.items p.begin.items p.end.items c.args.numbers.now.contacts.items c.set_all_touching.new.self.contacts.items c.set_all_touching-then-pending.new.self.contacts.items c.make_all.new.self.contacts.items c.end_all.new.self.contacts.items c.end_all.new.self.made.items (gone_of c.end_all.new.self) change
    (parts_done _ _ _ _ _ _ _ _ _ _ _ _ _ _ _ _ _ c.deref.ensures.value c.deref-then-pending.ensures.value c.deref-then-pending-3.ensures.value c.deref-then-pending-2.ensures.value c.begin.ensures.same.contacts c.end_all.ensures.made
    c.set_all_touching.ensures.touched c.set_all_touching-then-pending.ensures.touched c.make_all.ensures.made c.end_all.ensures.gone c.end_all.ensures.book.once)

pub returns-else-pending-clause-change : goal.returns-else-pending-clause-change
returns-else-pending-clause-change c = λ old new are change.
    let p = c.args.pending.now in
    let idle = c.requires.idle c.if-pending.false in
    let n = c.args.numbers.now.contacts.items in
    subst (λ (l : List (Option NumberedContact)). AreNumbered new l) (sym c.begin.ensures.same.contacts)
    (change_numbered old new p.made.items p.gone.items p.begin.items p.end.items n n n n n _ _ are change (nothing_done p.begin.items p.end.items p.gone.items p.made.items n idle.begin idle.end idle.gone idle.made are.once))
