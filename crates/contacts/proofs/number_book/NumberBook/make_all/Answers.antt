use Rattle.std.proofs.Common.{List, length, take, sym, subst}
use Rattle.std.proofs.lemmas.List.{take_more}
use Rattle.contacts.specs.declared.number_book.NumberedContact.{NumberedContact}
use Rattle.contacts.specs.NumberChanges.{HaveMade}
use Rattle.contacts.proofs.NumberPartLaws.{bound_on, can_make, made_on, room_on}
use Rattle.contacts.proofs.number_book.NumberBook.make_all.Goals as goal

pub make-requires-clause-can : goal.make-requires-clause-can
make-requires-clause-can c = let i = c.loop-place.invariant in can_make c.args.contacts.now c.loop-place.place _ c.args.self.now c.loop-place.self c.loop-place.self.made.items c.requires.can c.loop-place-test.true i.0 i.1.1.1.1

pub loop-place-preserved : goal.loop-place-preserved
loop-place-preserved c =
    let cs = c.args.contacts.now in
    let place = c.loop-place.place in
    let i = c.loop-place.invariant in
    let e = c.make.ensures.made in (
      subst (λ (l : List NumberedContact). HaveMade l c.args.self.now.contacts.items c.make.new.self.contacts.items c.make.new.self.made.items) (sym (take_more cs place _ c.loop-place-test.true))
          (made_on (take place cs) _ c.make.result c.args.self.now.contacts.items c.loop-place.self c.make.new.self i.0 e),
      (
        e.gone,
        (
          bound_on _ c.make.result (length cs) place c.args.self.now c.loop-place.self c.make.new.self e c.loop-place-test.true i.1.1.0,
          (
            c.make.ensures.book,
            λ slots r. room_on _ c.make.result (length cs) place slots c.loop-place.self c.make.new.self e c.loop-place-test.true (i.1.1.1.1 slots r),
          ),
        ),
      ),
    )
