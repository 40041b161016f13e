use Rattle.std.proofs.Common.{◌-◌, List, drop, arith, sym, subst, ◌∙◌}
use Rattle.contacts_base.specs.declared.key.ContactKey.{ContactKey}
use Rattle.contacts.specs.NumberBooks.{gone_of}
use Rattle.contacts.specs.NumberChanges.{HaveGone}
use Rattle.contacts.proofs.NumberPartLaws.{drop_back}
use Rattle.contacts.proofs.number_book.NumberBook.end_all.Goals as goal

pub loop-left-preserved : goal.loop-left-preserved
loop-left-preserved c =
    let keys = c.args.keys.now in
    let left = c.loop-left.left in
    let i = c.loop-left.invariant in
    let e = c.end.ensures in (
      subst (λ (l : List ContactKey). HaveGone l c.args.self.now.contacts.items c.end.new.self.contacts.items (gone_of c.end.new.self)) (sym (drop_back keys left (left - 1) _ (omega (arith, c.loop-left-test.true)) (omega (arith, c.loop-left-test.true, i.1.1.1))))
          (e.gone c.args.self.now.contacts.items (drop left keys) i.0),
      (
        e.made ∙ i.1.0,
        (
          e.book,
          omega (arith, i.1.1.1),
        ),
      ),
    )
