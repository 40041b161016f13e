use Rattle.std.proofs.Common.{◌-◌, List, drop, arith, sym, subst, ◌∙◌}
use Rattle.contacts_base.specs.declared.key.ContactKey.{ContactKey}
use Rattle.contacts.specs.NumberChanges.{HaveTouched}
use Rattle.contacts.proofs.NumberPartLaws.{drop_back, touched_more}
use Rattle.contacts.proofs.number_book.NumberBook.set_all_touching.Goals as goal

pub loop-left-preserved : goal.loop-left-preserved
loop-left-preserved c =
    let keys = c.args.keys.now in
    let left = c.loop-left.left in
    let i = c.loop-left.invariant in
    let e = c.set_touching-guess.ensures in (
      subst (λ (l : List ContactKey). HaveTouched l c.args.touching c.args.self.now.contacts.items c.set_touching-guess.new.self.contacts.items) (sym (drop_back keys left (left - 1) _ (omega (arith, c.loop-left-test.true)) (omega (arith, c.loop-left-test.true, i.1.1.1.1.1.1))))
          (touched_more (drop left keys) _ c.args.touching c.args.self.now.contacts.items c.loop-left.self.contacts.items c.set_touching-guess.new.self.contacts.items i.0 e.touched),
      (
        e.made ∙ i.1.0,
        (
          e.gone ∙ i.1.1.0,
          (
            e.book,
            (
              λ added. e.bound added ∙ i.1.1.1.1.0 added,
              (
                λ added slots r. e.room added slots (i.1.1.1.1.1.0 added slots r),
                omega (arith, i.1.1.1.1.1.1),
              ),
            ),
          ),
        ),
      ),
    )
