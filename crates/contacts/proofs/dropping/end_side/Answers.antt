use Rattle.std.proofs.Common.{sym, ◌∙◌}
use Rattle.contacts.proofs.DroppingLaws.{IsOnSide, dropping_step, ended_kept, first_on, none_on, one_less}
use Rattle.contacts.proofs.dropping.end_side.Goals as goal

pub loop-number-smaller : goal.loop-number-smaller
loop-number-smaller c =
    let one : IsOnSide c.args.side c.args.slot c.loop-number.numbers.contacts.items c.in-Some.number = first_on c.args.side c.args.slot c.loop-number.numbers c.in-Some.number c.loop-number.invariant.book (sym c.first_at.ensures ∙ c.in-Some.is) in
    one_less c.in-Some.number c.loop-number.numbers c.end_numbered.new.numbers (c.end_numbered.ensures.gone one.contact.key one.key) c.end_numbered.ensures.book

pub loop-number-preserved : goal.loop-number-preserved
loop-number-preserved c =
    let one : IsOnSide c.args.side c.args.slot c.loop-number.numbers.contacts.items c.in-Some.number = first_on c.args.side c.args.slot c.loop-number.numbers c.in-Some.number c.loop-number.invariant.book (sym c.first_at.ensures ∙ c.in-Some.is) in
    record {
      book = c.end_numbered.ensures.book;
      dropping = λ was numbered is.
          dropping_step c.args.slot was numbered c.loop-number.contacts c.end_numbered.new.contacts c.loop-number.numbers c.end_numbered.new.numbers c.in-Some.number one.contact one.at one.own (c.end_numbered.ensures.gone one.contact.key one.key) (c.end_numbered.ensures.over one.contact.key one.key)
          (c.loop-number.invariant.dropping was numbered is);
      fewer = λ y f at. c.loop-number.invariant.fewer y f (ended_kept c.in-Some.number c.loop-number.numbers c.end_numbered.new.numbers y f (c.end_numbered.ensures.gone one.contact.key one.key) at);
    }

pub returns-clause-none : goal.returns-clause-none
returns-clause-none c = none_on c.args.side c.args.slot c.loop-number.numbers c.loop-number.invariant.book (sym c.first_at.ensures ∙ c.in_default.is)
