use Rattle.contacts.proofs.DroppingLaws.{IsDropped, all_dropped}
use Rattle.contacts.proofs.dropping.drop_of_body.Goals as goal
use Rattle.contacts.proofs.dropping.drop_of_body.Goals.{After-end_side-2}

-- what is left of the contacts and of the numbers
left : (c : After-end_side-2) → IsDropped c.args.slot c.args.contacts.now c.args.numbers.now.contacts.items c.end_side-2.new.contacts c.end_side-2.new.numbers
left c =
    all_dropped c.args.slot c.args.contacts.now c.end_side.new.contacts c.end_side-2.new.contacts c.args.numbers.now c.begin.new.self c.end_side.new.numbers c.end_side-2.new.numbers c.know_ascending.ensures.contacts.rising
    c.requires.numbered c.begin.ensures.same.contacts c.begin.ensures.made c.begin.ensures.gone
    (c.end_side.ensures.dropping c.args.contacts.now c.args.numbers.now.contacts.items) c.end_side.ensures.none (c.end_side-2.ensures.dropping c.args.contacts.now c.args.numbers.now.contacts.items) c.end_side-2.ensures.fewer c.end_side-2.ensures.none

pub returns-clause-contacts : goal.returns-clause-contacts
returns-clause-contacts c = (left c).contacts

pub returns-clause-numbered : goal.returns-clause-numbered
returns-clause-numbered c = (left c).are

pub returns-clause-turnover : goal.returns-clause-turnover
returns-clause-turnover c = (left c).turnover

pub returns-clause-none : goal.returns-clause-none
returns-clause-none c = (left c).none

pub returns-clause-keys : goal.returns-clause-keys
returns-clause-keys c = (left c).keys
