use Rattle.std.proofs.Common.{ap, sym}
use Rattle.contacts.specs.Kept.{Kept}
use Rattle.contacts.proofs.KeptLaws.{ends_are, once_is}
use Rattle.contacts.proofs.contact_table.ContactTable.first_at.Goals as goal

pub returns-clause-ends : goal.returns-clause-ends
returns-clause-ends c =
    ends_are c.args.side c.args.slot c.args.self.now c.self.inside.numbers (ap (λ (k : Kept). k.firsts) (sym c.self.view_is)) (ap (λ (k : Kept). k.seconds) (sym c.self.view_is)) (ap (λ (k : Kept). k.numbered) (sym c.self.view_is)) c.self.invariant.book

pub returns-clause-once : goal.returns-clause-once
returns-clause-once c =
    once_is c.args.side c.args.slot c.args.self.now c.self.inside.numbers.ends (ap (λ (k : Kept). k.firsts) (sym c.self.view_is)) (ap (λ (k : Kept). k.seconds) (sym c.self.view_is)) c.know_once.ensures.firsts c.know_once.ensures.seconds
