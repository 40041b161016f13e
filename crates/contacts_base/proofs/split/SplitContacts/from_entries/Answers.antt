use Rattle.std.proofs.Common.{◌≡◌, length, arith}
use Rattle.std.proofs.lemmas.Grind.{common_steps}
use Rattle.contacts_base.specs.ShortLists.{counted_in}
use Rattle.contacts_base.proofs.SplitLaws.{made_contacts, made_split}
use Rattle.contacts_base.proofs.split.SplitContacts.from_entries.Goals as goal

pub invariant_of-result : goal.invariant_of-result
invariant_of-result c =
    let len : c.len.result ≡ length c.args.entries.items = grind (arith, common_steps) in
    made_split c.args.entries.items c.in_ok-over.over (counted_in c.new.result) c.len.result c.requires len c.in_ok-over.ensures.value c.new.ensures

pub returns-clause-contacts : goal.returns-clause-contacts
returns-clause-contacts c = made_contacts c.args.entries.items c.in_ok-over.over (counted_in c.new.result) c.len.result c.requires c.in_ok-over.ensures.value c.new.ensures
