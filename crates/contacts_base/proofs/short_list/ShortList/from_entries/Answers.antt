use Rattle.contacts_base.proofs.SplitLaws.{none_counted}
use Rattle.contacts_base.proofs.short_list.ShortList.from_entries.Goals as goal

pub returns-clause-value : goal.returns-clause-value
returns-clause-value c = none_counted c.args.entries.items c.in_ok-over.over c.len.result c.in_ok-over.ensures.value
