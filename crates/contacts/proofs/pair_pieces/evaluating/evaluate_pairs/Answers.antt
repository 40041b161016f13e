use Rattle.contacts.proofs.PairPieceLaws.{are_contacts, shown_begin, shown_made, shown_now}
use Rattle.contacts.proofs.pair_pieces.evaluating.evaluate_pairs.Goals as goal

pub returns-clause-now : goal.returns-clause-now
returns-clause-now g c = shown_now c.in_ok-present.present c.args.old.now.long c.args.proxies.now.items c.args.near.now.items c.in_ok-present.ensures.present

pub returns-clause-contacts : goal.returns-clause-contacts
returns-clause-contacts g c = are_contacts c.in_ok-present.present c.args.old.now.long c.args.proxies.now.items c.args.near.now.items c.requires.old c.requires.proxies c.requires.near c.in_ok-present.ensures.present

pub returns-clause-made : goal.returns-clause-made
returns-clause-made g c = shown_made c.in_ok-present.present c.args.old.now.long c.args.proxies.now.items c.args.near.now.items c.in_ok-present.ensures.present

pub returns-clause-begin : goal.returns-clause-begin
returns-clause-begin g c = shown_begin c.in_ok-present.present c.args.old.now.long c.args.proxies.now.items c.args.near.now.items c.in_ok-present.ensures.present
