use Rattle.contacts.proofs.PairPieceLaws.{shown_is}
use Rattle.contacts.proofs.pair_pieces.evaluated_of.Goals as goal

pub returns : goal.returns
returns c = shown_is c.contacts_of_pairs.result c.args.old.now c.args.proxies.now c.args.near.now c.contacts_of_pairs.ensures.now c.contacts_of_pairs.ensures.made c.contacts_of_pairs.ensures.begin
