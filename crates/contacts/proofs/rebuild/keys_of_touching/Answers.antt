use Rattle.std.proofs.Common.{None}
use Rattle.contacts_base.specs.Changes.{key_if_new}
use Rattle.contacts.proofs.FateLemmas.{keys_step}
use Rattle.contacts.proofs.rebuild.keys_of_touching.Goals as goal

pub loop-place-preserved : goal.loop-place-preserved
loop-place-preserved c = keys_step (key_if_new None) c.args.fresh.now c.loop-place.place c.index-fresh-place.result _ _ _ _ c.loop-place-test.true c.index-fresh-place.is c.key_of_touching.ensures c.loop-place.invariant c.in_ok-push_key.ensures.pushed
