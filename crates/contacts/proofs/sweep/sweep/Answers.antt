use Rattle.contacts.proofs.DynamicLemmas.{others_in}
use Rattle.contacts.proofs.sweep.sweep.Goals as goal

pub push_met-requires-clause-others : goal.push_met-requires-clause-others
push_met-requires-clause-others c = others_in c.args.proxies.now c.args.starts.now c.loop-place.later.now c.after-later.result.now _ c.loop-place.place _ c.is_dynamic_at-is_dynamic.result c.requires.starts c.loop-place.invariant.later c.after-later.ensures c.either-others.ensures
