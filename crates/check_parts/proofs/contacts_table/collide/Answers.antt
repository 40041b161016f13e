use Rattle.std.proofs.Common.{◌∙◌, subst}
use Rattle.std.specs.Option.{option_to_list}
use Rattle.contacts_base.specs.Proxies.{IsProxyList}
use Rattle.check_parts.proofs.SceneLaws.{nothing_known, pairs_after, shown_of, within_shown}
use Rattle.check_parts.proofs.contacts_table.collide.Goals as goal

pub invariant_of-scene : goal.invariant_of-scene
invariant_of-scene c = shown_of c.args.shapes c.proxies.result.now _ c.proxies.ensures.value c.proxies.ensures.list c.in_ok-slots.ensures

pub collide-requires-clause-within : goal.collide-requires-clause-within
collide-requires-clause-within c = within_shown c.args.shapes c.proxies.result.now _ _ c.proxies.ensures.value c.proxies.ensures.list c.in_ok-slots.ensures c.in_ok-marks.ensures.marked

pub collide-requires-clause-known : goal.collide-requires-clause-known
collide-requires-clause-known c = nothing_known _ _ _ _ c.in_ok-marks.ensures.marked c.requires.pairs

pub returns : goal.returns
returns c = record { pairs = pairs_after (option_to_list c.args.forbidden.pair) c.args.shapes c.args.contacts.now.contacts _ (subst IsProxyList c.proxies.ensures.value c.proxies.ensures.list) (c.commit_pending.ensures.contacts ∙ c.in_ok-touches.ensures.pending) }
