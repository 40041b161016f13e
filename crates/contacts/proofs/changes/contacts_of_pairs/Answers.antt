use Rattle.std.proofs.Common.{◌≡◌, ◌∙◌, ap, sym, get_or}
use Rattle.std.specs.Option.{option_copied}
use Rattle.contacts_base.specs.Contacts.{lookup}
use Rattle.contacts.specs.Pairs.{pair_key}
use Rattle.contacts.proofs.ChangeLemmas.{contacts_step, not_in_step, touching_step, pair_entry_key}
use Rattle.contacts.proofs.PairPieceLaws.{not_longer, one_longer, still_room}
use Rattle.contacts.proofs.changes.contacts_of_pairs.Goals as goal

pub loop-code-preserved : goal.loop-code-preserved
loop-code-preserved c =
    let old = c.args.old.now in
    let ps = c.args.proxies.now in
    let before = option_copied c.find_next-before.result in
    let e = c.pair_entry-entry.result in
    let code = get_or c.args.near.now c.loop-code.code-index 0 in
    let key : e.key ≡ pair_key ps code = ap (λ x. x.key) c.pair_entry-entry.ensures ∙ pair_entry_key ps code before in
    let there : before ≡ lookup old (pair_key ps code) = rw c.key_at-key.ensures at c.find_next-before.ensures in
    let same : before ≡ lookup old e.key = there ∙ ap (lookup old) (sym key) in
    let now = rw c.pair_entry-entry.ensures at c.push_reserved.ensures.items in
    let pushed = rw c.key_unless.ensures at c.push_key_within.ensures.pushed in
    let begun = rw c.key_if_new.ensures at c.push_key_within-in-loop-code.ensures.pushed in
    record {
      now = contacts_step old ps c.args.near.now c.loop-code.code-index before _ _ c.loop-code-test.true there c.loop-code.invariant.now now;
      made = not_in_step old c.loop-code.now.items _ e before _ _ c.push_reserved.ensures.items same c.loop-code.invariant.made pushed;
      begin = touching_step old c.loop-code.now.items _ e before _ _ c.push_reserved.ensures.items same c.loop-code.invariant.begin begun;
      now_long = one_longer _ _ _ c.push_reserved.ensures.len c.loop-code.invariant.now_long;
      made_long = not_longer _ _ _ c.push_key_within.ensures.long c.loop-code.invariant.made_long;
      begin_long = not_longer _ _ _ c.push_key_within-in-loop-code.ensures.long c.loop-code.invariant.begin_long;
      now_room = still_room _ _ _ c.push_reserved.ensures.capacity c.loop-code.invariant.now_room;
      made_room = still_room _ _ _ c.push_key_within.ensures.capacity c.loop-code.invariant.made_room;
      begin_room = still_room _ _ _ c.push_key_within-in-loop-code.ensures.capacity c.loop-code.invariant.begin_room;
    }
