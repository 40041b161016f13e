use Rattle.std.proofs.Common.{◌++◌, ◌∙◌, ◌∷◌, [], ap, sym, take}
use Rattle.contacts_base.specs.declared.contact.ContactEntry.{ContactEntry}
use Rattle.std.proofs.lemmas.List.{take_more}
use Rattle.std.specs.Option.{option_copied}
use Rattle.contacts.proofs.ChangeLemmas.{not_in_step, touching_step}
use Rattle.contacts.proofs.changes.lost_keys.Goals as goal

pub loop-entry-preserved : goal.loop-entry-preserved
loop-entry-preserved c =
    let after = option_copied c.find_next-after.result in
    let more = take_more c.args.old.now c.loop-entry.entry-index _ c.loop-entry-test.true ∙ ap (λ (e : ContactEntry). take c.loop-entry.entry-index c.args.old.now ++ e ∷ []) (sym c.entry-item.is) in
    let pushed = rw c.key_unless.ensures at c.in_ok-push_key.ensures.pushed in
    let ended = rw c.key_if_new.ensures at c.in_ok-push_key-2.ensures.pushed in
    record {
      gone = not_in_step c.args.now.now (take c.loop-entry.entry-index c.args.old.now) _ c.entry-item.result after _ _ more c.find_next-after.ensures c.loop-entry.invariant.gone pushed;
      end = touching_step c.args.now.now (take c.loop-entry.entry-index c.args.old.now) _ c.entry-item.result after _ _ more c.find_next-after.ensures c.loop-entry.invariant.end ended;
    }
