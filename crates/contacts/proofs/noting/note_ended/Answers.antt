use Rattle.std.proofs.Common.{refl}
use Rattle.std.specs.Prelude.{option_map, slice_get}
use Rattle.contacts_base.specs.declared.contact.ContactEntry.{ContactEntry}
use Rattle.contacts.proofs.NotingLaws.{picks_step}
use Rattle.contacts.proofs.noting.note_ended.Goals as goal

pub loop-index-preserved : goal.loop-index-preserved
loop-index-preserved c =
    picks_step (λ place. option_map (λ (e : ContactEntry). e.key) (slice_get c.args.entries.now place)) c.args.places.now c.loop-index.index _ _ _ c.args.gone.now.items _ _ c.loop-index-test.true refl c.key_at.ensures c.loop-index.invariant c.in_ok-push_key.ensures.pushed
