use Rattle.std.proofs.Common.{[], ap, refl}
use Rattle.std.specs.Prelude.{option_map}
use Rattle.contacts_base.specs.Contacts.{lookup}
use Rattle.contacts.specs.Numbered.{numbered_of}
use Rattle.contacts.proofs.NotingLaws.{picks_step}
use Rattle.contacts.proofs.noting.note_made.Goals as goal

pub loop-index-preserved : goal.loop-index-preserved
loop-index-preserved c = picks_step (λ key. option_map numbered_of (lookup c.args.entries.now key)) c.args.keys.now c.loop-index.index _ _ _ [] _ _ c.loop-index-test.true refl (ap (option_map numbered_of) c.contact_at.ensures) c.loop-index.invariant c.in_ok-push_numbered.ensures.pushed
