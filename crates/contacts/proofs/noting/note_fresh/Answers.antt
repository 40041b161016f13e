use Rattle.contacts.specs.Numbered.{numbered_of}
use Rattle.contacts.proofs.NotingLaws.{map_step}
use Rattle.contacts.proofs.noting.note_fresh.Goals as goal

pub loop-place-preserved : goal.loop-place-preserved
loop-place-preserved c = map_step numbered_of c.args.entries.now c.loop-place.place c.index-entries-place.result _ _ _ _ c.loop-place-test.true c.index-entries-place.is c.numbered.ensures c.loop-place.invariant c.in_ok-push.ensures.items
