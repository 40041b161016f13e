use Rattle.std.proofs.Common.{true, ◌&&◌}
use Rattle.contacts.specs.Stirring.{one_flagged}
use Rattle.contacts.proofs.StirringLaws.{let_all_in, listed_step}
use Rattle.contacts.proofs.stirring_places.scan_places.Goals as goal

pub loop-place-preserved : goal.loop-place-preserved
loop-place-preserved c = listed_step (λ e. one_flagged c.args.flags.now e && true) c.args.entries.now c.loop-place.place c.index-entries-place.result _ _ _ _ _ c.loop-place-test.true c.index-entries-place.is (let_all_in c.args.flags.now c.index-entries-place.result c.is_one_flagged.result c.is_one_flagged.ensures) c.in_ok-push_place.ensures.pushed c.loop-place.invariant
