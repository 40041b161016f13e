use Rattle.std.proofs.Common.{slice_index_or}
use Rattle.std.proofs.lemmas.List.{get_or_default}
use Rattle.world_core.proofs.ClearedLaws.{cleared_all, cleared_more, cleared_none}
use Rattle.world_core.proofs.sleep_test.clear_flags.Goals as goal

pub loop-place-init : goal.loop-place-init
loop-place-init c = cleared_none c.args.awake.now _

pub loop-place-preserved : goal.loop-place-preserved
loop-place-preserved c =
    cleared_more c.args.awake.now c.loop-place.flags.items c.clear_flag.new.flags.items c.loop-place.place (slice_index_or c.args.awake.now c.loop-place.place 0) (λ d. get_or_default c.args.awake.now c.loop-place.place d 0 c.loop-place-test.true) c.clear_flag.ensures c.loop-place.invariant

pub returns : goal.returns
returns c = cleared_all c.args.awake.now c.loop-place.flags.items c.loop-place.place c.loop-place-test.false c.loop-place.invariant
