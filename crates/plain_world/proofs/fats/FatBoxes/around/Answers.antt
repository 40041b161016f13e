use Rattle.std.proofs.Common.{◌≡◌, take}
use Rattle.std.proofs.lemmas.List.{take_all}
use Rattle.plain_world.proofs.BoxLemmas.{made_boxes}
use Rattle.plain_world.proofs.fats.FatBoxes.around.Goals as goal

pub returns-clause-fat : goal.returns-clause-fat
returns-clause-fat c =
    let all : take c.loop-def.def-index c.args.defs.now ≡ c.args.defs.now = take_all c.loop-def.def-index c.args.defs.now c.loop-def-test.false in
    rw (c.loop-def.invariant, all) (made_boxes c.args.defs.now c.args.pose c.requires.defs c.requires.pose)
