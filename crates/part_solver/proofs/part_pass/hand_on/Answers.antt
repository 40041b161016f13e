use Rattle.std.proofs.Common.{◌≡◌, [], get_or, length, refl, arith}
use Rattle.colour_solver.specs.ColourRows.{cut}
use Rattle.part_solver.proofs.PassSteps.{handed_lists, handed_posted, may_hand_on, stage_moves, stages_end}
use Rattle.part_solver.proofs.part_pass.hand_on.Goals as goal

pub moves_of-moves-requires-clause-ends : goal.moves_of-moves-requires-clause-ends
moves_of-moves-requires-clause-ends g c = rw (c.as_slice.ensures.value, c.as_slice-2.ensures.value) c.requires.before.sound.walk.ends

pub moves_of-moves-requires-clause-stage : goal.moves_of-moves-requires-clause-stage
moves_of-moves-requires-clause-stage g c =
    let many = stages_end c.args.step.now c.args.turn.number c.args.lists.now c.requires.before.sound.walk in
    rw c.as_slice-2.ensures.value (omega (arith, many, c.requires.stage))

pub exchange-requires-clause-allowed : goal.exchange-requires-clause-allowed
exchange-requires-clause-allowed g c =
    let t = c.args.step.now in
    let i = c.args.stage.index in
    let l = c.args.lists.now in
    let moves = c.moves_of-moves.result.now in
    let is : moves ≡ get_or (cut 0 l.ends.items l.moves.items) i [] = rw (c.as_slice.ensures.value, c.as_slice-2.ensures.value) at c.moves_of-moves.ensures in
    may_hand_on t (length c.args.ports.now.outs) c.args.turn.number c.args.turn.tick c.args.stage.phase i l c.args.ports.now moves c.know_pass.ensures c.requires.stage c.requires.before c.requires.posted
    (stage_moves t c.args.turn.number i l moves c.requires.before.sound.walk c.requires.stage is) c.own_moves_tell.ensures

pub returns-clause-handed : goal.returns-clause-handed
returns-clause-handed g c =
    let t = c.args.step.now in
    let i = c.args.stage.index in
    let l = c.args.lists.now in
    let moves = c.moves_of-moves.result.now in
    let is : moves ≡ get_or (cut 0 l.ends.items l.moves.items) i [] = rw (c.as_slice.ensures.value, c.as_slice-2.ensures.value) at c.moves_of-moves.ensures in
    let walk = c.requires.before.sound.walk in
    handed_lists t (length c.args.ports.now.outs) c.args.turn.number c.args.turn.tick c.args.stage.phase i l c.args.ports.now moves c.know_pass.ensures c.requires.stage c.requires.before c.requires.posted
    (stage_moves t c.args.turn.number i l moves walk c.requires.stage is) c.own_moves_tell.ensures c.exchange.new.states.items c.exchange.new.ports c.exchange.ensures _ c.bodies_are_hidden.ensures refl refl
    (record { awake = walk.awake; carried = walk.carried; moves = walk.moves; ends = walk.ends })

pub returns-clause-posted : goal.returns-clause-posted
returns-clause-posted g c =
    let t = c.args.step.now in
    let i = c.args.stage.index in
    let l = c.args.lists.now in
    let moves = c.moves_of-moves.result.now in
    let is : moves ≡ get_or (cut 0 l.ends.items l.moves.items) i [] = rw (c.as_slice.ensures.value, c.as_slice-2.ensures.value) at c.moves_of-moves.ensures in
    handed_posted t (length c.args.ports.now.outs) c.args.turn.number c.args.turn.tick c.args.stage.phase i l c.args.ports.now moves c.know_pass.ensures c.requires.stage c.requires.before c.requires.posted
    (stage_moves t c.args.turn.number i l moves c.requires.before.sound.walk c.requires.stage is) c.own_moves_tell.ensures c.exchange.new.states.items c.exchange.new.ports c.exchange.ensures
