use Rattle.solver_sets.specs.Beside.{timers_of}
use Rattle.world_core.specs.Quiet.{HasFlagged}
use Rattle.world_core.proofs.MovingBeside.{keep_flags}
use Rattle.world_core.proofs.QuietSteps.{busy_keeps_up, flagged_first, flagged_keep_up, short_timers_agree}
use Rattle.world_core.proofs.sleep_test.are_kept_up.Goals as goal

pub returns-then-are_busy : goal.returns-then-are_busy
returns-then-are_busy c = λ e. busy_keeps_up c.args.activity.now.sets.acting.labels c.args.activity.now.bodies.bodies c.args.constraints.now.joints.joints c.args.constraints.now.contacts.contacts c.requires.tied c.requires.told (rw c.bodies-bodies.ensures at (c.are_busy.ensures c.if-are_busy.true))

pub returns : goal.returns
returns c = λ e.
    let labels = c.args.activity.now.sets.acting.labels in
    let bodies = c.args.activity.now.bodies.bodies in
    let joints = c.args.constraints.now.joints.joints in
    let contacts = c.args.constraints.now.contacts.contacts in
    let timers = timers_of bodies joints contacts in
    let awake = c.awake-awake.result.now in
    let first : HasFlagged awake labels timers c.clear_flags.new.flags.items = flagged_first awake labels timers c.clear_flags.new.flags.items c.clear_flags.ensures in
    let second : HasFlagged awake labels timers c.flag_all.new.flags.items = (rw (c.bodies-bodies.ensures, c.islands-islands.ensures) at c.flag_all.ensures) awake timers (short_timers_agree bodies joints contacts) first in
    let third : HasFlagged awake labels timers c.flag_beside.new.flags.items = (rw (c.bodies-bodies.ensures, c.islands-islands.ensures) at c.flag_beside.ensures) awake timers (keep_flags labels bodies joints contacts c.requires.tied) second in
    flagged_keep_up labels bodies awake timers c.flag_beside.new.flags.items c.awake-awake.ensures c.requires.tied c.requires.told third (rw (c.deref.ensures.value, c.islands-islands.ensures) at (c.are_flagged.ensures e))
