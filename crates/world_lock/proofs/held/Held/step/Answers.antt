use Rattle.std.proofs.Common.{rules}
use Rattle.std.specs.Int.{w64}
use Rattle.std.proofs.lemmas.Int.{to_z-of_z}
use mir.Val.{SFits}
use Rattle.world_lock.proofs.held.Held.step.Goals as goal

pub returns-clause-told : goal.returns-clause-told
returns-clause-told g c =
    let fits : SFits w64 c.args.ticks = search rules in
    simp to_z-of_z at c.call_by.ensures.told

pub returns-clause-reply : goal.returns-clause-reply
returns-clause-reply g c =
    let fits : SFits w64 c.args.ticks = search rules in
    simp to_z-of_z at c.call_by.ensures.reply

pub returns-clause-done : goal.returns-clause-done
returns-clause-done g c =
    let fits : SFits w64 c.args.ticks = search rules in
    simp to_z-of_z at c.call_by.ensures.done

pub returns-clause-refused : goal.returns-clause-refused
returns-clause-refused g c =
    let fits : SFits w64 c.args.ticks = search rules in
    simp to_z-of_z at c.call_by.ensures.refused
