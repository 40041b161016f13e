use Rattle.std.proofs.Common.{◌∙◌, drop}
use Rattle.solver_sets.specs.Merging.{merged}
use Rattle.solver_sets.proofs.MergeLaws.{merged_changes, merged_end}
use Rattle.solver_sets.proofs.changes.list_changes.Goals as goal

pub returns-clause-changes : goal.returns-clause-changes
returns-clause-changes c =
    c.in_ok-push_ends.ensures.pushed
    ∙ merged_end c.args.bodies.now c.args.begins.now (drop c.loop-key.place c.args.ends.now) c.loop-key.key-index c.loop-key.changes.items (merged c.args.bodies.now c.args.begins.now c.args.ends.now) c.loop-key-test.false c.loop-key.invariant.changes
    ∙ merged_changes c.args.bodies.now c.args.begins.now c.args.ends.now c.requires.begins c.requires.ends
