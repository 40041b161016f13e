use Rattle.std.proofs.Common.{◌<◌, ◌≤◌, length, rules}
use Rattle.part_runs.specs.Hidden.{part_at}
use Rattle.part_solver.specs.Parts.{run_at}
use Rattle.part_solver.proofs.ReadLaws.{read_all, read_body}
use Rattle.part_solver.proofs.back.read_bodies.Goals as goal

pub loop-slot-preserved : goal.loop-slot-preserved
loop-slot-preserved c =
    let first = c.args.states.now.items in
    let i = c.loop-slot.slot in
    let here : i < length first = search rules in
    record {
      done = λ now back long.
          read_body (part_at c.args.home.now) (λ k. (run_at c.args.parts.now k).states) first now c.loop-slot.states.items i c.source-part.result c.part_at.result c.index.result.now c.body_in.result here long back (c.loop-slot.invariant.done now back long) c.index.ensures c.part_at.ensures c.source-part.ensures c.body_in.ensures;
      long = search rules;
    }

pub returns : goal.returns
returns c = λ now back long.
    let first = c.args.states.now.items in
    let inside : length first ≤ c.loop-slot.slot = search rules in
    read_all first now c.loop-slot.states.items c.loop-slot.slot inside long (c.loop-slot.invariant.done now back long)
