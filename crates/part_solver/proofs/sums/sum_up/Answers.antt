use Rattle.std.proofs.Common.{[], ap, ◌∙◌, subst}
use Rattle.colour_solver.specs.Ticks.{start}
use Rattle.part_runs.specs.Runs.{IsInRange}
use Rattle.part_solver.specs.Parts.{Solved, run_at}
use Rattle.part_solver.proofs.ReadLaws.{below_more, there_is}
use Rattle.part_solver.proofs.SumSteps.{AreBoth, sum_more, sums_grown}
use Rattle.part_solver.proofs.sums.sum_up.Goals as goal

pub loop-number-preserved : goal.loop-number-preserved
loop-number-preserved c =
    let parts = c.args.parts.now in
    let i = c.loop-number.number in
    let known = c.loop-number.invariant in
    let made = c.sums.ensures in
    let here = there_is parts i c.index-parts-number.result c.index-parts-number.result (record { number = 0; run = start [] [] }) c.loop-number-test.true c.index-parts-number.is in
    let joined : AreBoth c.loop-number.sums c.sums.result c.both-sums.result = record { gravity = c.both-sums.ensures.gravity; immovable = c.both-sums.ensures.immovable; clamp = c.both-sums.ensures.clamp } in
    record {
      gravity = sum_more i (λ k. (run_at parts k).gravity) _ _ _ joined.gravity known.gravity (made.gravity ∙ ap (λ (s : Solved). s.run.gravity) here);
      immovable = sum_more i (λ k. (run_at parts k).immovable) _ _ _ joined.immovable known.immovable (made.immovable ∙ ap (λ (s : Solved). s.run.immovable) here);
      clamp = sum_more i (λ k. (run_at parts k).clamp) _ _ _ joined.clamp known.clamp (made.clamp ∙ ap (λ (s : Solved). s.run.clamp) here);
      ranges = below_more (λ k. IsInRange (run_at parts k)) i known.ranges (subst (λ (s : Solved). IsInRange s.run) here made.range);
      small = sums_grown i c.loop-number.sums c.sums.result c.both-sums.result joined known.small made.small;
    }
