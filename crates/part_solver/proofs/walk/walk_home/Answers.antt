use Rattle.std.proofs.Common.{List, ℕ, get_or, take, arith, sym, subst, ◌∙◌}
use Rattle.std.proofs.lemmas.List.{take_more}
use Rattle.part_runs.specs.Walks.{setting_out, walk_home}
use Rattle.part_solver.specs.Walking.{IsOnward}
use Rattle.part_solver.proofs.WalkSteps.{home_onward}
use Rattle.part_solver.proofs.walk.walk_home.Goals as goal

pub loop-place-preserved : goal.loop-place-preserved
loop-place-preserved c =
    let slots = c.args.awake.now in
    let i = c.loop-place.place in
    let home = c.args.homes.home.now in
    let k = c.args.homes.number in
    let known = c.loop-place.invariant in
    let now = c.fetch.new in
    record {
      onward =
          subst (λ (l : List ℕ). IsOnward k (walk_home home l (setting_out c.args.at.now.items)) now.at.items c.args.moves.now.items now.moves.items) (sym (take_more slots i 0 c.loop-place-test.true))
          (home_onward k home (take i slots) (get_or slots i 0) c.part_at-home.result c.args.at.now.items c.loop-place.at.items now.at.items c.args.moves.now.items c.loop-place.moves.items now.moves.items c.part_at-home.ensures known.onward c.fetch.ensures.onward);
      room = c.fetch.ensures.room ∙ known.room;
      few = omega (arith, c.fetch.ensures.few, known.few);
    }
