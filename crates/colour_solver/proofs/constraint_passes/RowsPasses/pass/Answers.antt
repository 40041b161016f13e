use Rattle.colour_solver.specs.declared.phase.Phase.TheVariants.{Bounce, Solve, Warm}
use Rattle.colour_solver.proofs.StillLaws.{colours_passed}
use Rattle.colour_solver.proofs.constraint_passes.RowsPasses.pass.Goals as goal

pub returns-in-Warm-clause-colours : goal.returns-in-Warm-clause-colours
returns-in-Warm-clause-colours c =
    let made = c.pass in
    colours_passed Warm c.args.states.now.items made.new.states.items c.args.self.now made.new.self made.ensures.same made.ensures.colours made.ensures.rows c.requires.colours

pub returns-in-Solve-clause-colours : goal.returns-in-Solve-clause-colours
returns-in-Solve-clause-colours c =
    let made = c.pass-in-Solve in
    colours_passed Solve c.args.states.now.items made.new.states.items c.args.self.now made.new.self made.ensures.same made.ensures.colours made.ensures.rows c.requires.colours

pub returns-in-Bounce-clause-colours : goal.returns-in-Bounce-clause-colours
returns-in-Bounce-clause-colours c =
    let made = c.pass-in-Bounce in
    colours_passed Bounce c.args.states.now.items made.new.states.items c.args.self.now made.new.self made.ensures.same made.ensures.colours made.ensures.rows c.requires.colours
