use Rattle.std.proofs.Common.{◌*◌, ◌^◌, length, map, arith, ap, sym, subst, ◌∙◌, add-one}
use Rattle.colour_solver.specs.States.{as_vector, total}
use Rattle.colour_solver.specs.ColourRows.{all_rows}
use Rattle.colour_solver.specs.ConstraintVisits.{constraint_slots, is_joint}
use Rattle.colour_solver.specs.Phases.{constraint_visit}
use Rattle.colour_solver.specs.declared.phase.Phase.TheVariants.{Bounce}
use Rattle.colour_solver.specs.Ticks.{Run, added, start, tick}
use Rattle.colour_solver.proofs.CourseLaws.{beside_on, beside_same, carried_beside, courses_same, movers_beside}
use Rattle.colour_solver.proofs.SlotLaws.{passed_same, ticks_kinds, visit_kind}
use Rattle.colour_solver.proofs.TickLaws.{carried_on, last_added}
use Rattle.colour_solver.proofs.ticks.run_ticks.Goals as goal

pub tick-sums-requires-clause-awake : goal.tick-sums-requires-clause-awake
tick-sums-requires-clause-awake g c = c.requires.awake ∙ sym (movers_beside c.args.states.now.items c.loop-index.states.items c.loop-index.invariant.same)

pub tick-sums-requires-clause-carried : goal.tick-sums-requires-clause-carried
tick-sums-requires-clause-carried g c = c.requires.carried ∙ sym (carried_beside c.args.states.now.items c.loop-index.states.items c.loop-index.invariant.same)

pub loop-index-preserved : goal.loop-index-preserved
loop-index-preserved g c =
    let known = c.loop-index.invariant in
    let made = c.tick-sums.ensures in
    let grown = made.grown (c.loop-index.index * (3 * 2 ^ 78)) known.small in
    record {
      run = rw add-one (made.tick ∙ ap (tick c.args.gravity) known.run);
      all_states = made.states;
      all_rows = made.rows;
      colours = made.colours ∙ known.colours;
      apart = made.apart;
      fits = λ n fits. made.fits n (known.fits n fits);
      long = made.long ∙ known.long;
      same = beside_on c.args.states.now.items c.loop-index.states.items c.tick-sums.new.states.items known.same made.same;
      courses = made.courses;
      small = record {
        gravity = record { x = omega (arith, grown.gravity.x); y = omega (arith, grown.gravity.y) };
        immovable = record { x = omega (arith, grown.immovable.x); y = omega (arith, grown.immovable.y) };
        clamp = record { x = omega (arith, grown.clamp.x); y = omega (arith, grown.clamp.y) };
      };
      momentum =
          carried_on (total c.tick-sums.new.states.items) (total c.loop-index.states.items) (total c.args.states.now.items) (added c.loop-index.sums) (added c.tick-sums.result) made.momentum known.momentum;
    }

pub returns-clause-momentum : goal.returns-clause-momentum
returns-clause-momentum g c =
    let sums = c.loop-index.sums in
    rw (c.plus.ensures.x, c.plus.ensures.y)
    (last_added (total c.pass-bounced.new.states.items) (total c.loop-index.states.items) (total c.args.states.now.items) (as_vector sums.gravity) (as_vector sums.immovable) (as_vector sums.clamp) (as_vector c.pass-bounced.result)
    c.pass-bounced.ensures.momentum c.loop-index.invariant.momentum)

pub returns-clause-same : goal.returns-clause-same
returns-clause-same g c =
    beside_on c.args.states.now.items c.loop-index.states.items c.pass-bounced.new.states.items c.loop-index.invariant.same (beside_same c.loop-index.states.items c.pass-bounced.new.states.items c.pass-bounced.ensures.same)

pub returns-clause-courses : goal.returns-clause-courses
returns-clause-courses g c = courses_same c.loop-index.states.items c.pass-bounced.new.states.items c.pass-bounced.ensures.same c.loop-index.invariant.courses

pub tick-sums-requires-clause-fits : goal.tick-sums-requires-clause-fits
tick-sums-requires-clause-fits g c = let known = c.loop-index.invariant in known.fits (length c.loop-index.states.items) (subst (g.P.Passes.fits c.args.rows.now) (sym known.long) c.requires.fits)

pub pass-bounced-requires-clause-fits : goal.pass-bounced-requires-clause-fits
pass-bounced-requires-clause-fits g c = let known = c.loop-index.invariant in known.fits (length c.loop-index.states.items) (subst (g.P.Passes.fits c.args.rows.now) (sym known.long) c.requires.fits)

pub returns-clause-kinds : goal.returns-clause-kinds
returns-clause-kinds g c =
    let begun = start c.args.states.now.items (all_rows (g.P.Passes.rows c.args.rows.now)) in
    ap (map is_joint) c.pass-bounced.ensures.rows
    ∙ passed_same constraint_slots (constraint_visit Bounce) is_joint (visit_kind Bounce) c.loop-index.states.items (all_rows (g.P.Passes.rows c.loop-index.rows))
    ∙ ap (λ (r : Run). map is_joint r.rows) c.loop-index.invariant.run
    ∙ ticks_kinds c.loop-index.index c.args.gravity begun
