use Rattle.std.proofs.Common.{◌^◌, ◌∙◌, sym, subst, length, arith}
use Rattle.momenta.specs.Motions.{pulled, speed_clamped, advanced}
use Rattle.colour_solver.specs.States.{as_vector, total}
use Rattle.colour_solver.specs.ColourRows.{all_rows}
use Rattle.colour_solver.specs.Ticks.{tick}
use Rattle.colour_solver.proofs.SameLaws.{same_four}
use Rattle.colour_solver.proofs.CourseLaws.{beside_carry, beside_on, beside_same, carried_beside, carried_long, courses-carry, courses_same, total-carry}
use Rattle.colour_solver.proofs.AwakeLaws.{movers_same}
use Rattle.colour_solver.proofs.StillLaws.{colours_beside, colours_same}
use Rattle.colour_solver.proofs.TickLaws.{long_after, one_more, rows_as_long, states_after, three_more, tick_adds, total-after, two_more}
use Rattle.colour_solver.proofs.VectorLaws.{same_x, same_y}
use Rattle.colour_solver.proofs.ticks.tick.Goals as goal

pub pass_two-fallen-requires-clause-fits : goal.pass_two-fallen-requires-clause-fits
pass_two-fallen-requires-clause-fits g c = λ slot s e moves.
    let state = c.requires.states slot s e in
    record { gravity = c.requires.gravity; mass = state.mass; motion = state.motion }

pub pass_two-fallen-requires-clause-small : goal.pass_two-fallen-requires-clause-small
pass_two-fallen-requires-clause-small g c = λ slot s e moves.
    let p = (c.requires.states slot s e).motion.p in
    record { x = omega (arith, p.x); y = omega (arith, p.y) }

pub pass-warm-requires-clause-states : goal.pass-warm-requires-clause-states
pass-warm-requires-clause-states g c =
    states_after (pulled c.args.gravity) speed_clamped c.args.states.now.items _ c.pass_two-fallen.ensures.states c.requires.states (λ slot s e moves. (c.pass_two-fallen.ensures.gives slot s e moves).motion)

pub pass-warm-requires-clause-rows : goal.pass-warm-requires-clause-rows
pass-warm-requires-clause-rows g c =
    rows_as_long (length c.pass_two-fallen.new.states.items) (length c.args.states.now.items) (all_rows (g.P.Passes.rows c.args.rows.now)) (long_after (pulled c.args.gravity) speed_clamped c.args.states.now.items c.pass_two-fallen.new.states.items c.pass_two-fallen.ensures.states) c.requires.rows

pub pass_two-moved-requires-clause-fits : goal.pass_two-moved-requires-clause-fits
pass_two-moved-requires-clause-fits g c = λ slot s e moves.
    let state = c.pass-solved.ensures.all_states slot s e in
    let m = state.motion in
    record { mass = state.mass; motion = record { p = record { x = omega (arith, m.p.x); y = omega (arith, m.p.y) }; l = m.l; still = m.still; x = m.x; facing = m.facing } }

pub pass_two-moved-requires-clause-small : goal.pass_two-moved-requires-clause-small
pass_two-moved-requires-clause-small g c = λ slot s e moves.
    let p = (c.pass-solved.ensures.all_states slot s e).motion.p in
    record { x = omega (arith, p.x); y = omega (arith, p.y) }

pub plus-clamp-requires-clause-first : goal.plus-clamp-requires-clause-first
plus-clamp-requires-clause-first g c = record {
  x = rw (c.plus-limited_again.ensures.x, c.plus-limited.ensures.x) (let small = two_more c.args.sums.clamp.x c.pass_two-fallen.result.second.x c.pass_two-moved.result.first.x (2 ^ 83) c.requires.sums.clamp.x c.pass_two-fallen.ensures.small_second.x c.pass_two-moved.ensures.small_first.x in omega (arith, small));
  y = rw (c.plus-limited_again.ensures.y, c.plus-limited.ensures.y) (let small = two_more c.args.sums.clamp.y c.pass_two-fallen.result.second.y c.pass_two-moved.result.first.y (2 ^ 83) c.requires.sums.clamp.y c.pass_two-fallen.ensures.small_second.y c.pass_two-moved.ensures.small_first.y in omega (arith, small));
}

pub returns-clause-tick : goal.returns-clause-tick
unfolding tick
returns-clause-tick g c =
    let fallen = c.pass_two-fallen in
    let warm = c.pass-warm in
    let solved = c.pass-solved in
    let moved = c.pass_two-moved in
    let pulls = fallen.ensures.first in
    let slows = fallen.ensures.second in
    let warms = warm.ensures.share in
    let solves = solved.ensures.share in
    let stops = moved.ensures.first in
    let edges = moved.ensures.second in
    rw (c.plus-pulled.ensures.x, c.plus-pulled.ensures.y, c.plus-immovable.ensures.x, c.plus-immovable.ensures.y, c.plus-warmed.ensures.x, c.plus-warmed.ensures.y, c.plus-clamp.ensures.x, c.plus-clamp.ensures.y, c.plus-limited_again.ensures.x, c.plus-limited_again.ensures.y, c.plus-limited.ensures.x, c.plus-limited.ensures.y)
    (rw (c.carry_along.ensures.value, moved.ensures.states, same_x stops, same_y stops, same_x edges, same_y edges)
    (rw (solved.ensures.states, solved.ensures.rows, same_x solves, same_y solves)
    (rw (warm.ensures.states, warm.ensures.rows, same_x warms, same_y warms)
    (rw (fallen.ensures.states, same_x pulls, same_y pulls, same_x slows, same_y slows)))))

pub carry_along-requires-clause-states : goal.carry_along-requires-clause-states
carry_along-requires-clause-states g c =
    states_after speed_clamped advanced c.pass-solved.new.states.items _ c.pass_two-moved.ensures.states c.pass-solved.ensures.all_states c.pass_two-moved.ensures.gives

pub returns-clause-rows : goal.returns-clause-rows
returns-clause-rows g c =
    rows_as_long (length c.carry_along.new.states.items) (length c.pass-solved.new.states.items) (all_rows (g.P.Passes.rows c.pass-solved.new.self)) (carried_long c.pass_two-moved.new.states.items c.carry_along.new.states.items c.carry_along.ensures.value ∙ long_after speed_clamped advanced c.pass-solved.new.states.items c.pass_two-moved.new.states.items c.pass_two-moved.ensures.states) c.pass-solved.ensures.all_rows

pub returns-clause-grown : goal.returns-clause-grown
returns-clause-grown g c = λ n h.
    let fallen = c.pass_two-fallen in
    let moved = c.pass_two-moved in
    record {
      gravity = record {
        x = rw c.plus-pulled.ensures.x (one_more c.args.sums.gravity.x fallen.result.first.x n h.gravity.x fallen.ensures.small_first.x);
        y = rw c.plus-pulled.ensures.y (one_more c.args.sums.gravity.y fallen.result.first.y n h.gravity.y fallen.ensures.small_first.y);
      };
      immovable = record {
        x = rw (c.plus-immovable.ensures.x, c.plus-warmed.ensures.x) (two_more c.args.sums.immovable.x c.pass-warm.result.x c.pass-solved.result.x n h.immovable.x c.pass-warm.ensures.small.x c.pass-solved.ensures.small.x);
        y = rw (c.plus-immovable.ensures.y, c.plus-warmed.ensures.y) (two_more c.args.sums.immovable.y c.pass-warm.result.y c.pass-solved.result.y n h.immovable.y c.pass-warm.ensures.small.y c.pass-solved.ensures.small.y);
      };
      clamp = record {
        x = rw (c.plus-clamp.ensures.x, c.plus-limited_again.ensures.x, c.plus-limited.ensures.x) (three_more c.args.sums.clamp.x fallen.result.second.x moved.result.first.x moved.result.second.x n h.clamp.x fallen.ensures.small_second.x moved.ensures.small_first.x moved.ensures.small_second.x);
        y = rw (c.plus-clamp.ensures.y, c.plus-limited_again.ensures.y, c.plus-limited.ensures.y) (three_more c.args.sums.clamp.y fallen.result.second.y moved.result.first.y moved.result.second.y n h.clamp.y fallen.ensures.small_second.y moved.ensures.small_first.y moved.ensures.small_second.y);
      };
    }

pub returns-clause-momentum : goal.returns-clause-momentum
returns-clause-momentum g c =
    let fallen = c.pass_two-fallen in
    let warm = c.pass-warm in
    let solved = c.pass-solved in
    let moved = c.pass_two-moved in
    let sums = c.args.sums in
    rw (c.carry_along.ensures.value, total-carry moved.new.states.items, c.plus-pulled.ensures.x, c.plus-pulled.ensures.y, c.plus-immovable.ensures.x, c.plus-immovable.ensures.y, c.plus-warmed.ensures.x, c.plus-warmed.ensures.y, c.plus-clamp.ensures.x, c.plus-clamp.ensures.y, c.plus-limited_again.ensures.x, c.plus-limited_again.ensures.y, c.plus-limited.ensures.x, c.plus-limited.ensures.y)
    (tick_adds (total c.args.states.now.items) (total fallen.new.states.items) (total warm.new.states.items) (total solved.new.states.items) (total moved.new.states.items)
    (as_vector fallen.result.first) (as_vector fallen.result.second) (as_vector warm.result) (as_vector solved.result) (as_vector moved.result.first) (as_vector moved.result.second) (as_vector sums.gravity) (as_vector sums.immovable) (as_vector sums.clamp)
    (total-after (pulled c.args.gravity) speed_clamped c.args.states.now.items fallen.new.states.items (as_vector fallen.result.first) (as_vector fallen.result.second) fallen.ensures.states fallen.ensures.first fallen.ensures.second)
    warm.ensures.momentum solved.ensures.momentum
    (total-after speed_clamped advanced solved.new.states.items moved.new.states.items (as_vector moved.result.first) (as_vector moved.result.second) moved.ensures.states moved.ensures.first moved.ensures.second))

pub carry_along-requires-clause-carried : goal.carry_along-requires-clause-carried
carry_along-requires-clause-carried g c =
    let first = c.args.states.now.items in
    let fallen = c.pass_two-fallen in
    let warm = c.pass-warm in
    let solved = c.pass-solved in
    let moved = c.pass_two-moved in
    c.requires.carried ∙ sym (carried_beside first moved.new.states.items (beside_same first moved.new.states.items (same_four first fallen.new.states.items warm.new.states.items solved.new.states.items moved.new.states.items fallen.ensures.same warm.ensures.same solved.ensures.same moved.ensures.same)))

pub carry_along-requires-clause-courses : goal.carry_along-requires-clause-courses
carry_along-requires-clause-courses g c =
    let first = c.args.states.now.items in
    let fallen = c.pass_two-fallen in
    let warm = c.pass-warm in
    let solved = c.pass-solved in
    let moved = c.pass_two-moved in
    courses_same first moved.new.states.items (same_four first fallen.new.states.items warm.new.states.items solved.new.states.items moved.new.states.items fallen.ensures.same warm.ensures.same solved.ensures.same moved.ensures.same) c.requires.courses

pub returns-clause-courses : goal.returns-clause-courses
returns-clause-courses g c =
    let first = c.args.states.now.items in
    let fallen = c.pass_two-fallen in
    let warm = c.pass-warm in
    let solved = c.pass-solved in
    let moved = c.pass_two-moved in
    rw c.carry_along.ensures.value
    (courses-carry moved.new.states.items (courses_same first moved.new.states.items (same_four first fallen.new.states.items warm.new.states.items solved.new.states.items moved.new.states.items fallen.ensures.same warm.ensures.same solved.ensures.same moved.ensures.same) c.requires.courses))

pub returns-clause-same : goal.returns-clause-same
returns-clause-same g c =
    let first = c.args.states.now.items in
    let fallen = c.pass_two-fallen in
    let warm = c.pass-warm in
    let solved = c.pass-solved in
    let moved = c.pass_two-moved in
    rw c.carry_along.ensures.value
    (beside_on first moved.new.states.items _ (beside_same first moved.new.states.items (same_four first fallen.new.states.items warm.new.states.items solved.new.states.items moved.new.states.items fallen.ensures.same warm.ensures.same solved.ensures.same moved.ensures.same)) (beside_carry moved.new.states.items))

pub returns-clause-long : goal.returns-clause-long
returns-clause-long g c = (returns-clause-same g c).long

pub pass_two-fallen-requires-clause-reciprocals : goal.pass_two-fallen-requires-clause-reciprocals
pass_two-fallen-requires-clause-reciprocals g c = λ slot s e. (c.requires.states slot s e).reciprocals

pub pass_two-moved-requires-clause-reciprocals : goal.pass_two-moved-requires-clause-reciprocals
pass_two-moved-requires-clause-reciprocals g c = λ slot s e. (c.pass-solved.ensures.all_states slot s e).reciprocals

pub pass_two-moved-requires-clause-awake : goal.pass_two-moved-requires-clause-awake
pass_two-moved-requires-clause-awake g c =
    let fallen = c.pass_two-fallen.new.states.items in
    let warm = c.pass-warm.new.states.items in
    c.requires.awake ∙ sym c.pass_two-fallen.ensures.movers ∙ sym (movers_same fallen warm c.pass-warm.ensures.same) ∙ sym (movers_same warm c.pass-solved.new.states.items c.pass-solved.ensures.same)

-- ---- colours that stay colours

pub pass-warm-requires-clause-colours : goal.pass-warm-requires-clause-colours
pass-warm-requires-clause-colours g c =
    colours_same c.args.states.now.items c.pass_two-fallen.new.states.items (g.P.Passes.rows c.args.rows.now) c.pass_two-fallen.ensures.same c.requires.apart

pub pass-warm-requires-clause-fits : goal.pass-warm-requires-clause-fits
pass-warm-requires-clause-fits g c = subst (g.P.Passes.fits c.args.rows.now) (sym c.pass_two-fallen.ensures.same.long) c.requires.fits

pub pass-solved-requires-clause-fits : goal.pass-solved-requires-clause-fits
pass-solved-requires-clause-fits g c =
    c.pass-warm.ensures.fits (length c.pass-warm.new.states.items) (subst (g.P.Passes.fits c.args.rows.now) (sym c.pass-warm.ensures.long) (subst (g.P.Passes.fits c.args.rows.now) (sym c.pass_two-fallen.ensures.same.long) c.requires.fits))

pub returns-clause-apart : goal.returns-clause-apart
returns-clause-apart g c =
    let solved = c.pass-solved.new.states.items in
    let moved = c.pass_two-moved.new.states.items in
    rw c.carry_along.ensures.value
    (colours_beside moved _ (g.P.Passes.rows c.pass-solved.new.self) (beside_carry moved) (colours_same solved moved (g.P.Passes.rows c.pass-solved.new.self) c.pass_two-moved.ensures.same c.pass-solved.ensures.colours))

pub returns-clause-fits : goal.returns-clause-fits
returns-clause-fits g c = λ n fits. c.pass-solved.ensures.fits n (c.pass-warm.ensures.fits n fits)
