use Rattle.std.proofs.Common.{◌≡◌, true, false, ◌+◌, ◌<◌, [], ◌∷◌, ◌++◌, length, All, arith, refl, sym, ap, ◌∙◌, subst}
use Rattle.std.proofs.lemmas.List.{length-append}
use Rattle.std.proofs.lemmas.List.Elements.{All-nil}
use Rattle.contacts_base.specs.Split.{contacts_in}
use Rattle.colour_solver.specs.ColourRows.{ColourRows}
use Rattle.colour_solver.specs.ConstraintVisits.{AreRowsBelow}
use Rattle.colour_solver.specs.declared.constraint_row.ConstraintRow.{ConstraintRow}
use Rattle.part_runs.specs.Hidden.{owned}
use Rattle.part_runs.specs.Stages.{rows_at}
use Rattle.part_runs.specs.Walks.{setting_out, walk_home, walk_rows}
use Rattle.world_core_base.specs.ConstraintRows.{rows_in}
use Rattle.world_core_base.proofs.ColourLists.{all_lists_more}
use Rattle.part_solver.specs.Walking.{IsOnward, owner_in}
use Rattle.part_solver.proofs.WalkStages.{AreMoved, all_walked, coloured_is, coloured_more, few_movers, flat, home_is, left_is, left_more, left_room, moved_first, moved_on}
use Rattle.part_solver.proofs.walk.walk.Goals as goal

pub loop-colour-init : goal.loop-colour-init
loop-colour-init c =
    let t = c.args.step.now in
    let l = c.args.lists.now in
    let seen = c.requires.seen in
    let no_ends = ap length seen.walk.no_ends in
    let no_moves = ap length seen.walk.no_moves in
    let all = length-append (flat t.rows.colours) t.rows.left in
    record {
      moved = moved_first t c.args.number l.at.items l.ends.items l.moves.items seen.at seen.walk.no_ends seen.walk.no_moves;
      count = omega (arith, no_ends, l.ends.ok);
      colours = seen.walk.no_colours;
      left = seen.walk.no_rows;
      below = subst (All (AreRowsBelow (length t.states))) (sym seen.walk.no_colours) (All-nil (AreRowsBelow (length t.states)));
      rows_room = omega (arith, all, seen.walk.rows_room);
      own_room = omega (arith, all, seen.walk.own_room);
      moves_room = omega (arith, all, no_moves, l.moves.ok, seen.walk.moves_room);
      colours_room = omega (arith, seen.walk.colours_room);
      ends_room = seen.walk.ends_room;
      states = refl;
      awake = refl;
      carried = refl;
    }

pub loop-colour-preserved : goal.loop-colour-preserved
loop-colour-preserved c =
    let t = c.args.step.now in
    let k = c.args.number in
    let i = c.loop-colour.colour in
    let old = c.loop-colour.lists in
    let new = c.walk_stage.new.lists in
    let known = c.loop-colour.invariant in
    let made = c.walks_are_made.ensures t in
    let done = c.walk_stage.ensures in
    let many = c.know.ensures.colours in
    let lt : i < length t.rows.colours = omega (arith, c.loop-colour-test.true, many) in
    let stages = made.count in
    let rows = rows_in t.states c.in_colour.result.joints.now (contacts_in c.in_colour.result.contacts.now) c.in_colour.result.members.now in
    let whole : rows ≡ rows_at t.rows.colours i = c.in_colour.ensures.rows.rows_are in
    let room = left_room t.rows.colours i (length c.in_colour.result.members.now) lt c.in_colour.ensures.rows.count in
    let onward : IsOnward k (walk_rows t.states (owner_in t.states t.home true) rows (setting_out old.at.items)) new.at.items old.moves.items new.moves.items = rw (c.states.ensures, c.home.ensures) at done.onward in
    let own : new.rows.colours ≡ old.rows.colours ++ owned (owner_in t.states t.home true) k rows ∷ [] = rw (c.states.ensures, c.home.ensures) at done.own in
    record {
      moved =
          moved_on t k i old.at.items new.at.items old.ends.items new.ends.items old.moves.items new.moves.items (walk_rows t.states (owner_in t.states t.home true) rows (setting_out old.at.items)) made (omega (arith, lt, stages))
          (coloured_is t i old.at.items rows made lt known.moved.at_is whole) known.moved onward done.ends;
      count = omega (arith, done.ends_count, known.count);
      colours = coloured_more t k i old.rows.colours new.rows.colours rows made lt whole known.colours own;
      left = done.no_rows;
      below = subst (All (AreRowsBelow (length t.states))) (sym own) (all_lists_more (AreRowsBelow (length t.states)) old.rows.colours (owned (owner_in t.states t.home true) k rows) known.below (rw (c.states.ensures, c.home.ensures) at done.below));
      rows_room = omega (arith, room, known.rows_room, done.rows_room);
      own_room = omega (arith, room, known.own_room, done.own_room);
      moves_room = omega (arith, room, known.moves_room, done.few, done.moves_room);
      colours_room = omega (arith, known.colours_room, done.colours_room);
      ends_room = omega (arith, known.ends_room, done.ends_room);
      states = done.states_same ∙ known.states;
      awake = done.awake ∙ known.awake;
      carried = done.carried ∙ known.carried;
    }

pub walk_stage-requires-clause-states : goal.walk_stage-requires-clause-states
walk_stage-requires-clause-states c = rw c.states.ensures c.know.ensures.can.states

pub walk_stage-requires-clause-can : goal.walk_stage-requires-clause-can
walk_stage-requires-clause-can c = rw c.states.ensures c.in_colour.ensures.can

pub walk_stage-requires-clause-moves_room : goal.walk_stage-requires-clause-moves_room
walk_stage-requires-clause-moves_room c =
    let t = c.args.step.now in
    let many = c.know.ensures.colours in
    let room = left_room t.rows.colours c.loop-colour.colour (length c.in_colour.result.members.now) (omega (arith, c.loop-colour-test.true, many)) c.in_colour.ensures.rows.count in
    omega (arith, room, c.loop-colour.invariant.moves_room)

pub walk_stage-requires-clause-rows_room : goal.walk_stage-requires-clause-rows_room
walk_stage-requires-clause-rows_room c =
    let t = c.args.step.now in
    let many = c.know.ensures.colours in
    let room = left_room t.rows.colours c.loop-colour.colour (length c.in_colour.result.members.now) (omega (arith, c.loop-colour-test.true, many)) c.in_colour.ensures.rows.count in
    omega (arith, room, c.loop-colour.invariant.rows_room)

pub walk_stage-requires-clause-own_room : goal.walk_stage-requires-clause-own_room
walk_stage-requires-clause-own_room c =
    let t = c.args.step.now in
    let many = c.know.ensures.colours in
    let room = left_room t.rows.colours c.loop-colour.colour (length c.in_colour.result.members.now) (omega (arith, c.loop-colour-test.true, many)) c.in_colour.ensures.rows.count in
    omega (arith, room, c.loop-colour.invariant.own_room)

pub walk_stage-requires-clause-colours_room : goal.walk_stage-requires-clause-colours_room
walk_stage-requires-clause-colours_room c = omega (arith, c.loop-colour-test.true, c.know.ensures.colours, c.loop-colour.invariant.colours_room)

pub walk_stage-requires-clause-ends_room : goal.walk_stage-requires-clause-ends_room
walk_stage-requires-clause-ends_room c = omega (arith, c.loop-colour-test.true, c.know.ensures.colours, c.loop-colour.invariant.count, c.loop-colour.invariant.ends_room)

pub walk_stage-requires-2-clause-states : goal.walk_stage-requires-2-clause-states
walk_stage-requires-2-clause-states c = rw c.states.ensures c.know.ensures.can.states

pub walk_stage-requires-2-clause-can : goal.walk_stage-requires-2-clause-can
walk_stage-requires-2-clause-can c = rw c.states.ensures c.in_overflow.ensures.can

pub walk_stage-requires-2-clause-moves_room : goal.walk_stage-requires-2-clause-moves_room
walk_stage-requires-2-clause-moves_room c = omega (arith, c.in_overflow.ensures.rows.count, c.loop-colour.invariant.moves_room)

pub walk_stage-requires-2-clause-rows_room : goal.walk_stage-requires-2-clause-rows_room
walk_stage-requires-2-clause-rows_room c = omega (arith, c.in_overflow.ensures.rows.count, c.loop-colour.invariant.rows_room)

pub walk_stage-requires-2-clause-own_room : goal.walk_stage-requires-2-clause-own_room
walk_stage-requires-2-clause-own_room c = omega (arith, c.in_overflow.ensures.rows.count, c.loop-colour.invariant.own_room)

pub walk_stage-requires-2-clause-colours_room : goal.walk_stage-requires-2-clause-colours_room
walk_stage-requires-2-clause-colours_room c = omega (arith, c.loop-colour.auto.colour-end, c.know.ensures.colours, c.loop-colour.invariant.colours_room)

pub walk_stage-requires-2-clause-ends_room : goal.walk_stage-requires-2-clause-ends_room
walk_stage-requires-2-clause-ends_room c = omega (arith, c.loop-colour.auto.colour-end, c.know.ensures.colours, c.loop-colour.invariant.count, c.loop-colour.invariant.ends_room)

pub walk_way_home-requires-clause-moves_room : goal.walk_way_home-requires-clause-moves_room
walk_way_home-requires-clause-moves_room c =
    let few = few_movers c.args.step.now.states c.awake.result.now c.awake.ensures in
    omega (arith, c.in_overflow.ensures.rows.count, few, c.loop-colour.invariant.moves_room, c.walk_stage-2.ensures.few, c.walk_stage-2.ensures.moves_room)

pub walk_way_home-requires-clause-ends_room : goal.walk_way_home-requires-clause-ends_room
walk_way_home-requires-clause-ends_room c =
    omega (arith, c.loop-colour.auto.colour-end, c.know.ensures.colours, c.loop-colour.invariant.count, c.loop-colour.invariant.ends_room, c.walk_stage-2.ensures.ends_count, c.walk_stage-2.ensures.ends_room)

pub returns : goal.returns
returns c =
    let t = c.args.step.now in
    let k = c.args.number in
    let i = c.loop-colour.colour in
    let old = c.loop-colour.lists in
    let mid = c.walk_stage-2.new.lists in
    let new = c.walk_way_home.new.lists in
    let known = c.loop-colour.invariant in
    let made = c.walks_are_made.ensures t in
    let done = c.walk_stage-2.ensures in
    let home = c.walk_way_home.ensures in
    let many = c.know.ensures.colours in
    let last : i ≡ length t.rows.colours = omega (arith, c.loop-colour-test.false, c.loop-colour.auto.colour-end, many) in
    let stages = made.count in
    let rows = rows_in t.states c.in_overflow.result.joints.now (contacts_in c.in_overflow.result.contacts.now) c.in_overflow.result.members.now in
    let whole : rows ≡ t.rows.left = c.in_overflow.ensures.rows.rows_are in
    let onward : IsOnward k (walk_rows t.states (owner_in t.states t.home false) rows (setting_out old.at.items)) mid.at.items old.moves.items mid.moves.items = rw (c.states.ensures, c.home.ensures) at done.onward in
    let own : mid.rows.colours ≡ old.rows.colours ++ owned (owner_in t.states t.home false) k rows ∷ [] = rw c.states.ensures at done.own in
    let away : IsOnward k (walk_home t.home c.awake.result.now (setting_out mid.at.items)) new.at.items mid.moves.items new.moves.items = rw c.home.ensures at home.onward in
    let left : AreMoved t k (i + 1) mid.at.items mid.ends.items mid.moves.items =
    moved_on t k i old.at.items mid.at.items old.ends.items mid.ends.items old.moves.items mid.moves.items (walk_rows t.states (owner_in t.states t.home false) rows (setting_out old.at.items)) made (omega (arith, last, stages))
    (left_is t i old.at.items rows made last known.moved.at_is whole) known.moved onward done.ends in
    let all : AreMoved t k ((i + 1) + 1) new.at.items new.ends.items new.moves.items =
    moved_on t k (i + 1) mid.at.items new.at.items mid.ends.items new.ends.items mid.moves.items new.moves.items (walk_home t.home c.awake.result.now (setting_out mid.at.items)) made (omega (arith, last, stages))
    (home_is t (i + 1) mid.at.items c.awake.result.now made (omega (arith, last)) left.at_is c.awake.ensures) left away home.ends in
    let below : All (AreRowsBelow (length t.states)) mid.rows.colours =
    subst (All (AreRowsBelow (length t.states))) (sym own) (all_lists_more (AreRowsBelow (length t.states)) old.rows.colours (owned (owner_in t.states t.home false) k rows) known.below (rw c.states.ensures at done.below)) in
    all_walked t k ((i + 1) + 1) new.at.items c.args.lists.now new c.requires.seen made (omega (arith, last)) all (home.states ∙ done.states_same ∙ known.states) (home.awake ∙ done.awake ∙ known.awake) (home.carried ∙ done.carried ∙ known.carried)
    (ap (λ (r : ColourRows ConstraintRow). r.colours) home.rows ∙ left_more t k i old.rows.colours mid.rows.colours rows made last whole known.colours own) (ap (λ (r : ColourRows ConstraintRow). r.left) home.rows ∙ done.no_rows)
    (subst (λ (r : ColourRows ConstraintRow). All (AreRowsBelow (length t.states)) r.colours) (sym home.rows) below)
