use Rattle.std.proofs.Common.{◌≤◌, ℕ, List, arith, filter, length, nat_eq, vec_capacity, ap₂, subst, sym, ◌∙◌}
use Rattle.momenta.specs.declared.state.BodyState.{BodyState}
use Rattle.colour_solver.specs.States.{carried_of, movers_of}
use Rattle.colour_solver.specs.States as states
use Rattle.colour_solver.proofs.PlaceLaws.{length-places}
use Rattle.part_runs.specs.Hidden.{hidden, part_at}
use Rattle.part_solver.proofs.part_work.see.Goals as goal

pub see_slots-requires-clause-room : goal.see_slots-requires-clause-room
see_slots-requires-clause-room c =
    let long : length (movers_of c.args.step.now.states) ≤ length c.args.step.now.states = length-places states.moves c.args.step.now.states 0 in
    subst (λ l. length l ≤ vec_capacity c.args.lists.now.awake) (sym c.awake.ensures) (omega (arith, long, c.requires.awake))

pub see_all_slots-requires-clause-room : goal.see_all_slots-requires-clause-room
see_all_slots-requires-clause-room c =
    let long : length (carried_of c.args.step.now.states) ≤ length c.args.step.now.states = length-places states.is_carried c.args.step.now.states 0 in
    subst (λ l. length l ≤ vec_capacity c.args.lists.now.carried) (sym c.carried.ensures) (omega (arith, long, c.requires.carried))

pub see_all_slots-requires-2-clause-room : goal.see_all_slots-requires-2-clause-room
see_all_slots-requires-2-clause-room c = subst (λ l. length l ≤ vec_capacity c.args.lists.now.at) (sym c.home-3.ensures) (omega (arith, c.know.ensures.homes, c.requires.at))

pub returns : goal.returns
returns c =
    let t = c.args.step.now in
    let known = c.bodies_are_hidden.ensures (part_at t.home) c.args.number t.states in
    let walk = c.requires.walk in
    record {
      states = c.see_bodies.ensures ∙ ap₂ (λ (h : List ℕ) (s : List BodyState). hidden (part_at h) c.args.number s) c.home.ensures c.states.ensures;
      awake = c.see_slots.ensures ∙ ap₂ (λ (h l : List ℕ). filter (λ (slot : ℕ). nat_eq (part_at h slot) c.args.number) l) c.home-2.ensures c.awake.ensures ∙ sym known.movers;
      carried = c.see_all_slots.ensures ∙ c.carried.ensures ∙ sym known.carried;
      at = c.see_all_slots-2.ensures ∙ c.home-3.ensures;
      walk = record {
        rows_room = walk.rows_room;
        colours_room = walk.colours_room;
        own_room = walk.own_room;
        moves_room = walk.moves_room;
        ends_room = walk.ends_room;
        no_colours = walk.no_colours;
        no_rows = walk.no_rows;
        no_moves = walk.no_moves;
        no_ends = walk.no_ends;
      };
    }
