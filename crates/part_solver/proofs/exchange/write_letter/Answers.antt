use Rattle.std.proofs.Common.{ℕ, ◌++◌, ◌∷◌, List, [], length, get_or, take, arith, sym, ap, ap₂, ◌∙◌}
use Rattle.momenta.specs.declared.state.BodyState.{BodyState}
use Rattle.part_runs.specs.Walks.{slots_between}
use Rattle.part_runs.specs.Handing.{left_by, let_go}
use Rattle.part_solver.specs.Exchange.{own_walk}
use Rattle.part_solver.specs.declared.moves.BodyMove.{BodyMove}
use Rattle.part_solver.proofs.ExchangeLaws.{given_long, given_then, left_then, slots_fit, slots_next}
use Rattle.part_solver.proofs.exchange.write_letter.Goals as goal

pub write_one-requires : goal.write_one-requires
write_one-requires c =
    let i = c.loop-place.place in
    let moves = c.args.moves.now in
    let nothing : BodyMove = record { slot = 0; from = 0; to = 0 } in
    let front = slots_between c.args.from c.args.to (own_walk (take i moves)) in
    let fit = slots_fit c.args.from c.args.to i moves nothing c.loop-place-test.true in
    let long = ap length c.loop-place.invariant.letter ∙ given_long front c.args.states.now.items in
    record { room = omega (arith, fit, long, c.loop-place.letter.ok, c.loop-place.invariant.room, c.requires.room) }

pub loop-place-preserved : goal.loop-place-preserved
loop-place-preserved c =
    let i = c.loop-place.place in
    let moves = c.args.moves.now in
    let nothing : BodyMove = record { slot = 0; from = 0; to = 0 } in
    let first : List BodyState = c.args.states.now.items in
    let front = slots_between c.args.from c.args.to (own_walk (take i moves)) in
    let here = slots_between c.args.from c.args.to (own_walk (get_or moves i nothing ∷ [])) in
    let next = slots_next c.args.from c.args.to i moves nothing c.loop-place-test.true in
    let made = c.write_one.ensures in
    let known = c.loop-place.invariant in
    record {
      states = made.states ∙ ap (left_by here) known.states ∙ sym (left_then front here first) ∙ ap (λ (l : List ℕ). left_by l first) (sym next);
      letter =
          made.letter ∙ ap₂ (λ (a ss : List BodyState). a ++ let_go here ss) known.letter known.states ∙ sym (given_then front here first)
          ∙ ap (λ (l : List ℕ). let_go l first) (sym next);
      room = made.room ∙ known.room;
    }
