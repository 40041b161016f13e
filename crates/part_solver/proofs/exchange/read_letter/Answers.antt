use Rattle.std.proofs.Common.{ℕ, ◌+◌, ◌∷◌, List, [], drop, length, get_or, take, arith, sym, ap, ap₂, ◌∙◌}
use Rattle.std.proofs.lemmas.List.{length-append}
use Rattle.momenta.specs.declared.state.BodyState.{BodyState}
use Rattle.part_runs.specs.Walks.{slots_between}
use Rattle.part_solver.specs.Exchange.{own_walk, put_in}
use Rattle.part_solver.specs.declared.moves.BodyMove.{BodyMove}
use Rattle.part_solver.proofs.ExchangeLaws.{put_then, slots_next, slots_one}
use Rattle.part_solver.proofs.exchange.read_letter.Goals as goal

pub loop-place-preserved : goal.loop-place-preserved
loop-place-preserved c =
    let i = c.loop-place.place in
    let moves = c.args.moves.now in
    let nothing : BodyMove = record { slot = 0; from = 0; to = 0 } in
    let first : List BodyState = c.args.states.now.items in
    let front = slots_between c.args.from c.args.to (own_walk (take i moves)) in
    let here = slots_between c.args.from c.args.to (own_walk (get_or moves i nothing ∷ [])) in
    let next = slots_next c.args.from c.args.to i moves nothing c.loop-place-test.true in
    let made = c.read_one-read.ensures in
    let known = c.loop-place.invariant in
    let one = slots_one c.args.from c.args.to (get_or moves i nothing) in
    record {
      read = made.read ∙ ap (λ (n : ℕ). n + length here) known.read ∙ sym (length-append front here) ∙ sym (ap length next);
      few = omega (arith, made.read, one, known.few);
      states =
          made.states ∙ ap₂ (λ (n : ℕ) (ss : List BodyState). put_in here (drop n c.args.letter.now) ss) known.read known.states ∙ sym (put_then front here c.args.letter.now first)
          ∙ ap (λ (l : List ℕ). put_in l c.args.letter.now first) (sym next);
    }
