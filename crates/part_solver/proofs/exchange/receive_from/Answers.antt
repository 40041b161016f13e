use Rattle.std.proofs.Common.{◌≡◌, List, ◌∙◌}
use Rattle.momenta.specs.declared.state.BodyState.{BodyState}
use Rattle.part_runs.specs.Walks.{slots_between}
use Rattle.part_solver.specs.Exchange.{own_walk, put_in}
use Rattle.part_solver.specs.declared.mail.Item.TheVariants.{Letter}
use Rattle.part_solver.proofs.MailLaws.{in_letter}
use Rattle.part_solver.proofs.PostLaws.{taken_one}
use Rattle.part_solver.proofs.exchange.receive_from.Goals as goal

pub returns : goal.returns
returns g c =
    let letter = c.receive-letter.result.letter in
    let slots = slots_between c.args.from c.args.number (own_walk c.args.moves.now) in
    let came = c.receive-letter.ensures in
    let states : List BodyState = c.args.states.now.items in
    let put : c.read_letter.new.states.items ≡ put_in slots letter.items states = rw c.as_slice.ensures.value at c.read_letter.ensures in
    taken_one c.args.from c.args.number slots states c.read_letter.new.states.items letter.items (Letter letter) c.args.ports.now c.receive-letter.new.self c.give_back.new.self came.ins came.outs c.give_back.ensures.ins c.give_back.ensures.outs c.requires.from (in_letter letter.items)
    came.allowed (came.long ∙ c.count_moves-count.ensures) put
