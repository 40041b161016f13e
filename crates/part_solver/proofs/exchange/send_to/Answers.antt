use Rattle.std.proofs.Common.{◌∙◌}
use Rattle.part_runs.specs.Handing.{let_go}
use Rattle.part_runs.specs.Walks.{slots_between}
use Rattle.part_solver.specs.Exchange.{own_walk}
use Rattle.part_solver.specs.declared.mail.Item.TheVariants.{Letter}
use Rattle.part_solver.proofs.MailLaws.{in_letter}
use Rattle.part_solver.proofs.PostLaws.{sent_one}
use Rattle.part_solver.proofs.exchange.send_to.Goals as goal

pub returns-clause-sent : goal.returns-clause-sent
returns-clause-sent g c =
    let letter = c.write_letter.new.letter in
    let slots = slots_between c.args.number c.args.to (own_walk c.args.moves.now) in
    sent_one c.args.number c.args.to (let_go slots c.args.states.now.items) (Letter letter) c.args.ports.now c.spare-letter.new.self c.send.new.self c.spare-letter.ensures.outs c.spare-letter.ensures.ins c.send.ensures.outs c.send.ensures.ins c.requires.to
    (in_letter letter.items ∙ c.write_letter.ensures.letter)
