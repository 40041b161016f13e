use Rattle.std.proofs.Common.{◌≡◌, true}
use Rattle.std.specs.Arc.{arc_value}
use Rattle.crew.proofs.StackLaws.{all_stacked, all_unstacked}
use Rattle.crew.proofs.desk.Desk.post.Goals as goal

pub invariant_of-slip : goal.invariant_of-slip
invariant_of-slip g c =
    let accepted = all_stacked (λ x. g.W.Work.accepts (arc_value c.args.work.now) x ≡ true) c.stack_last.new.items.items c.stack_last.new.stack.items c.args.items.now.items c.stack_last.ensures.whole c.requires.accepted in
    record { accepted = rw (c.replace.ensures.value, c.in-Ok.ensures) accepted }

pub returns-clause-accepted : goal.returns-clause-accepted
returns-clause-accepted g c =
    all_unstacked (λ x. g.W.Work.accepts (arc_value c.args.work.now) x ≡ true) c.stack_last.new.items.items c.stack_last.new.stack.items c.args.items.now.items c.stack_last.ensures.whole c.requires.accepted
