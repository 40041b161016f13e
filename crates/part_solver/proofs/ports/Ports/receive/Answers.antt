use Rattle.std.proofs.Common.{rules, arith, map, ◌≡◌, ◌<◌, ◌∷◌, [], length, get_or}
use Rattle.std.proofs.lemmas.List.{length-map}
use Rattle.rtrb.specs.Ring.{received}
use Rattle.part_solver.specs.declared.mail.Item.TheVariants.{Letter}
use Rattle.part_solver.proofs.PortLaws.{one_more}
use Rattle.part_solver.proofs.ports.Ports.receive.Goals as goal

pub returns-clause-ins : goal.returns-clause-ins
returns-clause-ins g c =
    let ins = c.self.inside.ins.items in
    let old = c.index_mut.result.now in
    let few : c.args.from < length (map (λ x. received x) ins) = rw (← c.self.view_is) at c.requires.from in
    let long = length-map ins (λ x. received x) in
    let lt : c.args.from < length ins = omega (arith, few, long) in
    let is : old ≡ get_or ins c.args.from old = search rules in
    rw (← c.self.view_is) (one_more (λ r. received r) ins c.args.from old c.receive.new.receiver (Letter c.receive.result.letter ∷ []) lt is c.receive.ensures.received)
