use Rattle.std.proofs.Common.{rules, arith, map, ◌≡◌, ◌<◌, ◌∷◌, [], length, get_or}
use Rattle.std.proofs.lemmas.List.{length-map}
use Rattle.rtrb.specs.Ring.{sent}
use Rattle.part_solver.specs.declared.mail.Item.TheVariants.{Letter}
use Rattle.part_solver.proofs.PortLaws.{one_more}
use Rattle.part_solver.proofs.ports.Ports.send.Goals as goal

pub returns-clause-outs : goal.returns-clause-outs
returns-clause-outs g c =
    let outs = c.self.inside.outs.items in
    let old = c.index_mut.result.now in
    let few : c.args.to < length (map (λ x. sent x) outs) = rw (← c.self.view_is) at c.requires.to in
    let long = length-map outs (λ x. sent x) in
    let lt : c.args.to < length outs = omega (arith, few, long) in
    let is : old ≡ get_or outs c.args.to old = search rules in
    rw (← c.self.view_is) (one_more (λ s. sent s) outs c.args.to old c.send-waited.new.sender (Letter c.args.letter ∷ []) lt is c.send-waited.ensures)
