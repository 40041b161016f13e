use Rattle.std.proofs.Common.{arith, rules}
use Rattle.contacts.proofs.StirringLaws.{quiet_if}
use Rattle.contacts.proofs.stirring_flags.are_complete.Goals as goal

pub returns : goal.returns
returns g c = λ t.
    quiet_if c.args.flags.now c.args.collide.now.marks.now c.args.collide.now.marked.now c.awake.result.now c.carried.result.now (g.S.ShapesById.proxies c.args.collide.now.shapes.now) c.requires (omega arith) (c.if-not-are_flagged.ensures (search rules)) (c.if-not-are_flagged-2.ensures (search rules)) (c.are_flagged-3.ensures t)
    (rw (c.awake.ensures, c.carried.ensures.value) c.carried.ensures.stirring)
