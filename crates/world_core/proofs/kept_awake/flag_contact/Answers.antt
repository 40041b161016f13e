use Rattle.std.proofs.Common.{sym, subst}
use Rattle.world_core.specs.Quiet.{HasFlagged}
use Rattle.world_core.proofs.kept_awake.flag_contact.Goals as goal

pub returns : goal.returns
returns c = λ joints names timers keep has.
    subst (HasFlagged names c.args.islands.now.labels timers) (sym c.flag_found.ensures) (rw c.find.ensures (keep.touched names c.args.key c.args.flags.now.items has))
