use Rattle.std.proofs.Common.{sym, subst}
use Rattle.world_core.specs.Quiet.{HasFlagged}
use Rattle.world_core.proofs.kept_awake.flag_by.Goals as goal

pub returns-in-Joint : goal.returns-in-Joint
returns-in-Joint c = λ names timers keep has.
    subst (HasFlagged names c.args.islands.now.labels timers) (sym c.flag_joined.ensures) (rw (c.item_at.ensures, c.joints.ensures) (keep.joined names c.in-Joint.handle.slot c.args.flags.now.items has))

pub returns-in-Contact : goal.returns-in-Contact
returns-in-Contact c = λ names timers keep has. (rw c.split.ensures at c.flag_contact.ensures) c.args.constraints.now.joints.joints names timers keep has
