-- A desk and a frame may cross threads, and a frame that is lent may be read in any.
use base.Fml.{Lft, Share}
use base.Shift.{Keyless}
use denote.Param.Send.{IsSend, IsSync, sendable}
use denote.RawPtr.{Ptr}
use Rattle.std.proofs.Crossing.{crosses}
use Rattle.std.specs.Prelude.{Option, Some, None}
use Rattle.std_alloc.proofs.SendSync.{seen}
use Rattle.dillmonth.specs.Loans.{lent_as}
use Rattle.world_desk.specs.contracts.desk.Desk as Desk
use Rattle.world_core.proofs.CrossingLaws.{world_send}
use Rattle.world_core.specs.Frames.{View}
use Rattle.world_core.specs.contracts.frame.Frame as Frame

pub desk_send : IsSend Desk.the_row
desk_send = search (world_send, crosses, sendable) depth 60 fits 60000

pub frame_send : IsSend Frame.the_row
frame_send = search (crosses, sendable) depth 60 fits 60000

pub frame_sync : IsSync Frame.the_row
frame_sync = search (crosses, sendable) depth 60 fits 60000

-- what a call is shown of a frame that it reads belongs to no thread
pub loan_crosses : (κ : Lft) (q : Share) (o : Option View) (p : Ptr) → Keyless (lent_as κ q o p)
loan_crosses κ q None p = tt
loan_crosses κ q (Some x) p = (tt, (tt, seen Frame.the_row frame_sync p x κ))
