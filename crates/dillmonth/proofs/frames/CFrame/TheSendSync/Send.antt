-- A frame may go to another thread, as what it shows may.
use mir.Raw.{raw}
use base.Shift.{Keyless}
use denote.Memory.{lone}
use denote.RawPtr.{Ptr}
use denote.Struct.Struct.{exits_of}
use denote.Struct.Owning.{shape, fields, to}
use denote.Param.Send.{IsSend, AllSend, owning_send, struct_send, sendable}
use Rattle.std.specs.Prelude.{Option, Some, None}
use Rattle.std.specs.declared.alloc.Global.{Global}
use Rattle.std.proofs.Crossing as heap
use Rattle.std_alloc.proofs.SendSync.{quiet, lies}
use Rattle.std_heap.proofs.Global.TheSendSync as handle
use Rattle.world_core.specs.Frames.{View}
use Rattle.world_core.specs.contracts.frame.Frame.{the_row as R}
use Rattle.dillmonth.specs.HeldFrames.{held_frame}
use Rattle.dillmonth.specs.contracts.frames.CFrame.{the_row, the_type}
use Rattle.dillmonth.proofs.CrossingLaws.{frame_send}

keyless : (a : Global) (p : Ptr) (x : Option View) → Keyless (held_frame a p x)
keyless a p None = tt
keyless a p (Some y) = (lies R frame_send p y, heap.frees.frees a (raw (lone R.mir)) p)

pub send : IsSend the_row
send =
    let all : AllSend (fields the_type) = (search sendable, (handle.the_field_send, tt)) in
    owning_send the_type all (λ d. keyless d.alloc d.at d.frame)
    (λ k. quiet (to the_type) (exits_of k (fields the_type)) ((struct_send (shape the_type) all).leaving k))
