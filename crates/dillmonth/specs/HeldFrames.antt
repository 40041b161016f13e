-- What a caller in C owns beside a pointer to a frame: none at null, and else a box of one.
use Rattle.std.specs.Prelude.{Option, Some, None}
use base.Fml.{Fml, feq}
use denote.RawPtr.{Ptr, null_ptr}
use Rattle.std.specs.declared.alloc.Global.{Global}
use Rattle.std.specs.contracts.impls.GlobalAllocator.TheImpl.{ghosts}
use Rattle.std_alloc.specs.Box.Ownership.{box_owns}
use Rattle.world_core.specs.Frames.{View}
use Rattle.world_core.specs.contracts.frame.Frame.{the_row}

abbrev pub held_frame : Global → Ptr → Option View → Fml
held_frame a p None = feq Ptr p null_ptr
held_frame a p (Some x) = box_owns (ghosts.dealloc_token a) the_row p x
