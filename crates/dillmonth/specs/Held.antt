-- What a caller in C owns beside a pointer: no desk at null, and else a box of one.
use Rattle.std.specs.Prelude.{Option, Some, None}
use base.Fml.{Fml, feq}
use denote.RawPtr.{Ptr, null_ptr}
use Rattle.std.specs.declared.alloc.Global.{Global}
use Rattle.std.specs.contracts.impls.GlobalAllocator.TheImpl.{ghosts}
use Rattle.std_alloc.specs.Box.Ownership.{box_owns}
use Rattle.world_desk.specs.declared.desk.Desk.{Desk}
use Rattle.world_desk.specs.contracts.desk.Desk.{the_row}

abbrev pub held : Global → Ptr → Option Desk → Fml
held a p None = feq Ptr p null_ptr
held a p (Some x) = box_owns (ghosts.dealloc_token a) the_row p x
