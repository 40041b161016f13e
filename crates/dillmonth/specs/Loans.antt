-- Trusted: What a caller in C shows of a frame that it has read: that it is lent.
use Rattle.std.specs.Prelude.{Option, Some, None, ◌^◌}
use base.Fml.{Lft, Share, Fml, feq, flt, fsep, flft}
use denote.RawPtr.{Ptr, null_ptr, count_of}
use denote.Struct.Lending.{lent_at}
use Rattle.world_core.specs.Frames.{View}
use Rattle.world_core.specs.contracts.frame.Frame.{the_row}

-- a frame, or none, that is lent for a lifetime, and the share of the lifetime that a call is shown
pub record Loan : Type 0 where
  pub lifetime : Lft
  pub share : Share
  pub frame : Option View

-- none at null; else the share of the lifetime, and a shared borrow of the frame at the address, which may be compared
-- with null
abbrev pub lent_as : Lft → Share → Option View → Ptr → Fml
lent_as κ q None p = feq Ptr p null_ptr
lent_as κ q (Some x) p = fsep (flft κ q) (fsep (flt (count_of p) (2 ^ 63)) (lent_at the_row p x κ))

abbrev pub is_lent : Loan → Ptr → Fml
is_lent loan p = lent_as loan.lifetime loan.share loan.frame p
