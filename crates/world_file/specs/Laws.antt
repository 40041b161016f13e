-- Trusted: What is known of a world that is read of a value, and of what is written of a world.
use Rattle.std.specs.Prelude.{◌≡◌, ◌^◌, List, None, Ok}
use Rattle.serde_json.specs.Data.{Data}
use Rattle.impulse_ledger.specs.Sums.{totals_of}
use Rattle.impulse_ledger.specs.declared.totals.Totals.{Totals}
use Rattle.plain_world.specs.Plain.{Plain}
use Rattle.sleep_wake.specs.Acting.{links_of}
use Rattle.world_file.specs.Clauses.{first_unfit}
use Rattle.world_file.specs.Files.{plain_of, read_of, value_of}
use Rattle.world_file.specs.Fitting.{components_of, members_among}
use Rattle.world_file.specs.Lone.{components_by}
use Rattle.world_file.specs.declared.ties.Tie.{Tie}
use Rattle.world_file_base.specs.declared.saved.Membership.{Membership}
use Rattle.world_rules.specs.Laws.{GoOnTheSame}
use Rattle.world_rules.specs.Sound.{AreSmall, IsSound}
use Rattle.world_rules.specs.Settled.{settled_world}
use Rattle.world_rules.specs.World.{World, book_of}
use Rattle.world_file.specs.Again.{saved_of}

-- Where each mover stands alone, merges from tie to tie make the components that the links of these ties lead to.
abbrev pub MergingMakesComponents : Type 0
MergingMakesComponents = (memberships : List Membership) (ties : List Tie) → components_by memberships ties ≡ components_of memberships (links_of (members_among ties))

-- A world that is read is sound.
abbrev pub WhatIsReadIsSound : Type 0
WhatIsReadIsSound = (d : Data) (p : Plain) (t : Totals) → read_of d ≡ Ok (p, t) → IsSound (settled_world p t)

-- the totals of a world's ledger, by cause
abbrev pub totals_of_world : World → Totals
totals_of_world w = totals_of (book_of w)

-- the parts that are written of a world make the world again, and break no clause together
pub record IsMadeAgain (w : World) : Type 0 where
  pub plain : plain_of (saved_of w.plain (totals_of_world w)) ≡ w.plain
  pub fit : first_unfit (saved_of w.plain (totals_of_world w)) ≡ None

-- The parts that are written of a sound world make it again.
abbrev pub WhatIsWrittenFits : Type 0
WhatIsWrittenFits = (w : World) → IsSound w → IsMadeAgain w

-- what a sound world has to have beside, so that it is read again: the totals of its ledger are within what a file may
-- have
abbrev pub HasSmallTotals : World → Type 0
HasSmallTotals w = AreSmall (2 ^ 126) (book_of w)

-- A sound world with small totals is read again as it is written.
abbrev pub WhatIsWrittenIsReadAgain : Type 0
WhatIsWrittenIsReadAgain = (w : World) → IsSound w → HasSmallTotals w → read_of (value_of w.plain (totals_of_world w)) ≡ Ok (w.plain, totals_of_world w)

-- The totals of a world that is read are small, so that it can be written again, and so is read once more as the same
-- world.
abbrev pub WhatIsReadHasSmallTotals : Type 0
WhatIsReadHasSmallTotals = (d : Data) (p : Plain) (t : Totals) → read_of d ≡ Ok (p, t) → HasSmallTotals (settled_world p t)

-- It is the world that was written, but for its entries and events, and so goes on as that does: all commands have the
-- same answers, and its plain lists are the same after them.
abbrev pub WhatIsReadAgainGoesOnTheSame : Type 0
WhatIsReadAgainGoesOnTheSame = (w : World) (p : Plain) (t : Totals) → IsSound w → HasSmallTotals w → read_of (value_of w.plain (totals_of_world w)) ≡ Ok (p, t) → GoOnTheSame (settled_world p t) w
