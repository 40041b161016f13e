-- Trusted: What saving and loading promise together.
use Rattle.std.specs.Prelude.{◌≡◌, None, Result, Ok, Err}
use Rattle.serde_json.specs.Data.{Data}
use Rattle.world_file_base.specs.declared.clause.Broken.{Broken}
use Rattle.world_file_base.specs.declared.clause.Broken.TheVariants.{NoMemory}
use Rattle.world_file.specs.Laws.{HasSmallTotals, totals_of_world}
use Rattle.world_file.specs.Clauses.{first_broken}
use Rattle.world_file.specs.Files.{read_of, value_of}
use Rattle.world_rules.specs.Settled.{settled_world}
use Rattle.world_rules.specs.Sound.{IsSound}
use Rattle.world_rules.specs.World.{World}

-- the world but for its entries, which are settled, and its events: its plain lists, and the totals of its ledger
abbrev pub kept_of : World → World
kept_of w = settled_world w.plain (totals_of_world w)

-- the value breaks no clause, and what is read of it is this world, but for entries and events
pub record IsReadAs (w : World) (d : Data) : Type 0 where
  pub unbroken : first_broken d ≡ None
  pub read : read_of d ≡ Ok (w.plain, totals_of_world w)

-- a call has made this world, or memory was wanting
abbrev pub IsLoadOf : World → Result World Broken → Type 0
IsLoadOf w (Ok made) = made ≡ w
IsLoadOf w (Err e) = e ≡ NoMemory

-- of what was saved of a world with small totals, the call makes that world again, but for entries and events
abbrev pub ComesBack : Data → Result World Broken → Type 0
ComesBack d answer = (w : World) → IsSound w → HasSmallTotals w → d ≡ value_of w.plain (totals_of_world w) → IsLoadOf (kept_of w) answer
