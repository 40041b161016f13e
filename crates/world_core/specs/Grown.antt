-- Trusted: By how much the totals of a ledger grow by calls.
use Rattle.std.specs.Prelude.{ℕ, ◌+◌, ◌*◌, ◌^◌}
use Rattle.fixed_geom.specs.declared.vectors.Vec2.{Vec2}
use Rattle.world_file.specs.Laws.{HasSmallTotals}
use Rattle.world_core.specs.Frames.{with_ledger_settled}
use Rattle.world_rules.specs.Apply.{empty_world}
use Rattle.world_rules.specs.Replay.{after}
use Rattle.world_rules.specs.Sound.{AreSmall, IsSound}
use Rattle.world_rules.specs.World.{World, book_of}
use Rattle.world_rules.specs.declared.command.Command.{Command}

-- With each call that was accepted since, no total of a cause has grown by more than 2^83 in a component.
abbrev pub GrowsByCalls : World → World → Type 0
GrowsByCalls old new = (n : ℕ) → AreSmall (n + old.plain.calls * 2 ^ 83) (book_of old) → AreSmall (n + new.plain.calls * 2 ^ 83) (book_of new)

-- So it is by one command, whether it is accepted or refused, where the world is sound before and after it.
abbrev pub EachCallBooksLittle : Type 0
EachCallBooksLittle = (w : World) (c : Command) → IsSound w → IsSound (after w c) → GrowsByCalls w (after w c)

-- And where the ledger is settled.
abbrev pub SettlingBooksNothing : Type 0
SettlingBooksNothing = (w : World) → GrowsByCalls w (with_ledger_settled w)

-- A sound world that has grown so from a new one has totals within 2^126, so that it can be saved and read again.
abbrev pub GrownWorldsHaveSmallTotals : Type 0
GrownWorldsHaveSmallTotals = (g : Vec2) (w : World) → IsSound w → GrowsByCalls (empty_world g) w → HasSmallTotals w
