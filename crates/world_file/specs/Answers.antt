-- Trusted: What reading a world answers.
use Rattle.std.specs.Prelude.{◌≡◌, Result, Err}
use Rattle.impulse_ledger.specs.declared.totals.Totals.{Totals}
use Rattle.plain_world.specs.Plain.{Plain}
use Rattle.world_file_base.specs.declared.clause.Broken.{Broken}
use Rattle.world_file_base.specs.declared.clause.Broken.TheVariants as broken
use Rattle.world_file_base.specs.declared.clause.Clause.{Clause}

-- want of memory, or the clause that the value breaks
abbrev pub IsRefusedBy : Result (Plain × Totals) Clause → Broken → Type 0
IsRefusedBy due broken.NoMemory = Unit {0}
IsRefusedBy due (broken.Clause clause) = due ≡ Err clause
