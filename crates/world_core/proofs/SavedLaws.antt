-- What was saved of a world with small totals comes back.
use Rattle.std.proofs.Common.{◌≡◌, Option, Some, None, Result, Ok, Err, IfOk, refl, sym, ap, ◌∙◌}
use Rattle.serde_json.specs.Data.{Data}
use Rattle.impulse_ledger.specs.declared.totals.Totals.{Totals}
use Rattle.plain_world.specs.Plain.{Plain}
use Rattle.world_file_base.specs.declared.clause.Broken.{Broken}
use Rattle.world_file_base.specs.declared.clause.Broken.TheVariants as broken
use Rattle.world_file_base.specs.declared.clause.Clause.{Clause}
use Rattle.world_file.proofs.BackWhole.{what_is_written_is_read_again}
use Rattle.world_file.specs.Laws.{HasSmallTotals, totals_of_world}
use Rattle.world_core.specs.SavedAgain.{ComesBack, IsReadAs}
use Rattle.world_file.specs.Answers.{IsRefusedBy}
use Rattle.world_file.specs.Clauses.{first_broken}
use Rattle.world_file.specs.Files.{read_of, read_unless, value_of}
use Rattle.world_file.specs.Saved.{Saved, saved_in}
use Rattle.world_rules.specs.Settled.{settled_world}
use Rattle.world_rules.specs.Sound.{IsSound}
use Rattle.world_rules.specs.World.{World}

-- ---- what is saved

none_broken : (o : Option Clause) (s : Saved) (r : Plain × Totals) → read_unless o s ≡ Ok r → o ≡ None
none_broken None s r e = refl
none_broken (Some clause) s r e = cc

unbroken : (d : Data) (r : Plain × Totals) → read_of d ≡ Ok r → first_broken d ≡ None
unfolding read_of
unbroken d r e = none_broken (first_broken d) (saved_in d) r e

read_as : (w : World) (d : Data) → IsSound w → HasSmallTotals w → d ≡ value_of w.plain (totals_of_world w) → IsReadAs w d
read_as w d sound small saved =
    let read : read_of d ≡ Ok (w.plain, totals_of_world w) = ap read_of saved ∙ what_is_written_is_read_again w sound small in
    record { unbroken = unbroken d (w.plain, totals_of_world w) read; read = read }

pub saved_again : {E V : Type 0} (view : V → Data) (w : World) (r : Result V E) → IsSound w → IfOk r (λ (v : V). view v ≡ value_of w.plain (totals_of_world w)) → IfOk r (λ (v : V). HasSmallTotals w → IsReadAs w (view v))
saved_again view w (Ok v) sound saved = λ small. read_as w (view v) sound small saved
saved_again view w (Err e) sound saved = tt

-- ---- what is loaded

-- the world of what was read, or this one
abbrev world_or : World → Result (Plain × Totals) Clause → World
world_or w (Ok (p, t)) = settled_world p t
world_or w (Err clause) = w

pub loaded_again : (d : Data) (p : Plain) (t : Totals) (made : World) → read_of d ≡ Ok (p, t) → made ≡ settled_world p t → ComesBack d (Ok made)
loaded_again d p t made read is = λ w sound small saved. is ∙ ap (world_or w) (sym read ∙ (read_as w d sound small saved).read)

refused_for : (due : Result (Plain × Totals) Clause) (r : Plain × Totals) (e : Broken) → due ≡ Ok r → IsRefusedBy due e → e ≡ broken.NoMemory
refused_for due r broken.NoMemory ok h = refl
refused_for due r (broken.Clause clause) ok h = cc

pub refused_again : (d : Data) (e : Broken) → IsRefusedBy (read_of d) e → ComesBack d (Err e)
refused_again d e h = λ w sound small saved. refused_for (read_of d) (w.plain, totals_of_world w) e (read_as w d sound small saved).read h
