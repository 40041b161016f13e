-- A world that is read again goes on as the one that was written.
use Rattle.std.proofs.Common.{Result, Ok, Err, sym, ap, ◌∙◌}
use Rattle.impulse_ledger.specs.declared.totals.Totals.{Totals}
use Rattle.plain_world.specs.Plain.{Plain}
use Rattle.world_file_base.specs.declared.clause.Clause.{Clause}
use Rattle.world_rules.proofs.SameAnswers.{plain_lists_determine_all}
use Rattle.world_rules.specs.Settled.{settled_world}
use Rattle.world_file.proofs.BackWhole.{what_is_written_is_read_again}
use Rattle.world_file.specs.Laws.{WhatIsReadAgainGoesOnTheSame}

-- the plain lists that were read, or these
abbrev plain_or : Plain → Result (Plain × Totals) Clause → Plain
plain_or p (Ok (q, t)) = q
plain_or p (Err clause) = p

pub what_is_read_again_goes_on_the_same : WhatIsReadAgainGoesOnTheSame
what_is_read_again_goes_on_the_same w p t sound small e =
    plain_lists_determine_all (settled_world p t) w (ap (plain_or w.plain) (sym e ∙ what_is_written_is_read_again w sound small))
