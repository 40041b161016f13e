use Rattle.std.proofs.Common.{sym, ap, ◌∙◌}
use Rattle.world_file_base.specs.declared.reader.Reader.{Reader}
use Rattle.world_file.specs.AskedParts.{IsBrokenBy, fitting_asks}
use Rattle.world_file.specs.Clauses.{first_unfit}
use Rattle.world_file.specs.Parts.{parts_of}
use Rattle.world_file.proofs.FirstBroken.{found_unfit}
use Rattle.world_file.proofs.ReadingLaws.{carried, unfit_by}
use Rattle.world_file.proofs.world.fit.Goals as goal

pub returns-in_err-parts-clause-refused : goal.returns-in_err-parts-clause-refused
returns-in_err-parts-clause-refused c =
    carried c.from_residual.result c.in_err-parts.field-0.0 (λ e. IsBrokenBy (first_unfit (parts_of c.args.saved)) e) c.from_residual.ensures.0 c.from_residual.ensures.1
    (unfit_by (parts_of c.args.saved) c.new-reader.result c.in_err-parts.field-0.0 c.new-reader.ensures c.in_err-parts.ensures.refused)

pub returns-clause-keeps : goal.returns-clause-keeps
returns-clause-keeps c = sym (found_unfit (parts_of c.args.saved)) ∙ ap (λ (r : Reader). (fitting_asks (parts_of c.args.saved) r).broken) (sym c.new-reader.ensures) ∙ c.in_ok-parts.ensures.keeps
