use Rattle.std.proofs.Common.{Bool, ap, ◌∙◌}
use Rattle.world_file_base.specs.Asks.{asked}
use Rattle.world_file_base.specs.declared.clause.Clause.TheVariants.{References}
use Rattle.world_file.specs.AskedParts.{IsBrokenBy, fitting_asks}
use Rattle.world_file.specs.Parts.{parts_of}
use Rattle.world_file.proofs.ReadingLaws.{carried, refused_first}
use Rattle.world_file.proofs.world.fitted.Goals as goal

pub returns-in_err-verdict-clause-refused : goal.returns-in_err-verdict-clause-refused
returns-in_err-verdict-clause-refused c =
    carried c.from_residual.result c.in_err-verdict.field-0.0 (λ e. IsBrokenBy (fitting_asks (parts_of c.args.saved.now) c.args.reader).broken e) c.from_residual.ensures.0 c.from_residual.ensures.1
    (refused_first (parts_of c.args.saved.now) c.args.reader c.ask.new.self c.in_err-verdict.field-0.0 (c.ask.ensures ∙ ap (λ (t : Bool). asked t References c.args.reader) c.do_references_keep.ensures) c.in_err-verdict.ensures.broken)
