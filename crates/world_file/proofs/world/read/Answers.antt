use Rattle.std.proofs.Common.{length, sym, ap, ◌∙◌}
use Rattle.std.specs.Prelude.{Result, Ok}
use Rattle.serde_json.specs.View.{view}
use Rattle.impulse_ledger.specs.declared.totals.Totals.{Totals}
use Rattle.plain_world.specs.Plain.{Plain}
use Rattle.world_file_base.specs.declared.clause.Clause.{Clause}
use Rattle.world_file.specs.Answers.{IsRefusedBy}
use Rattle.world_file.specs.Files.{read_of}
use Rattle.world_file.specs.Parts.{parts_of}
use Rattle.world_file.proofs.CountLaws.{read_colours}
use Rattle.world_file.proofs.FewLemmas.{few_joints, few_memberships}
use Rattle.world_file.proofs.ReadingLaws.{carried, read_is, refused_late, refused_soon}
use Rattle.world_file.proofs.world.read.Goals as goal

pub returns-in_err-verdict-clause-refused : goal.returns-in_err-verdict-clause-refused
returns-in_err-verdict-clause-refused c =
    carried c.from_residual-in_err-verdict.result c.in_err-verdict.field-0.0 (λ e. IsRefusedBy (read_of (view c.args.value.now)) e) c.from_residual-in_err-verdict.ensures.0 c.from_residual-in_err-verdict.ensures.1
    (refused_soon (view c.args.value.now) c.read_parts.new.reader c.new-reader.result c.in_err-verdict.field-0.0 c.in_ok-saved.ensures.asked c.new-reader.ensures c.in_err-verdict.ensures.broken)

pub fitted-requires-clause-few : goal.fitted-requires-clause-few
fitted-requires-clause-few c = few_memberships (view c.args.value.now) (parts_of c.in_ok-saved.saved) c.read_parts.new.reader c.new-reader.result c.in_ok-saved.ensures.value c.in_ok-saved.ensures.asked c.new-reader.ensures c.in_ok-verdict.ensures.going

pub fitted-requires-clause-few_joints : goal.fitted-requires-clause-few_joints
fitted-requires-clause-few_joints c = few_joints (view c.args.value.now) (parts_of c.in_ok-saved.saved) c.read_parts.new.reader c.new-reader.result c.in_ok-saved.ensures.value c.in_ok-saved.ensures.asked c.new-reader.ensures c.in_ok-verdict.ensures.going

pub returns-in_err-parts-clause-refused : goal.returns-in_err-parts-clause-refused
returns-in_err-parts-clause-refused c =
    carried c.from_residual-in_err-parts.result c.in_err-parts.field-0.0 (λ e. IsRefusedBy (read_of (view c.args.value.now)) e) c.from_residual-in_err-parts.ensures.0 c.from_residual-in_err-parts.ensures.1
    (refused_late (view c.args.value.now) (parts_of c.in_ok-saved.saved) c.read_parts.new.reader c.new-reader.result c.in_err-parts.field-0.0 c.in_ok-saved.ensures.value c.in_ok-saved.ensures.asked c.new-reader.ensures c.in_err-parts.ensures.refused)

pub returns-clause-read : goal.returns-clause-read
returns-clause-read c =
    let answer : Plain → Result (Plain × Totals) Clause = λ p. Ok (p, c.in_ok-saved.saved.totals) in
    read_is (view c.args.value.now) (parts_of c.in_ok-saved.saved) c.read_parts.new.reader c.new-reader.result c.in_ok-saved.ensures.value c.in_ok-saved.ensures.asked c.new-reader.ensures c.in_ok-parts.ensures.keeps
    ∙ ap answer (sym c.plain_of.ensures)

pub returns-clause-colours : goal.returns-clause-colours
returns-clause-colours c = ap (λ (p : Plain). length p.colours) c.plain_of.ensures ∙ read_colours (parts_of c.in_ok-saved.saved)
