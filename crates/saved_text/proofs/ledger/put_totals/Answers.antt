use Rattle.world_file_base.specs.SavedTotals.{totals_data}
use Rattle.saved_text.proofs.Objects.{totals_object}
use Rattle.saved_text.proofs.ledger.put_totals.Goals as goal

pub returns : goal.returns
returns c = record { text = c.put_object.ensures.text (totals_data c.args.totals.now) (totals_object c.args.totals.now) }
