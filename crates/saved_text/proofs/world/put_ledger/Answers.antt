use Rattle.std.proofs.Common.{codes}
use Rattle.world_file_base.specs.SavedTotals.{totals_data}
use Rattle.saved_text.proofs.Adding.{member_added, wrote}
use Rattle.saved_text.proofs.world.put_ledger.Goals as goal

pub returns : goal.returns
returns c = record { text = member_added (codes "ledger") (totals_data c.args.totals.now) _ _ _ (wrote _ _ _ _ c.in_ok-key.ensures) c.in_ok-put_totals.ensures.text }
