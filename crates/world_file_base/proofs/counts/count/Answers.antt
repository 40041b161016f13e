use Rattle.std.proofs.Common.{sym}
use Rattle.serde_json.proofs.Views.{items_len-items_view}
use Rattle.world_file_base.proofs.counts.count.Goals as goal

pub returns : goal.returns
returns c = sym (items_len-items_view c.args.items.now)
