use Rattle.std.proofs.Common.{Some, ap, ◌∙◌, arith}
use Rattle.serde_json.specs.View.{view}
use Rattle.serde_json.proofs.Views.{get_item_within, get_item_past}
use Rattle.world_file_base.proofs.values.item_at.Goals as goal

pub returns-then-place-items : goal.returns-then-place-items
returns-then-place-items c = ap (λ v. Some (view v)) c.index-items-place.is ∙ get_item_within c.args.items.now c.args.place c.index-items-place.result (omega arith)

pub returns-else-place-items : goal.returns-else-place-items
returns-else-place-items c = get_item_past c.args.items.now c.args.place (omega arith)
