use Rattle.std.proofs.Common.{◌≡◌, length, ap, sym, ◌∙◌}
use Rattle.serde_json.specs.Events.{items_len}
use Rattle.serde_json.proofs.Views.{items_len-items_view}
use Rattle.world_file_base.specs.Reading.{items_in, seen}
use Rattle.world_file_base.proofs.reader.Reader.pair.Goals as goal

pub returns-clause-asked : goal.returns-clause-asked
returns-clause-asked c =
    let items = c.list-items.result.now in
    let long : items_len (items_in (seen c.args.value)) ≡ length items = ap items_len (sym c.list-items.ensures.value) ∙ items_len-items_view items in
    rw long (c.ask.ensures ∙ rw c.list-items.ensures.asked)
