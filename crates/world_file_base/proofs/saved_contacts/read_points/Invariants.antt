use Rattle.std.proofs.Common.{◌≡◌, drop}
use Rattle.serde_json.specs.View.{items_view}
use Rattle.world_file_base.specs.SavedContacts.{no_points, with_points}
use Rattle.world_file_base.specs.AskedContacts.{points_asks}
use Rattle.world_file_base.proofs.saved_contacts.read_points.Given as goal

abbrev pub invariant-loop-value : goal.invariant-loop-value
invariant-loop-value l = record {
  contact : with_points (items_view (drop l.value-index l.points)) l.contact ≡ with_points (items_view l.points) no_points;
  asked : points_asks (items_view (drop l.value-index l.points)) l.reader ≡ points_asks (items_view l.points) l.fn.reader;
}
