use Rattle.std.proofs.Common.{sym}
use Rattle.world_file_base.specs.SavedContacts.{point_or_none}
use Rattle.saved_text.proofs.Adding.{points_added, wrote}
use Rattle.saved_text.proofs.saved_contacts.put_points.Goals as goal

pub returns : goal.returns
returns c = record {
  text = rw (sym c.first.ensures, sym c.second.ensures)
      (points_added (point_or_none c.first.result) (point_or_none c.second.result) _ _ _ _ _ (wrote _ _ _ _ c.in_ok-begin_array.ensures) c.in_ok-put_point_or_none.ensures.text
      c.in_ok-put_point_or_none-2.ensures.text (wrote _ _ _ _ c.in_ok-end_array.ensures));
}
