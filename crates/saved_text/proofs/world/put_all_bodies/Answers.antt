use Rattle.std.proofs.Common.{codes, sym}
use Rattle.world_file_base.specs.SavedSlots.{bodies_data}
use Rattle.saved_text.proofs.Adding.{member_added, wrote}
use Rattle.saved_text.proofs.world.put_all_bodies.Goals as goal

pub returns : goal.returns
returns c =
    let p = c.args.plain.now in
    record { text = member_added (codes "bodies") (bodies_data p.slot_entries p.bodies p.islands) _ _ _ (wrote _ _ _ _ c.in_ok-key.ensures) (rw (sym c.slot_entries.ensures, sym c.bodies.ensures, sym c.islands.ensures) c.in_ok-put_bodies.ensures.text) }
