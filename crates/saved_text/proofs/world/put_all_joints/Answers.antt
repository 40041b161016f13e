use Rattle.std.proofs.Common.{codes, List, Option, ℕ, ap, nat_eq, subst, sym}
use Rattle.std.specs.HashMap.{get}
use Rattle.serde_json.specs.Data.{Data}
use Rattle.world_file_base.specs.SavedSlots.{joints_data}
use Rattle.world_file.specs.Files.{joint_colours}
use Rattle.world_file.specs.Taken.{joint_colours_by}
use Rattle.world_file.proofs.Numbered.{joints_numbered}
use Rattle.saved_text.specs.Tokens.{AddsValue}
use Rattle.saved_text.proofs.Adding.{member_added, wrote}
use Rattle.saved_text.proofs.world.put_all_joints.Goals as goal

pub returns : goal.returns
returns c =
    let p = c.args.plain.now in
    let of = get nat_eq c.args.by_number.now in
    let coloured = ap (λ (cs : List (Option ℕ)). joints_data p.slot_entries p.joint_entries p.joints cs) (joints_numbered of p.colours 0 p.joint_entries c.requires.colours) in
    let listed : AddsValue (joints_data p.slot_entries p.joint_entries p.joints (joint_colours_by of 0 p.joint_entries)) c.key.new.self c.put_joints.new.out =
    rw (sym c.slot_entries.ensures, sym c.joint_entries.ensures, sym c.joints.ensures) c.in_ok-put_joints.ensures.text in
    record { text = member_added (codes "joints") (joints_data p.slot_entries p.joint_entries p.joints (joint_colours p.colours 0 p.joint_entries)) _ _ _ (wrote _ _ _ _ c.in_ok-key.ensures) (subst (λ (d : Data). AddsValue d c.key.new.self c.put_joints.new.out) coloured listed) }
