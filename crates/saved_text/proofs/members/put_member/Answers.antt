use Rattle.saved_text.specs.Leaves.{member_of}
use Rattle.saved_text.proofs.Adding.{member_added, wrote}
use Rattle.saved_text.proofs.members.put_member.Goals as goal

pub returns : goal.returns
returns c =
    let m = member_of c.args.member in
    record { text = member_added m.0 m.1 _ _ _ (wrote _ _ _ _ c.in_ok-key.ensures) c.in_ok-put_leaf.ensures.text }
