use Rattle.std.proofs.Common.{map}
use Rattle.saved_text.specs.Leaves.{member_of}
use Rattle.saved_text.proofs.Adding.{object_added, wrote}
use Rattle.saved_text.proofs.members.put_object.Goals as goal

pub returns : goal.returns
returns c = record { text = λ d is. object_added (map member_of c.args.members.now) d _ _ _ _ is (wrote _ _ _ _ c.in_ok-begin_object.ensures) c.in_ok-put_members.ensures.text (wrote _ _ _ _ c.in_ok-end_object.ensures) }
