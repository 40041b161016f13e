use Rattle.std.proofs.Common.{drop, map}
use Rattle.saved_text.specs.Leaves.{member_of}
use Rattle.saved_text.specs.Tokens.{MembersLeft}
use Rattle.saved_text.proofs.members.put_members.Given as goal

abbrev pub invariant-loop-member : goal.invariant-loop-member
invariant-loop-member l = MembersLeft (map member_of (drop l.member-index l.members)) (map member_of l.members) l.fn.out l.out
