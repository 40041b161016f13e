use Rattle.std.proofs.Common.{◌+◌, ◌*◌}
use Rattle.json.specs.Lex.{between, lex}
use Rattle.loaded_text.specs.Canonical.{ItemsSoFar, MembersSoFar}
use Rattle.loaded_text.proofs.canonical.+copy_value.Given as goal

abbrev pub decreases-copy_value : goal.decreases-copy_value
decreases-copy_value l = 3 * l.depth + 2

abbrev pub decreases-copy_items : goal.decreases-copy_items
decreases-copy_items l = 3 * l.depth + 1

abbrev pub decreases-copy_members : goal.decreases-copy_members
decreases-copy_members l = 3 * l.depth + 1

abbrev pub decreases-copy_member : goal.decreases-copy_member
decreases-copy_member l = 3 * l.depth + 3

abbrev pub invariant-copy_items-loop : goal.invariant-copy_items-loop
invariant-copy_items-loop l = ItemsSoFar l.inner (lex between l.initial.text.rest.now) (lex between l.text.rest.now) l.initial.out.items l.out.items

abbrev pub invariant-copy_members-loop : goal.invariant-copy_members-loop
invariant-copy_members-loop l = MembersSoFar l.inner (lex between l.initial.text.rest.now) (lex between l.text.rest.now) l.initial.out.items l.mixed l.pieces.items l.out.items
