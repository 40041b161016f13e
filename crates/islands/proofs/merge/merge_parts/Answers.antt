use Rattle.std.proofs.Common.{sym, ◌∙◌}
use Rattle.islands.specs.Labels.{union_label}
use Rattle.islands.specs.Packed.{head_at, name_of, labels_by}
use Rattle.islands.proofs.JoinPartLemmas.{union_is, union_back, relabelled_back}
use Rattle.islands.proofs.PlacedLemmas.{joined_by, joined_placed, merged_one_by, merged_one_placed}
use Rattle.islands.proofs.merge.merge_parts.Goals as goal

pub returns-then-x-y-clause-standing : goal.returns-then-x-y-clause-standing
returns-then-x-y-clause-standing c = λ node_entries w. rw (c.set_label.ensures.heads, c.union_of-label.ensures, c.deref.ensures.value)
    (merged_one_placed node_entries c.args.notes.now.items c.args.heads.now.items c.args.x c.args.y w c.requires.first c.if-x-y.true)

pub returns-then-x-y-clause-labels : goal.returns-then-x-y-clause-labels
returns-then-x-y-clause-labels c = λ node_entries w. rw (c.set_label.ensures.heads, c.union_of-label.ensures, c.deref.ensures.value)
    (merged_one_by node_entries c.args.notes.now.items c.args.heads.now.items c.args.x c.args.y w c.requires.first c.if-x-y.true)

pub returns-then-is_smaller-clause-standing : goal.returns-then-is_smaller-clause-standing
returns-then-is_smaller-clause-standing c = λ node_entries w. rw (c.join.ensures.heads, c.union_of-label.ensures, c.deref.ensures.value)
    (joined_placed node_entries c.args.notes.now.items c.args.heads.now.items c.args.y c.args.x c.join.new.notes.items (union_label (head_at c.args.heads.now.items c.args.x).label (head_at c.args.heads.now.items c.args.y).label) w c.requires.second c.requires.first (λ e. c.if-x-y.false (sym e)) c.join.ensures.joined
    (union_back c.args.heads.now.items c.args.x c.args.y (union_label (head_at c.args.heads.now.items c.args.x).label (head_at c.args.heads.now.items c.args.y).label) (union_is c.args.heads.now.items c.args.x c.args.y)))

pub returns-then-is_smaller-clause-labels : goal.returns-then-is_smaller-clause-labels
returns-then-is_smaller-clause-labels c = λ node_entries w. rw (c.join.ensures.heads, c.union_of-label.ensures, c.deref.ensures.value)
    (joined_by node_entries c.args.notes.now.items c.args.heads.now.items c.args.y c.args.x c.join.new.notes.items (union_label (head_at c.args.heads.now.items c.args.x).label (head_at c.args.heads.now.items c.args.y).label) w c.requires.second c.requires.first (λ e. c.if-x-y.false (sym e)) c.join.ensures.joined
    ∙ relabelled_back (name_of c.args.heads.now.items c.args.y) (name_of c.args.heads.now.items c.args.x) (union_label (head_at c.args.heads.now.items c.args.x).label (head_at c.args.heads.now.items c.args.y).label) (labels_by node_entries c.args.notes.now.items c.args.heads.now.items))

pub returns-else-is_smaller-clause-standing : goal.returns-else-is_smaller-clause-standing
returns-else-is_smaller-clause-standing c = λ node_entries w. rw (c.join-else-is_smaller.ensures.heads, c.union_of-label.ensures, c.deref.ensures.value)
    (joined_placed node_entries c.args.notes.now.items c.args.heads.now.items c.args.x c.args.y c.join-else-is_smaller.new.notes.items (union_label (head_at c.args.heads.now.items c.args.x).label (head_at c.args.heads.now.items c.args.y).label) w c.requires.first c.requires.second c.if-x-y.false c.join-else-is_smaller.ensures.joined
    (union_is c.args.heads.now.items c.args.x c.args.y))

pub returns-else-is_smaller-clause-labels : goal.returns-else-is_smaller-clause-labels
returns-else-is_smaller-clause-labels c = λ node_entries w. rw (c.join-else-is_smaller.ensures.heads, c.union_of-label.ensures, c.deref.ensures.value)
    (joined_by node_entries c.args.notes.now.items c.args.heads.now.items c.args.x c.args.y c.join-else-is_smaller.new.notes.items (union_label (head_at c.args.heads.now.items c.args.x).label (head_at c.args.heads.now.items c.args.y).label) w c.requires.first c.requires.second c.if-x-y.false c.join-else-is_smaller.ensures.joined)
