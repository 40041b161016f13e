use Rattle.std.proofs.Common.{◌∙◌, ◌++◌, ap, sym, List}
use Rattle.contacts_base.specs.declared.contact.ContactEntry.{ContactEntry}
use Rattle.contacts_base.proofs.JoinedLaws.{one_passed}
use Rattle.contacts_base.proofs.counted.push_counting.Goals as goal

pub loop-index-preserved-then-is_set : goal.loop-index-preserved-then-is_set
loop-index-preserved-then-is_set c =
    ap (λ (l : List ContactEntry). c.loop-index.all.items ++ l) (one_passed c.args.over.now c.args.more.now c.loop-index.index c.requires.flags c.loop-index-test.true (sym c.is_set.ensures ∙ c.if-is_set.true)) ∙ c.loop-index.invariant
