use Rattle.std.proofs.Common.{◌∙◌, ◌++◌, ap, sym, List}
use Rattle.contacts_base.specs.declared.contact.ContactEntry.{ContactEntry}
use Rattle.contacts_base.specs.Contacts.{number_of}
use Rattle.contacts_base.specs.Merge.{below_of, beyond_of}
use Rattle.contacts_base.proofs.JoinedLaws.{one_passed}
use Rattle.contacts_base.proofs.counted.push_counting_below.Goals as goal

pub loop-index-preserved-then-is_set : goal.loop-index-preserved-then-is_set
loop-index-preserved-then-is_set c =
    let passed = one_passed c.args.over.now c.args.more.now c.loop-index.index c.requires.flags c.loop-index-test.true (sym c.is_set.ensures ∙ c.if-is_set.true) in
    record {
      pushed = ap (λ (l : List ContactEntry). c.loop-index.all.items ++ below_of number_of c.args.entry.now l) passed ∙ c.loop-index.invariant.pushed;
      left = ap (beyond_of number_of c.args.entry.now) passed ∙ c.loop-index.invariant.left;
    }
