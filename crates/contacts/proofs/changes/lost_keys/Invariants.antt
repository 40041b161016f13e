use Rattle.std.proofs.Common.{◌≡◌, take}
use Rattle.contacts_base.specs.Changes.{keys_touching_only_in}
use Rattle.contacts_base.specs.ChangedKeys.{keys_not_in}
use Rattle.contacts.proofs.changes.lost_keys.Given as goal

abbrev pub invariant-loop-entry : goal.invariant-loop-entry
invariant-loop-entry l = record {
  gone : l.gone.items ≡ keys_not_in l.now (take l.entry-index l.old);
  end : l.end.items ≡ keys_touching_only_in l.now (take l.entry-index l.old);
}
