use Rattle.std.proofs.Common.{◌≡◌, drop}
use Rattle.contacts_base.specs.Split.{renewed}
use Rattle.contacts_base.proofs.split.changing.renew_all.Given as goal

abbrev pub invariant-loop-note : goal.invariant-loop-note
invariant-loop-note l = renewed (drop l.note-index l.notes) l.entries.items ≡ renewed l.notes l.fn.entries.items
