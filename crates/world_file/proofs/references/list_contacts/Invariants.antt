use Rattle.std.proofs.Common.{◌≡◌, ◌++◌, drop, map}
use Rattle.world_file.specs.Fitting.{entry_read}
use Rattle.world_file.proofs.references.list_contacts.Given as goal

abbrev pub invariant-loop-contact : goal.invariant-loop-contact
invariant-loop-contact l = l.entries.items ++ map (entry_read l.bodies) (drop l.contact-index l.saved) ≡ map (entry_read l.bodies) l.saved
