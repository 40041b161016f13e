use Rattle.std.proofs.Common.{◌≡◌, ◌++◌, drop, nat_eq}
use Rattle.std.specs.HashMap.{get}
use Rattle.world_file.specs.Taken.{contact_colours_by}
use Rattle.world_file.proofs.colours.list_contact_colours.Given as goal

abbrev pub invariant-loop-entry : goal.invariant-loop-entry
invariant-loop-entry l = l.colours.items ++ contact_colours_by (get nat_eq l.by_number) (drop l.entry-index l.contacts) ≡ contact_colours_by (get nat_eq l.by_number) l.contacts
