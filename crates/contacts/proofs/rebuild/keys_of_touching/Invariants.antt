use Rattle.std.proofs.Common.{◌≡◌, take, None}
use Rattle.std.specs.List.{filter_map}
use Rattle.contacts_base.specs.Changes.{key_if_new}
use Rattle.contacts.proofs.rebuild.keys_of_touching.Given as goal

abbrev pub invariant-loop-place : goal.invariant-loop-place
invariant-loop-place l = l.keys.items ≡ filter_map (key_if_new None) (take l.place l.fresh)
