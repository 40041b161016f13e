use Rattle.std.proofs.Common.{◌≡◌, map, take}
use Rattle.contacts.specs.Numbered.{numbered_of}
use Rattle.contacts.proofs.noting.note_fresh.Given as goal

abbrev pub invariant-loop-place : goal.invariant-loop-place
invariant-loop-place l = l.made.items ≡ map numbered_of (take l.place l.entries)
