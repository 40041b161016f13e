use Rattle.std.proofs.Common.{ℕ, ◌↔◌, take}
use Rattle.std.specs.List.{Contains}
use Rattle.contacts.specs.StirringPlaces.{IsPlaceOfOne}
use Rattle.contacts.proofs.stirring_places.push_places.Given as goal

abbrev pub invariant-loop-place : goal.invariant-loop-place
invariant-loop-place l = (p : ℕ) → Contains l.places.items p ↔ IsPlaceOfOne l.entries l.numbers.contacts.items (take l.place l.slots) p
