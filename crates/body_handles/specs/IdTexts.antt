-- Trusted: How a script writes the id of a body.
use Rattle.std.specs.Prelude.{◌≡◌, ◌<◌, ◌⊎◌, ◌++◌, ◌∷◌, ℕ, List, length, slice_index}
use Rattle.std.specs.Fmt.{decimal}
use Rattle.body_handles.specs.declared.handle.Handle.{Handle}

-- the byte of the point between the slot and the generation
abbrev pub point : ℕ
point = 46

-- the slot, a point and the generation, both in decimal
abbrev pub id_text : Handle → List ℕ
id_text handle = decimal handle.slot ++ point ∷ decimal handle.generation

-- a text that begins with `+`, or with a `0` that isn't all of it
abbrev pub IsPadded : List ℕ → Type 0
IsPadded text = (slice_index text 0 ≡ 43) ⊎ ((slice_index text 0 ≡ 48) × (1 < length text))
