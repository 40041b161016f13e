-- Trusted: The tags that a caller gives bodies.
use Rattle.std.specs.Prelude.{ℕ, ◌+◌, ◌-◌, ◌==◌, cond, List, ◌++◌, length, replicate, slice_get, slice_set, Option, Some, None}
use Rattle.body_handles.specs.declared.handle.Handle.{Handle}
use Rattle.world_desk.specs.declared.step_event.Tagged.{Tagged}

-- what stands in a slot of which no body has a tag
abbrev pub untagged : Tagged
untagged = record { generation = 0; tag = 0 }

-- the tag counts for the body to which it was given
abbrev pub tag_if : Option Tagged → ℕ → ℕ
tag_if None generation = 0
tag_if (Some t) generation = cond (t.generation == generation) t.tag 0

-- the tag of a body; 0 where it has none
abbrev pub tag_of : List Tagged → Handle → ℕ
tag_of tags h = tag_if (slice_get tags h.slot) h.generation

-- the list with at least n slots
abbrev pub padded : ℕ → List Tagged → List Tagged
padded n tags = tags ++ replicate (n - length tags) untagged

-- the list once a body was given a tag: its slot has the tag, for this body alone
abbrev pub tagged : List Tagged → Handle → ℕ → List Tagged
tagged tags h tag = slice_set (padded (h.slot + 1) tags) h.slot (record { generation = h.generation; tag = tag })
