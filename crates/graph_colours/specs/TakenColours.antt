-- The colours that each mover has: a word for each slot, and in it a bit for each colour, which is set where a member
-- of the colour has the mover there.
use Rattle.std.specs.Prelude.{◌≡◌, ◌≢◌, ℕ, ◌<◌, ◌≤◌, ◌-◌, ◌^◌, Bool, cond, List, length, slice_index_or, bit_and, bit_or, Option, Some, None}
use Rattle.std.specs.List.{list_any}
use Rattle.std.specs.Int.{bit_at}
use Rattle.graph_colours.specs.declared.limits.TheConstants.{COLOURS}
use Rattle.graph_colours.specs.declared.member.Movers.{Movers}
use Rattle.graph_colours.specs.declared.member.Member.{Member}
use Rattle.graph_colours.specs.Movers.{has_mover}
use Rattle.graph_colours.specs.Colours.{list_at}

-- the bit that tells whether something holds
abbrev pub bit_of : Bool → ℕ
bit_of holds = cond holds 1 0

-- the word of a slot; 0 where there is none
abbrev pub word_at : List ℕ → ℕ → ℕ
word_at words slot = slice_index_or words slot 0

-- the bit of a colour in a slot
abbrev pub colour_bit : List ℕ → ℕ → ℕ → ℕ
colour_bit words slot colour = bit_at (word_at words slot) colour

-- a member has the mover in this slot
abbrev pub any_has_mover : {C : Type 0} → List (Member C) → ℕ → Bool
any_has_mover ms slot = list_any (λ m. has_mover m.movers slot) ms

-- the bits are those of the movers that the members of each colour have; the overflow has none
pub record AreTakenColours {C : Type 0} (lists : List (List (Member C))) (words : List ℕ) : Type 0 where
  pub own : (slot colour : ℕ) → colour < COLOURS → colour_bit words slot colour ≡ bit_of (any_has_mover (list_at lists colour) slot)
  pub no_more : (slot colour : ℕ) → COLOURS ≤ colour → colour_bit words slot colour ≡ 0

-- a word, or what it has in common with, or beside, that of the second mover
abbrev pub or_second : List ℕ → ℕ → Option ℕ → ℕ
or_second words word None = word
or_second words word (Some slot) = bit_or word (word_at words slot)

abbrev pub and_second : List ℕ → ℕ → Option ℕ → ℕ
and_second words word None = word
and_second words word (Some slot) = bit_and word (word_at words slot)

-- the colours that a mover of the constraint has
abbrev pub taken : List ℕ → Movers → ℕ
taken words movers = or_second words (word_at words movers.first) movers.second

-- the colours that all movers of the constraint have
abbrev pub common : List ℕ → Movers → ℕ
common words movers = and_second words (word_at words movers.first) movers.second

-- the lists in which a constraint of these movers may be, as far as the bits tell: the colours that all its movers
-- have, and the overflow; each, where its movers aren't told
abbrev pub candidates : List ℕ → Option Movers → ℕ
candidates words None = 2 ^ 32 - 1
candidates words (Some movers) = bit_or (common words movers) (2 ^ COLOURS)

-- the bits of a colour in some slots become these, and no other changes
pub record AreSet (old new : List ℕ) (which : ℕ → Bool) (colour : ℕ) (holds : Bool) : Type 0 where
  pub own : (slot : ℕ) → colour_bit new slot colour ≡ cond (which slot) (bit_of holds) (colour_bit old slot colour)
  pub others : (slot other : ℕ) → other ≢ colour → colour_bit new slot other ≡ colour_bit old slot other
  pub long : length new ≡ length old
