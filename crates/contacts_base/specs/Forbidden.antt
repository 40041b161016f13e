-- Trusted: Pairs of bodies that something keeps from colliding.
use Rattle.std.specs.Prelude.{ℕ, ◌==◌, ◌&&◌, ◌||◌, Bool, List}
use Rattle.std.specs.List.{list_any}
use Rattle.contacts_base.specs.declared.near.Proxy.{Proxy}
use Rattle.contacts_base.specs.declared.body_pair.BodyPair.{BodyPair}

-- its first body is in the slot a, its second in the slot b
abbrev pub is_in_order : ℕ → ℕ → BodyPair → Bool
is_in_order a b pair = (pair.a == a) && (pair.b == b)

-- the pair is of the bodies in these two slots, whichever comes first
abbrev pub is_pair_of : ℕ → ℕ → BodyPair → Bool
is_pair_of a b pair = is_in_order a b pair || is_in_order b a pair

-- the bodies of two shapes are among these pairs
abbrev pub is_forbidden : List BodyPair → Proxy → Proxy → Bool
is_forbidden pairs p q = list_any (is_pair_of p.id.slot q.id.slot) pairs
