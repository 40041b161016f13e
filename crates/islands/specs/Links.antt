-- Trusted: Which movers are linked, and which are joined by links.
use Rattle.std.specs.Prelude.{◌≡◌, ◌==◌, ◌||◌, ◌&&◌, ℕ, Bool, List, [], ◌∷◌, ◌⊎◌, Contains}

-- pairs of movers that are linked, each mover by its slot
abbrev pub Edges : Type 0
Edges = List (ℕ × ℕ)

-- a link has no direction
abbrev pub Linked : Edges → ℕ → ℕ → Type 0
Linked edges a b = Contains edges (a, b) ⊎ Contains edges (b, a)

-- the movers of the path lead from a to b, each linked to the next
abbrev pub Leads : (ℕ → ℕ → Type 0) → ℕ → List ℕ → ℕ → Type 0
Leads R a [] b = a ≡ b
Leads R a (c ∷ path) b = R a c × Leads R c path b

-- a path of links leads from a to b; each mover is joined to itself
abbrev pub Joined : (ℕ → ℕ → Type 0) → ℕ → ℕ → Type 0
Joined R a b = (path : List ℕ) × Leads R a path b

-- Whether a is joined to b, found link by link. With no links each is joined to itself alone. With one link more those
-- that were joined stay so, and whoever was joined to an end of that link is joined to all others that were.
abbrev pub reaches : Edges → ℕ → ℕ → Bool
reaches [] a b = a == b
reaches (e ∷ edges) a b = reaches edges a b || ((reaches edges a e.0 || reaches edges a e.1) && (reaches edges b e.0 || reaches edges b e.1))

-- s and t are a and b, either first
abbrev pub IsPairOf : ℕ → ℕ → ℕ → ℕ → Type 0
IsPairOf a b s t = ((s ≡ a) × (t ≡ b)) ⊎ ((s ≡ b) × (t ≡ a))
