-- Trusted: What a start of threads may be refused with.
use Rattle.std.specs.Prelude.{◌≡◌, ◌⊎◌, ◌&&◌, ℕ, Bool, MatchBool, nat_le}
use Rattle.fixed_geom.specs.declared.refusal.Refusal.{Refusal}
use Rattle.fixed_geom.specs.declared.refusal.Refusal.TheVariants.{NoMemory, NoThread, OutOfRange}

-- want of memory, or of a thread
abbrev pub IsStartRefusal : Refusal → Type 0
IsStartRefusal e = (e ≡ NoMemory) ⊎ (e ≡ NoThread)

-- how many workers there are in a crew: 1 to 64
abbrev pub are_workers : ℕ → Bool
are_workers workers = nat_le 1 workers && nat_le workers 64

-- any other number of workers is refused 5, and nothing else is
abbrev pub MayRefuseStart : ℕ → Refusal → Type 0
MayRefuseStart workers e = MatchBool (are_workers workers) (IsStartRefusal e) (e ≡ OutOfRange)
