-- Trusted: When each refusal comes.
use Rattle.std.specs.Prelude.{ℕ, ◌≤◌, ◌<◌, ◌^◌, ◌&&◌, cond, nat_le, List, length, Option, Some, None}
use Rattle.fixed_geom.specs.declared.refusal.Refusal.{Refusal}
use Rattle.fixed_geom.specs.declared.refusal.Refusal.TheVariants.{NoMemory, OutOfRange, WornOut, WentBack}
use Rattle.world_core.specs.Frames.{View}
use Rattle.frame_mirror.specs.Lists.{EndsWith}

-- why there is no mirror of so many readers
abbrev pub readers_refusal : ℕ → Option Refusal
readers_refusal readers = cond (nat_le 1 readers && nat_le readers 32) None (Some OutOfRange)

-- a publication is refused so, where these frames were published and `gives` tells which frame the source gave
abbrev pub MayRefuse : List View → (View → Type 0) → Refusal → Type 0
MayRefuse frames gives WornOut = 2 ^ 40 ≤ length frames
MayRefuse frames gives WentBack = (length frames < 2 ^ 40) × (f : View) × (last : View) × gives f × EndsWith frames last × (f.calls < last.calls)
MayRefuse frames gives NoMemory = length frames < 2 ^ 40
MayRefuse frames gives refusal = ⊥
