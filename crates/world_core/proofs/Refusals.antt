-- Refusals that are handed on.
use Rattle.std.proofs.Common.{◌≡◌, ◌∙◌, Option, Some, None, Result, Ok, Err}
use Rattle.std.specs.Result.{IsErr, IsErrAnd, IsOkUnless}
use Rattle.fixed_geom.specs.declared.refusal.Refusal.{Refusal}
use Rattle.fixed_geom.specs.declared.refusal.Refusal.TheVariants.{NoMemory}
use Rattle.world_rules.specs.Apply.{IsMade}
use Rattle.world_rules.specs.World.{World}

-- a refusal that is handed on is the one that was met
pub handed_on : {A : Type 0} (r : Result A Refusal) (x : Refusal) → IsErr r → IsErrAnd r (λ e. e ≡ x) → x ≡ NoMemory → IsOkUnless r NoMemory
handed_on (Ok a) x h k e = tt
handed_on (Err d) x h k e = k ∙ e

-- a world that isn't made for want of memory, where nothing else keeps it from being made
pub not_made : (o : Option Refusal) (w : World) (r : Result World Refusal) (x : Refusal) → o ≡ None → IsErr r → IsErrAnd r (λ e. e ≡ x) → x ≡ NoMemory → IsMade o w r
not_made None w (Ok made) x is h k e = cc
not_made None w (Err d) x is h k e = k ∙ e
not_made (Some due) w r x is h k e = cc
