-- The running least of a list of candidates, as the code keeps it.
use Rattle.std.specs.Prelude.{cond, List, [], ◌∷◌, Option, None, Some}
use Rattle.shapes.specs.declared.choice.Chosen.{Chosen}
use Rattle.shapes.specs.declared.spots.Pair.{Pair}
use Rattle.shapes.specs.declared.spots.Candidate.{Candidate}
use Rattle.shapes.specs.declared.spots.Spot.{Spot}
use Rattle.shapes.specs.Spots.{spot_of}
use Rattle.shapes.specs.Manifolds.{is_before, is_sooner, is_second}

unfoldable pub nearer : Candidate → Candidate → Candidate
nearer best c = cond (is_before c.dist c.number best.dist best.number) c best

-- the least of a candidate and a list
abbrev pub nearest : Candidate → List Candidate → Candidate
nearest best [] = best
nearest best (c ∷ cs) = nearest (nearer best c) cs

unfoldable pub sooner : Spot → Spot → Spot
sooner best t = cond (is_sooner t best) t best

abbrev pub sooner_of : Option Spot → Spot → Option Spot
sooner_of None t = Some t
sooner_of (Some best) t = Some (sooner best t)

unfoldable pub tried : Spot → Option Spot → Spot → Option Spot
tried first best t = cond (is_second first t) (sooner_of best t) best

-- the least of `best` and the allowed spots of a list of candidates
abbrev pub second_from : Pair → Spot → Option Spot → List Candidate → Option Spot
second_from s first best [] = best
second_from s first best (c ∷ cs) = second_from s first (tried first best (spot_of s c)) cs

-- the first and the second of a candidate and a list
unfoldable pub chosen_from : Pair → Candidate → List Candidate → Chosen
chosen_from s c cs = let first = spot_of s (nearest c cs) in record { first = first; second = second_from s first None (c ∷ cs) }

-- a first spot and no second
abbrev pub alone : Spot → Chosen
alone first = record { first = first; second = None }
