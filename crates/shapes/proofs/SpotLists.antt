-- What holds of all spots of a list holds of the least, and of all that are kept.
use Rattle.std.proofs.Common.{Bool, true, false, cond, List, [], ◌∷◌, map, All, Option, Some, None, IfSome}
use Rattle.std.specs.List.{filter}
use Rattle.std.specs.Prelude.{unwrap_or}
use Rattle.std.proofs.lemmas.List.Elements.{All-nil, All-cons, All-head, All-tail}
use Rattle.fixed_geom.proofs.UnbeatenLemmas.{found_is}
use Rattle.shapes.specs.declared.spots.Pair.{Pair}
use Rattle.shapes.specs.declared.spots.Spot.{Spot}
use Rattle.shapes.specs.Manifolds.{least_of, nearest_spot, spots, first_spot}
use Rattle.shapes.specs.Spots.{spot_of, others}

pub least_all : (P : Spot → Type 0) (ts : List Spot) → All P ts → IfSome (least_of ts) P
least_all P ts h = found_is P _ ts h

or_this : (P : Spot → Type 0) (o : Option Spot) (t : Spot) → IfSome o P → P t → P (unwrap_or o t)
or_this P None t h l = l
or_this P (Some u) t h l = h

pub nearest_all : (P : Spot → Type 0) (s : Pair) → P (first_spot s) → All P (map (spot_of s) (others s)) → P (nearest_spot s)
unfolding nearest_spot
nearest_all P s h l = or_this P (least_of (spots s)) (first_spot s) (least_all P (spots s) (All-cons P (first_spot s) (map (spot_of s) (others s)) h l)) h

kept : (P : Spot → Type 0) (b : Bool) (t : Spot) (ts : List Spot) → P t → All P ts → All P (cond b (t ∷ ts) ts)
kept P true t ts h l = All-cons P t ts h l
kept P false t ts h l = l

pub filter_all : (P : Spot → Type 0) (ok : Spot → Bool) (ts : List Spot) → All P ts → All P (filter ok ts)
filter_all P ok [] h = All-nil P
filter_all P ok (t ∷ ts) h = kept P (ok t) t (filter ok ts) (All-head P t ts h) (filter_all P ok ts (All-tail P t ts h))
