-- The first hit on the shapes whose names pass a test.
use Rattle.std.proofs.Common.{◌≡◌, Bool, true, false, cond, List, [], ◌∷◌, ◌++◌, Option, None, refl, ap, sym, ◌∙◌}
use Rattle.std.proofs.lemmas.List.Elements.{filter-append}
use Rattle.contacts_base.specs.declared.key.ShapeId.{ShapeId}
use Rattle.shape_rays.proofs.HitLemmas.{associate, first_of_parts, none_last}
use Rattle.shape_rays.specs.Hits.{first_hit, hit_on, nearer}
use Rattle.shape_rays.specs.declared.hits.Hit.{Hit}
use Rattle.shape_rays.specs.declared.hits.PosedShape.{PosedShape}
use Rattle.shapes.specs.declared.beam.Beam.{Beam}
use Rattle.world_queries.specs.ByBoxes.{hit_through}
use Rattle.world_queries.specs.Filters.{through}

-- the first hit on those of these shapes that pass the test
abbrev pub first_through : Beam → (ShapeId → Bool) → List PosedShape → Option Hit
first_through r test ps = first_hit r (through test ps)

hit_if : (r : Beam) (t : Bool) (p : PosedShape) (ps : List PosedShape) → first_hit r (cond t (p ∷ ps) ps) ≡ nearer (cond t (hit_on r p) None) (first_hit r ps)
hit_if r true p ps = refl
hit_if r false p ps = refl

-- it is the nearer of the hit on the first shape, if that passes, and of that on the rest
pub through_first : (r : Beam) (test : ShapeId → Bool) (p : PosedShape) (ps : List PosedShape) → first_through r test (p ∷ ps) ≡ nearer (hit_through r test p) (first_through r test ps)
through_first r test p ps = hit_if r (test p.id) p (through test ps)

pub through_parts : (r : Beam) (test : ShapeId → Bool) (ps qs : List PosedShape) → first_through r test (ps ++ qs) ≡ nearer (first_through r test ps) (first_through r test qs)
through_parts r test ps qs = ap (first_hit r) (filter-append (λ (p : PosedShape). test p.id) ps qs) ∙ first_of_parts r (through test ps) (through test qs)

-- where all pass, none is left out
pub all_through : (ps : List PosedShape) → through (λ id. true) ps ≡ ps
all_through [] = refl
all_through (p ∷ ps) = ap (λ (qs : List PosedShape). p ∷ qs) (all_through ps)

-- ---- one shape of a body after another

pub through_one : (r : Beam) (test : ShapeId → Bool) (best all : Option Hit) (now later : List PosedShape) (p : PosedShape) →
    now ≡ p ∷ later → nearer best (first_through r test now) ≡ all → nearer (nearer best (hit_through r test p)) (first_through r test later) ≡ all
through_one r test best all now later p e h =
    associate best (hit_through r test p) (first_through r test later) ∙ ap (nearer best) (sym (ap (first_through r test) e ∙ through_first r test p later)) ∙ h

pub through_last : (r : Beam) (test : ShapeId → Bool) (best all : Option Hit) (now : List PosedShape) → now ≡ [] → nearer best (first_through r test now) ≡ all → best ≡ all
through_last r test best all now e h = sym (none_last best) ∙ ap (nearer best) (sym (ap (first_through r test) e)) ∙ h
