-- The shapes of bodies that change: where each slot's body has the shapes that were there, its filters and the surfaces
-- of contacts stay.
use Rattle.std.proofs.Common.{◌≡◌, ℕ, zero, suc, Bool, cond, List, [], ◌∷◌, ◌++◌, Option, Some, None, refl, sym, ap, ap₂, ◌∙◌, subst}
use Rattle.std.specs.Prelude.{slice_get, slice_set}
use Rattle.std.proofs.lemmas.List.Elements.{All-nil}
use Rattle.plain_world.specs.declared.body.Body.{Body}
use Rattle.plain_world.specs.Formed.{AreFiltered, HasFilter, HaveFilters, shape_of_body}
use Rattle.plain_world.specs.Slots.{body_at}
use Rattle.shapes.specs.declared.shape.ShapeDef.{ShapeDef}
use Rattle.solver_sets.specs.Alike.{AreAlike}
use Rattle.solver_sets.specs.Ties.{is_enabled_in}

-- the shapes of the body in a slot, whether it is enabled or not
abbrev pub shapes_of : Option Body → List ShapeDef
shapes_of None = []
shapes_of (Some b) = b.shapes

-- each slot's body has the shapes that were there
abbrev pub HaveSameShapes : List (Option Body) → List (Option Body) → Type 0
HaveSameShapes old new = (slot : ℕ) → shapes_of (body_at new slot) ≡ shapes_of (body_at old slot)

pub shapes_then : (old now new : List (Option Body)) → HaveSameShapes old now → HaveSameShapes now new → HaveSameShapes old new
shapes_then old now new h k slot = k slot ∙ h slot

pub same_shapes_set : (bodies : List (Option Body)) (slot : ℕ) (o : Option Body) → shapes_of o ≡ shapes_of (body_at bodies slot) → HaveSameShapes bodies (slice_set bodies slot o)
same_shapes_set [] slot o e k = refl
same_shapes_set (a ∷ bs) zero o e zero = e
same_shapes_set (a ∷ bs) zero o e (suc k) = refl
same_shapes_set (a ∷ bs) (suc slot) o e zero = refl
same_shapes_set (a ∷ bs) (suc slot) o e (suc k) = same_shapes_set bs slot o e k

-- ---- shapes by their names

shape_in : (o : Option Body) (index : ℕ) → shape_of_body o index ≡ cond (is_enabled_in o) (slice_get (shapes_of o) index) None
shape_in None index = refl
shape_in (Some b) index = refl

-- where the same bodies are enabled, a name is that of the same shape
pub same_shape : (old new : List (Option Body)) → AreAlike old new → HaveSameShapes old new → (slot index : ℕ) → shape_of_body (body_at new slot) index ≡ shape_of_body (body_at old slot) index
same_shape old new alike same slot index =
    shape_in (body_at new slot) index
    ∙ ap₂ (λ (t : Bool) (defs : List ShapeDef). cond t (slice_get defs index) None) (alike.enabled slot) (same slot)
    ∙ sym (shape_in (body_at old slot) index)

-- ---- filters

filters_in : (o : Option Body) → ((b : Body) → o ≡ Some b → HaveFilters b.shapes) → HaveFilters (shapes_of o)
filters_in None h = All-nil (λ (d : ShapeDef). HasFilter d.filter)
filters_in (Some b) h = h b refl

pub filters_same : (old new : List (Option Body)) → HaveSameShapes old new → AreFiltered old → AreFiltered new
filters_same old new same all slot b at = subst HaveFilters (sym (same slot) ∙ ap shapes_of at) (filters_in (body_at old slot) (all slot))

filters_rest : (o : Option Body) (bs : List (Option Body)) → AreFiltered (o ∷ bs) → AreFiltered bs
filters_rest o bs all = λ slot b e. all (suc slot) b e

filters_more : (o : Option Body) (bs : List (Option Body)) → ((b : Body) → o ≡ Some b → HaveFilters b.shapes) → AreFiltered bs → AreFiltered (o ∷ bs)
filters_more o bs first rest zero b e = first b e
filters_more o bs first rest (suc slot) b e = rest slot b e

pub filters_set : (bodies : List (Option Body)) (slot : ℕ) (o : Option Body) → ((b : Body) → o ≡ Some b → HaveFilters b.shapes) → AreFiltered bodies → AreFiltered (slice_set bodies slot o)
filters_set [] slot o new all = all
filters_set (a ∷ bs) zero o new all = filters_more o bs new (filters_rest a bs all)
filters_set (a ∷ bs) (suc slot) o new all = filters_more a (slice_set bs slot o) (λ b e. all zero b e) (filters_set bs slot o new (filters_rest a bs all))

pub filters_push : (bodies : List (Option Body)) (o : Option Body) → ((b : Body) → o ≡ Some b → HaveFilters b.shapes) → AreFiltered bodies → AreFiltered (bodies ++ o ∷ [])
filters_push [] o new all = filters_more o [] new all
filters_push (a ∷ bs) o new all = filters_more a (bs ++ o ∷ []) (λ b e. all zero b e) (filters_push bs o new (filters_rest a bs all))
