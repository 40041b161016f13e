-- One slot changed: what becomes of the movers' momentum, of the bodies, and of the slots that are taken.
use Rattle.std.proofs.Common.{◌≡◌, ℕ, zero, suc, ◌*◌, ◌<◌, ◌^◌, List, [], ◌∷◌, ◌++◌, length, Option, Some, None, Bool, true, false, cond, arith, refl, sym, ap, ◌∙◌, is_some}
use Rattle.std.specs.Prelude.{slice_get, slice_set}
use Rattle.std.proofs.lemmas.Int.{ints}
use Rattle.std.proofs.lemmas.Grind.{common_steps}
use Rattle.fixed_geom.specs.Vectors.{IsWithin, plus, zero_vector}
use Rattle.fixed_geom.specs.declared.vectors.Vec2.{Vec2}
use Rattle.body_handles.specs.declared.slot_table.SlotEntry.{SlotEntry}
use Rattle.colour_solver.proofs.VectorLaws.{plus_assoc, plus_zero, same_vector, zero_plus}
use Rattle.plain_world.specs.declared.body.Body.{Body}
use Rattle.plain_world.specs.Bodies.{is_mover, IsBody, AreBodies}
use Rattle.plain_world.specs.Momentum.{momentum_in, momentum}
use Rattle.plain_world.specs.Slots.{body_at, shapes_in, AreMatched}
use Rattle.plain_world.specs.InSlots.{HaveSameSlots}

-- ---- the momentum

in_place : (a o t : Vec2) → plus (plus o t) a ≡ plus (plus a t) o
in_place a o t = same_vector _ _ (omega (arith, ints)) (omega (arith, ints))

behind : (a t p u o : Vec2) → plus t p ≡ plus u o → plus (plus a t) p ≡ plus (plus a u) o
behind a t p u o e = sym (plus_assoc a t p) ∙ (ap (plus a) e ∙ plus_assoc a u o)

pub momentum-set : (bodies : List (Option Body)) (slot : ℕ) (o : Option Body) → slot < length bodies → plus (momentum (slice_set bodies slot o)) (momentum_in (body_at bodies slot)) ≡ plus (momentum bodies) (momentum_in o)
momentum-set [] slot o h = absurd (omega arith)
momentum-set (a ∷ bs) zero o h = in_place (momentum_in a) (momentum_in o) (momentum bs)
momentum-set (a ∷ bs) (suc slot) o h = behind (momentum_in a) (momentum (slice_set bs slot o)) (momentum_in (body_at bs slot)) (momentum bs) (momentum_in o) (momentum-set bs slot o (omega arith))

pub momentum-push : (bodies : List (Option Body)) (o : Option Body) → momentum (bodies ++ o ∷ []) ≡ plus (momentum bodies) (momentum_in o)
momentum-push [] o = plus_zero (momentum_in o) ∙ sym (zero_plus (momentum_in o))
momentum-push (a ∷ bs) o = ap (plus (momentum_in a)) (momentum-push bs o) ∙ plus_assoc (momentum_in a) (momentum bs) (momentum_in o)

-- a vector that counts where m says so
pub part_le : (m : Bool) (v : Vec2) → IsWithin (2 ^ 60) v → IsWithin (2 ^ 60) (cond m v zero_vector)
part_le true v h = h
part_le false v h = record { x = omega arith; y = omega arith }

tail_bodies : (o : Option Body) (bs : List (Option Body)) → AreBodies (o ∷ bs) → AreBodies bs
tail_bodies o bs all = λ slot b e. all (suc slot) b e

pub momentum_le : (bodies : List (Option Body)) → AreBodies bodies → IsWithin (length bodies * 2 ^ 60) (momentum bodies)
momentum_le [] all = record { x = omega arith; y = omega arith }
momentum_le (None ∷ bs) all = let rest = momentum_le bs (tail_bodies None bs all) in record { x = omega (arith, ints, rest.x); y = omega (arith, ints, rest.y) }
momentum_le (Some a ∷ bs) all =
    let rest = momentum_le bs (tail_bodies (Some a) bs all) in
    let first : IsWithin (2 ^ 60) (momentum_in (Some a)) = part_le (is_mover a) a.motion.p (all 0 a refl).motion.p in
    record { x = omega (arith, ints, rest.x, first.x); y = omega (arith, ints, rest.y, first.y) }

-- ---- the bodies

extended : (o : Option Body) (bs : List (Option Body)) → ((b : Body) → o ≡ Some b → IsBody b) → AreBodies bs → AreBodies (o ∷ bs)
extended o bs first rest zero b e = first b (cc)
extended o bs first rest (suc i) b e = rest i b e

pub AreBodies-set : (bodies : List (Option Body)) (slot : ℕ) (o : Option Body) → AreBodies bodies → ((b : Body) → o ≡ Some b → IsBody b) → AreBodies (slice_set bodies slot o)
AreBodies-set [] slot o all new = all
AreBodies-set (a ∷ bs) zero o all new = extended o bs new (tail_bodies a bs all)
AreBodies-set (a ∷ bs) (suc slot) o all new = extended a (slice_set bs slot o) (λ b e. all zero b (ap Some e)) (AreBodies-set bs slot o (tail_bodies a bs all) new)

pub AreBodies-push : (bodies : List (Option Body)) (o : Option Body) → AreBodies bodies → ((b : Body) → o ≡ Some b → IsBody b) → AreBodies (bodies ++ o ∷ [])
AreBodies-push [] o all new = extended o [] new all
AreBodies-push (a ∷ bs) o all new = extended a (bs ++ o ∷ []) (λ b e. all zero b (ap Some e)) (AreBodies-push bs o (tail_bodies a bs all) new)

-- ---- the slots

pub body_at-in : (bodies : List (Option Body)) (slot : ℕ) (b : Body) → body_at bodies slot ≡ Some b → slice_get bodies slot ≡ Some (Some b)
body_at-in [] slot b e = cc
body_at-in (a ∷ bs) zero b e = ap Some e
body_at-in (a ∷ bs) (suc slot) b e = body_at-in bs slot b e

-- ---- the same slots

same_set : (bodies : List (Option Body)) (slot : ℕ) (o : Option Body) → is_some o ≡ is_some (body_at bodies slot) → (k : ℕ) → is_some (body_at (slice_set bodies slot o) k) ≡ is_some (body_at bodies k)
same_set [] slot o e k = refl
same_set (a ∷ bs) zero o e zero = e
same_set (a ∷ bs) zero o e (suc k) = refl
same_set (a ∷ bs) (suc slot) o e zero = refl
same_set (a ∷ bs) (suc slot) o e (suc k) = same_set bs slot o e k

same_shapes : (bodies : List (Option Body)) (slot : ℕ) (o : Option Body) → shapes_in o ≡ shapes_in (body_at bodies slot) → (k : ℕ) → shapes_in (body_at (slice_set bodies slot o) k) ≡ shapes_in (body_at bodies k)
same_shapes [] slot o e k = refl
same_shapes (a ∷ bs) zero o e zero = e
same_shapes (a ∷ bs) zero o e (suc k) = refl
same_shapes (a ∷ bs) (suc slot) o e zero = refl
same_shapes (a ∷ bs) (suc slot) o e (suc k) = same_shapes bs slot o e k

pub HaveSameSlots-set : (bodies : List (Option Body)) (slot : ℕ) (o : Option Body) → is_some o ≡ is_some (body_at bodies slot) → shapes_in o ≡ shapes_in (body_at bodies slot) → HaveSameSlots bodies (slice_set bodies slot o)
HaveSameSlots-set bodies slot o e shapes = record { slots = grind (arith, common_steps); taken = same_set bodies slot o e; shapes = same_shapes bodies slot o shapes }

pub AreMatched-same : (slot_entries : List SlotEntry) (old new : List (Option Body)) → HaveSameSlots old new → AreMatched slot_entries old → AreMatched slot_entries new
AreMatched-same slot_entries old new same m = record {
  slots = m.slots ∙ sym same.slots;
  few = rw same.slots m.few;
  taken = λ k. same.taken k ∙ m.taken k;
}
