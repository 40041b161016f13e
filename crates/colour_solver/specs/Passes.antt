-- Trusted: a pass over the bodies: one change of motion, made to each mover, and what it adds to the movers' momentum.
use Rattle.std.specs.Prelude.{◌≡◌, ℕ, cond, true, List, [], ◌∷◌, Some, map, slice_get}
use Rattle.fixed_geom.specs.Vectors.{minus, plus, zero_vector}
use Rattle.fixed_geom.specs.declared.vectors.Vec2.{Vec2}
use Rattle.momenta.specs.declared.mass.MassData.{MassData}
use Rattle.momenta.specs.declared.motion.Motion.{Motion}
use Rattle.momenta.specs.declared.state.BodyState.{BodyState}
use Rattle.momenta.specs.Motions.{advanced}
use Rattle.colour_solver.specs.States.{is_carried, momentum_of}

-- a mover changed, another body as it was
abbrev pub changed : (MassData → Motion → Motion) → BodyState → BodyState
changed f s = cond s.movable (record s { motion = f s.mass s.motion }) s

abbrev pub pass : (MassData → Motion → Motion) → List BodyState → List BodyState
pass f states = map (changed f) states

-- what the change adds to the momentum of one body
abbrev pub one_gain : (MassData → Motion → Motion) → BodyState → Vec2
one_gain f s = minus (momentum_of (changed f s)) (momentum_of s)

-- what the pass adds to the movers' momentum
abbrev pub gain : (MassData → Motion → Motion) → List BodyState → Vec2
gain f [] = zero_vector
gain f (s ∷ states) = plus (one_gain f s) (gain f states)

-- ---- bodies that no impulse moves

-- a body that is carried along moves on by its velocity and its spin; another one is as it was
abbrev pub carried_along : BodyState → BodyState
carried_along s = cond (is_carried s) (record s { motion = advanced s.mass s.motion }) s

abbrev pub carry : List BodyState → List BodyState
carry states = map carried_along states

-- ---- what holds of the movers' motions

abbrev pub OnMover : (MassData → Motion → Type 0) → BodyState → Type 0
OnMover P s = s.movable ≡ true → P s.mass s.motion

abbrev pub OnMovers : (MassData → Motion → Type 0) → List BodyState → Type 0
OnMovers P states = (slot : ℕ) (s : BodyState) → slice_get states slot ≡ Some s → OnMover P s
