-- Trusted: Bodies that fall asleep and wake, as the labels of the islands tell, and for how long each has been slow.
use Rattle.std.specs.Prelude.{◌≡◌, ℕ, suc, ◌+◌, Bool, ◌&&◌, cond, nat_le, is_some, List, [], ◌∷◌, Option, Some, None, option_map, map, pos, unsigned_abs, slice_get}
use Rattle.fixed_geom.specs.Vectors.{is_within, zero_vector}
use Rattle.momenta.specs.Motions.{spin, velocity}
use Rattle.momenta.specs.declared.mass.MassData.{MassData}
use Rattle.momenta.specs.declared.motion.Motion.{Motion}
use Rattle.islands.specs.Labels.{Labels, label_at, sleeping_name}
use Rattle.islands.specs.declared.label.Label.{Label}
use Rattle.plain_world.specs.declared.body.Body.{Body}
use Rattle.plain_world.specs.declared.sleep.TheConstants.{SLOW_SPEED, SLOW_SPIN}
use Rattle.plain_world.specs.Bodies.{is_awake, is_mover}

-- ---- what the islands tell

-- a mover that is put to rest in the island of this name: it loses its momenta, and its timer stays
abbrev pub body_at_rest : ℕ → Body → Body
body_at_rest name b = record b { motion = record b.motion { p = zero_vector; l = pos 0 }; asleep = Some name }

-- a mover that is woken: its timer begins anew
abbrev pub roused : Body → Body
roused b = record b { asleep = None; timer = 0 }

-- a mover that sleeps with the island of this name, or is awake; one that is awake already stays as it is
abbrev pub told_by : Option ℕ → Body → Body
told_by None b = cond (is_some b.asleep) (roused b) b
told_by (Some name) b = body_at_rest name b

-- a body as its label tells: what isn't a mover stays as it is
abbrev pub told_body : Option Label → Body → Body
told_body o b = cond (is_mover b) (told_by (sleeping_name o) b) b

abbrev pub told_from : ℕ → Labels → List (Option Body) → List (Option Body)
told_from slot labels [] = []
told_from slot labels (o ∷ bodies) = option_map (told_body (label_at labels slot)) o ∷ told_from (suc slot) labels bodies

-- all bodies as the labels of the islands tell
unfoldable pub told : Labels → List (Option Body) → List (Option Body)
told labels bodies = told_from 0 labels bodies

-- ---- how long a body has been slow

unfoldable pub is_slow : MassData → Motion → Bool
is_slow m s = is_within (unsigned_abs SLOW_SPEED) (velocity m.mass s.p) && nat_le (unsigned_abs (spin m.inertia s.l)) (unsigned_abs SLOW_SPIN)

-- an awake mover after so many ticks: it has been slow for as much longer, or its timer begins anew
abbrev pub timed : ℕ → Body → Body
timed ticks b = cond (is_awake b) (record b { timer = cond (is_slow b.mass b.motion) (b.timer + ticks) 0 }) b

abbrev pub timed_bodies : ℕ → List (Option Body) → List (Option Body)
timed_bodies ticks bodies = map (option_map (timed ticks)) bodies

-- nobody sleeps
abbrev pub AreAwake : List (Option Body) → Type 0
AreAwake bodies = (slot : ℕ) (b : Body) → slice_get bodies slot ≡ Some (Some b) → b.asleep ≡ None
