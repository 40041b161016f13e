-- Trusted: Velocities and spins that are read and set, by commands that there are.
use Rattle.std.specs.Prelude.{◌≡◌, ℕ, ◌⊎◌, Option, Some, None, ℤ, pos, neg_ℤ}
use Rattle.fixed_geom.specs.declared.vectors.Vec2.{Vec2}
use Rattle.body_handles.specs.declared.handle.Handle.{Handle}
use Rattle.dillmonth.specs.Calls.{IsAnswered}
use Rattle.dillmonth.specs.Forms.{handle_said, vector_shown}
use Rattle.dillmonth.specs.Motions.{course_to, lever, motion_of, push_to, twist_push}
use Rattle.dillmonth.specs.declared.forms.CAnswer.{CAnswer}
use Rattle.dillmonth.specs.declared.forms.CHandle.{CHandle}
use Rattle.dillmonth.specs.declared.moving.CMotion.{CMotion}
use Rattle.dillmonth.specs.declared.statuses.TheConstants.{NO_WORLD}
use Rattle.plain_world.specs.declared.body.Body.{Body}
use Rattle.plain_world.specs.declared.kind.Course.{Course}
use Rattle.shapes.specs.declared.pose.Pose.{Pose}
use Rattle.world_desk.specs.declared.desk.Desk.{Desk}
use Rattle.world_rules.specs.World.{World, body_named}
use Rattle.world_rules.specs.declared.command.Command.{Command}
use Rattle.world_rules.specs.declared.command.Command.TheVariants.{Push, PushAt, SetVelocity}

abbrev pub motion_shown : Course → CMotion
motion_shown m = record { velocity = vector_shown m.velocity; spin = m.spin }

-- the motion is written, or 2 is answered where the body isn't there
abbrev pub IsMoving : Option Body → ℕ → CMotion → CMotion → Type 0
IsMoving None status before after = (status ≡ 2) × (after ≡ before)
IsMoving (Some b) status before after = (status ≡ 0) × (after ≡ motion_shown (motion_of b))

abbrev pub IsMovingIn : Option Desk → CHandle → ℕ → CMotion → CMotion → Type 0
IsMovingIn None h status before after = (status ≡ NO_WORLD) × (after ≡ before)
IsMovingIn (Some desk) h status before after = IsMoving (body_named desk.world.plain (handle_said h)) status before after

-- a command to a desk, of which the caller learns the status
abbrev pub AnswersAs : Command → Desk → ℕ → Desk → Type 0
AnswersAs c old status new = (answer : CAnswer) × (status ≡ answer.status) × IsAnswered c old answer new

abbrev pub DoesBy : (World → Command) → Option Desk → ℕ → Option Desk → Type 0
DoesBy f None status new = (status ≡ NO_WORLD) × (new ≡ None)
DoesBy f (Some old) status None = ⊥
DoesBy f (Some old) status (Some new) = AnswersAs (f old.world) old status new

-- ---- one command, which depends on the world

abbrev pub pushing_to : Handle → Vec2 → World → Command
pushing_to h v w = Push h (push_to (body_named w.plain h) v)

abbrev pub steering_to : Handle → Pose → ℤ → World → Command
steering_to h to n w = SetVelocity h (course_to (body_named w.plain h) to n)

-- ---- an angular impulse: a push beside the centre, and the opposite one at it

abbrev pub twisting : Handle → ℤ → Command
twisting h by = PushAt h (record { x = pos 0; y = twist_push by }) (record { x = lever by; y = pos 0 })

abbrev pub untwisting : Handle → ℤ → Command
untwisting h by = Push h (record { x = pos 0; y = neg_ℤ (twist_push by) })

-- the second command where the first was accepted, and else nothing more
abbrev pub IsThen : Command → ℕ → Desk → ℕ → Desk → Type 0
IsThen c first mid status new = ((first ≡ 0) × AnswersAs c mid status new) ⊎ ((¬ (first ≡ 0)) × (status ≡ first) × (new ≡ mid))

-- both pushes, one after the other
abbrev pub Twists : Handle → ℤ → Desk → ℕ → Desk → Type 0
Twists h by old status new = (mid : Desk) × (first : ℕ) × AnswersAs (twisting h by) old first mid × IsThen (untwisting h by) first mid status new

abbrev pub TwistsIn : Handle → (World → ℤ) → Option Desk → ℕ → Option Desk → Type 0
TwistsIn h by None status new = (status ≡ NO_WORLD) × (new ≡ None)
TwistsIn h by (Some old) status None = ⊥
TwistsIn h by (Some old) status (Some new) = Twists h (by old.world) old status new
