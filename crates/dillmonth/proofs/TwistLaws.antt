-- Both pushes of an angular impulse, and a course to a pose, where there is a world.
use Rattle.std.proofs.Common.{◌≡◌, ℕ, Option, Some, subst, sym, ℤ}
use Rattle.body_handles.specs.declared.handle.Handle.{Handle}
use Rattle.dillmonth.specs.Motions.{twist_to}
use Rattle.dillmonth.specs.Moving.{AnswersAs, DoesBy, Twists, TwistsIn, steering_to}
use Rattle.shapes.specs.declared.pose.Pose.{Pose}
use Rattle.world_desk.specs.declared.desk.Desk.{Desk}
use Rattle.world_rules.specs.World.{body_named}

pub twists_in : (h named : Handle) (by passed : ℤ) (held put : Option Desk) (old now new : Desk) (status : ℕ) → named ≡ h → passed ≡ by → held ≡ Some old → now ≡ old → put ≡ Some new → Twists named passed now status new → TwistsIn h (λ w. by) held status put
twists_in h named by passed held put old now new status is same_by there same putting twists =
    subst (λ (o : Option Desk). TwistsIn h (λ w. by) o status put) (sym there)
    (subst (λ (o : Option Desk). TwistsIn h (λ w. by) (Some old) status o) (sym putting)
    (subst (λ (k : Handle). Twists k by old status new) is
    (subst (λ (z : ℤ). Twists named z old status new) same_by (subst (λ (d : Desk). Twists named passed d status new) same twists))))

-- an impulse by another name
pub twists_same : (h : Handle) (by passed : ℤ) (old new : Desk) (status : ℕ) → passed ≡ by → Twists h passed old status new → Twists h by old status new
twists_same h by passed old new status is twists = subst (λ (z : ℤ). Twists h z old status new) is twists

-- one that depends on the body, where there is a world
pub twists_to_in : (h named : Handle) (spin passed : ℤ) (held put : Option Desk) (old now new : Desk) (status : ℕ) → named ≡ h → passed ≡ spin → held ≡ Some old → now ≡ old → put ≡ Some new
    → Twists named (twist_to (body_named now.world.plain named) passed) now status new → TwistsIn h (λ w. twist_to (body_named w.plain h) spin) held status put
twists_to_in h named spin passed held put old now new status is same_spin there same putting twists =
    subst (λ (o : Option Desk). TwistsIn h (λ w. twist_to (body_named w.plain h) spin) o status put) (sym there)
    (subst (λ (o : Option Desk). TwistsIn h (λ w. twist_to (body_named w.plain h) spin) (Some old) status o) (sym putting)
    (subst (λ (k : Handle). Twists k (twist_to (body_named old.world.plain k) spin) old status new) is
    (subst (λ (z : ℤ). Twists named (twist_to (body_named old.world.plain named) z) old status new) same_spin
    (subst (λ (d : Desk). Twists named (twist_to (body_named d.world.plain named) passed) d status new) same twists))))

-- a course to a pose, where there is a world
pub steers_in : (h named : Handle) (to posed : Pose) (n passed : ℤ) (held put : Option Desk) (old now new : Desk) (status : ℕ) → named ≡ h → posed ≡ to → passed ≡ n → held ≡ Some old → now ≡ old → put ≡ Some new
    → AnswersAs (steering_to named posed passed now.world) now status new → DoesBy (steering_to h to n) held status put
steers_in h named to posed n passed held put old now new status is same_pose same_ticks there same putting steers =
    subst (λ (o : Option Desk). DoesBy (steering_to h to n) o status put) (sym there)
    (subst (λ (o : Option Desk). DoesBy (steering_to h to n) (Some old) status o) (sym putting)
    (subst (λ (k : Handle). AnswersAs (steering_to k to n old.world) old status new) is
    (subst (λ (p : Pose). AnswersAs (steering_to named p n old.world) old status new) same_pose
    (subst (λ (z : ℤ). AnswersAs (steering_to named posed z old.world) old status new) same_ticks
    (subst (λ (d : Desk). AnswersAs (steering_to named posed passed d.world) d status new) same steers)))))
