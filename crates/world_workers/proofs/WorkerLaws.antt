-- What a step by workers is due, from the tests that are made before it.
use Rattle.std.proofs.Common.{◌≡◌, ℕ, ℤ, ◌<◌, ◌^◌, Bool, true, false, pos, unsigned_abs, Result, Ok, Err, arith, refl, inl}
use Rattle.std.specs.Prelude.{◌&&◌, MatchBool, cond, nat_le, nat_lt}
use Rattle.std.proofs.lemmas.Bool.Decides.{nat_tests}
use Rattle.fixed_geom.specs.declared.refusal.Refusal.{Refusal}
use Rattle.fixed_geom.specs.declared.refusal.Refusal.TheVariants.{OutOfRange, WornOut}
use Rattle.crew.specs.Refusals.{IsStartRefusal, MayRefuseStart, are_workers}
use Rattle.shapes.specs.Shapes.{is_between}
use Rattle.plain_world.specs.Plain.{Plain}
use Rattle.world_rules.specs.Apply.{Answers, Applied, apply, step_done}
use Rattle.world_rules.specs.Collide.{collided}
use Rattle.world_rules.specs.World.{World}
use Rattle.world_rules.specs.declared.command.Command.TheVariants.{Step}
use Rattle.world_rules.specs.declared.command.Reply.{Reply}
use Rattle.world_workers.specs.Workers.{AnswersByThreads, step_due}

-- what any command may answer, a step by threads may
pub widened : (due : Result Applied Refusal) (old : World) (answer : Result Reply Refusal) (new : World) → Answers due old answer new → AnswersByThreads due old answer new
widened (Ok a) old (Ok reply) new is = is
widened (Ok a) old (Err e) new is = (inl is.0, is.1)
widened (Err due) old (Ok reply) new is = is
widened (Err due) old (Err e) new is = is

-- ---- from the tests

due_by : (t u : Bool) (x : Result Applied Refusal) → t ≡ true → u ≡ true → cond t (cond u x (Err OutOfRange)) (Err WornOut) ≡ x
due_by true true x h k = refl
due_by true false x h k = absurd (cc k)
due_by false u x h k = absurd (cc h)

few : (n : ℕ) → nat_le (2 ^ 40) n ≡ false → nat_lt n (2 ^ 40) ≡ true
few n h = grind (arith, nat_tests)

pub due_in_range : (workers : ℕ) (p : Plain) (ticks : ℤ) → (nat_le 1 workers && nat_le workers 64) ≡ true → nat_le (2 ^ 40) p.calls ≡ false → step_due workers p ticks ≡ apply p (Step ticks)
due_in_range workers p ticks h k = due_by (nat_lt p.calls (2 ^ 40)) (nat_le 1 workers && nat_le workers 64) (apply p (Step ticks)) (few p.calls k) h

-- ---- a start of threads that is refused

within_by : (b : Bool) (e : Refusal) → b ≡ true → MatchBool b (IsStartRefusal e) (e ≡ OutOfRange) → IsStartRefusal e
within_by true e h may = may
within_by false e h may = absurd (cc h)

-- the workers of a step are as many as a crew may have
within : (workers : ℕ) (e : Refusal) → are_workers workers ≡ true → MayRefuseStart workers e → IsStartRefusal e
within workers e = within_by (are_workers workers) e

wanted_by : (t b : Bool) (a : Applied) (w : World) (e : Refusal) → t ≡ true → b ≡ true → IsStartRefusal e → AnswersByThreads (cond t (cond b (Ok a) (Err OutOfRange)) (Err WornOut)) w (Err e) w
wanted_by true true a w e h k is = (is, refl)
wanted_by true false a w e h k is = absurd (cc k)
wanted_by false b a w e h k is = absurd (cc h)

pub wanted : (w : World) (ticks : ℤ) (workers : ℕ) (e : Refusal) → w.plain.calls < 2 ^ 40 → is_between (pos 1) (pos 8) ticks ≡ true → are_workers workers ≡ true → MayRefuseStart workers e → AnswersByThreads (apply w.plain (Step ticks)) w (Err e) w
wanted w ticks workers e h k range may =
    let accepted : nat_lt w.plain.calls (2 ^ 40) ≡ true = grind (arith, nat_tests) in
    wanted_by (nat_lt w.plain.calls (2 ^ 40)) (is_between (pos 1) (pos 8) ticks) (step_done w.plain (unsigned_abs ticks) (collided w.plain.bodies w.plain.joints w.plain.contacts)) w e accepted k (within workers e range may)
