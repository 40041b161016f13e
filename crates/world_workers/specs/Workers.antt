-- Trusted: What a step by so many workers is due, and what it may answer.
use Rattle.std.specs.Prelude.{◌≡◌, ℕ, ℤ, ◌^◌, ◌&&◌, cond, nat_le, nat_lt, Result, Ok, Err}
use Rattle.fixed_geom.specs.declared.refusal.Refusal.{Refusal}
use Rattle.fixed_geom.specs.declared.refusal.Refusal.TheVariants.{OutOfRange, WornOut}
use Rattle.crew.specs.Refusals.{IsStartRefusal}
use Rattle.plain_world.specs.Plain.{Plain}
use Rattle.world_rules.specs.Apply.{Applied, apply, world_with}
use Rattle.world_rules.specs.World.{World}
use Rattle.world_rules.specs.declared.command.Command.TheVariants.{Step}
use Rattle.world_rules.specs.declared.command.Reply.{Reply}

-- just what a step is due; any number of workers but 1 to 64 is refused 5, unless each call is refused 10
abbrev pub step_due : ℕ → Plain → ℤ → Result Applied Refusal
step_due workers p ticks = cond (nat_lt p.calls (2 ^ 40)) (cond (nat_le 1 workers && nat_le workers 64) (apply p (Step ticks)) (Err OutOfRange)) (Err WornOut)

-- just what is due; or, where the step is due to be accepted, want of memory or of a thread with nothing changed
abbrev pub AnswersByThreads : Result Applied Refusal → World → Result Reply Refusal → World → Type 0
AnswersByThreads (Ok a) old (Ok reply) new = (reply ≡ a.reply) × (new ≡ world_with old a)
AnswersByThreads (Ok a) old (Err e) new = IsStartRefusal e × (new ≡ old)
AnswersByThreads (Err due) old (Err e) new = (e ≡ due) × (new ≡ old)
AnswersByThreads (Err due) old (Ok reply) new = ⊥
