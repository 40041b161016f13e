-- Trusted: Whole lists of commands, applied one after another.
use Rattle.std.specs.Prelude.{◌≡◌, ℕ, List, [], ◌∷◌, Result, Ok, Err, take}
use Rattle.fixed_geom.specs.declared.refusal.Refusal.{Refusal}
use Rattle.world_rules.specs.declared.command.Command.{Command}
use Rattle.world_rules.specs.declared.command.Reply.{Reply}
use Rattle.world_rules.specs.World.{World}
use Rattle.world_rules.specs.Apply.{Applied, apply, world_with, map_ok}

-- the answer to one command, where memory is there
abbrev pub answer_of : Result Applied Refusal → Result Reply Refusal
answer_of due = map_ok (λ (a : Applied). a.reply) due

-- the world after it: a refused command changes nothing
abbrev pub after_one : World → Result Applied Refusal → World
after_one w (Ok a) = world_with w a
after_one w (Err e) = w

abbrev pub after : World → Command → World
after w c = after_one w (apply w.plain c)

-- the world after a list of commands: a fold
abbrev pub replay : World → List Command → World
replay w [] = w
replay w (c ∷ cs) = replay (after w c) cs

abbrev pub answers_to : World → List Command → List (Result Reply Refusal)
answers_to w [] = []
answers_to w (c ∷ cs) = answer_of (apply w.plain c) ∷ answers_to (after w c) cs

-- the world after some beginning of the list
abbrev pub IsPartOf : World → List Command → World → Type 0
IsPartOf w cs new = (n : ℕ) × (new ≡ replay w (take n cs))
