-- Worlds with the same plain lists go on the same.
use Rattle.std.proofs.Common.{◌≡◌, List, [], ◌∷◌, Result, Ok, Err, refl, sym, ap, ap₂, subst}
use Rattle.fixed_geom.specs.declared.refusal.Refusal.{Refusal}
use Rattle.plain_world.specs.Plain.{Plain}
use Rattle.world_rules.specs.declared.command.Command.{Command}
use Rattle.world_rules.specs.declared.command.Reply.{Reply}
use Rattle.world_rules.specs.World.{World}
use Rattle.world_rules.specs.Apply.{Applied, apply}
use Rattle.world_rules.specs.Replay.{answer_of, after_one, after, replay, answers_to}
use Rattle.world_rules.specs.Laws.{PlainListsDetermineAll}

-- after the same outcome
one_same : (v w : World) (outcome : Result Applied Refusal) → v.plain ≡ w.plain → (after_one v outcome).plain ≡ (after_one w outcome).plain
one_same v w (Ok a) e = refl
one_same v w (Err refusal) e = e

after_same : (v w : World) (c : Command) → v.plain ≡ w.plain → (after v c).plain ≡ (after w c).plain
after_same v w c e = subst (λ (p : Plain). (after_one v (apply p c)).plain ≡ (after w c).plain) (sym e) (one_same v w (apply w.plain c) e)

plains_same : (v w : World) (cs : List Command) → v.plain ≡ w.plain → (replay v cs).plain ≡ (replay w cs).plain
plains_same v w [] e = e
plains_same v w (c ∷ cs) e = plains_same (after v c) (after w c) cs (after_same v w c e)

answers_same : (v w : World) (cs : List Command) → v.plain ≡ w.plain → answers_to v cs ≡ answers_to w cs
answers_same v w [] e = refl
answers_same v w (c ∷ cs) e =
    ap₂ (λ (a : Result Reply Refusal) (rest : List (Result Reply Refusal)). a ∷ rest) (ap (λ (p : Plain). answer_of (apply p c)) e) (answers_same (after v c) (after w c) cs (after_same v w c e))

pub plain_lists_determine_all : PlainListsDetermineAll
plain_lists_determine_all v w e = record {
  answers = λ (cs : List Command). answers_same v w cs e;
  plains = λ (cs : List Command). plains_same v w cs e;
}
