-- One more command at the end of a list, and what an answer of the code says of the definition.
use Rattle.std.proofs.Common.{◌≡◌, ℕ, ◌+◌, ◌<◌, List, [], ◌∷◌, ◌++◌, Result, Ok, Err, length, take, drop, get_or, refl, sym, ap, ◌∙◌, add-one, append_assoc}
use Rattle.std.specs.Result.{OnErr}
use Rattle.std.proofs.Math.Seq.{take-suc, drop-cons}
use Rattle.fixed_geom.specs.declared.refusal.Refusal.{Refusal}
use Rattle.fixed_geom.specs.declared.refusal.Refusal.TheVariants.{NoMemory}
use Rattle.world_rules.specs.declared.command.Command.{Command}
use Rattle.world_rules.specs.declared.command.Reply.{Reply}
use Rattle.world_rules.specs.World.{World}
use Rattle.world_rules.specs.Apply.{Applied, Answers, apply}
use Rattle.world_rules.specs.Replay.{answer_of, after_one, after, replay, answers_to}

pub replay-push : (w : World) (cs : List Command) (c : Command) → replay w (cs ++ c ∷ []) ≡ after (replay w cs) c
replay-push w [] c = refl
replay-push w (d ∷ ds) c = replay-push (after w d) ds c

-- where memory is there, the code's answer and its world are the definition's
pub record IsExact (due : Result Applied Refusal) (old : World) (r : Result Reply Refusal) (new : World) : Type 0 where
  pub answer : r ≡ answer_of due
  pub world : new ≡ after_one old due

pub exact : (due : Result Applied Refusal) (old : World) (r : Result Reply Refusal) (new : World) → Answers due old r new → (r ≡ Err NoMemory → ⊥) → IsExact due old r new
exact (Ok a) old (Ok reply) new h never = record { answer = ap Ok h.0; world = h.1 }
exact (Ok a) old (Err e) new h never = absurd (never (ap Err h.0))
exact (Err due) old (Ok reply) new h never = absurd h
exact (Err due) old (Err e) new h never = record { answer = ap Err h.0; world = h.1 }

-- ---- one more turn of the loop over the commands

command_at : (cs : List Command) (i : ℕ) (c : Command) → i < length cs → c ≡ get_or cs i c → drop i cs ≡ c ∷ drop (i + 1) cs
command_at cs i c h is = drop-cons cs i c h ∙ rw (add-one, ← is) refl

pub replay_more : (w now new : World) (cs : List Command) (i : ℕ) (c : Command) → i < length cs → c ≡ get_or cs i c → now ≡ replay w (take i cs) → new ≡ after now c → new ≡ replay w (take (i + 1) cs)
replay_more w now new cs i c h is so_far one =
    let next : take (i + 1) cs ≡ take i cs ++ c ∷ [] = rw add-one (take-suc cs i c h ∙ ap (λ (d : Command). take i cs ++ d ∷ []) (sym is)) in
    one ∙ ap (λ (v : World). after v c) so_far ∙ sym (replay-push w (take i cs) c) ∙ ap (replay w) (sym next)

pub answers_more : (now new : World) (cs : List Command) (i : ℕ) (c : Command) (r : Result Reply Refusal) (so_far all : List (Result Reply Refusal)) → i < length cs → c ≡ get_or cs i c
    → new ≡ after now c → r ≡ answer_of (apply now.plain c) → so_far ++ answers_to now (drop i cs) ≡ all → (so_far ++ r ∷ []) ++ answers_to new (drop (i + 1) cs) ≡ all
answers_more now new cs i c r so_far all h is one answer e =
    let rest : r ∷ answers_to new (drop (i + 1) cs) ≡ answers_to now (drop i cs) = ap (λ (v : World). r ∷ answers_to v (drop (i + 1) cs)) one ∙ ap (λ (a : Result Reply Refusal). a ∷ answers_to (after now c) (drop (i + 1) cs)) answer ∙ ap (answers_to now) (sym (command_at cs i c h is)) in
    append_assoc so_far (r ∷ []) (answers_to new (drop (i + 1) cs)) ∙ ap (λ (l : List (Result Reply Refusal)). so_far ++ l) rest ∙ e

pub on_err : {T E : Type 0} (r : Result T E) (P : Type 0) → P → OnErr r P
on_err (Ok x) P p = tt
on_err (Err e) P p = p
