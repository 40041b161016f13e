use Rattle.std.proofs.Common.{◌≡◌, ℕ, ◌*◌, List, [], length, sym, ap, ◌∙◌, arith, subst}
use Rattle.std.proofs.lemmas.Bool.Decides.{nat_tests}
use Rattle.std.proofs.lemmas.List.{nil_from_length}
use Rattle.plain_world.specs.declared.body.Body.{Body}
use Rattle.std.specs.Prelude.{Option}
use Rattle.world_file.specs.Saved.{most_ticks}
use Rattle.loaded_text.specs.Bodies.{are_timed}
use Rattle.loaded_text.specs.Worlds.{AreHeads, WorldStands}
use Rattle.loaded_text.proofs.WorldLaws.{saved_text_is}
use Rattle.loaded_text.proofs.world.read_all.Goals as goal

pub returns-then-are_heads_fitting : goal.returns-then-are_heads_fitting
returns-then-are_heads_fitting c = λ empty.
    let s = c.read_members.new.saved in
    let left = c.read_members.new.text.rest.now in
    let count : length left ≡ 0 = let tested = sym c.is_empty.ensures ∙ c.if-is_empty.true in grind (arith, nat_tests) in
    let none : left ≡ [] = nil_from_length left count in
    let heads : AreHeads s = record {
      calls = c.are_heads_fitting.ensures.calls c.if-are_heads_fitting.true;
      steps = c.are_heads_fitting.ensures.steps c.if-are_heads_fitting.true;
      timed = ap (λ (l : List (Option Body)). are_timed (s.steps * most_ticks) l) (sym c.as_slice.ensures.value) ∙ c.are_heads_fitting.ensures.timed c.if-are_heads_fitting.true;
    } in
    saved_text_is c.args.text.now s (subst (λ (l : List ℕ). WorldStands s c.args.text.now l) none (c.in_ok-read_members.ensures empty)) heads
