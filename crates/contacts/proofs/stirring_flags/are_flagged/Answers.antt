use Rattle.std.proofs.Common.{◌≡◌, ◌∙◌, ℕ, sym, true}
use Rattle.std.proofs.lemmas.List.{take_all}
use Rattle.std.proofs.lemmas.List.Elements.{All-more}
use Rattle.contacts.specs.Stirring.{is_flagged}
use Rattle.contacts.proofs.stirring_flags.are_flagged.Goals as goal

pub loop-place-preserved : goal.loop-place-preserved
loop-place-preserved c = All-more (λ (slot : ℕ). is_flagged c.args.flags.now slot ≡ true) c.args.slots.now c.loop-place.place _ c.loop-place-test.true c.loop-place.invariant (sym c.is_flagged.ensures ∙ c.if-not-is_flagged.false)

pub returns : goal.returns
returns c = λ t. rw (take_all c.loop-place.place c.args.slots.now c.loop-place-test.false) at c.loop-place.invariant
