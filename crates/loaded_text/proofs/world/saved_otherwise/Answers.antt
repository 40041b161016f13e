use Rattle.std.proofs.Common.{ℕ, List, subst, sym}
use Rattle.loaded_text.specs.Canonical.{IsCanonical}
use Rattle.loaded_text.proofs.Parts.{if_some}
use Rattle.loaded_text.proofs.SavedAlike.{saved_alike}
use Rattle.loaded_text.proofs.world.saved_otherwise.Goals as goal

pub returns : goal.returns
returns c = if_some c.saved_of.result (λ s saved. saved_alike c.args.text.now c.as_slice-2.result.now s (subst (λ (l : List ℕ). IsCanonical c.args.text.now l) (sym c.as_slice-2.ensures.value) c.in_ok-written.ensures) saved) c.saved_of.ensures
