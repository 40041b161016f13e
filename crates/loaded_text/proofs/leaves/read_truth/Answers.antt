use Rattle.std.proofs.Common.{refl}
use Rattle.loaded_text.proofs.Parts.{if_some}
use Rattle.loaded_text.proofs.leaves.read_truth.Goals as goal

pub returns : goal.returns
returns c = if_some c.truth.result (λ holds is. record { text_is = is; whole = refl }) c.truth.ensures.text
