use Rattle.std.proofs.Common.{arith}
use Rattle.std.proofs.lemmas.Bool.Decides.{nat_tests}
use Rattle.json.specs.Print.{escape_byte}
use Rattle.loaded_text.proofs.SlotLaws.{taken_holds}
use Rattle.loaded_text.proofs.body_slots.read_taken.Goals as goal

pub returns : goal.returns
unfolding escape_byte
returns c = taken_holds c.in_ok-loaded.loaded.body c.in_ok-loaded.loaded.membership c.in_ok-generation.generation _ _ _ _ _ c.in_ok-generation.ensures.positive (let most = c.in_ok-generation.ensures.most in grind (arith, nat_tests)) c.in_ok-expect.ensures.taken c.in_ok-loaded.ensures c.in_ok-generation.ensures.text c.in_ok-expect-2.ensures.taken
