use Rattle.std.proofs.Common.{◌≡◌, length}
use Rattle.json.specs.Lex.{between, lex}
use Rattle.loaded_text.proofs.text.Text.skip_spaces.Given as goal

abbrev pub invariant-loop-byte : goal.invariant-loop-byte
invariant-loop-byte l = lex between l.self.rest.now ≡ lex between l.fn.self.rest.now

abbrev pub decreases-loop-byte : goal.decreases-loop-byte
decreases-loop-byte l = length l.self.rest.now
