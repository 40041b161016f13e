use Rattle.std.proofs.Common.{◌≡◌, ◌<◌, ◌^◌, ◌++◌, decimal, length}
use Rattle.loaded_text.proofs.text.Text.digits.Given as goal

abbrev pub invariant-loop-digit : goal.invariant-loop-digit
invariant-loop-digit l = record {
  some : 0 < l.number;
  small : l.number < 2 ^ 64;
  text : l.fn.self.rest.now ≡ decimal l.number ++ l.self.rest.now;
}

abbrev pub decreases-loop-digit : goal.decreases-loop-digit
decreases-loop-digit l = length l.self.rest.now
