use Rattle.std.proofs.Common.{◌≡◌, take}
use Rattle.json.specs.Print.{escape}
use Rattle.loaded_text.proofs.spaced.plain_size.Given as goal

abbrev pub invariant-loop-size : goal.invariant-loop-size
invariant-loop-size l = escape (take l.size l.bytes) ≡ take l.size l.bytes
