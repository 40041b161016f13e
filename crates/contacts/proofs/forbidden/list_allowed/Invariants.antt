use Rattle.std.proofs.Common.{◌≡◌, take}
use Rattle.std.specs.Prelude.{filter}
use Rattle.contacts.specs.ByCodes.{is_allowed}
use Rattle.contacts.proofs.forbidden.list_allowed.Given as goal

abbrev pub invariant-loop-code : goal.invariant-loop-code
invariant-loop-code g l = l.allowed.items ≡ filter (is_allowed (g.F.ForbiddenPairs.pairs l.forbidden) l.proxies) (take l.code-index l.codes)
