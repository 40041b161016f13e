use Rattle.std.proofs.Common.{◌≡◌, ◌+◌, ◌*◌, ◌<◌, ◌++◌, drop, All}
use Rattle.contacts_base.specs.Proxies.{number_of}
use Rattle.world_rules.specs.Collide.{shape_proxies}
use Rattle.world_core.proofs.collide.gather_body.Given as goal

abbrev pub invariant-loop-index : goal.invariant-loop-index
invariant-loop-index l = record {
  left : l.broad ++ shape_proxies l.slot l.dynamic l.stirs l.pose l.index (drop l.index l.defs) (drop l.index l.fats) ≡ l.fn.broad ++ shape_proxies l.slot l.dynamic l.stirs l.pose 0 l.defs l.fats;
  before : All (λ other. number_of other < l.slot * 256 + l.index) l.broad;
}
