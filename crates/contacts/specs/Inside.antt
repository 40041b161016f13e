-- Inner forms of the code; no public contract rests on them. What the fields of a `PairSweep` hold.
use Rattle.std.specs.Prelude.{◌≡◌}
use Rattle.contacts_base.specs.Proxies.{IsProxyList}
use Rattle.contacts.specs.declared.pair_sweep.PairSweep.TheInside.{Inside}
use Rattle.contacts.specs.Sweep.{boxes_of}

pub record IsInside (a : Inside) : Type 0 where
  pub list : IsProxyList a.proxies.items
  pub boxes : a.boxes.items ≡ boxes_of a.proxies.items
