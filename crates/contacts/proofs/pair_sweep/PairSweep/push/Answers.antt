use Rattle.std.proofs.Common.{sym}
use Rattle.std.proofs.lemmas.List.{map-append}
use Rattle.contacts.proofs.ProxyLemmas.{push_kept}
use Rattle.contacts.proofs.pair_sweep.PairSweep.push.Goals as goal

pub invariant_of-self-2 : goal.invariant_of-self-2
invariant_of-self-2 c =
    let last = rw (← c.self.view_is) at c.requires.last in
    record {
      list = rw c.in_ok-push.ensures.items (push_kept c.self.inside.proxies.items c.args.proxy c.self.invariant.list c.requires.proxy last);
      boxes = rw (c.push_within.ensures, c.in_ok-reserve.ensures.items, c.in_ok-push.ensures.items, c.self.invariant.boxes) (sym (map-append _ _ _));
    }

pub invariant_of-self-in_err-push : goal.invariant_of-self-in_err-push
invariant_of-self-in_err-push c = record {
  list = rw c.in_err-push.ensures.items c.self.invariant.list;
  boxes = rw (c.reserve.ensures.items, c.in_err-push.ensures.items) c.self.invariant.boxes;
}
