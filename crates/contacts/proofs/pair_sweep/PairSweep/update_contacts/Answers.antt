use Rattle.std.proofs.Common.{◌≡◌, List, ℕ, ap, refl, subst, sym, ◌∙◌}
use Rattle.std.specs.Prelude.{IfOk}
use Rattle.contacts_base.specs.declared.contact.ContactEntry.{ContactEntry}
use Rattle.contacts.specs.ByCodes.{contacts_of, allowed_codes}
use Rattle.contacts.proofs.ByPairsLaws.{contacts_by_codes-holds}
use Rattle.contacts.proofs.ForbiddenLemmas.{allowed_are_pairs}
use Rattle.contacts.proofs.PairLemmas.{near_are_pairs}
use Rattle.contacts.proofs.pair_sweep.PairSweep.update_contacts.Goals as goal

pub list_allowed-requires : goal.list_allowed-requires
list_allowed-requires g c = record { pairs = rw (c.deref-3.ensures.value, c.deref-4.ensures.value, c.in_ok-near_pairs.ensures.value, c.deref.ensures.value) (near_are_pairs c.self.inside.proxies.items c.self.invariant.list) }

pub update-requires-clause-near : goal.update-requires-clause-near
update-requires-clause-near g c = rw (c.in_ok-list_allowed.ensures.listed, c.deref-3.ensures.value, c.deref-4.ensures.value, c.in_ok-near_pairs.ensures.value, c.deref.ensures.value) (allowed_are_pairs (g.F.ForbiddenPairs.pairs c.args.forbidden.now) c.self.inside.proxies.items c.self.invariant.list)

pub returns-clause-now : goal.returns-clause-now
returns-clause-now g c =
    let pairs = g.F.ForbiddenPairs.pairs c.args.forbidden.now in
    let ps = c.self.inside.proxies.items in
    let old = c.args.old.now.long in
    let near : c.list_allowed.new.allowed.items ≡ allowed_codes pairs ps = rw (c.in_ok-list_allowed.ensures.listed, c.deref-3.ensures.value, c.deref-4.ensures.value, c.in_ok-near_pairs.ensures.value, c.deref.ensures.value) refl in
    rw (← c.self.view_is)
    (subst (λ (l : List ContactEntry). IfOk c.update.result (λ changes. changes.now ≡ l))
    (ap (λ (codes : List ℕ). contacts_of old ps codes) near ∙ sym (contacts_by_codes-holds pairs ps old c.self.invariant.list)) c.update.ensures.now)
