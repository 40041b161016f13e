use Rattle.std.proofs.Common.{◌≡◌, ◌∙◌, subst, false, sym, true}
use Rattle.std.specs.Option.{option_map}
use Rattle.contacts_base.specs.ShortLists.{counted_in}
use Rattle.contacts.specs.Stirring.{HaveKeys}
use Rattle.contacts.proofs.KeptLaws.{carried_keys}
use Rattle.contacts.proofs.pending_update.apply_pending.Goals as goal
use Rattle.contacts.proofs.pending_update.apply_pending.Goals.{in-None, in-Some}

pub returns-clause-keys : goal.returns-clause-keys
returns-clause-keys c =
    elim c.match-take.branch [
      | in-None w ↦ λ t. subst (HaveKeys c.args.contacts.now) (sym (w.contacts-is ∙ w.change_in_place.ensures.value)) (carried_keys w.deref.result.now w.deref-in-None.result.now (option_map counted_in w.take-in-None.result) c.args.contacts.now)
      | in-Some w ↦ λ t. let wrong : false ≡ true = sym w.has_keys-is ∙ t in cc
    ]
