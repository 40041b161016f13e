use Rattle.std.proofs.Common.{ℕ, ◌↔◌, List, arith, subst}
use Rattle.std.specs.List.{Contains}
use Rattle.contacts_base.specs.declared.contact.ContactEntry.{ContactEntry}
use Rattle.contacts.specs.StirringPlaces.{IsPlaceOfOne}
use Rattle.contacts.proofs.FlaggedLaws.{gathered_are, on_ok_both}
use Rattle.contacts.proofs.stirring_places.list_places.Goals as goal

pub returns-then-bodies-flags-clause-listed : goal.returns-then-bodies-flags-clause-listed
returns-then-bodies-flags-clause-listed c =
    on_ok_both _ _ _ c.gather_places.result (λ up are.
    gathered_are c.args.flags.now c.args.flagged.now c.gather_places.new.places.items c.args.contacts.now c.args.numbers.now c.requires.flagged c.requires.book c.requires.numbered (omega arith) (omega arith) up
    (subst (λ (es : List ContactEntry). (place : ℕ) → Contains c.gather_places.new.places.items place ↔ IsPlaceOfOne es c.args.numbers.now.contacts.items c.args.flagged.now place) c.long-then-bodies-flags.ensures.value are)) c.gather_places.ensures.rising c.gather_places.ensures.listed
