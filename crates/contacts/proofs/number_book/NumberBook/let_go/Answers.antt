use Rattle.std.proofs.Common.{◌≡◌, ◌+◌, ℕ, List, Option, None, length, ap, ◌∙◌, arith}
use Rattle.std.specs.Prelude.{option_map}
use Rattle.std.proofs.lemmas.List.{length-set, length_push}
use Rattle.contacts_base.specs.declared.key.ContactKey.{ContactKey}
use Rattle.contacts.specs.declared.ends.Side.TheVariants.{First, Second}
use Rattle.contacts.specs.declared.number_book.NumberedContact.{NumberedContact}
use Rattle.contacts.specs.Ends.{slot_on}
use Rattle.contacts.proofs.NumberBookLaws.{ended_book}
use Rattle.contacts.proofs.number_book.NumberBook.let_go.Goals as goal

pub take_out-requires-clause-first : goal.take_out-requires-clause-first
take_out-requires-clause-first c = (c.requires.book.ends First c.args.key.first.slot c.args.number).1 (ap (λ (o : Option ContactKey). option_map (slot_on First) o) c.requires.key)

pub take_out-requires-clause-second : goal.take_out-requires-clause-second
take_out-requires-clause-second c = (c.requires.book.ends Second c.args.key.second.slot c.args.number).1 (ap (λ (o : Option ContactKey). option_map (slot_on Second) o) c.requires.key)

pub returns-clause-book : goal.returns-clause-book
returns-clause-book c =
    let long : length c.release.new.contacts.items ≡ length c.args.self.now.contacts.items = ap (λ (l : List (Option NumberedContact)). length l) c.release.ensures.contacts ∙ length-set c.args.self.now.contacts.items c.args.number None in
    let more : length c.release.new.free.items ≡ length c.args.self.now.free.items + 1 = ap (λ (l : List ℕ). length l) c.release.ensures.items ∙ length_push c.args.self.now.free.items c.args.number in
    ended_book c.args.key c.args.number c.args.self.now _ c.release.ensures.contacts c.take_out.ensures.firsts c.take_out.ensures.first_gone c.take_out.ensures.seconds c.take_out.ensures.second_gone c.release.ensures.free
    (omega (arith, long, c.requires.book.room, c.release.ensures.free_capacity)) (omega (arith, more, c.requires.book.ended)) c.requires.book
