use Rattle.std.proofs.Common.{◌≡◌, ◌<◌, ◌++◌, ◌∷◌, [], ℕ, List, Option, None, Some, length, append-nil, get_or-set_same, length-set, sym, subst, ◌∙◌, arith, inl, inr, true≢false}
use Rattle.std.specs.List.{Contains}
use Rattle.std.proofs.lemmas.Bool.{cases_lt}
use Rattle.std.proofs.lemmas.List.{nil_from_length}
use Rattle.std.proofs.lemmas.List.Elements.{Contains-push}
use Rattle.std.proofs.lemmas.Option.{slice_get_within}
use Rattle.contacts.specs.declared.number_book.NumberedContact.{NumberedContact}
use Rattle.contacts.specs.Numbered.{contact_at}
use Rattle.contacts.specs.NumberBooks.{AreFree}
use Rattle.contacts.proofs.NumberBookLaws.{contact_is, last_taken, next_taken}
use Rattle.contacts.proofs.number_book.changing.take.Goals as goal

-- the number that was let go last is free
record IsLast (contacts : List (Option NumberedContact)) (number : ℕ) : Type 0 where
  within : number < length contacts
  is : contact_at contacts number ≡ None

last_is : (contacts : List (Option NumberedContact)) (free rest : List ℕ) (number : ℕ) → AreFree contacts free → free ≡ rest ++ number ∷ [] → IsLast contacts number
last_is contacts free rest number is e =
    let there : Contains free number = subst (λ (l : List ℕ). Contains l number) (sym e) (Contains-push rest number) in
    record { within = slice_get_within contacts number None (is.are number there); is = contact_is contacts number None (is.are number there) }

pub take_free-requires : goal.take_free-requires
take_free-requires c = (last_is c.args.contacts.now.items c.args.free.now.items c.pop.new.self.items c.in-Some.number c.requires.free c.in-Some.ensures.items).within

pub returns-in-Some-clause-was : goal.returns-in-Some-clause-was
returns-in-Some-clause-was c = rw c.take_free.ensures.number (last_is c.args.contacts.now.items c.args.free.now.items c.pop.new.self.items c.in-Some.number c.requires.free c.in-Some.ensures.items).is

pub returns-in-Some-clause-now : goal.returns-in-Some-clause-now
returns-in-Some-clause-now c =
    let last = last_is c.args.contacts.now.items c.args.free.now.items c.pop.new.self.items c.in-Some.number c.requires.free c.in-Some.ensures.items in
    rw (c.take_free.ensures.number, c.take_free.ensures.contacts) (get_or-set_same c.args.contacts.now.items c.in-Some.number (Some c.args.contact) None last.within)

pub returns-in-Some-clause-within : goal.returns-in-Some-clause-within
returns-in-Some-clause-within c =
    let last = last_is c.args.contacts.now.items c.args.free.now.items c.pop.new.self.items c.in-Some.number c.requires.free c.in-Some.ensures.items in
    let long = length-set c.args.contacts.now.items c.in-Some.number (Some c.args.contact) in
    rw (c.take_free.ensures.number, c.take_free.ensures.contacts) (omega (arith, long, last.within))

pub returns-in-Some-clause-free : goal.returns-in-Some-clause-free
returns-in-Some-clause-free c =
    rw c.take_free.ensures.contacts (last_taken c.args.contacts.now.items c.pop.new.self.items c.in-Some.number c.args.contact (subst (λ (l : List ℕ). AreFree c.args.contacts.now.items l) c.in-Some.ensures.items c.requires.free))

pub returns-in-None-clause-free : goal.returns-in-None-clause-free
returns-in-None-clause-free c =
    let none : length c.args.free.now.items ≡ 0 = elim (cases_lt 0 (length c.args.free.now.items)) [
      | inl lt ↦ absurd (true≢false (sym (c.in-None.ensures.variant.1 (omega (arith, lt, c.args.free.now.ok.0)))))
      | inr le ↦ omega (arith, le)
    ] in
    let old : c.args.free.now.items ≡ [] = nil_from_length c.args.free.now.items none in
    let new : c.pop.new.self.items ≡ [] = sym (append-nil c.pop.new.self.items) ∙ sym c.in-None.ensures.items ∙ old in
    rw (c.take_new.ensures.contacts, new) (next_taken c.args.contacts.now.items c.args.contact (subst (λ (l : List ℕ). AreFree c.args.contacts.now.items l) old c.requires.free) (c.requires.few none))
