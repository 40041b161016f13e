use Rattle.std.proofs.Common.{List, Option, None, ℕ, ◌∷◌, slice_set, refl, sym, subst, ◌∙◌}
use Rattle.std.proofs.lemmas.Option.{none-some}
use Rattle.contacts.specs.declared.number_book.NumberedContact.{NumberedContact}
use Rattle.contacts.specs.NumberBooks.{gone_of}
use Rattle.contacts.specs.NumberChanges.{HaveGone}
use Rattle.contacts.proofs.NumberPartLaws.{gone_more, gone_none}
use Rattle.contacts.proofs.number_book.NumberBook.end.Goals as goal

pub returns-in-Some-clause-gone : goal.returns-in-Some-clause-gone
returns-in-Some-clause-gone c = λ first named before.
    let number = c.in-Some.number in
    let is = c.let_go.ensures.gone in
    let over = slice_set c.args.self.now.contacts.items number None in
    let more = gone_more c.args.key named number first c.args.self.now.contacts.items (gone_of c.args.self.now) before ((c.in-Some.ensures number).0 refl) c.requires.once in
    subst (λ (l : List (Option NumberedContact)). HaveGone (c.args.key ∷ named) first l (gone_of c.let_go.new.self)) (sym is.contacts) (subst (λ (l : List ℕ). HaveGone (c.args.key ∷ named) first over l) (sym is.gone) more)

pub returns-in_default-clause-gone : goal.returns-in_default-clause-gone
returns-in_default-clause-gone c = λ first named before.
    gone_none c.args.key named first c.args.self.now.contacts.items (gone_of c.args.self.now) before (λ number e. none-some number (sym c.in_default.is ∙ (c.number_of.ensures number).1 e))
