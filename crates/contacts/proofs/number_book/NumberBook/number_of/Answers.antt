use Rattle.std.proofs.Common.{true≢false, sym, ◌∙◌}
use Rattle.std.proofs.lemmas.Option.{none-some}
use Rattle.packed_sets.specs.Packs.{list_at}
use Rattle.contacts.specs.declared.ends.Side.TheVariants.{First, Second}
use Rattle.contacts.proofs.NumberWalkLaws.{seeking_fewer, seeking_on, seeking_over}
use Rattle.contacts.proofs.number_book.NumberBook.number_of.Goals as goal

pub loop-first-smaller : goal.loop-first-smaller
loop-first-smaller c =
    let ids = list_at c.args.self.now.ends.firsts.sets c.args.key.first.slot in
    rw c.in-Some-Some.is-0 (seeking_fewer c.args.self.now.contacts.items c.args.key ids c.loop-first.first c.in-Some-Some.one c.behind-first.result (c.know_once.ensures.firsts.once c.args.key.first.slot) c.loop-first.invariant.0 c.in-Some-Some.is-0 (λ front back e. c.behind-first.ensures c.args.key.first.slot front back e))

pub loop-first-preserved : goal.loop-first-preserved
loop-first-preserved c = (
  seeking_on c.args.self.now.contacts.items c.args.key (list_at c.args.self.now.ends.firsts.sets c.args.key.first.slot) c.loop-first.first c.in-Some-Some.one c.behind-first.result c.loop-first.invariant.0 c.in-Some-Some.is-0 (λ e. true≢false (sym (c.has_key.ensures.1 e) ∙ c.if-has_key.false)) (λ front back e. c.behind-first.ensures c.args.key.first.slot front back e),
  seeking_on c.args.self.now.contacts.items c.args.key (list_at c.args.self.now.ends.seconds.sets c.args.key.second.slot) c.loop-first.second c.in-Some-Some.other c.behind-second.result c.loop-first.invariant.1 c.in-Some-Some.is-1 (λ e. true≢false (sym (c.has_key-in-Some-Some.ensures.1 e) ∙ c.if-has_key-2.false)) (λ front back e. c.behind-second.ensures c.args.key.second.slot front back e),
)

pub returns-in_default : goal.returns-in_default
returns-in_default c = λ number. (
  λ e. absurd (none-some number e),
  λ at. absurd (seeking_over c.args.self.now.contacts.items c.args.key Second (list_at c.args.self.now.ends.seconds.sets c.args.key.second.slot) c.loop-first.second (c.requires.ends Second c.args.key.second.slot) c.loop-first.invariant.1 c.in_default.is-1 number at),
)

pub returns-in_default-2 : goal.returns-in_default-2
returns-in_default-2 c = λ number. (
  λ e. absurd (none-some number e),
  λ at. absurd (seeking_over c.args.self.now.contacts.items c.args.key First (list_at c.args.self.now.ends.firsts.sets c.args.key.first.slot) c.loop-first.first (c.requires.ends First c.args.key.first.slot) c.loop-first.invariant.0 c.in_default.is-0 number at),
)
