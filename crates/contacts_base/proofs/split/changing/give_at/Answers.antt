use Rattle.std.proofs.Common.{◌≡◌, ◌<◌, length, sym, ap, ◌∙◌, rules, tests, arith}
use Rattle.std.proofs.lemmas.Grind.{common_steps}
use Rattle.contacts_base.specs.Contacts.{number_of}
use Rattle.contacts_base.specs.Keys.{key_number}
use Rattle.contacts_base.proofs.CountingLaws.{counts_at, given_there, same_at}
use Rattle.contacts_base.proofs.split.changing.give_at.Goals as goal

pub returns-clause-given : goal.returns-clause-given
returns-clause-given c = λ _.
    let es = c.args.entries.now.items in
    let lt : c.args.place < length es = grind (arith, common_steps) in
    let key : c.index.result.now.key ≡ c.args.key = search (rules, tests) in
    let e = c.index_mut.result.now in
    let number : number_of e ≡ key_number c.args.key = ap number_of (same_at es c.args.place c.index.result.now e lt c.index.ensures c.index_mut.ensures.value) ∙ ap key_number key in
    given_there c.args.key c.args.first c.args.second es c.args.place e c.set_points.new.entry c.requires lt c.index_mut.ensures.value number c.set_points.ensures

pub returns-clause-counts : goal.returns-clause-counts
returns-clause-counts c = λ _.
    let es = c.args.entries.now.items in
    let lt : c.args.place < length es = grind (arith, common_steps) in
    let key : c.index.result.now.key ≡ c.args.key = search (rules, tests) in
    counts_at c.args.over.now es c.args.key c.args.place c.index.result.now c.requires lt c.index.ensures (ap key_number key) (sym c.is_set.ensures ∙ c.if-is_set.false)
