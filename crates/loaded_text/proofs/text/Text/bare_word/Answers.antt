use Rattle.std.proofs.Common.{sym, ◌∙◌}
use Rattle.loaded_text.proofs.Lexemes.{false_first, null_first, true_first}
use Rattle.loaded_text.proofs.text.Text.bare_word.Goals as goal

pub returns-then-take : goal.returns-then-take
returns-then-take c = true_first c.args.self.now.rest.now c.take.new.self.rest.now (c.take.ensures.taken c.if-take.true)

pub returns-then-take-2 : goal.returns-then-take-2
returns-then-take-2 c = false_first c.args.self.now.rest.now c.take-2.new.self.rest.now (sym (c.take.ensures.kept c.if-take.false) ∙ c.take-2.ensures.taken c.if-take-2.true)

pub returns-then-take-3 : goal.returns-then-take-3
returns-then-take-3 c = null_first c.args.self.now.rest.now c.take-3.new.self.rest.now (sym (c.take-2.ensures.kept c.if-take-2.false ∙ c.take.ensures.kept c.if-take.false) ∙ c.take-3.ensures.taken c.if-take-3.true)
