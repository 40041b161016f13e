use Rattle.loaded_text.proofs.Lexemes.{bare_leaf, text_leaf}
use Rattle.std.proofs.Common.{sym, ◌∙◌}
use Rattle.loaded_text.proofs.text.Text.leaf.Goals as goal

pub returns-then-eq : goal.returns-then-eq
returns-then-eq c = text_leaf c.in_ok-plain_text.field-0.now c.args.self.now.rest.now c.plain_text.new.self.rest.now c.in_ok-plain_text.ensures

pub returns-then-is_word_over : goal.returns-then-is_word_over
returns-then-is_word_over c = bare_leaf c.args.self.now.rest.now c.bare.new.self.rest.now (sym c.is_word_over.ensures ∙ c.if-is_word_over.true) c.in_ok-bare.ensures
