use Rattle.loaded_text.proofs.Lexemes.{integer_first, natural_first}
use Rattle.loaded_text.proofs.text.Text.bare_number.Goals as goal

pub returns-in_ok-integer : goal.returns-in_ok-integer
returns-in_ok-integer c = integer_first c.in_ok-integer.field-0 c.args.self.now.rest.now c.integer.new.self.rest.now c.in_ok-integer.ensures.signed c.in_ok-integer.ensures.text

pub returns-in_ok-natural : goal.returns-in_ok-natural
returns-in_ok-natural c = natural_first c.in_ok-natural.field-0 c.args.self.now.rest.now c.natural.new.self.rest.now c.in_ok-natural.ensures.small c.in_ok-natural.ensures.text
