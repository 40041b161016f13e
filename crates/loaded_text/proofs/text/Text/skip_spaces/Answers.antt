use Rattle.std.proofs.Common.{sym, ap, ◌∙◌, ◌≡◌, ◌∷◌, arith}
use Rattle.json.specs.Lex.{between, lex}
use Rattle.loaded_text.proofs.Lexemes.{space_passed}
use Rattle.loaded_text.proofs.text.Text.skip_spaces.Goals as goal

pub loop-byte-preserved : goal.loop-byte-preserved
loop-byte-preserved c =
    let first : c.loop-byte.self.rest.now ≡ c.in-Some.byte.now ∷ c.in-Some.rest.now = grind arith in
    sym (ap (lex between) first ∙ space_passed c.in-Some.byte.now c.in-Some.rest.now (sym c.is_space.ensures ∙ c.if-not-is_space.false)) ∙ c.loop-byte.invariant
