use Rattle.std.proofs.Common.{◌≡◌, ℕ, [], List, length, sym, ◌∙◌, arith, subst}
use Rattle.std.proofs.lemmas.Bool.Decides.{nat_tests}
use Rattle.std.proofs.lemmas.List.{nil_from_length}
use Rattle.json.specs.Lex.{between, lex}
use Rattle.loaded_text.specs.Canonical.{IsCopied}
use Rattle.loaded_text.proofs.Copied.{canonical_is}
use Rattle.loaded_text.proofs.canonical.canonical_text.Goals as goal

pub returns-then-is_empty : goal.returns-then-is_empty
returns-then-is_empty c =
    let rest = c.skip_spaces.new.self.rest.now in
    let count : length rest ≡ 0 = let tested = sym c.is_empty.ensures ∙ c.if-is_empty.true in grind (arith, nat_tests) in
    let begins : c.in_ok-out.out.items ≡ [] = grind (arith, c.with_capacity.ensures.items) in
    let now = lex between c.copy_value.new.text.rest.now in
    canonical_is c.args.text.now rest c.copy_value.new.out.items now c.skip_spaces.ensures (nil_from_length rest count)
    (subst (λ (l : List ℕ). IsCopied 8 (lex between c.args.text.now) now l c.copy_value.new.out.items) begins c.in_ok-copy_value.ensures)
