use Rattle.std.proofs.Common.{ℕ, List, subst, sym}
use Rattle.loaded_text.specs.Canonical.{IsPlainText}
use Rattle.loaded_text.proofs.Lexemes.{key_at_once, key_is}
use Rattle.loaded_text.proofs.canonical.copy_key.Goals as goal

pub returns-then-take_byte : goal.returns-then-take_byte
returns-then-take_byte c =
    key_at_once c.in_ok-key.key.now c.args.text.now.rest.now c.skip_spaces.new.self.rest.now c.plain_text.new.self.rest.now c.take_byte.new.self.rest.now c.copy_between.new.out.items c.args.out.now.items c.skip_spaces.ensures
    c.in_ok-key.ensures (c.take_byte.ensures.taken c.if-take_byte.true) c.in_ok-copy_between.ensures

pub returns : goal.returns
returns c =
    let old = c.skip_spaces.new.self.rest.now in
    let new = c.take_byte.new.self.rest.now in
    key_is c.in_ok-key.key.now c.args.text.now.rest.now old new c.copy_between-2.new.out.items c.mark.new.self.rest.now c.put_byte.new.out.items c.args.out.now.items c.skip_spaces.ensures
    (subst (λ (l : List ℕ). IsPlainText c.in_ok-key.key.now old l) (sym (c.take_byte.ensures.kept c.if-take_byte.false)) c.in_ok-key.ensures) c.in_ok-copy_between-2.ensures (c.mark.ensures.taken c.if-not-mark.false) c.in_ok-put_byte.ensures
