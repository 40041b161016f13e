use Rattle.std.proofs.Common.{string_bytes, ◌∙◌}
use Rattle.world_file.specs.Files.{value_of}
use Rattle.saved_text.proofs.Adding.{if_ok}
use Rattle.saved_text.proofs.Reading.{written_text}
use Rattle.saved_text.proofs.world.written.Goals as goal

pub returns : goal.returns
returns c = record {
  text = if_ok c.text_of.result
      (λ text printed. written_text (value_of c.args.plain.now c.args.totals.now) c.new-out.result c.put_world.new.out (string_bytes text) c.new-out.ensures.tokens
      (c.new-out.ensures.before ∙ c.new.ensures.items) c.in_ok-put_world.ensures.text printed c.text_of.ensures.tokens)
      c.text_of.ensures.text;
}
