use Rattle.json.specs.Print.{escape_byte}
use Rattle.loaded_text.proofs.WorldLaws.{totals_stand}
use Rattle.loaded_text.proofs.totals.read_totals.Goals as goal

pub returns : goal.returns
unfolding escape_byte
returns c = record {
  text = totals_stand c.args.lead.now (record { command = c.in_ok-command.command; gravity = c.in_ok-gravity.gravity; immovable = c.in_ok-immovable.immovable; clamp = c.in_ok-clamp.clamp; rest = c.in_ok-rest.rest; departed = c.in_ok-departed.departed }) _ _ _ _ _ _ _ _ _ _
      c.in_ok-expect.ensures.taken c.in_ok-expect-2.ensures.taken c.in_ok-clamp.ensures.text c.in_ok-command.ensures.text c.in_ok-departed.ensures.text c.in_ok-gravity.ensures.text c.in_ok-immovable.ensures.text c.in_ok-rest.ensures.text c.in_ok-expect-3.ensures.taken;
  small = record {
    command = c.in_ok-command.ensures.small;
    gravity = c.in_ok-gravity.ensures.small;
    immovable = c.in_ok-immovable.ensures.small;
    clamp = c.in_ok-clamp.ensures.small;
    rest = c.in_ok-rest.ensures.small;
    departed = c.in_ok-departed.ensures.small;
  };
}
