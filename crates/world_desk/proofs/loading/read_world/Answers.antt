use Rattle.world_file.proofs.ReadSound.{what_is_read_is_sound}
use Rattle.world_desk.proofs.ReadTexts.{breaks, is_loaded, read_is, refused_is}
use Rattle.world_desk.proofs.loading.read_world.Goals as goal

pub from_plain-requires : goal.from_plain-requires
from_plain-requires c =
    let h = read_is c.args.text.now c.in_ok-read.read (c.in-Ok.plain, c.in-Ok.totals) c.in_ok-read.ensures c.in-Ok.is in
    record { sound = what_is_read_is_sound h.value c.in-Ok.plain c.in-Ok.totals h.is }

pub returns-in-Ok-from_plain : goal.returns-in-Ok-from_plain
returns-in-Ok-from_plain c =
    let h = read_is c.args.text.now c.in_ok-read.read (c.in-Ok.plain, c.in-Ok.totals) c.in_ok-read.ensures c.in-Ok.is in
    is_loaded c.args.text.now c.in-Ok.plain c.in-Ok.totals c.in-Ok-from_plain.world h c.in-Ok-from_plain.ensures.made

pub returns : goal.returns
returns c = breaks c.args.text.now c.in-Err.broken (refused_is c.args.text.now c.in_ok-read.read c.in-Err.broken c.in_ok-read.ensures c.in-Err.is)
