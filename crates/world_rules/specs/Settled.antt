-- Trusted: A world that is made of its plain lists.
use Rattle.std.specs.Prelude.{[]}
use Rattle.event_feed.specs.Events.{no_events}
use Rattle.impulse_ledger.specs.declared.totals.Totals.{Totals}
use Rattle.plain_world.specs.Plain.{Plain}
use Rattle.world_rules.specs.World.{World}

-- the world with these totals in its ledger, all settled: it has no entries, and no events
abbrev pub settled_world : Plain → Totals → World
settled_world p t = record { plain = p; entries = []; settled = t; events = no_events }
