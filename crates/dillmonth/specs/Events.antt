-- Trusted: The events that a caller is told, and the tags of bodies.
use Rattle.std.specs.Prelude.{◌≡◌, ℕ, ◌==◌, ◌⊎◌, not, List, [], length, map, Option, Some, None}
use Rattle.body_handles.specs.declared.handle.Handle.{Handle}
use Rattle.dillmonth.specs.Forms.{handle_said, handle_shown, pair_shown}
use Rattle.dillmonth.specs.Lists.{points_shown, written}
use Rattle.dillmonth.specs.declared.forms.CEvent.{CEvent}
use Rattle.dillmonth.specs.declared.forms.CHandle.{CHandle}
use Rattle.dillmonth.specs.declared.statuses.TheConstants.{NO_WORLD}
use Rattle.plain_world.specs.declared.body.Body.{Body}
use Rattle.world_desk.specs.Logs.{IsLogged, IsTagged, told}
use Rattle.world_desk.specs.Tags.{tag_of, tagged}
use Rattle.world_desk.specs.declared.desk.Desk.{Desk}
use Rattle.world_desk.specs.declared.step_event.StepEvent.{StepEvent}
use Rattle.world_rules.specs.World.{body_named}

-- ---- an event

-- 0 two shapes began to touch, 1 they ceased to, 2 a body fell asleep, 3 it woke
abbrev pub event_shown : StepEvent → CEvent
event_shown e = record {
  step = e.step;
  kind = e.kind;
  unused = 0;
  first = handle_shown e.first.body;
  second = handle_shown e.second.body;
  first_tag = e.first.tag;
  second_tag = e.second.tag;
  contact = points_shown (pair_shown e.key) e.contact.first e.contact.second;
}

-- ---- all that are kept

-- the events that are kept are counted and written, as many as fit; or memory was wanting for those of the last step,
-- and nothing is written. They stay
abbrev pub AreTold : Desk → ℕ → ℕ → ℕ → List CEvent → List CEvent → Desk → Type 0
AreTold old status before after out out_new new = IsLogged old new × (((status ≡ 0) × (after ≡ length (told old)) × (out_new ≡ written (map event_shown (told old)) out)) ⊎ ((status ≡ 1) × (after ≡ before) × (out_new ≡ out)))

abbrev pub AreToldIn : Option Desk → ℕ → ℕ → ℕ → List CEvent → List CEvent → Option Desk → Type 0
AreToldIn None status before after out out_new new = (status ≡ NO_WORLD) × (after ≡ before) × (out_new ≡ out) × (new ≡ None)
AreToldIn (Some old) status before after out out_new None = ⊥
AreToldIn (Some old) status before after out out_new (Some new) = AreTold old status before after out out_new new

-- no event is kept any more; from now on those of each step are, where the number isn't 0
pub record IsCleared (asked : ℕ) (old new : Desk) : Type 0 where
  pub told : told new ≡ []
  pub keeps : new.keeps ≡ not (asked == 0)
  pub kept : new ≡ record old { log = new.log; pending = new.pending; keeps = new.keeps }

abbrev pub Clears : ℕ → Option Desk → ℕ → Option Desk → Type 0
Clears keeps None status new = (status ≡ NO_WORLD) × (new ≡ None)
Clears keeps (Some old) status None = ⊥
Clears keeps (Some old) status (Some new) = (status ≡ 0) × IsCleared keeps old new

-- ---- tags

abbrev pub tag_in : Option Desk → CHandle → ℕ
tag_in None h = 0
tag_in (Some desk) h = tag_of desk.tags.items (handle_said h)

-- the body gets the tag; or it isn't there, or memory was wanting, and nothing has changed that can be told
abbrev pub TagsAt : Option Body → Handle → ℕ → Desk → ℕ → Desk → Type 0
TagsAt None h tag old status new = (status ≡ 2) × (new ≡ old)
TagsAt (Some b) h tag old status new = ((status ≡ 0) × IsTagged (tagged old.tags.items h tag) old new) ⊎ ((status ≡ 1) × IsTagged old.tags.items old new)

abbrev pub Tags : CHandle → ℕ → Option Desk → ℕ → Option Desk → Type 0
Tags h tag None status new = (status ≡ NO_WORLD) × (new ≡ None)
Tags h tag (Some old) status None = ⊥
Tags h tag (Some old) status (Some new) = TagsAt (body_named old.world.plain (handle_said h)) (handle_said h) tag old status new
