-- What puts nobody to rest.
use Rattle.std.specs.Prelude.{◌≡◌, ℕ, ◌<◌, ◌==◌, ◌&&◌, Bool, true, false, not, cond, nat_lt, Contains, List, Option, Some, None, slice_get, slice_set}
use Rattle.contacts_base.specs.declared.contact.ContactEntry.{ContactEntry}
use Rattle.contacts_base.specs.declared.key.ContactKey.{ContactKey}
use Rattle.contacts_base.specs.Contacts.{lookup}
use Rattle.contacts_base.specs.Evaluate.{touches}
use Rattle.islands.specs.declared.label.Label.{Label}
use Rattle.islands.specs.Labels.{Labels, is_in, label_at}
use Rattle.plain_world.specs.declared.body.Body.{Body}
use Rattle.plain_world.specs.declared.joint.BodyJoint.{BodyJoint}
use Rattle.plain_world.specs.Bodies.{is_awake}
use Rattle.plain_world.specs.Slots.{body_at, item_at}
use Rattle.sleep_wake.specs.Acting.{awake_label}
use Rattle.sleep_wake.specs.SleepPhase.{ticks_to_sleep}
use Rattle.sleep_wake.specs.Resting.{may_be_ready}
use Rattle.solver_sets.specs.Beside.{is_moving_at}

-- a body is there that hasn't been slow for long enough to sleep
abbrev pub is_short_in : Option Body → Bool
is_short_in None = false
is_short_in (Some b) = nat_lt b.timer ticks_to_sleep

-- no awake mover has been slow for long enough to sleep
abbrev pub AreBusy : List (Option Body) → Type 0
AreBusy bodies = (slot : ℕ) (b : Body) → body_at bodies slot ≡ Some b → is_awake b ≡ true → b.timer < ticks_to_sleep

-- the timer in a slot, of those that a sleep phase counts, is short
abbrev pub IsShort : List ℕ → ℕ → Type 0
IsShort timers slot = may_be_ready (slice_get timers slot) ≡ false

-- each awake island has a mover that keeps it from being ready
abbrev pub AreKeptUp : Labels → List ℕ → Type 0
AreKeptUp labels timers = (name : ℕ) → awake_label (label_at labels name) ≡ true → is_in (label_at labels name) name ≡ true → (m : ℕ) × (is_in (label_at labels m) name ≡ true) × IsShort timers m

-- ---- flags by slot, at the names of islands that have a mover which keeps them from being ready

abbrev pub is_flagged_in : Option Bool → Bool
is_flagged_in None = false
is_flagged_in (Some t) = t

-- the island with this label flagged
abbrev pub flagged_by : Option Label → List Bool → List Bool
flagged_by None flags = flags
flagged_by (Some l) flags = slice_set flags l.name true

-- none of these slots is flagged
abbrev pub AreCleared : List ℕ → List Bool → Type 0
AreCleared slots flags = (slot : ℕ) → Contains slots slot → is_flagged_in (slice_get flags slot) ≡ false

-- each island that is flagged has such a mover, of those with these names: what other flags there are means nothing
abbrev pub HasFlagged : List ℕ → Labels → List ℕ → List Bool → Type 0
HasFlagged names labels timers flags = (name : ℕ) → Contains names name → is_flagged_in (slice_get flags name) ≡ true → (m : ℕ) × (is_in (label_at labels m) name ≡ true) × IsShort timers m

-- the timers of these bodies are short where theirs are
abbrev pub ShortTimersAgree : List (Option Body) → List ℕ → Type 0
ShortTimersAgree bodies timers = (slot : ℕ) (b : Body) → body_at bodies slot ≡ Some b → b.timer < ticks_to_sleep → IsShort timers slot

-- the slot with this label names an island, which isn't flagged
abbrev pub is_open_by : Option Label → ℕ → Bool → Bool
is_open_by None slot flagged = false
is_open_by (Some l) slot flagged = (l.name == slot) && not flagged

-- ---- flags of islands that a moving kinematic body keeps awake

abbrev pub flagged_if : Bool → Option Label → List Bool → List Bool
flagged_if t o flags = cond t (flagged_by o flags) flags

-- of two bodies beside one another, the island of each if the other moves
abbrev pub flagged_pair : Labels → List (Option Body) → ℕ → ℕ → List Bool → List Bool
flagged_pair labels bodies a b flags = flagged_if (is_moving_at bodies a) (label_at labels b) (flagged_if (is_moving_at bodies b) (label_at labels a) flags)

abbrev pub flagged_joined : Labels → List (Option Body) → Option BodyJoint → List Bool → List Bool
flagged_joined labels bodies None flags = flags
flagged_joined labels bodies (Some j) flags = flagged_pair labels bodies j.a j.b flags

abbrev pub flagged_touched : Labels → List (Option Body) → Option ContactEntry → List Bool → List Bool
flagged_touched labels bodies None flags = flags
flagged_touched labels bodies (Some e) flags = cond (touches e.contact) (flagged_pair labels bodies e.key.first.slot e.key.second.slot flags) flags

-- what joints and contacts flag has such a mover
pub record KeepFlags (labels : Labels) (bodies : List (Option Body)) (joints : List (Option BodyJoint)) (contacts : List ContactEntry) (timers : List ℕ) : Type 0 where
  pub joined : (names : List ℕ) (slot : ℕ) (flags : List Bool) → HasFlagged names labels timers flags → HasFlagged names labels timers (flagged_joined labels bodies (item_at joints slot) flags)
  pub touched : (names : List ℕ) (key : ContactKey) (flags : List Bool) → HasFlagged names labels timers flags → HasFlagged names labels timers (flagged_touched labels bodies (lookup contacts key) flags)
