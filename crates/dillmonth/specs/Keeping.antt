-- Trusted: A world's life.
use Rattle.std.specs.Prelude.{◌≡◌, ℕ, ◌⊎◌, List, [], Option, Some, None, Result, Ok, Err, length, string_bytes}
use Rattle.fixed_geom.specs.declared.refusal.Refusal.{Refusal}
use Rattle.fixed_geom.specs.declared.refusal.Refusal.TheVariants.{NoMemory}
use Rattle.fixed_geom.specs.declared.vectors.Vec2.{Vec2}
use Rattle.dillmonth.specs.Lists.{written}
use Rattle.dillmonth.specs.Statuses.{status_of, unread_status}
use Rattle.dillmonth.specs.declared.statuses.TheConstants.{NO_WORLD}
use Rattle.impulse_ledger.specs.Sums.{totals_of}
use Rattle.world_core.specs.Frames.{with_ledger_settled}
use Rattle.saved_text.specs.Texts.{IsTextOf}
use Rattle.world_desk.specs.Clear.{IsClear}
use Rattle.world_desk.specs.Texts.{IsLoaded, IsUnread}
use Rattle.world_desk.specs.declared.desk.Desk.{Desk}
use Rattle.world_desk.specs.declared.step_event.Tagged.{Tagged}
use Rattle.world_desk.specs.declared.unread.Unread.{Unread}
use Rattle.world_digest.specs.Digests.{digest_of}
use Rattle.world_file.specs.Files.{value_of}
use Rattle.world_rules.specs.Apply.{empty_world, gravity_refusal}
use Rattle.world_rules.specs.World.{World, book_of}

-- the desk is held, or memory was wanting and what was held stays
abbrev pub IsHeld : Desk → Option Desk → ℕ → Option Desk → Type 0
IsHeld desk old status new = ((status ≡ 0) × (new ≡ Some desk)) ⊎ ((status ≡ 1) × (new ≡ old))

-- an empty world, or why there is none
abbrev pub IsOpened : Vec2 → Result Desk Refusal → Type 0
IsOpened gravity (Ok desk) = (gravity_refusal gravity ≡ None) × (desk.world ≡ empty_world gravity) × (desk.tags.items ≡ []) × IsClear desk
IsOpened gravity (Err e) = (gravity_refusal gravity ≡ Some e) ⊎ ((gravity_refusal gravity ≡ None) × (e ≡ NoMemory))

-- the caller holds a desk whose world is so, whose bodies have these tags and on which nothing lies yet, and 0 is
-- answered
abbrev pub NowHolds : (World → Type 0) → List Tagged → ℕ → Option Desk → Type 0
NowHolds is tags status None = ⊥
NowHolds is tags status (Some desk) = (status ≡ 0) × is desk.world × (desk.tags.items ≡ tags) × IsClear desk

-- an empty world; or what was held stays, and it is said why: the gravity is beyond its limit, or memory was wanting
abbrev pub Opens : Vec2 → Option Desk → ℕ → Option Desk → Type 0
Opens gravity old status new = NowHolds (λ w. w ≡ empty_world gravity) [] status new ⊎ ((new ≡ old) × ((status ≡ 1) ⊎ ((e : Refusal) × (gravity_refusal gravity ≡ Some e) × (status ≡ status_of e))))

-- a world as that one, whose bodies have the same tags; or what was held stays, and memory was wanting
abbrev pub Copies : Option Desk → Option Desk → ℕ → Option Desk → Type 0
Copies None old status new = (status ≡ NO_WORLD) × (new ≡ old)
Copies (Some desk) old status new = NowHolds (λ w. w ≡ desk.world) desk.tags.items status new ⊎ ((status ≡ 1) × (new ≡ old))

-- the entries of the ledger are added to its sums, and all else is as it was
abbrev pub Settles : Option Desk → ℕ → Option Desk → Type 0
Settles None status new = (status ≡ NO_WORLD) × (new ≡ None)
Settles (Some desk) status new = (status ≡ 0) × (new ≡ Some (record desk { world = with_ledger_settled desk.world }))

-- ---- saved worlds

abbrev pub saved_in : Option Desk → List ℕ
saved_in None = []
saved_in (Some desk) = string_bytes desk.saved

-- the text that is printed of the world's value is kept, its bytes are counted, and all else is as it was; or memory
-- was wanting, and nothing has changed
abbrev pub SavesAt : Desk → ℕ → ℕ → ℕ → Desk → Type 0
SavesAt old status before after new =
    ((status ≡ 0) × (new ≡ record old { saved = new.saved }) × (after ≡ length (string_bytes new.saved)) × IsTextOf (value_of old.world.plain (totals_of (book_of old.world))) (string_bytes new.saved))
    ⊎ ((status ≡ 1) × (after ≡ before) × (new ≡ old))

abbrev pub Saves : Option Desk → ℕ → ℕ → ℕ → Option Desk → Type 0
Saves None status before after new = (status ≡ NO_WORLD) × (after ≡ before) × (new ≡ None)
Saves (Some old) status before after None = ⊥
Saves (Some old) status before after (Some new) = SavesAt old status before after new

-- why nothing was loaded, in numbers
abbrev pub IsUnreadAs : List ℕ → ℕ → ℕ → Type 0
IsUnreadAs text status clause = (why : Unread) × (status ≡ (unread_status why).status) × (clause ≡ (unread_status why).clause) × IsUnread text why

-- the world that the text saves; or what was held stays, and it is said why: memory was wanting for the desk, or there
-- is no world in the text. The clause is 0 where none is broken
abbrev pub Loads : List ℕ → Option Desk → ℕ → ℕ → Option Desk → Type 0
Loads text old status clause new =
    (NowHolds (λ w. IsLoaded text w) [] status new × (clause ≡ 0))
    ⊎ ((new ≡ old) × (((status ≡ 1) × (clause ≡ 0)) ⊎ IsUnreadAs text status clause))

-- the digest is written; or memory was wanting, or there is no world, and nothing is written
abbrev pub Digests : Option Desk → ℕ → List ℕ → List ℕ → Type 0
Digests None status before after = (status ≡ NO_WORLD) × (after ≡ before)
Digests (Some desk) status before after = ((status ≡ 0) × (after ≡ written (digest_of desk.world.plain (totals_of (book_of desk.world))) before)) ⊎ ((status ≡ 1) × (after ≡ before))
