-- Trusted: Worlds as texts, and why a text or a region is refused.
use Rattle.std.specs.Prelude.{◌≡◌, ℕ, ◌⊎◌, true, false, List, Option, Some, None, Ok, IsUtf8}
use Rattle.fixed_geom.specs.declared.boxes.Box2.{Box2}
use Rattle.fixed_geom.specs.declared.refusal.Refusal.{Refusal}
use Rattle.fixed_geom.specs.declared.refusal.Refusal.TheVariants.{NoMemory, OutOfRange}
use Rattle.fixed_geom.specs.declared.vectors.Vec2.{Vec2}
use Rattle.shapes.specs.Rays.{IsBeam, beam_of}
use Rattle.world_file_base.specs.declared.clause.Broken.{Broken}
use Rattle.world_file_base.specs.declared.clause.Broken.TheVariants as broken
use Rattle.serde_json.specs.Data.{Data}
use Rattle.serde_json.specs.Errors.{IsMemory}
use Rattle.serde_json.specs.Read.{read}
use Rattle.serde_json.specs.declared.error.Error.{Error}
use Rattle.world_desk.specs.declared.unread.Unread.{Unread}
use Rattle.world_desk.specs.declared.unread.Unread.TheVariants as unread
use Rattle.world_file.specs.Answers.{IsRefusedBy}
use Rattle.world_file.specs.Files.{read_of}
use Rattle.world_queries.specs.Filters.{IsDueOrWanting}
use Rattle.world_queries.specs.Limits.{is_region}
use Rattle.world_rules.specs.Settled.{settled_world}
use Rattle.world_rules.specs.World.{World}

-- a world, all settled, that the text's value saves
pub record IsLoaded (text : List ℕ) (world : World) : Type 0 where
  pub value : Data
  pub text_is : read text ≡ Some value
  pub world_is : read_of value ≡ Ok (world.plain, world.settled)
  pub settled : world ≡ settled_world world.plain world.settled

-- the text's value breaks this clause first, or memory was wanting
abbrev pub BreaksOf : Option Data → Broken → Type 0
BreaksOf o broken.NoMemory = Unit {0}
BreaksOf None (broken.Clause clause) = ⊥
BreaksOf (Some value) (broken.Clause clause) = IsRefusedBy (read_of value) (broken.Clause clause)

-- why a text is not loaded: bytes without JSON in them, or what the value breaks
abbrev pub IsUnread : List ℕ → Unread → Type 0
IsUnread text unread.NoText = IsUtf8 text → read text ≡ None
IsUnread text (unread.Broken e) = BreaksOf (read text) e

-- what an error of the reader is for a world
abbrev pub IsOfError : Error → Unread → Type 0
IsOfError e unread.NoText = ¬ IsMemory e
IsOfError e (unread.Broken b) = b ≡ broken.NoMemory

-- why a region is refused
abbrev pub region_refusal : Box2 → Refusal → Type 0
region_refusal bounds e = ((is_region bounds ≡ false) × (e ≡ OutOfRange)) ⊎ ((is_region bounds ≡ true) × (e ≡ NoMemory))

-- why one that is asked for through a filter is
abbrev pub filtered_refusal : Box2 → Option Refusal → Refusal → Type 0
filtered_refusal bounds due e = ((is_region bounds ≡ false) × (e ≡ OutOfRange)) ⊎ ((is_region bounds ≡ true) × IsDueOrWanting due e)

-- why a ray is
abbrev pub ray_refusal : Vec2 → Vec2 → Option Refusal → Refusal → Type 0
ray_refusal from along due e = ((¬ IsBeam (beam_of from along)) × (e ≡ OutOfRange)) ⊎ (IsBeam (beam_of from along) × IsDueOrWanting due e)
