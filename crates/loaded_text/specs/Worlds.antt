-- Trusted: Saved worlds at the front of a text, and what is answered of them.
use Rattle.std.specs.Prelude.{◌≡◌, ℕ, ◌*◌, ◌≤◌, ◌^◌, List, [], true, length, Some, Ok}
use Rattle.impulse_ledger.specs.declared.totals.Totals.{Totals}
use Rattle.plain_world.specs.Plain.{Plain}
use Rattle.serde_json.specs.Data.{Data, depth}
use Rattle.serde_json.specs.Read.{read}
use Rattle.world_file_base.specs.Asks.{no_asks}
use Rattle.world_file_base.specs.declared.clause.Broken.{Broken}
use Rattle.world_file.specs.Answers.{IsRefusedBy}
use Rattle.world_file.specs.Files.{read_of}
use Rattle.world_file.specs.Parts.{parts_of}
use Rattle.world_file.specs.Saved.{most_calls, most_ticks, saved_in}
use Rattle.world_file.specs.AskedParts.{parts_asks}
use Rattle.world_file.specs.declared.saved_world.Saved.{Saved}
use Rattle.loaded_text.specs.Bodies.{are_timed}
use Rattle.loaded_text.specs.Stands.{Stands}

-- nothing was read of a saved world
pub record IsEmpty (s : Saved) : Type 0 where
  pub slot_entries : s.bodies.slot_entries.items ≡ []
  pub bodies : s.bodies.bodies.items ≡ []
  pub memberships : s.bodies.memberships.items ≡ []
  pub joint_entries : s.joints.slot_entries.items ≡ []
  pub joints : s.joints.joints.items ≡ []
  pub contacts : s.contacts.items ≡ []

-- how many calls and steps a world has, and for how long its bodies were slow
pub record AreHeads (s : Saved) : Type 0 where
  pub calls : s.calls ≤ most_calls
  pub steps : s.steps ≤ s.calls
  pub timed : are_timed (s.steps * most_ticks) s.bodies.bodies.items ≡ true

-- a value that is read as this world, and breaks nothing, if its numbers fit
pub record WorldStands (s : Saved) (text rest : List ℕ) : Type 0 where
  pub value : Data
  pub stands : Stands [] value text rest
  pub shallow : depth value ≤ 8
  pub few : length s.bodies.memberships.items ≤ 2 ^ 32
  pub few_joints : length s.joints.slot_entries.items ≤ 2 ^ 32
  pub parts : AreHeads s → saved_in value ≡ parts_of s
  pub asks : AreHeads s → parts_asks value no_asks ≡ no_asks

-- the text's value is read as this world, and breaks nothing
pub record IsSavedText (text : List ℕ) (s : Saved) : Type 0 where
  pub value : Data
  pub text_is : read text ≡ Some value
  pub few : length s.bodies.memberships.items ≤ 2 ^ 32
  pub few_joints : length s.joints.slot_entries.items ≤ 2 ^ 32
  pub parts : saved_in value ≡ parts_of s
  pub asks : parts_asks value no_asks ≡ no_asks

-- the text's value saves this world, with these totals
pub record IsReadOf (text : List ℕ) (world : Plain × Totals) : Type 0 where
  pub value : Data
  pub text_is : read text ≡ Some value
  pub is : read_of value ≡ Ok (world.0, world.1)

-- the text's value breaks this clause first, or memory was wanting
pub record IsRefusedOf (text : List ℕ) (e : Broken) : Type 0 where
  pub value : Data
  pub text_is : read text ≡ Some value
  pub is : IsRefusedBy (read_of value) e
