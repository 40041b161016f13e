-- What is known of a text that was read with no value of it.
use Rattle.std.proofs.Common.{◌≡◌, ℕ, List, Option, Some, sym, ap, ◌∙◌, subst}
use Rattle.std.specs.Prelude.{Err, MatchResult, Ok, Result}
use Rattle.impulse_ledger.specs.declared.totals.Totals.{Totals}
use Rattle.loaded_text.specs.Worlds.{IsReadOf, IsRefusedOf}
use Rattle.plain_world.specs.Plain.{Plain}
use Rattle.serde_json.specs.Data.{Data}
use Rattle.serde_json.specs.Read.{read}
use Rattle.world_desk.specs.Texts.{BreaksOf, IsLoaded}
use Rattle.world_file_base.specs.declared.clause.Broken.{Broken}
use Rattle.world_file_base.specs.declared.clause.Broken.TheVariants as broken
use Rattle.world_file.specs.Answers.{IsRefusedBy}
use Rattle.world_file.specs.Files.{read_of}
use Rattle.world_rules.specs.Settled.{settled_world}
use Rattle.world_rules.specs.World.{World}

of_value : (value : Data) (e : Broken) → IsRefusedBy (read_of value) e → BreaksOf (Some value) e
of_value value broken.NoMemory is = tt
of_value value (broken.Clause clause) is = is

-- what was answered of a text
pub read_is : (text : List ℕ) (r : Result (Plain × Totals) Broken) (world : Plain × Totals) → MatchResult r (IsReadOf text) (IsRefusedOf text) → r ≡ Ok world → IsReadOf text world
read_is text r world h is = subst (λ (x : Result (Plain × Totals) Broken). MatchResult x (IsReadOf text) (IsRefusedOf text)) is h

pub refused_is : (text : List ℕ) (r : Result (Plain × Totals) Broken) (e : Broken) → MatchResult r (IsReadOf text) (IsRefusedOf text) → r ≡ Err e → IsRefusedOf text e
refused_is text r e h is = subst (λ (x : Result (Plain × Totals) Broken). MatchResult x (IsReadOf text) (IsRefusedOf text)) is h

pub breaks : (text : List ℕ) (e : Broken) → IsRefusedOf text e → BreaksOf (read text) e
breaks text e h = subst (λ (o : Option Data). BreaksOf o e) (sym h.text_is) (of_value h.value e h.is)

pub is_loaded : (text : List ℕ) (p : Plain) (t : Totals) (w : World) → IsReadOf text (p, t) → w ≡ settled_world p t → IsLoaded text w
is_loaded text p t w h made = record {
  value = h.value;
  text_is = h.text_is;
  world_is = h.is ∙ ap (λ (x : World). Ok (x.plain, x.settled)) (sym made);
  settled = made ∙ ap (λ (x : World). settled_world x.plain x.settled) (sym made);
}
