-- What is written of numbers, vectors and names is read as these, and nothing that is asked of them is broken.
use Rattle.std.proofs.Common.{ℕ, ◌-◌, ◌^◌, ◌≤◌, Option, Some, None, IfSome, refl, subst}
use Rattle.std.proofs.lemmas.Option.{none-some}
use Rattle.graph_colours.specs.declared.limits.TheConstants.{COLOURS}
use Rattle.world_file_base.specs.Reading.{island_in}
use Rattle.world_file_base.specs.AskedValues.{island_asks}
use Rattle.world_file_base.specs.Written.{natural_or_null}
use Rattle.world_file.proofs.BackNumbers.{IsBack, island_back}
use Rattle.world_file.proofs.ReadContacts.{IsColour}

pub island_or_none : (o : Option ℕ) → IfSome o (λ n. n ≤ 2 ^ 32 - 1) → IsBack island_in island_asks (natural_or_null o) o
island_or_none None h = record { value = refl; asks = λ r. refl }
island_or_none (Some n) h = island_back n h

pub colour_is : (o : Option ℕ) → IfSome o (λ k. k ≤ COLOURS) → IsColour o
colour_is None h k e = absurd (none-some k e)
colour_is (Some n) h k e = subst (λ (o : Option ℕ). IfSome o (λ k. k ≤ COLOURS)) e h
