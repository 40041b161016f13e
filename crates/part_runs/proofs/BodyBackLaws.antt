-- The bodies of all parts, read back: each mover from its own part, and what no impulse moves from the first.
use Rattle.std.proofs.Common.{◌≡◌, ℕ, Bool, true, cond, List, get_or, refl, sym, ap, ◌∙◌}
use Rattle.std.proofs.lemmas.Bool.{eq-eqb}
use Rattle.momenta.specs.declared.state.BodyState.{BodyState}
use Rattle.colour_solver.specs.Colour.{is_mover}
use Rattle.colour_solver.specs.States.{nobody}
use Rattle.part_runs.specs.Hidden.{SameMovers, hidden, seen}
use Rattle.part_runs.specs.ReadBack.{AreBodiesBack, source}
use Rattle.part_runs.proofs.HiddenLaws.{get-hidden, seen_own}

source_if : (x : Bool) (i : ℕ) → x ≡ true → cond x i 0 ≡ i
source_if x i h = ap (λ b. cond b i 0) h

-- the part from which a slot is read back sees its body as it is
pub seen_home : (g : ℕ → ℕ) (first now : List BodyState) (slot : ℕ) (s : BodyState) → SameMovers first now → s.movable ≡ is_mover now slot → seen g (source g first slot) slot s ≡ s
seen_home g first now slot s same is =
    seen_own g (source g first slot) slot s (λ m. eq-eqb (g slot) (source g first slot) (sym (source_if (is_mover first slot) (g slot) (sym (same slot) ∙ sym is ∙ m))))

get-home : (g : ℕ → ℕ) (first now : List BodyState) (slot : ℕ) → SameMovers first now → get_or (hidden g (source g first slot) now) slot nobody ≡ get_or now slot nobody
get-home g first now slot same = get-hidden g (source g first slot) now slot ∙ seen_home g first now slot (get_or now slot nobody) same refl

pub bodies_back : (g : ℕ → ℕ) (first now : List BodyState) (part : ℕ → List BodyState) → SameMovers first now → ((k : ℕ) → hidden g k now ≡ part k) → AreBodiesBack g first part now
bodies_back g first now part same each slot = sym (get-home g first now slot same) ∙ ap (λ (l : List BodyState). get_or l slot nobody) (each (source g first slot))
