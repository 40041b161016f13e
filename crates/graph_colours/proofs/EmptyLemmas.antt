-- A graph with no members.
use Rattle.std.proofs.Common.{◌≡◌, ℕ, ◌+◌, ◌<◌, false, List, [], length, replicate, subst, refl, sym, ap, ◌∙◌, arith}
use Rattle.std.proofs.lemmas.List.Elements.{All-replicate}
use Rattle.std.proofs.lemmas.Nat.Bits.{bit_at-zero}
use Rattle.graph_colours.specs.declared.limits.TheConstants.{COLOURS}
use Rattle.graph_colours.specs.declared.member.Member.{Member}
use Rattle.graph_colours.specs.Movers.{shares}
use Rattle.graph_colours.specs.Members.{AreRising, AreApart}
use Rattle.graph_colours.specs.Edits.{Pended}
use Rattle.graph_colours.specs.TakenColours.{bit_of, any_has_mover, AreTakenColours}
use Rattle.graph_colours.specs.Graph.{lists_of, IsGraph}
use Rattle.graph_colours.specs.Colours.{all_members, IsColouring}
use Rattle.graph_colours.proofs.ListLemmas.{pairs_none}
use Rattle.graph_colours.proofs.TakenLemmas.{none_at}

-- the lists of a new colouring
pub colouring_of_none : {C : Type 0} (number : C → ℕ) → IsColouring {C = C} number (replicate (COLOURS + 1) [])
colouring_of_none {C} number =
    let none : List (Member C) = [] in
    let P : List (Member C) → Type 0 = AreApart in
    record {
      count = refl;
      rising = All-replicate (AreRising number) (COLOURS + 1) none (pairs_none (λ m later. number m.id < number later.id));
      apart = All-replicate P COLOURS none (pairs_none (λ m later. shares m.movers later.movers ≡ false));
      once = λ n. omega arith;
    }

-- lists without members, and no words
pub bits_of_none : {C : Type 0} (n : ℕ) → AreTakenColours {C = C} (replicate n []) []
bits_of_none {C} n = record {
  own = λ slot c lt. bit_at-zero c ∙ ap (λ (ms : List (Member C)). bit_of (any_has_mover ms slot)) (sym (none_at n c));
  no_more = λ slot c le. bit_at-zero c;
}

pub graph_of_none : {C : Type 0} (number : C → ℕ) (ks : List (Pended C)) (words : List ℕ) → lists_of ks ≡ replicate (COLOURS + 1) [] → words ≡ [] → IsGraph number ks words (record { count = 0; total = 0; slots = 0 })
graph_of_none {C} number ks words none no_words =
    let P : List (List (Member C)) → Type 0 = λ l. IsColouring number l in
    let Q : List (List (Member C)) → Type 0 = λ l. AreTakenColours l words in
    let R : List ℕ → Type 0 = λ w. AreTakenColours {C = C} (replicate (COLOURS + 1) []) w in
    record {
      colouring = subst P (sym none) (colouring_of_none number);
      bits = subst Q (sym none) (subst R (sym no_words) (bits_of_none (COLOURS + 1)));
      members = sym (ap (λ (ls : List (List (Member C))). length (all_members ls)) none);
      few = omega arith;
      rooms = λ k d lt. omega arith;
      slots = omega arith;
    }
