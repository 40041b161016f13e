-- Colours from lists that are a colouring.
use Rattle.std.proofs.Common.{◌≡◌, ℕ, ◌+◌, ◌<◌, ◌||◌, Bool, true, false, cond, List, [], ◌∷◌, length, get_or, take, subst, sym, ap, ◌∙◌, refl, arith}
use Rattle.std.specs.List.{All, list_any}
use Rattle.std.specs.Prelude.{Vec, vec_items}
use Rattle.std.specs.declared.alloc.Global.{Global}
use Rattle.std.proofs.lemmas.List.{length-map, take_more, get_or-map}
use Rattle.std.proofs.lemmas.List.Folds.{list_any-append}
use Rattle.graph_colours.specs.declared.member.Member.{Member}
use Rattle.graph_colours.specs.Movers.{has_mover}
use Rattle.graph_colours.specs.Edits.{Pended}
use Rattle.graph_colours.specs.TakenColours.{bit_of, colour_bit, any_has_mover, AreTakenColours, AreSet}
use Rattle.graph_colours.specs.Graph.{lists_of, HaveRoom, IsGraph}
use Rattle.graph_colours.specs.Colours.{list_at, all_members, IsColouring}
use Rattle.graph_colours.specs.Given.{AreAllBelow, members_of}
use Rattle.graph_colours.proofs.BitLaws.{set_bit}

-- a list that a vector of them has
pub vector_at : {C : Type 0} (vectors : List (Vec (Member C) Global)) (i n : ℕ) (v : Vec (Member C) Global) (ms : List (Member C)) → length (members_of vectors) ≡ n → i < n → v ≡ get_or vectors i v → ms ≡ vec_items v → ms ≡ list_at (members_of vectors) i
vector_at {C} vectors i n v ms count lt at is =
    let long : length (members_of vectors) ≡ length vectors = length-map vectors vec_items in
    let here : i < length vectors = omega (arith, long, count, lt) in
    is ∙ ap (λ (w : Vec (Member C) Global). vec_items w) at ∙ sym (get_or-map vec_items vectors i v [] here)

pub below_at : {C : Type 0} (lists : List (List (Member C))) (i n slots : ℕ) (ms : List (Member C)) → length lists ≡ n → i < n → All (AreAllBelow slots) lists → ms ≡ list_at lists i → AreAllBelow slots ms
below_at {C} lists i n slots ms count lt below is =
    let P : List (Member C) → Type 0 = AreAllBelow slots in
    let here : i < length lists = omega (arith, count, lt) in
    subst P (sym is) (below i [] here)

-- the bits of one member more
any_front : {C : Type 0} (ms : List (Member C)) (i : ℕ) (m : Member C) (slot : ℕ) → i < length ms → m ≡ get_or ms i m → any_has_mover (take (i + 1) ms) slot ≡ (has_mover m.movers slot || any_has_mover (take i ms) slot)
any_front {C} ms i m slot lt is =
    let p : Member C → Bool = λ x. has_mover x.movers slot in
    ap (λ (l : List (Member C)). list_any p l) (take_more ms i m lt) ∙ list_any-append p (take i ms) (get_or ms i m ∷ []) ∙ ap (λ (x : Member C). list_any p (take i ms) || (p x || false)) (sym is) ∙ turned (list_any p (take i ms)) (p m)
  where
    turned : (a b : Bool) → (a || (b || false)) ≡ (b || a)
    turned true true = refl
    turned true false = refl
    turned false true = refl
    turned false false = refl

pub one_taken : {C : Type 0} (ms : List (Member C)) (i : ℕ) (m : Member C) (old new : List ℕ) (colour slot : ℕ) → i < length ms → m ≡ get_or ms i m → AreSet old new (has_mover m.movers) colour true → colour_bit old slot colour ≡ bit_of (any_has_mover (take i ms) slot) → colour_bit new slot colour ≡ bit_of (any_has_mover (take (i + 1) ms) slot)
one_taken ms i m old new colour slot lt is set was =
    set.own slot ∙ ap (λ b. cond (has_mover m.movers slot) (bit_of true) b) was ∙ set_bit (has_mover m.movers slot) (any_has_mover (take i ms) slot) ∙ ap bit_of (sym (any_front ms i m slot lt is))

-- the graph of lists that are given
pub graph_given : {C : Type 0} (number : C → ℕ) (ks : List (Pended C)) (lists : List (List (Member C))) (words : List ℕ) (count slots : ℕ) → IsColouring number lists → lists_of ks ≡ lists → AreTakenColours lists words → length words ≡ slots → count ≡ length (all_members lists) → HaveRoom count ks → IsGraph number ks words (record { count = count; total = count; slots = slots })
graph_given {C} number ks lists words count slots colouring same bits long size rooms =
    let P : List (List (Member C)) → Type 0 = λ l. IsColouring number l in
    let Q : List (List (Member C)) → Type 0 = λ l. AreTakenColours l words in
    record {
      colouring = subst P (sym same) colouring;
      bits = subst Q (sym same) bits;
      members = size ∙ sym (ap (λ (ls : List (List (Member C))). length (all_members ls)) same);
      few = omega arith;
      rooms = rooms;
      slots = omega (arith, long);
    }
