-- The lists of the graph as those of a colouring, with the bits of their movers.
use Rattle.std.proofs.Common.{◌≡◌, ℕ, ◌+◌, ◌<◌, ◌≤◌, Bool, true, false, cond, List, [], length, get_or, take, slice_set, subst, Option, Some, None, refl, sym, ap, ◌∙◌, arith, max}
use Rattle.std.specs.Int.{bit_at}
use Rattle.std.specs.List.{position_or_len}
use Rattle.std.proofs.lemmas.List.{length-map, get_or-take}
use Rattle.std.proofs.lemmas.List.Sums.{position_or_len_is}
use Rattle.graph_colours.specs.declared.colours.Size.{Size}
use Rattle.graph_colours.specs.declared.limits.TheConstants.{COLOURS}
use Rattle.graph_colours.specs.declared.member.Movers.{Movers}
use Rattle.graph_colours.specs.declared.member.Member.{Member}
use Rattle.graph_colours.specs.Movers.{AreBelow}
use Rattle.graph_colours.specs.Members.{AreRising, AreApart, is_free, inserted}
use Rattle.graph_colours.specs.FoundMembers.{has_id, colour_of}
use Rattle.graph_colours.specs.Edits.{Pended}
use Rattle.graph_colours.specs.TakenColours.{word_at, AreTakenColours, taken}
use Rattle.graph_colours.specs.Graph.{lists_of, HaveRoom, IsGraph}
use Rattle.graph_colours.specs.Colours.{list_at, all_members, least_colour, with_placed, released, IsColouring}
use Rattle.graph_colours.proofs.TakenLemmas.{is_taken, is_untaken, bits_same}
use Rattle.graph_colours.proofs.SearchLemmas.{position_none, position_some, found_in_map, none_passes}
use Rattle.graph_colours.proofs.ColouringLemmas.{enough, placed_keeps, released_keeps}
use Rattle.graph_colours.proofs.SizeLemmas.{placed_size, released_size}
use Rattle.graph_colours.proofs.OnceLemmas.{times}

-- a graph of the same lists, with words for as many slots and more
pub graph_same : {C : Type 0} (number : C → ℕ) (ks cs : List (Pended C)) (words more : List ℕ) (size other : Size) → IsGraph number ks words size → lists_of cs ≡ lists_of ks → ((slot : ℕ) → word_at more slot ≡ word_at words slot) → other.count ≡ size.count → other.count ≤ other.total → HaveRoom other.total cs → other.slots ≤ length more → IsGraph number cs more other
graph_same {C} number ks cs words more size other graph same words_same count few rooms slots =
    let P : List (List (Member C)) → Type 0 = λ l. IsColouring number l in
    let Q : List (List (Member C)) → Type 0 = λ l. AreTakenColours l more in
    record {
      colouring = subst P (sym same) graph.colouring;
      bits = subst Q (sym same) (bits_same (lists_of ks) words more graph.bits words_same);
      members = count ∙ graph.members ∙ sym (ap (λ (ls : List (List (Member C))). length (all_members ls)) same);
      few = few;
      rooms = rooms;
      slots = slots;
    }

-- room for the greater of two numbers
pub rooms_both : {C : Type 0} (a b : ℕ) (ks : List (Pended C)) → HaveRoom a ks → HaveRoom b ks → HaveRoom (max a b) ks
rooms_both {C} a b ks first second k d lt =
    let p : a ≤ (get_or ks k d).capacity = first k d lt in
    let q : b ≤ (get_or ks k d).capacity = second k d lt in
    omega (arith, p, q)

-- the movers have words
pub below_words : (words : List ℕ) (slots : ℕ) (v : Movers) → slots ≤ length words → AreBelow slots v → AreBelow (length words) v
below_words words slots v le below = below_by words slots v.first v.second le below
  where
    below_by : (ws : List ℕ) (n first : ℕ) (second : Option ℕ) → n ≤ length ws → AreBelow n (record { first = first; second = second }) → AreBelow (length ws) (record { first = first; second = second })
    below_by ws n first None enough is = let lt : first < n = is.first in record { first = omega (arith, lt, enough); second = tt }
    below_by ws n first (Some s) enough is = let lt : first < n = is.first in let next : s < n = is.second in record { first = omega (arith, lt, enough); second = omega (arith, next, enough) }

-- the first colour that no mover has is the least colour
pub least_is : {C : Type 0} (lists : List (List (Member C))) (words : List ℕ) (v : Movers) (c : ℕ) → length lists ≡ COLOURS + 1 → AreTakenColours lists words → c ≤ COLOURS → ((k : ℕ) → k < c → bit_at (taken words v) k ≡ 1) → (c < COLOURS → bit_at (taken words v) c ≡ 0) → c ≡ least_colour lists v
unfolding least_colour
least_is {C} lists words v c n bits most before free =
    let p : List (Member C) → Bool = λ ms. is_free ms v in
    let len : length (take COLOURS lists) ≡ COLOURS = enough COLOURS lists (omega (arith, n)) in
    let not_before : (k : ℕ) → k < c → p (get_or (take COLOURS lists) k []) ≡ false = λ k lt.
    let below : k < COLOURS = omega (arith, lt, most) in
    ap p (get_or-take COLOURS lists k [] below) ∙ is_taken lists words v k bits below (before k lt) in
    let here : c < length (take COLOURS lists) → p (get_or (take COLOURS lists) c []) ≡ true = λ lt.
    let below : c < COLOURS = omega (arith, lt, len) in
    ap p (get_or-take COLOURS lists c [] below) ∙ is_untaken lists words v c bits below (free below) in
    sym (position_or_len_is p (take COLOURS lists) c [] (omega (arith, most, len)) not_before here)

-- where an id stands
pub in_list : {C : Type 0} (number : C → ℕ) (id : C) (ks : List (Pended C)) → let q : Pended C → Bool = λ l. has_id number id l.items in position_or_len q ks < length ks → Some (position_or_len q ks) ≡ colour_of number id (lists_of ks)
unfolding colour_of
in_list {C} number id ks lt =
    let q : Pended C → Bool = λ l. has_id number id l.items in
    let f : Pended C → List (Member C) = λ l. l.items in
    let at : position_or_len (has_id number id) (lists_of ks) ≡ position_or_len q ks = found_in_map f (has_id number id) q ks (λ l. refl) in
    let n : length (lists_of ks) ≡ length ks = length-map ks f in
    ap (λ i. Some i) (sym at) ∙ sym (position_some (has_id number id) (lists_of ks) (omega (arith, at, n, lt)))

pub in_none : {C : Type 0} (number : C → ℕ) (id : C) (ks : List (Pended C)) → let q : Pended C → Bool = λ l. has_id number id l.items in length ks ≤ position_or_len q ks → None ≡ colour_of number id (lists_of ks)
unfolding colour_of
in_none {C} number id ks le =
    let q : Pended C → Bool = λ l. has_id number id l.items in
    let f : Pended C → List (Member C) = λ l. l.items in
    let at : position_or_len (has_id number id) (lists_of ks) ≡ position_or_len q ks = found_in_map f (has_id number id) q ks (λ l. refl) in
    let n : length (lists_of ks) ≡ length ks = length-map ks f in
    sym (position_none (has_id number id) (lists_of ks) (omega (arith, at, n, le)))

-- no list has an id that has no colour
pub absent_at : {C : Type 0} (number : C → ℕ) (id : C) (lists : List (List (Member C))) (c : ℕ) → colour_of number id lists ≡ None → c < length lists → has_id number id (list_at lists c) ≡ false
unfolding colour_of
absent_at number id lists c none lt = none_passes (has_id number id) lists none c [] lt

-- what is known of one list of a colouring
pub rising_at : {C : Type 0} (number : C → ℕ) (lists : List (List (Member C))) (c : ℕ) (ms : List (Member C)) → IsColouring number lists → c ≤ COLOURS → ms ≡ list_at lists c → AreRising number ms
rising_at {C} number lists c ms keeps le is =
    let n : length lists ≡ COLOURS + 1 = keeps.count in
    subst (λ (l : List (Member C)). AreRising number l) (sym is) (keeps.rising c [] (omega (arith, n, le)))

pub apart_at : {C : Type 0} (number : C → ℕ) (lists : List (List (Member C))) (c : ℕ) (ms : List (Member C)) → IsColouring number lists → c < COLOURS → ms ≡ list_at lists c → AreApart ms
apart_at {C} number lists c ms keeps lt is =
    let n : length lists ≡ COLOURS + 1 = keeps.count in
    let len : length (take COLOURS lists) ≡ COLOURS = enough COLOURS lists (omega (arith, n)) in
    let P : List (Member C) → Type 0 = AreApart in
    subst P (get_or-take COLOURS lists c [] lt ∙ sym is) (keeps.apart c [] (omega (arith, len, lt)))

-- a member put into its place is the constraint placed
pub placed_is : {C : Type 0} (number : C → ℕ) (m : Member C) (lists now : List (List (Member C))) (place : ℕ) → place ≡ least_colour lists m.movers → now ≡ slice_set lists place (inserted number m (list_at lists place)) → now ≡ with_placed number m lists
unfolding with_placed
placed_is {C} number m lists now place at is =
    let P : ℕ → Type 0 = λ i. now ≡ slice_set lists i (inserted number m (list_at lists i)) in
    subst P at is

-- the graph once a constraint was placed
pub graph_placed : {C : Type 0} (number : C → ℕ) (m : Member C) (ks cs : List (Pended C)) (words more : List ℕ) (size : Size) → IsGraph number ks words size → colour_of number m.id (lists_of ks) ≡ None → lists_of cs ≡ with_placed number m (lists_of ks) → AreTakenColours (lists_of cs) more → size.count < size.total → HaveRoom size.total cs → length more ≡ length words → IsGraph number cs more (record { count = size.count + 1; total = size.total; slots = size.slots })
graph_placed {C} number m ks cs words more size graph absent is bits room rooms long =
    let P : List (List (Member C)) → Type 0 = λ l. IsColouring number l in
    let one : length (all_members (with_placed number m (lists_of ks))) ≡ length (all_members (lists_of ks)) + 1 = placed_size number m (lists_of ks) graph.colouring in
    let now : length (all_members (lists_of cs)) ≡ length (all_members (with_placed number m (lists_of ks))) = ap (λ (ls : List (List (Member C))). length (all_members ls)) is in
    record {
      colouring = subst P (sym is) (placed_keeps number m (lists_of ks) graph.colouring absent);
      bits = bits;
      members = omega (arith, graph.members, one, now);
      few = omega (arith, room);
      rooms = rooms;
      slots = omega (arith, graph.slots, long);
    }

-- the graph once a constraint was released
pub graph_released : {C : Type 0} (number : C → ℕ) (id : C) (ks cs : List (Pended C)) (words more : List ℕ) (size other : Size) (gone : ℕ) → IsGraph number ks words size → lists_of cs ≡ released number id (lists_of ks) → AreTakenColours (lists_of cs) more → gone ≡ times number id (all_members (lists_of ks)) → other.count + gone ≡ size.count → other.total ≡ size.total → other.slots ≡ size.slots → HaveRoom other.total cs → length more ≡ length words → IsGraph number cs more other
graph_released {C} number id ks cs words more size other gone graph is bits left count total slots rooms long =
    let P : List (List (Member C)) → Type 0 = λ l. IsColouring number l in
    let fewer : length (all_members (released number id (lists_of ks))) + times number id (all_members (lists_of ks)) ≡ length (all_members (lists_of ks)) = released_size number id (lists_of ks) in
    let now : length (all_members (lists_of cs)) ≡ length (all_members (released number id (lists_of ks))) = ap (λ (ls : List (List (Member C))). length (all_members ls)) is in
    record {
      colouring = subst P (sym is) (released_keeps number id (lists_of ks) graph.colouring);
      bits = bits;
      members = omega (arith, graph.members, fewer, now, left, count);
      few = omega (arith, graph.few, count, total);
      rooms = rooms;
      slots = omega (arith, graph.slots, slots, long);
    }

-- no edit is put off where none may be
pub flushed_is : (flushed : Bool) (pending : ℕ) → pending ≡ cond flushed 0 1 → pending ≡ 0 → flushed ≡ true
flushed_is true pending is none = refl
flushed_is false pending is none = absurd (omega (arith, is, none))
