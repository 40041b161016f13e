-- What the sets keep, whatever changes in them.
use Rattle.std.proofs.Common.{◌≡◌, ℕ, ◌+◌, ◌<◌, ◌≤◌, Bool, false, List, length, None, Some, refl, ap, arith}
use Rattle.std.specs.Prelude.{filter, IfSome, Option}
use Rattle.graph_colours.specs.declared.member.Movers.{Movers}
use Rattle.graph_colours.specs.declared.member.Member.{Member}
use Rattle.graph_colours.specs.Movers.{AreBelow}
use Rattle.graph_colours.specs.Colours.{all_members}
use Rattle.islands.specs.Labels.{Labels}
use Rattle.islands.proofs.LabelLemmas.{some_short}
use Rattle.sleep_wake.specs.Acting.{Acting, AreMovers, IsConsistent}
use Rattle.sleep_wake.specs.Standing.{Capacity, IsStanding}
use Rattle.sleep_wake.proofs.CountLemmas.{counted}

-- the room of the parts is as before, and what the colours have given up is room again
pub record SameRoom (coloured after : ℕ) (c d : Capacity) : Type 0 where
  pub ties : c.ties ≤ d.ties
  pub colours : d.colours + after ≡ c.colours + coloured
  pub colour_slots : d.colour_slots ≡ c.colour_slots
  pub islands : d.islands ≡ c.islands
  pub edges : c.edges ≤ d.edges
  pub scratch_slots : d.scratch_slots ≡ c.scratch_slots
  pub links : d.links ≡ c.links
  pub gathering_ties : c.gathering_ties ≤ d.gathering_ties
  pub gathering_slots : c.gathering_slots ≤ d.gathering_slots
  pub leasts : c.leasts ≤ d.leasts

pub stands : {C : Type 0} (number : C → ℕ) (s new : Acting C) (room slots : ℕ) (c d : Capacity) → IsStanding number s room slots c → IsConsistent number new → length new.ties ≤ room → length new.labels ≤ slots → SameRoom (length (all_members s.lists)) (length (all_members new.lists)) c d → IsStanding number new room slots d
stands number s new room slots c d w consistent enough few r = record {
  consistent = consistent;
  enough = enough;
  few = few;
  rooms = record {
    ties = omega (arith, w.rooms.ties, r.ties);
    colours = omega (arith, w.rooms.colours, r.colours);
    colour_slots = omega (arith, w.rooms.colour_slots, r.colour_slots);
    islands = omega (arith, w.rooms.islands, r.islands);
    edges = omega (arith, w.rooms.edges, r.edges);
    scratch_slots = omega (arith, w.rooms.scratch_slots, r.scratch_slots);
    links = omega (arith, w.rooms.links, r.links);
    gathering_ties = omega (arith, w.rooms.gathering_ties, r.gathering_ties);
    gathering_slots = omega (arith, w.rooms.gathering_slots, r.gathering_slots);
    leasts = omega (arith, w.rooms.leasts, r.leasts);
  };
}

-- the same where the constraints and the number of labels stay
pub stands_on : {C : Type 0} (number : C → ℕ) (s new : Acting C) (room slots : ℕ) (c d : Capacity) → IsStanding number s room slots c → IsConsistent number new → new.ties ≡ s.ties → length new.labels ≡ length s.labels → SameRoom (length (all_members s.lists)) (length (all_members new.lists)) c d → IsStanding number new room slots d
stands_on {C} number s new room slots c d w consistent ties few r =
    let n : length new.ties ≡ length s.ties = ap (λ (l : List (Member C)). length l) ties in
    stands number s new room slots c d w consistent (omega (arith, n, w.enough)) (omega (arith, few, w.few)) r

-- movers with labels are below the bound
second_below : (labels : Labels) (slots : ℕ) (o : Option ℕ) → length labels ≤ slots → ((slot : ℕ) → o ≡ Some slot → slot < length labels) → IfSome o (λ slot. slot < slots)
second_below labels slots None few h = tt
second_below labels slots (Some slot) few h = let lt : slot < length labels = h slot refl in omega (arith, lt, few)

pub are_below : (labels : Labels) (slots : ℕ) (m : Movers) → length labels ≤ slots → AreMovers labels m → AreBelow slots m
are_below labels slots m few h = record {
  first = let lt : m.first < length labels = some_short labels m.first h.first.0 h.first.1 in omega (arith, lt, few);
  second = second_below labels slots m.second few (λ slot e. let l = h.second slot e in some_short labels slot l.0 l.1);
}

-- no more constraints have a colour than there are
pub fewer_coloured : {C : Type 0} (number : C → ℕ) (s : Acting C) → IsConsistent number s → length (all_members s.lists) ≤ length s.ties
fewer_coloured {C} number s w =
    let no_one : Member C → Bool = λ m. false in
    let n : length (all_members s.lists) + length (filter no_one s.ties) ≤ length s.ties = counted number no_one s.ties (all_members s.lists) w.rising w.colouring.once (λ x h. (((w.acting x).0 h).0, refl)) in
    omega (arith, n)
