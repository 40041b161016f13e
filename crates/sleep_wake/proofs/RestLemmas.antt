-- Islands fall asleep one after the other, and none of them makes another more ready, or less.
use Rattle.std.proofs.Common.{◌≡◌, ◌≢◌, ℕ, ◌==◌, ◌&&◌, ◌||◌, Bool, true, false, not, cond, Option, Some, None, refl, sym, ap, ◌∙◌}
use Rattle.std.proofs.lemmas.Bool.{false≢true, eqb-true}
use Rattle.graph_colours.proofs.PlaceLemmas.{not_same}
use Rattle.islands.specs.declared.label.IslandState.{IslandState}
use Rattle.islands.specs.declared.label.IslandState.TheVariants.{Asleep}
use Rattle.islands.specs.declared.label.Label.{Label}
use Rattle.islands.specs.Labels.{label_at, is_in, is_loose, is_asleep, relabel}
use Rattle.islands.proofs.LabelLemmas.{in_of}
use Rattle.islands.proofs.SplitLemmas.{split_is}
use Rattle.sleep_wake.specs.Acting.{Acting, IsConsistent}
use Rattle.sleep_wake.specs.SleepPhase.{is_island, split_at, edges_in}
use Rattle.sleep_wake.specs.Sleeping.{split_if_loose}
use Rattle.sleep_wake.specs.Resting.{is_whole}
use Rattle.sleep_wake.proofs.EdgeLemmas.{edges_inside}

-- what an island's rest does to the label of a slot
abbrev pub asleep_in : ℕ → Option Label → Option Label
asleep_in name o = relabel name name (record { name = name; state = Asleep }) o

in_rested_by : (name n : ℕ) (l : Label) (t : Bool) → (l.name == name) ≡ t → is_in (cond (t || t) (Some (record { name = name; state = Asleep })) (Some l)) n ≡ is_in (Some l) n
in_rested_by name n l true e = ap (λ k. k == n) (sym (eqb-true l.name name e))
in_rested_by name n l false e = refl

pub in_rested : (name n : ℕ) (o : Option Label) → is_in (asleep_in name o) n ≡ is_in o n
in_rested name n None = refl
in_rested name n (Some l) = in_rested_by name n l (l.name == name) refl

island_rested_by : (name slot : ℕ) (l : Label) (t : Bool) → (l.name == name) ≡ t → slot ≢ name → is_island false slot (cond (t || t) (Some (record { name = name; state = Asleep })) (Some l)) ≡ is_island false slot (Some l)
island_rested_by name slot l true e far =
    let a : (name == slot) ≡ false = not_same name slot (λ k. far (sym k)) in
    let b : (l.name == slot) ≡ false = not_same l.name slot (λ k. far (sym k ∙ eqb-true l.name name e)) in
    rw (a, b) refl
island_rested_by name slot l false e far = refl

pub island_rested : (name slot : ℕ) (o : Option Label) → slot ≢ name → is_island false slot (asleep_in name o) ≡ is_island false slot o
island_rested name slot None far = refl
island_rested name slot (Some l) far = island_rested_by name slot l (l.name == name) refl far

both_are : (x y : Bool) → (x && y) ≡ true → x ≡ true
both_are true y h = refl
both_are false y h = absurd (false≢true h)

named_by : (slot : ℕ) (o : Option Label) → is_island false slot o ≡ true → is_in o slot ≡ true
named_by slot None h = absurd (false≢true h)
named_by slot (Some l) h = both_are (l.name == slot) (not (is_loose l.state) && not (is_asleep l.state)) h

-- ---- one mover falls asleep

whole_by : (state : IslandState) → is_loose state ≡ false → is_asleep state ≡ false → (not (is_loose state) && not (is_asleep state)) ≡ true
whole_by state a b = rw (a, b) refl

split_whole : {C : Type 0} (number : C → ℕ) (s : Acting C) (slot : ℕ) (l : Label) → IsConsistent number s → label_at s.labels slot ≡ Some l → is_whole (label_at (split_at l.name s).labels slot) ≡ true
unfolding split_at
split_whole number s slot l w e =
    let parts = split_is s.labels l.name (edges_in s.labels l.name s.ties) w.islands.partition (edges_inside s.labels l.name s.ties w.islands) in
    ap is_whole (parts.members slot (in_of (label_at s.labels slot) l l.name e refl)).label

whole_if : {C : Type 0} (number : C → ℕ) (s : Acting C) (slot : ℕ) (l : Label) (t : Bool) → is_loose l.state ≡ t → IsConsistent number s → label_at s.labels slot ≡ Some l → is_asleep l.state ≡ false → is_whole (label_at (cond t (split_at l.name s) s).labels slot) ≡ true
whole_if number s slot l true h w e a = split_whole number s slot l w e
whole_if number s slot l false h w e a = ap is_whole e ∙ whole_by l.state h a

-- the island of an awake mover is whole, once it was split if it was loose
pub whole_after : {C : Type 0} (number : C → ℕ) (s : Acting C) (slot : ℕ) (l : Label) → IsConsistent number s → label_at s.labels slot ≡ Some l → is_asleep l.state ≡ false → is_whole (label_at (split_if_loose l s).labels slot) ≡ true
whole_after number s slot l w e a = whole_if number s slot l (is_loose l.state) refl w e a
