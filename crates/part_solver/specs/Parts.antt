-- The parts of a step: what a part is given, what it gives back, and the step that is solved by all.
use Rattle.std.specs.Prelude.{◌≡◌, ◌≢◌, ◌≤◌, ◌<◌, ◌+◌, ℕ, suc, List, [], ◌∷◌, length, slice_index_or}
use Rattle.momenta.specs.declared.state.BodyState.{BodyState}
use Rattle.colour_solver.specs.ColourRows.{all_rows}
use Rattle.colour_solver.specs.Ticks.{Run, ran, start}
use Rattle.part_runs.specs.Hidden.{ArePartsBelow, part_at}
use Rattle.part_runs.specs.Laws.{AreHomes, CanRun}
use Rattle.part_runs.specs.Runs.{Step, part_ran}
use Rattle.part_solver.specs.Mail.{IsPosted, Posts}
use Rattle.part_solver.specs.declared.mail.Item.{Item}

-- the step of a part, and its number
pub record Place : Type 0 where
  pub step : Step
  pub number : ℕ

-- the number of a part, and its run
pub record Solved : Type 0 where
  pub number : ℕ
  pub run : Run

-- what a part makes of its step
abbrev pub solved : Place → Solved
solved p = record { number = p.number; run = part_ran p.step p.number }

-- the run of the part k
abbrev pub run_at : List Solved → ℕ → Run
run_at parts k = (slice_index_or parts k (record { number = 0; run = start [] [] })).run

-- k is one of n parts of the step t, in which each slot has its home
pub record IsPartOf (t : Step) (n k : ℕ) : Type 0 where
  pub number : k < n
  pub few : n ≤ 8
  pub homes : AreHomes n t

-- the rings of the part u to each of the first n parts begin with the step t
pub record AreOuts (t : Step) (u n : ℕ) (outs : List (List Item)) : Type 0 where
  pub count : length outs ≡ n
  pub each : (v : ℕ) → v < n → IsPosted t u v [] (slice_index_or outs v [])

-- those from each of them to the part v
pub record AreIns (t : Step) (v n : ℕ) (ins : List (List Item)) : Type 0 where
  pub count : length ins ≡ n
  pub each : (u : ℕ) → u < n → IsPosted t u v [] (slice_index_or ins u [])

-- all rings of the part k
pub record AreRings (t : Step) (n k : ℕ) (p : Posts) : Type 0 where
  pub outs : AreOuts t k n p.outs
  pub ins : AreIns t k n p.ins

abbrev pub no_posts : Posts
no_posts = record { outs = []; ins = [] }

abbrev pub posts_at : List Posts → ℕ → Posts
posts_at ps k = slice_index_or ps k no_posts

-- each of n parts has all its rings
pub record AreAllRings (t : Step) (n : ℕ) (ps : List Posts) : Type 0 where
  pub count : length ps ≡ n
  pub each : (k : ℕ) → k < n → AreRings t n k (posts_at ps k)

-- from the part u to the part v there is one ring more
pub record IsJoined (t : Step) (u v : ℕ) (old new : List Posts) : Type 0 where
  pub out : AreOuts t u v (posts_at old u).outs → AreOuts t u (v + 1) (posts_at new u).outs
  pub into : AreIns t v u (posts_at old v).ins → AreIns t v (u + 1) (posts_at new v).ins
  pub outs : (k : ℕ) → k ≢ u → (posts_at new k).outs ≡ (posts_at old k).outs
  pub ins : (k : ℕ) → k ≢ v → (posts_at new k).ins ≡ (posts_at old k).ins

-- all rings from the parts before u are made, and from the part u those to the parts before v
pub record IsMade (t : Step) (u v n k : ℕ) (p : Posts) : Type 0 where
  pub outs_before : k < u → AreOuts t k n p.outs
  pub outs_here : k ≡ u → AreOuts t k v p.outs
  pub outs_behind : u < k → AreOuts t k 0 p.outs
  pub ins_before : k < v → AreIns t k (u + 1) p.ins
  pub ins_behind : v ≤ k → AreIns t k u p.ins

abbrev pub AreMade : Step → ℕ → ℕ → List Posts → Type 0
AreMade t u v ps = (k : ℕ) → k < length ps → IsMade t u v (length ps) k (posts_at ps k)

-- a seat of the step t, with the number n, and seats from that number on
pub record IsSeated (t : Step) (n : ℕ) (p : Place) : Type 0 where
  pub step : p.step ≡ t
  pub number : p.number ≡ n

abbrev pub AreSeated : Step → ℕ → List Place → Type 0
AreSeated t n [] = Unit {0}
AreSeated t n (p ∷ places) = IsSeated t n p × AreSeated t (suc n) places

abbrev pub IsHomeBelow : ℕ → ℕ → Type 0
IsHomeBelow n part = part < n

-- the slots are dealt out to n parts
pub record AreDealt (home : List ℕ) (n : ℕ) (states : List BodyState) : Type 0 where
  pub few : n ≤ 8
  pub long : length home ≡ length states
  pub below : ArePartsBelow (part_at home) n

-- the run of the step t
abbrev pub run_of_all : Step → Run
run_of_all t = ran t.count t.gravity (start t.states (all_rows t.rows))

-- the step t had these bodies and homes, and each of these parts has run its part of it
pub record IsRunBy (t : Step) (states : List BodyState) (home : List ℕ) (parts : List Solved) : Type 0 where
  pub states_are : t.states ≡ states
  pub home_is : t.home ≡ home
  pub can : CanRun t.states t.rows
  pub homes : AreHomes (length parts) t
  pub runs : (k : ℕ) → k < length parts → run_at parts k ≡ part_ran t k
