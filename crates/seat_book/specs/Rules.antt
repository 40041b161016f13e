-- The rule of the table, and what each step on it does to a view.
use Rattle.std.specs.Prelude.{◌≡◌, ◌⊎◌, ℕ, ◌+◌, ◌<◌, List, [], ◌∷◌, ◌++◌, Some, None, IfSome, option_map, unwrap_or}
use mathlib.Core.Option as found
use lib.ListN.{get_elem?}
use Rattle.atomic_table.specs.Table.{State, Me, Step}
use Rattle.seat_book.specs.declared.call.Call.{Call}
use Rattle.seat_book.specs.declared.call.Entry.{Entry}
use Rattle.seat_book.specs.declared.rule.Desk.{Desk}
use Rattle.seat_book.specs.declared.rule.Known.{Known}
use Rattle.seat_book.specs.declared.rule.View.{View}
use Rattle.seat_book.specs.History.{IsPast, entry, known}

module _ {C R : Type 0} where
  -- ---- views

  -- what the keeper knows while no call is in flight
  abbrev pub idle : List (Entry C R) → ℕ → Desk C R
  idle history dealt = record { history = history; dealt = dealt; word = 0 }

  abbrev pub keeping : Desk C R → View C R
  keeping d = record { desk = Some d; pass = None }

  abbrev pub passing : Known C R → View C R
  passing p = record { desk = None; pass = Some p }

  -- the keeper that holds a pass
  abbrev pub holding : Desk C R → Known C R → View C R
  holding d p = record { desk = Some d; pass = Some p }

  -- what is left of a pass that the keeper took in
  abbrev pub spent : View C R
  spent = record { desk = None; pass = None }

  abbrev pub desk_of : View C R → Desk C R
  desk_of v = unwrap_or v.desk (idle [] 0)

  abbrev pub known_of : View C R → Known C R
  known_of v = unwrap_or v.pass (known 0 [])

  -- a badge has one view, or none
  abbrev pub known_by : List (View C R) → Known C R
  known_by [] = known 0 []
  known_by (v ∷ _) = known_of v

  abbrev pub IsKeeper : Me (Call C R) (View C R) → Type 0
  IsKeeper me = me ≡ (keeping (idle (desk_of me.0).history (desk_of me.0).dealt), [])

  abbrev pub IsHolder : Me (Call C R) (View C R) → Type 0
  IsHolder me = me ≡ (holding (idle (desk_of me.0).history (desk_of me.0).dealt) (known_of me.0), [])

  abbrev pub IsPass : List (View C R) → Type 0
  IsPass views = views ≡ passing (known_by views) ∷ []

  -- ---- the rule

  -- a view under the rule: the keeper is this one and knows this, and of each seat only the holder has a pass, which
  -- has seen a past of the seat
  abbrev pub Fits : ℕ → (ℕ → ℕ) → Desk C R → ℕ → View C R → Type 0
  Fits keeper holder d by v = IfSome v.desk (λ k. (by ≡ keeper) × (k ≡ d)) × IfSome v.pass (λ p. (by ≡ holder p.seat) × (p.seat < d.dealt) × IsPast p.seat p.seen d.history)

  abbrev pub AllFit : ℕ → (ℕ → ℕ) → Desk C R → List (View C R) → Type 0
  AllFit keeper holder d views = (by : ℕ) (v : View C R) → get_elem? views by ≡ found.some v → Fits keeper holder d by v

  -- the word is 0, or names the seat of the call in flight, which is the last
  abbrev pub IsInFlight : ℕ → List (Entry C R) → Type 0
  IsInFlight word history = (word ≡ 0) ⊎ ((before : List (Entry C R)) × (e : Entry C R) × (history ≡ before ++ e ∷ []) × (word ≡ e.seat + 1))

  abbrev pub KeptBy : ℕ → Desk C R → State (Call C R) (View C R) → Type 0
  KeptBy keeper d s = (holder : ℕ → ℕ) × (s.words ≡ d.word ∷ []) × IsInFlight d.word d.history × AllFit keeper holder d s.views

  abbrev pub Kept : State (Call C R) (View C R) → Type 0
  Kept s = (keeper : ℕ) × (d : Desk C R) × KeptBy keeper d s

  -- ---- the steps

  -- the keeper has made one pass more
  abbrev pub one_more : Desk C R → Desk C R
  one_more d = record { history = d.history; dealt = d.dealt + 1; word = d.word }

  abbrev pub dealing : View C R → View C R
  dealing v = record { desk = option_map one_more v.desk; pass = v.pass }

  -- the pass of the next seat, which has seen nothing
  abbrev pub next_pass : Desk C R → Known C R
  next_pass d = known d.dealt []

  abbrev pub newcomer : View C R → View C R
  newcomer v = record { desk = None; pass = option_map next_pass v.desk }

  abbrev pub both : View C R → View C R → View C R
  both k p = record { desk = k.desk; pass = p.pass }

  abbrev pub keeper_of : View C R → View C R
  keeper_of v = record { desk = v.desk; pass = None }

  abbrev pub pass_of : View C R → View C R
  pass_of v = record { desk = None; pass = v.pass }

  abbrev pub with_said : found.Option (Call C R) → ℕ → List (Entry C R) → List (Entry C R)
  with_said (found.some c) seat history = history ++ entry seat c ∷ []
  with_said found.none seat history = history

  -- the call that is said is in flight, and the pass has seen it
  abbrev pub Entered : Step (Call C R) → Me (Call C R) (View C R) → ℕ → Me (Call C R) (View C R) → Type 0
  Entered st m r m' =
      let d = desk_of m.0 in
      let p = known_of m.0 in
      let now = with_said st.said p.seat d.history in
      IsPast p.seat p.seen d.history × (m'.0 ≡ holding (record { history = now; dealt = d.dealt; word = p.seat + 1 }) (known p.seat now)) × (m'.1 ≡ m.1)

  -- no call is in flight
  abbrev pub Cleared : Step (Call C R) → Me (Call C R) (View C R) → ℕ → Me (Call C R) (View C R) → Type 0
  Cleared st m r m' = let d = desk_of m.0 in (m'.0 ≡ holding (idle d.history d.dealt) (known_of m.0)) × (m'.1 ≡ m.1)

  -- the pass has seen the history
  abbrev pub Met : Step (Call C R) → Me (Call C R) (View C R) → ℕ → Me (Call C R) (View C R) → Type 0
  Met st m r m' =
      let d = desk_of m.0 in
      let p = known_of m.0 in
      IsPast p.seat p.seen d.history × (m'.0 ≡ holding d (known p.seat d.history)) × (m'.1 ≡ m.1)
