-- Inner: the rule of a mailbox that a caller and one worker share.
use Rattle.std.specs.Prelude.{◌≡◌, ◌⊎◌, ℕ, Bool, true, false, List, [], ◌∷◌, Option, Some, None}
use mathlib.Core.Option.{some}
use lib.ListN.{get_elem?}
use Rattle.crew.specs.declared.rule.Hand.{Hand}

abbrev pub hand : {A : Type 0} → Bool → Option A → Hand A
hand leads ask = record { leads = leads; ask = ask }

abbrev pub is_asked : {A : Type 0} → Option A → Bool
is_asked None = false
is_asked (Some a) = true

module _ {T A : Type 0} (ask_of : T → A) where
  -- one pass leads, and knows what was asked; of the others one at most has it in work
  abbrev pub Fits : ℕ → Option A → ℕ → Bool → ℕ → Hand A → Type 0
  Fits seat ask holder held by v =
      (v.leads ≡ true → (by ≡ seat) × (v.ask ≡ ask))
      × (v.leads ≡ false → (v.ask ≡ None) ⊎ ((by ≡ holder) × (held ≡ true) × (v.ask ≡ ask)))

  -- the mailbox is empty, or it has one slip, which is of what was asked, and nobody has it in work
  abbrev pub Holds : Option A → Bool → List T → Type 0
  Holds ask held items = (items ≡ []) ⊎ ((m : T) × (items ≡ m ∷ []) × (Some (ask_of m) ≡ ask) × (held ≡ false))

  abbrev pub Kept : List T → List (Hand A) → Type 0
  Kept items views =
      (seat : ℕ) × (ask : Option A) × (holder : ℕ) × (held : Bool)
      × ((by : ℕ) (v : Hand A) → get_elem? views by ≡ some v → Fits seat ask holder held by v)
      × Holds ask held items
      × (ask ≡ None → held ≡ false)
