-- The step that adds a frame keeps the rule of the list.
use Rattle.std.proofs.Common.{◌≡◌, ℕ, ◌+◌, ◌<◌, ◌==◌, Bool, true, false, List, [], ◌∷◌, ◌++◌, length, refl, ap, sym, subst, arith, inl, length-append, None}
use Rattle.std.proofs.lemmas.List.{append-nil}
use Rattle.std.proofs.lemmas.Bool.Decides.{nat_tests}
use mathlib.Core.List.{IsPrefix}
use prog.Atomic.{either}
use Rattle.logbook.specs.Pages.{Cell, cell, keeps, no_nib, step, Moves, Goes}
use Rattle.world_core.specs.Frames.{View}
use Rattle.frame_mirror.specs.Lists.{AreInOrder}
use Rattle.frame_mirror.specs.Rules.{IsKept, Adds}
use Rattle.frame_mirror.proofs.Beginnings.{whole_beginning}

-- clients see nothing of the list, and trade nothing
abbrev pub nothing_shown : List View → List View
nothing_shown log = []

abbrev pub any_move : List View → List View → ℕ → Type 0
any_move xs ys n = Unit {0}

-- where the word is the length of what was seen, nothing was added since, and the frame comes next; else the list stays
adds_goes : (log seen : List View) (f : View) (old new : ℕ) → length seen ≡ old → old + 1 ≡ new → IsPrefix seen log → AreInOrder log → AreInOrder (seen ++ f ∷ [])
    → (b : Bool) → (length log == old) ≡ b
    → Goes IsKept nothing_shown any_move 0 (seen, (no_nib, None)) (λ n. either (n == old) new n) (Adds (step 0 old new f) (seen, (no_nib, None))) ((length log, true) ∷ (0, true) ∷ []) log
adds_goes log seen f old new long more begins before after true is =
    let here : length log ≡ old = grind (arith, nat_tests) in
    let same : seen ≡ log = whole_beginning seen log begins (omega arith) in
    let word : either (length log == old) new (length log) ≡ length (log ++ f ∷ []) = rw is (omega (arith, length-append log (f ∷ []))) in (
      keeps,
      f ∷ [],
      None,
      tt,
      record { words = ap (λ (n : ℕ). (n, true) ∷ (0, true) ∷ []) word; order = subst (λ (xs : List View). AreInOrder (xs ++ f ∷ [])) same after },
      inl (refl, refl),
      rw is (ap (λ xs. xs ++ f ∷ []) (sym same)),
    )
adds_goes log seen f old new long more begins before after false is =
    let all : log ++ [] ≡ log = append-nil log in
    let word : either (length log == old) new (length log) ≡ length (log ++ []) = rw is (ap length (sym all)) in (
      keeps,
      [],
      None,
      tt,
      record { words = ap (λ (n : ℕ). (n, true) ∷ (0, true) ∷ []) word; order = subst AreInOrder (sym all) before },
      inl (refl, refl),
      rw is tt,
    )

-- whatever the book is, the step adds the frame to all that was seen, or finds that the list is longer
pub adds_moves : (seen : List View) (f : View) (old new : ℕ) → length seen ≡ old → old + 1 ≡ new → AreInOrder (seen ++ f ∷ [])
    → Moves IsKept nothing_shown any_move 0 (seen, (no_nib, None)) (λ n. either (n == old) new n) (Adds (step 0 old new f) (seen, (no_nib, None)))
adds_moves seen f old new long more after cells log kept begins away =
    let P : List Cell → Type 0 = λ c. (0 < length c) × ((cell c 0).1 ≡ true) × Goes IsKept nothing_shown any_move 0 (seen, (no_nib, None)) (λ n. either (n == old) new n) (Adds (step 0 old new f) (seen, (no_nib, None))) c log in
    subst P (sym kept.words) (omega arith, refl, adds_goes log seen f old new long more begins kept.order after (length log == old) refl)
