-- Each step keeps the rule of the mailbox.
use Rattle.std.proofs.Common.{◌≡◌, ◌≢◌, ℕ, Bool, zero, suc, true, false, true≢false, List, [], ◌∷◌, ◌++◌, length, set, Option, Some, None, sym, refl, ap, ◌∙◌, subst, ⊎_elim, inl, inr}
use mathlib.Core.Option.{some, some-ne-none}
use lib.ListN.{get_elem?}
use Rattle.crossbeam_queue.specs.Fifo.{Pushes, Pops, Forks}
use Rattle.crossbeam_queue.proofs.Lists.{at_set, at_snoc}
use Rattle.crew.specs.declared.rule.Hand.{Hand}
use Rattle.crew.specs.Mailbox.{hand, is_asked, Fits, Kept}

tag : {A : Type 0} → Option A → Bool
tag None = false
tag (Some x) = true

some_none : {A B : Type 0} (x : A) → Some x ≡ None → B
unfolding tag
some_none x e = absurd (true≢false (ap tag e))

at_end : {V : Type 0} (l : List V) (a b : V) (j : ℕ) → get_elem? l j ≢ some b → get_elem? (l ++ a ∷ []) j ≡ some b → j ≡ length l
at_end [] a b zero n e = refl
at_end [] a b (suc j) n e = absurd (some-ne-none b (sym e))
at_end (x ∷ xs) a b zero n e = absurd (n e)
at_end (x ∷ xs) a b (suc j) n e = ap suc (at_end xs a b j n e)

head_or : {A : Type 0} → A → List A → A
head_or d [] = d
head_or d (x ∷ xs) = x

tail_of : {A : Type 0} → List A → List A
tail_of [] = []
tail_of (x ∷ xs) = xs

is_cons : {A : Type 0} → List A → Bool
is_cons [] = false
is_cons (x ∷ xs) = true

cons_nil : {A : Type 0} (x : A) (xs : List A) → x ∷ xs ≢ []
unfolding is_cons
cons_nil x xs e = true≢false (ap is_cons e)

heads : {A : Type 0} (x y : A) (xs ys : List A) → x ∷ xs ≡ y ∷ ys → x ≡ y
unfolding head_or
heads x y xs ys e = ap (head_or x) e

tails : {A : Type 0} (x y : A) (xs ys : List A) → x ∷ xs ≡ y ∷ ys → xs ≡ ys
unfolding tail_of
tails x y xs ys e = ap tail_of e

abbrev Each : {V : Type 0} → (ℕ → V → Type 0) → List V → Type 0
Each {V} F views = (by : ℕ) (v : V) → get_elem? views by ≡ some v → F by v

each_set : {V : Type 0} (F : ℕ → V → Type 0) (views : List V) (by : ℕ) (w : V) → F by w → ((j : ℕ) (u : V) → j ≢ by → get_elem? views j ≡ some u → F j u) → Each F (set views by w)
each_set {V} F views by w mine others j u e = ⊎_elim (λ (x : (j ≡ by) × (w ≡ u)). subst (λ (y : ℕ × V). F y.0 y.1) (λ i. (sym x.0 i, x.1 i)) mine)
    (λ (x : (j ≢ by) × (get_elem? views j ≡ some u)). others j u x.0 x.1) (at_set views by j w u e)

none_of : {A : Type 0} (a : Option A) → is_asked a ≡ false → a ≡ None
none_of None e = refl
none_of (Some x) e = absurd (true≢false e)

some_of : {A : Type 0} (a : Option A) → is_asked a ≡ true → (x : A) × (a ≡ Some x)
some_of None e = absurd (true≢false (sym e))
some_of (Some x) e = (x, refl)

module _ {T A : Type 0} (ask_of : T → A) where
  -- nobody but the leader knows of anything while nothing is in work
  still : (seat : ℕ) (ask ask' : Option A) (holder holder' : ℕ) (held' : Bool) (j : ℕ) (u : Hand A) → j ≢ seat
      → Fits ask_of seat ask holder false j u → Fits ask_of seat ask' holder' held' j u
  still seat ask ask' holder holder' held' j u apart f =
      ((λ p. absurd (apart (f.0 p).0)), λ p. inl (⊎_elim (λ n. n) (λ x. absurd (true≢false (sym x.1))) (f.1 p)))

  pub begins : Kept ask_of [] (hand true None ∷ [])
  begins = (
    0,
    None,
    0,
    false,
    each_set (Fits ask_of 0 None 0 false) (hand true None ∷ []) 0 (hand true None) ((λ _. (refl, refl)), λ p. absurd (true≢false p)) (λ j u other e. absurd (other (at_end [] _ u j (λ x. some-ne-none u (sym x)) e))),
    inl refl,
    λ _. refl,
  )

  -- the leader asks
  pub asks : (n by : ℕ) (m : T) → Pushes (Kept ask_of) n by (hand true None) m (λ w. w ≡ hand true (Some (ask_of m)))
  asks n by m items views _ h at =
      let w : Hand A = hand true (Some (ask_of m)) in
      let mine = (h.4 by (hand true None) at).0 refl in
      let free : h.3 ≡ false = h.6 (sym mine.1) in
      let none : items ≡ [] = ⊎_elim (λ e. e) (λ x. some_none (ask_of x.0) (x.2 ∙ sym mine.1)) h.5 in (
        w,
        (
          h.0,
          Some (ask_of m),
          h.2,
          false,
          each_set (Fits ask_of h.0 (Some (ask_of m)) h.2 false) views by w ((λ _. (mine.0, refl)), λ p. absurd (true≢false p))
              (λ j u other e. still h.0 h.1 (Some (ask_of m)) h.2 h.2 false j u (λ is. other (is ∙ sym mine.0)) (subst (λ b. Fits ask_of h.0 h.1 h.2 b j u) free (h.4 j u e))),
          inr (m, ap (λ l. l ++ m ∷ []) none, refl, refl),
          λ _. refl,
        ),
        refl,
      )

  -- a worker takes what was asked
  pub takes : (by : ℕ) → Pops (Kept ask_of) by (hand false None) (λ x w. w ≡ hand false (Some (ask_of x)))
  takes by x items views h at =
      let w : Hand A = hand false (Some (ask_of x)) in
      let one : (Some (ask_of x) ≡ h.1) × (items ≡ []) × (h.3 ≡ false) = ⊎_elim (λ e. absurd (cons_nil x items e)) (λ y. (ap (λ z. Some (ask_of z)) (heads x y.0 items [] y.1) ∙ y.2, tails x y.0 items [] y.1, y.3)) h.5 in
      let apart : (j : ℕ) (u : Hand A) → j ≢ by → get_elem? views j ≡ some u → Fits ask_of h.0 h.1 by true j u = λ j u other e.
      let f : Fits ask_of h.0 h.1 h.2 false j u = subst (λ b. Fits ask_of h.0 h.1 h.2 b j u) one.2 (h.4 j u e) in
      (f.0, λ p. inl (⊎_elim (λ n. n) (λ y. absurd (true≢false (sym y.1))) (f.1 p))) in (
        w,
        (
          h.0,
          h.1,
          by,
          true,
          each_set (Fits ask_of h.0 h.1 by true) views by w ((λ p. absurd (true≢false (sym p))), λ _. inr (refl, refl, one.0)) apart,
          inl one.1,
          λ n. some_none (ask_of x) (one.0 ∙ n),
        ),
        refl,
      )

  -- a worker gives back what it took
  pub gives : (n by : ℕ) (m : T) → Pushes (Kept ask_of) n by (hand false (Some (ask_of m))) m (λ w. w ≡ hand false None)
  gives n by m items views _ h at =
      let w : Hand A = hand false None in
      let mine : (by ≡ h.2) × (h.3 ≡ true) × (Some (ask_of m) ≡ h.1) = ⊎_elim (λ e. some_none (ask_of m) e) (λ y. y) ((h.4 by (hand false (Some (ask_of m))) at).1 refl) in
      let none : items ≡ [] = ⊎_elim (λ e. e) (λ y. absurd (true≢false (sym mine.1 ∙ y.3))) h.5 in
      let apart : (j : ℕ) (u : Hand A) → j ≢ by → get_elem? views j ≡ some u → Fits ask_of h.0 h.1 h.2 false j u = λ j u other e.
      let f = h.4 j u e in
      (f.0, λ p. inl (⊎_elim (λ n. n) (λ y. absurd (other (y.0 ∙ sym mine.0))) (f.1 p))) in (
        w,
        (
          h.0,
          h.1,
          h.2,
          false,
          each_set (Fits ask_of h.0 h.1 h.2 false) views by w ((λ p. absurd (true≢false (sym p))), λ _. inl refl) apart,
          inr (m, ap (λ l. l ++ m ∷ []) none, mine.2, refl),
          λ _. refl,
        ),
        refl,
      )

  -- the leader takes the answer: it is of what was asked
  pub gets : (by : ℕ) (a : A) → Pops (Kept ask_of) by (hand true (Some a)) (λ x w. (w ≡ hand true None) × (Some a ≡ Some (ask_of x)))
  gets by a x items views h at =
      let w : Hand A = hand true None in
      let mine = (h.4 by (hand true (Some a)) at).0 refl in
      let one : (Some (ask_of x) ≡ h.1) × (items ≡ []) × (h.3 ≡ false) = ⊎_elim (λ e. absurd (cons_nil x items e)) (λ y. (ap (λ z. Some (ask_of z)) (heads x y.0 items [] y.1) ∙ y.2, tails x y.0 items [] y.1, y.3)) h.5 in (
        w,
        (
          h.0,
          None,
          h.2,
          false,
          each_set (Fits ask_of h.0 None h.2 false) views by w ((λ _. (mine.0, refl)), λ p. absurd (true≢false p))
              (λ j u other e. still h.0 h.1 None h.2 h.2 false j u (λ is. other (is ∙ sym mine.0)) (subst (λ b. Fits ask_of h.0 h.1 h.2 b j u) one.2 (h.4 j u e))),
          inl one.1,
          λ _. refl,
        ),
        (refl, mine.1 ∙ sym one.0),
      )

  -- the leader makes a worker's pass
  pub hires : (by : ℕ) → Forks (Kept ask_of) by (hand true None) (hand true None) (hand false None)
  hires by items views h at =
      let l : Hand A = hand true None in
      let r : Hand A = hand false None in
      let vs : List (Hand A) = set views by l in
      let old : Each (Fits ask_of h.0 h.1 h.2 h.3) vs = each_set (Fits ask_of h.0 h.1 h.2 h.3) views by l (h.4 by l at) (λ j u other e. h.4 j u e) in (
        h.0,
        h.1,
        h.2,
        h.3,
        (λ j u e. ⊎_elim (λ x. old j u x)
            (λ (is : r ≡ u). ((λ p. absurd (true≢false (sym (ap (λ (y : Hand A). y.leads) is ∙ p)))), λ p. inl (ap (λ (y : Hand A). y.ask) (sym is)))) (at_snoc vs r u j e)),
        h.5,
        h.6,
      )

  -- the same at a view that is known by an equation
  pub asks_at : (n by : ℕ) (v : Hand A) (m : T) → v ≡ hand true None → Pushes (Kept ask_of) n by v m (λ w. w ≡ hand v.leads (Some (ask_of m)))
  asks_at n by v m e = subst (λ (u : Hand A). Pushes (Kept ask_of) n by u m (λ w. w ≡ hand u.leads (Some (ask_of m)))) (sym e) (asks n by m)

  pub takes_at : (by : ℕ) (v : Hand A) → v ≡ hand false None → Pops (Kept ask_of) by v (λ x w. w ≡ hand v.leads (Some (ask_of x)))
  takes_at by v e = subst (λ (u : Hand A). Pops (Kept ask_of) by u (λ x w. w ≡ hand u.leads (Some (ask_of x)))) (sym e) (takes by)

  pub gives_at : (n by : ℕ) (v : Hand A) (m : T) → v ≡ hand false (Some (ask_of m)) → Pushes (Kept ask_of) n by v m (λ w. (w ≡ hand v.leads None) × (v.ask ≡ Some (ask_of m)))
  gives_at n by v m e = subst (λ (u : Hand A). Pushes (Kept ask_of) n by u m (λ w. (w ≡ hand u.leads None) × (u.ask ≡ Some (ask_of m)))) (sym e)
      (λ items views room h at. let r = gives n by m items views room h at in (r.0, r.1, (r.2, refl)))

  pub gets_at : (by : ℕ) (v : Hand A) (a : A) → v ≡ hand true (Some a) → Pops (Kept ask_of) by v (λ x w. (w ≡ hand v.leads None) × (v.ask ≡ Some (ask_of x)))
  gets_at by v a e = subst (λ (u : Hand A). Pops (Kept ask_of) by u (λ x w. (w ≡ hand u.leads None) × (u.ask ≡ Some (ask_of x)))) (sym e) (gets by a)

  pub hires_at : (by : ℕ) (v : Hand A) → v ≡ hand true None → Forks (Kept ask_of) by v (hand true None) (hand false None)
  hires_at by v e = subst (λ (u : Hand A). Forks (Kept ask_of) by u (hand true None) (hand false None)) (sym e) (hires by)

-- a leader's view, by whether something is asked
pub idle_view : {A : Type 0} (v : Hand A) → v.leads ≡ true → is_asked v.ask ≡ false → v ≡ hand true None
idle_view {A} v leads is = let e : v.ask ≡ None = none_of v.ask is in λ i. hand (leads i) (e i)

pub busy_view : {A : Type 0} (v : Hand A) → v.leads ≡ true → is_asked v.ask ≡ true → (a : A) × (v ≡ hand true (Some a))
busy_view {A} v leads is = let e = some_of v.ask is in (e.0, λ i. hand (leads i) (e.1 i))
