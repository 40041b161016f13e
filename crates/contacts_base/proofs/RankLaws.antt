-- Which of those that count a contact of a list is: where it stands among them.
use Rattle.std.proofs.Common.{◌≡◌, ℕ, zero, suc, ◌+◌, ◌<◌, ◌≤◌, Bool, true, false, true≢false, cond, List, [], ◌∷◌, length, get_or, drop, add-one, arith, refl, sym, ap, ◌∙◌}
use Rattle.contacts_base.specs.declared.contact.ContactEntry.{ContactEntry}
use Rattle.contacts_base.specs.Split.{counting, is_over}

-- how many of those before a place count
abbrev pub rank : ℕ → List Bool → List ContactEntry → ℕ
rank zero over es = 0
rank (suc i) over [] = 0
rank (suc i) [] (e ∷ es) = suc (rank i [] es)
rank (suc i) (o ∷ over) (e ∷ es) = cond o (rank i over es) (suc (rank i over es))

nothing_dropped : (over : List Bool) (i : ℕ) → counting over (drop i []) ≡ []
nothing_dropped over zero = refl
nothing_dropped over (suc i) = refl

none_before : (i : ℕ) (over : List Bool) → rank i over [] ≡ 0
none_before zero over = refl
none_before (suc i) over = refl

-- those from a place on
pub rank_drop : (i : ℕ) (over : List Bool) (es : List ContactEntry) → length over ≡ length es → drop (rank i over es) (counting over es) ≡ counting (drop i over) (drop i es)
rank_drop zero over es flags = refl
rank_drop (suc i) over [] flags = sym (nothing_dropped (drop (suc i) over) (suc i))
rank_drop (suc i) [] (e ∷ es) flags = absurd (omega (arith, flags))
rank_drop (suc i) (o ∷ over) (e ∷ es) flags = by_flag o e (counting over es) (rank i over es) ∙ rank_drop i over es (omega (arith, flags))
  where
    by_flag : (o : Bool) (e : ContactEntry) (es : List ContactEntry) (n : ℕ) → drop (cond o n (suc n)) (cond o es (e ∷ es)) ≡ drop n es
    by_flag true e es n = refl
    by_flag false e es n = refl

-- one that is over
rank_stays : (i : ℕ) (over : List Bool) (es : List ContactEntry) → length over ≡ length es → is_over over i ≡ true → rank (suc i) over es ≡ rank i over es
rank_stays i over [] flags on = sym (none_before i over)
rank_stays i [] (e ∷ es) flags on = absurd (omega (arith, flags))
rank_stays zero (o ∷ over) (e ∷ es) flags on = ap (λ (t : Bool). cond t 0 1) on
rank_stays (suc i) (o ∷ over) (e ∷ es) flags on = ap (λ (n : ℕ). cond o n (suc n)) (rank_stays i over es (omega (arith, flags)) on)

pub rank_passes : (i : ℕ) (over : List Bool) (es : List ContactEntry) → length over ≡ length es → is_over over i ≡ true → rank (i + 1) over es ≡ rank i over es
rank_passes i over es flags on = rw add-one (rank_stays i over es flags on)

-- one that counts
rank_grows : (i : ℕ) (over : List Bool) (es : List ContactEntry) → length over ≡ length es → i < length es → is_over over i ≡ false → rank (suc i) over es ≡ suc (rank i over es)
rank_grows i over [] flags lt off = absurd (omega (arith, lt))
rank_grows i [] (e ∷ es) flags lt off = absurd (omega (arith, flags))
rank_grows zero (o ∷ over) (e ∷ es) flags lt off = ap (λ (t : Bool). cond t 0 1) off
rank_grows (suc i) (o ∷ over) (e ∷ es) flags lt off = ap (λ (n : ℕ). cond o n (suc n)) (rank_grows i over es (omega (arith, flags)) (omega (arith, lt)) off) ∙ by_flag o (rank i over es)
  where
    by_flag : (o : Bool) (n : ℕ) → cond o (suc n) (suc (suc n)) ≡ suc (cond o n (suc n))
    by_flag true n = refl
    by_flag false n = refl

pub rank_next : (i : ℕ) (over : List Bool) (es : List ContactEntry) → length over ≡ length es → i < length es → is_over over i ≡ false → rank (i + 1) over es ≡ rank i over es + 1
rank_next i over es flags lt off = let more : rank (suc i) over es ≡ suc (rank i over es) = rank_grows i over es flags lt off in rw add-one (omega (arith, more))

pub rank_within : (i : ℕ) (over : List Bool) (es : List ContactEntry) → length over ≡ length es → i < length es → is_over over i ≡ false → rank i over es < length (counting over es)
rank_within i over [] flags lt off = absurd (omega (arith, lt))
rank_within i [] (e ∷ es) flags lt off = absurd (omega (arith, flags))
rank_within zero (o ∷ over) (e ∷ es) flags lt off = by_flag o e (counting over es) off
  where
    by_flag : (o : Bool) (e : ContactEntry) (es : List ContactEntry) → o ≡ false → 0 < length (cond o es (e ∷ es))
    by_flag true e es off = absurd (true≢false off)
    by_flag false e es off = omega arith
rank_within (suc i) (o ∷ over) (e ∷ es) flags lt off = by_flag o e (counting over es) (rank i over es) (rank_within i over es (omega (arith, flags)) (omega (arith, lt)) off)
  where
    by_flag : (o : Bool) (e : ContactEntry) (es : List ContactEntry) (n : ℕ) → n < length es → cond o n (suc n) < length (cond o es (e ∷ es))
    by_flag true e es n lt = lt
    by_flag false e es n lt = omega (arith, lt)

pub rank_at : (i : ℕ) (over : List Bool) (es : List ContactEntry) (d : ContactEntry) → length over ≡ length es → i < length es → is_over over i ≡ false → get_or (counting over es) (rank i over es) d ≡ get_or es i d
rank_at i over [] d flags lt off = absurd (omega (arith, lt))
rank_at i [] (e ∷ es) d flags lt off = absurd (omega (arith, flags))
rank_at zero (o ∷ over) (e ∷ es) d flags lt off = ap (λ (t : Bool). get_or (cond t (counting over es) (e ∷ counting over es)) 0 d) off
rank_at (suc i) (o ∷ over) (e ∷ es) d flags lt off = by_flag o e (counting over es) (rank i over es) d ∙ rank_at i over es d (omega (arith, flags)) (omega (arith, lt)) off
  where
    by_flag : (o : Bool) (e : ContactEntry) (es : List ContactEntry) (n : ℕ) (d : ContactEntry) → get_or (cond o es (e ∷ es)) (cond o n (suc n)) d ≡ get_or es n d
    by_flag true e es n d = refl
    by_flag false e es n d = refl

-- behind the last
pub rank_end : (i : ℕ) (over : List Bool) (es : List ContactEntry) → length over ≡ length es → length es ≤ i → length (counting over es) ≡ rank i over es
rank_end i over [] flags past = sym (none_before i over)
rank_end i [] (e ∷ es) flags past = absurd (omega (arith, flags))
rank_end zero (o ∷ over) (e ∷ es) flags past = absurd (omega (arith, past))
rank_end (suc i) (o ∷ over) (e ∷ es) flags past = by_flag o e (counting over es) ∙ ap (λ (n : ℕ). cond o n (suc n)) (rank_end i over es (omega (arith, flags)) (omega (arith, past)))
  where
    by_flag : (o : Bool) (e : ContactEntry) (es : List ContactEntry) → length (cond o es (e ∷ es)) ≡ cond o (length es) (suc (length es))
    by_flag true e es = refl
    by_flag false e es = refl
