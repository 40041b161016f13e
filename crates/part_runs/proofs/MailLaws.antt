-- What a part sends to another one: after each letter so far the next one follows.
use Rattle.std.proofs.Common.{◌≡◌, ℕ, zero, suc, ◌+◌, ◌<◌, List, [], ◌∷◌, ◌++◌, length, take, drop, arith, refl, sym, ap, ◌∙◌, subst, inl, inr}
use Rattle.std.specs.List.{slice_get}
use Rattle.std.proofs.lemmas.Bool.{cases_eq}
use Rattle.std.proofs.lemmas.List.{append-nil, append_assoc, drop_at}
use Rattle.fixed_geom.specs.declared.vectors.Vec2.{Vec2}
use Rattle.momenta.specs.declared.state.BodyState.{BodyState}
use Rattle.momenta.specs.declared.state.Ends.{Ends}
use Rattle.colour_solver_base.specs.RowsAfter.{RowAfter}
use Rattle.colour_solver.specs.declared.constraint_row.ConstraintRow.{ConstraintRow}
use Rattle.colour_solver.specs.ConstraintVisits.{constraint_bounced, constraint_slots, constraint_solved, constraint_warmed}
use Rattle.colour_solver.specs.RowVisits.{passed}
use Rattle.part_runs.specs.Walks.{Walk}
use Rattle.part_runs.specs.Handing.{letter}
use Rattle.part_runs.specs.Passes.{letters}
use Rattle.part_runs.specs.Runs.{Stand, Step, begun, mail, pass_mail, stand_of, tick_mail, ticks_mail, ticks_stand, walks_of, warm_stand}
use Rattle.part_runs.specs.Stages.{sent_in}
use Rattle.part_runs.specs.Laws.{AreFirst, LettersFollow, MailIsSent}

-- ---- what stands first

first_by : (sent rest whole : List BodyState) → whole ≡ sent ++ rest → AreFirst sent whole
first_by sent rest whole e = e ∙ ap (λ (l : List BodyState). sent ++ l) (sym (ap (drop (length sent)) e ∙ drop_at sent rest (length sent) refl))

first_itself : (sent : List BodyState) → AreFirst sent sent
first_itself sent = first_by sent [] sent (sym (append-nil sent))

first_more : (sent rest : List BodyState) → AreFirst sent (sent ++ rest)
first_more sent rest = first_by sent rest (sent ++ rest) refl

first_on : (a b c : List BodyState) → AreFirst a b → AreFirst b c → AreFirst a c
first_on a b c h k =
    let more : List BodyState = drop (length a) b in
    let rest : List BodyState = drop (length b) c in
    first_by a (more ++ rest) c (k ∙ ap (λ (l : List BodyState). l ++ rest) h ∙ append_assoc a more rest)

first_behind : (x a b : List BodyState) → AreFirst a b → AreFirst (x ++ a) (x ++ b)
first_behind x a b h = first_by (x ++ a) (drop (length a) b) (x ++ b) (ap (λ (l : List BodyState). x ++ l) h ∙ sym (append_assoc x a (drop (length a) b)))

-- ---- a pass

letters_first : (u v : ℕ) (f : ConstraintRow → Ends → RowAfter ConstraintRow) (i : ℕ) (walks : List Walk) (ss : List BodyState) (rows : List (List ConstraintRow)) → AreFirst (letters u v f (take i walks) ss rows) (letters u v f walks ss rows)
letters_first u v f zero walks ss rows = first_by [] (letters u v f walks ss rows) (letters u v f walks ss rows) refl
letters_first u v f (suc i) [] ss rows = first_itself []
letters_first u v f (suc i) (w ∷ walks) ss [] = first_itself (letter u v w ss)
letters_first u v f (suc i) (w ∷ walks) ss (rs ∷ rows) =
    let now : List BodyState = passed constraint_slots f ss rs in
    first_behind (letter u v w ss) (letters u v f (take i walks) now rows) (letters u v f walks now rows) (letters_first u v f i walks now rows)

pass_first : (t : Step) (u v : ℕ) (f : ConstraintRow → Ends → RowAfter ConstraintRow) (s : Stand) (i : ℕ) → AreFirst (sent_in u v t f s i) (pass_mail u v (walks_of t) f s)
pass_first t u v f s i = letters_first u v f i (walks_of t) s.states s.rows

-- ---- a step

same_first : (u v : ℕ) (walks : List Walk) (g : Vec2) (s : Stand) (i n : ℕ) → i ≡ n → AreFirst (ticks_mail u v walks (suc i) g s) (ticks_mail u v walks (suc n) g s)
same_first u v walks g s i n e = subst (λ (m : ℕ). AreFirst (ticks_mail u v walks (suc i) g s) (ticks_mail u v walks (suc m) g s)) e (first_itself (ticks_mail u v walks (suc i) g s))

ticks_first : (u v : ℕ) (walks : List Walk) (g : Vec2) (s : Stand) (i n : ℕ) → i < n → AreFirst (ticks_mail u v walks (suc i) g s) (ticks_mail u v walks n g s)
ticks_first u v walks g s i zero lt = absurd (omega (arith, lt))
ticks_first u v walks g s i (suc n) lt = elim (cases_eq i n) [
  | inl same ↦ same_first u v walks g s i n same
  | inr differ ↦
      first_on (ticks_mail u v walks (suc i) g s) (ticks_mail u v walks n g s) (ticks_mail u v walks (suc n) g s) (ticks_first u v walks g s i n (omega (arith, lt, differ))) (first_more (ticks_mail u v walks n g s) (tick_mail u v walks g (ticks_stand n g s)))
]

module _ (t : Step) (u v : ℕ) where
  abbrev before : ℕ → List BodyState
  before i = ticks_mail u v (walks_of t) i t.gravity (stand_of t)

  abbrev stand : ℕ → Stand
  stand i = ticks_stand i t.gravity (stand_of t)

  abbrev warm_mail : ℕ → List BodyState
  warm_mail i = pass_mail u v (walks_of t) constraint_warmed (begun t.gravity (stand i))

  abbrev solve_mail : ℕ → List BodyState
  solve_mail i = pass_mail u v (walks_of t) constraint_solved (warm_stand t.gravity (stand i))

  tick_first : (tick : ℕ) → tick < t.count → AreFirst (before (suc tick)) (mail t u v)
  tick_first tick lt =
      first_on (before (suc tick)) (before t.count) (mail t u v) (ticks_first u v (walks_of t) t.gravity (stand_of t) tick t.count lt) (first_more (before t.count) (pass_mail u v (walks_of t) constraint_bounced (stand t.count)))

  warm_first : (tick i : ℕ) → tick < t.count → AreFirst (before tick ++ sent_in u v t constraint_warmed (begun t.gravity (stand tick)) i) (mail t u v)
  warm_first tick i lt =
      let sent : List BodyState = sent_in u v t constraint_warmed (begun t.gravity (stand tick)) i in
      first_on (before tick ++ sent) (before (suc tick)) (mail t u v)
      (first_behind (before tick) sent (warm_mail tick ++ solve_mail tick) (first_on sent (warm_mail tick) (warm_mail tick ++ solve_mail tick) (pass_first t u v constraint_warmed (begun t.gravity (stand tick)) i) (first_more (warm_mail tick) (solve_mail tick))))
      (tick_first tick lt)

  solve_first : (tick i : ℕ) → tick < t.count → AreFirst (before tick ++ warm_mail tick ++ sent_in u v t constraint_solved (warm_stand t.gravity (stand tick)) i) (mail t u v)
  solve_first tick i lt =
      let sent : List BodyState = sent_in u v t constraint_solved (warm_stand t.gravity (stand tick)) i in
      first_on (before tick ++ warm_mail tick ++ sent) (before (suc tick)) (mail t u v)
      (subst (λ (l : List BodyState). AreFirst l (before (suc tick))) (sym (append_assoc (before tick) (warm_mail tick) sent))
      (first_behind (before tick) (warm_mail tick ++ sent) (warm_mail tick ++ solve_mail tick) (first_behind (warm_mail tick) sent (solve_mail tick) (pass_first t u v constraint_solved (warm_stand t.gravity (stand tick)) i))))
      (tick_first tick lt)

pub mail_sent : MailIsSent
mail_sent t u v = record {
  ticks = λ tick lt. record { warm = λ i. warm_first t u v tick i lt; solve = λ i. solve_first t u v tick i lt };
  bounce = λ i. first_behind (ticks_mail u v (walks_of t) t.count t.gravity (stand_of t)) (sent_in u v t constraint_bounced (ticks_stand t.count t.gravity (stand_of t)) i) (pass_mail u v (walks_of t) constraint_bounced (ticks_stand t.count t.gravity (stand_of t)))
      (pass_first t u v constraint_bounced (ticks_stand t.count t.gravity (stand_of t)) i);
}

-- ---- place by place

got_before : (xs ys : List BodyState) (i : ℕ) → i < length xs → slice_get (xs ++ ys) i ≡ slice_get xs i
got_before [] ys i lt = absurd (omega (arith, lt))
got_before (x ∷ xs) ys zero lt = refl
got_before (x ∷ xs) ys (suc i) lt = got_before xs ys i (omega (arith, lt))

got_behind : (xs ys : List BodyState) (i j : ℕ) → j ≡ length xs + i → slice_get (xs ++ ys) j ≡ slice_get ys i
got_behind [] ys i j e = let same : j ≡ i = omega (arith, e) in ap (slice_get ys) same
got_behind (x ∷ xs) ys i zero e = absurd (omega (arith, e))
got_behind (x ∷ xs) ys i (suc j) e = got_behind xs ys i j (omega (arith, e))

pub letters_followed : LettersFollow
letters_followed sent next whole first i lt =
    let rest : List BodyState = drop (length (sent ++ next)) whole in
    ap (λ (l : List BodyState). slice_get l (length sent + i)) (first ∙ append_assoc sent next rest) ∙ got_behind sent (next ++ rest) i (length sent + i) refl ∙ got_before next rest i lt
