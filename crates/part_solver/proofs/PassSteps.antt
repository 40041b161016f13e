-- A pass of a part's run, stage by stage.
use Rattle.std.proofs.Common.{◌≡◌, ℕ, zero, suc, ◌+◌, ◌-◌, ◌<◌, ◌≤◌, List, [], ◌∷◌, ◌++◌, drop, get_or, length, map, set, take, add-one, arith, refl, sym, ap, ap₂, subst, inl, inr, ◌∙◌}
use Rattle.std.proofs.lemmas.Bool.{cases_lt}
use Rattle.std.proofs.lemmas.List.{append-nil, append_assoc, drop-drop, length-map, take_all}
use Rattle.fixed_geom.specs.Vectors.{plus, zero_vector}
use Rattle.fixed_geom.specs.declared.vectors.Vec2.{Vec2}
use Rattle.momenta.specs.declared.state.BodyState.{BodyState}
use Rattle.momenta.specs.declared.state.Ends.{Ends}
use Rattle.colour_solver_base.specs.RowsAfter.{RowAfter}
use Rattle.colour_solver.specs.declared.constraint_row.ConstraintRow.{ConstraintRow}
use Rattle.colour_solver.specs.ColourRows.{AreEnds, ColourRows, all_rows, cut, last_end}
use Rattle.colour_solver.specs.ConstraintVisits.{AreRowsBelow, IsConstraintRow, constraint_slots, constraint_warmed}
use Rattle.colour_solver.specs.RowVisits.{IsPassed, passed, rows_passed, share}
use Rattle.colour_solver.specs.Phases.{constraint_visit}
use Rattle.colour_solver.specs.States.{AreAllStates}
use Rattle.colour_solver.specs.declared.phase.Phase.{Phase}
use Rattle.colour_solver.specs.declared.phase.Phase.TheVariants.{Bounce, Solve, Warm}
use Rattle.part_runs.specs.Hidden.{hidden, part_at}
use Rattle.part_runs.specs.Handing.{IsHandedOn, letter}
use Rattle.part_runs.specs.Passes.{IsFairVisit, letters, rows_after}
use Rattle.part_runs.specs.Runs.{IsReached, Stand, Step, begun, mail, own_stages, pass_given, pass_mail, stand_of, ticks_stand, visited, walks_of}
use Rattle.part_runs.specs.Stages.{IsPassOf, bodies_before, bodies_in, given_from, own_at, sent_in, states_at, stood, walk_at}
use Rattle.part_runs.specs.Walks.{Walk, setting_out}
use Rattle.part_runs.specs.Laws.{AreFirst, AreHomes, BodiesAreHidden, CanRun, MailIsSent, OwnMovesTell, PassesByParts, StandsAreReached, TicksAreReached, VisitsAreFair}
use Rattle.part_solver.specs.Exchange.{IsExchanged, MaySendAll, own_walk}
use Rattle.part_solver.specs.Mail.{ArePosted, IsPosted, Posts}
use Rattle.part_solver.specs.Running.{HasWalked, IsBefore, IsDue, IsHanded, IsKnownPass, IsSound, IsStanding, mail_after, mail_at, mail_before, rows_before, stand_at, visits}
use Rattle.part_solver.specs.Walking.{kept}
use Rattle.part_solver.specs.declared.moves.BodyMove.{BodyMove}
use Rattle.part_solver.specs.declared.seat.Lists.{Lists}
use Rattle.colour_solver.proofs.VectorLaws.{plus_assoc, plus_zero, zero_plus}
use Rattle.part_solver.proofs.HandingOn.{handed_on, may_send_all, posted_on, sound_still}
use Rattle.part_solver.proofs.WalkStages.{ends_within, kept_in}

-- ---- what is known of a pass

fair : VisitsAreFair → (phase : Phase) → IsFairVisit (visits phase)
fair law Warm = law.warm
fair law Solve = law.solve
fair law Bounce = law.bounce

pub visit_is : VisitsAreFair → (phase : Phase) → constraint_visit phase ≡ visits phase
visit_is law Warm = law.warm_is
visit_is law Solve = law.solve_is
visit_is law Bounce = law.bounce_is

pub reached : VisitsAreFair → TicksAreReached → StandsAreReached → (t : Step) (tick : ℕ) (phase : Phase) → IsReached t (stand_at t tick phase)
reached law ticks stands t tick Warm = (stands t (ticks_stand tick t.gravity (stand_of t)) (ticks t tick)).begun
reached law ticks stands t tick Solve =
    (stands t (begun t.gravity (ticks_stand tick t.gravity (stand_of t))) (stands t (ticks_stand tick t.gravity (stand_of t)) (ticks t tick)).begun).visited constraint_warmed law.warm
reached law ticks stands t tick Bounce = ticks t tick

pub visited_reached : VisitsAreFair → TicksAreReached → StandsAreReached → (t : Step) (tick : ℕ) (phase : Phase) → IsReached t (visited (visits phase) (stand_at t tick phase))
visited_reached law ticks stands t tick phase = (stands t (stand_at t tick phase) (reached law ticks stands t tick phase)).visited (visits phase) (fair law phase)

mail_first : MailIsSent → (t : Step) (tick : ℕ) (phase : Phase) → IsDue t tick phase → (u v i : ℕ) → AreFirst (mail_at t tick phase i u v) (mail t u v)
mail_first law t tick Warm due u v i = ((law t u v).ticks tick due).warm i
mail_first law t tick Solve due u v i = ((law t u v).ticks tick due).solve i
mail_first law t tick Bounce due u v i = subst (λ (n : ℕ). AreFirst (mail_at t n Bounce i u v) (mail t u v)) (sym due) ((law t u v).bounce i)

pub known_pass : (t : Step) (n k tick : ℕ) (phase : Phase) → k < n → CanRun t.states t.rows → AreHomes n t → PassesByParts → VisitsAreFair → TicksAreReached → StandsAreReached → MailIsSent → IsDue t tick phase → IsKnownPass n t tick phase
known_pass t n k tick phase some can homes passes law ticks stands mails due = record {
  pass = passes t n (omega (arith, some)) can homes (visits phase) (fair law phase) (stand_at t tick phase) (reached law ticks stands t tick phase);
  first = mail_first mails t tick phase due;
}

-- ---- the moves of a stage

at_mapped : {X Y : Type 0} (f : X → Y) (xs : List X) (i : ℕ) (d : X) (e : Y) → i < length xs → get_or (map f xs) i e ≡ f (get_or xs i d)
at_mapped f [] i d e lt = absurd (omega (arith, lt))
at_mapped f (x ∷ xs) zero d e lt = refl
at_mapped f (x ∷ xs) (suc i) d e lt = at_mapped f xs i d e (omega (arith, lt))

cut_count : {X : Type 0} (n : ℕ) (ends : List ℕ) (xs : List X) → length (cut n ends xs) ≡ length ends
cut_count n [] xs = refl
cut_count n (e ∷ ends) xs = ap suc (cut_count e ends (drop (e - n) xs))

pub stages_end : (t : Step) (k : ℕ) (l : Lists) → HasWalked t k l → length l.ends.items ≡ length (walks_of t)
stages_end t k l known =
    let long = cut_count 0 l.ends.items l.moves.items in
    let same = length-map (walks_of t) (kept_in k) in
    sym long ∙ ap length known.moves ∙ same

pub stage_moves : (t : Step) (k i : ℕ) (l : Lists) (moves : List BodyMove) → HasWalked t k l → i < length (walks_of t) → moves ≡ get_or (cut 0 l.ends.items l.moves.items) i [] → moves ≡ kept k (walk_at (walks_of t) i).moves
stage_moves t k i l moves known lt is = is ∙ ap (λ (m : List (List BodyMove)). get_or m i []) known.moves ∙ at_mapped (kept_in k) (walks_of t) i (setting_out []) [] lt

low_taken : (i n : ℕ) (ends : List ℕ) (last : ℕ) → AreEnds n ends last → n ≤ last_end n (take i ends)
low_taken zero n ends last h = omega arith
low_taken (suc i) n [] last h = omega arith
low_taken (suc i) n (e ∷ ends) last h = let more : e ≤ last_end e (take i ends) = low_taken i e ends last h.1 in omega (arith, h.0, more)

cut_at : {X : Type 0} (i n : ℕ) (ends : List ℕ) (last : ℕ) (xs : List X) → AreEnds n ends last → i < length ends → get_or (cut n ends xs) i [] ≡ take (get_or ends i 0 - last_end n (take i ends)) (drop (last_end n (take i ends) - n) xs)
cut_at i n [] last xs h lt = absurd (omega (arith, lt))
cut_at {X} zero n (e ∷ ends) last xs h lt = let none : 0 ≡ n - n = omega arith in ap (λ (m : ℕ). take (e - n) (drop m xs)) none
cut_at {X} (suc i) n (e ∷ ends) last xs h lt =
    let from : ℕ = last_end e (take i ends) in
    let low : e ≤ from = low_taken i e ends last h.1 in
    let way : (e - n) + (from - e) ≡ from - n = omega (arith, h.0, low) in
    cut_at i e ends last (drop (e - n) xs) h.1 (omega (arith, lt)) ∙ ap (take (get_or ends i 0 - from)) (drop-drop (from - e) (e - n) xs ∙ ap (λ (m : ℕ). drop m xs) way)

pub stage_at : {X : Type 0} (i : ℕ) (ends : List ℕ) (last : ℕ) (xs : List X) → AreEnds 0 ends last → i < length ends → get_or (cut 0 ends xs) i [] ≡ take (get_or ends i 0 - last_end 0 (take i ends)) (drop (last_end 0 (take i ends)) xs)
stage_at {X} i ends last xs h lt =
    let from : ℕ = last_end 0 (take i ends) in
    let same : from - 0 ≡ from = omega arith in
    cut_at i 0 ends last xs h lt ∙ ap (λ (m : ℕ). take (get_or ends i 0 - from) (drop m xs)) same

pub stage_ascends : (i n : ℕ) (ends : List ℕ) (last : ℕ) → AreEnds n ends last → i < length ends → last_end n (take i ends) ≤ get_or ends i 0
stage_ascends i n [] last h lt = absurd (omega (arith, lt))
stage_ascends zero n (e ∷ ends) last h lt = h.0
stage_ascends (suc i) n (e ∷ ends) last h lt = stage_ascends i e ends last h.1 (omega (arith, lt))

pub stage_within : (i n : ℕ) (ends : List ℕ) (last : ℕ) → AreEnds n ends last → i < length ends → get_or ends i 0 ≤ last
stage_within i n [] last h lt = absurd (omega (arith, lt))
stage_within zero n (e ∷ ends) last h lt = ends_within e ends last h.1
stage_within (suc i) n (e ∷ ends) last h lt = stage_within i e ends last h.1 (omega (arith, lt))

-- where a stage begins: at the end of the one before
pub start_next : (i j n : ℕ) (ends : List ℕ) → i ≡ suc j → i ≤ length ends → last_end n (take i ends) ≡ get_or ends j 0
start_next i j n [] is h = absurd (omega (arith, is, h))
start_next zero j n (e ∷ ends) is h = absurd (omega (arith, is))
start_next (suc i) zero n (e ∷ ends) is h = let none : i ≡ 0 = omega (arith, is) in ap (λ (m : ℕ). last_end e (take m ends)) none
start_next (suc i) (suc j) n (e ∷ ends) is h = start_next i j e ends (omega (arith, is)) (omega (arith, h))

-- ---- mail

pub posted_as : (t : Step) (n k : ℕ) (a b : ℕ → ℕ → List BodyState) (p : Posts) → ((u v : ℕ) → a u v ≡ b u v) → ArePosted t n k a p → ArePosted t n k b p
posted_as t n k a b p same known = record {
  outs_count = known.outs_count;
  ins_count = known.ins_count;
  outs = λ v lt. subst (λ (l : List BodyState). IsPosted t k v l (get_or p.outs v [])) (same k v) (known.outs v lt);
  ins = λ u lt. subst (λ (l : List BodyState). IsPosted t u k l (get_or p.ins u [])) (same u k) (known.ins u lt);
}

-- ---- a stage

module _ (t : Step) (n tick : ℕ) (phase : Phase) (known : IsKnownPass n t tick phase) where
  abbrev f : ConstraintRow → Ends → RowAfter ConstraintRow
  f = visits phase

  abbrev s : Stand
  s = stand_at t tick phase

  -- how bodies are handed on before the stage i
  pub record IsHandedAt (i : ℕ) : Type 0 where
    pub handed : IsHandedOn n (stood t.home (walks_of t) i) (walk_at (walks_of t) i) (states_at f s i)
    pub sent : (u v : ℕ) → sent_in u v t f s (i + 1) ≡ sent_in u v t f s i ++ letter u v (walk_at (walks_of t) i) (states_at f s i)

  all_sent : (i u v : ℕ) → length (walks_of t) ≤ i → sent_in u v t f s i ≡ pass_mail u v (walks_of t) f s
  all_sent i u v few = ap (λ (w : List Walk). letters u v f w s.states s.rows) (take_all i (walks_of t) few)

  home_handed : (i : ℕ) → i ≡ length s.rows → IsHandedAt i
  home_handed i is =
      subst IsHandedAt (sym is) (record {
        handed = known.pass.home.handed;
        sent = λ u v. all_sent (length s.rows + 1) u v (let many = known.pass.walks in omega (arith, many)) ∙ known.pass.home.sent u v;
      })

  pub handed_at : (i : ℕ) → i < length (walks_of t) → IsHandedAt i
  handed_at i lt = elim (cases_lt i (length s.rows)) [
    | inl low ↦ record { handed = (known.pass.each i low).handed; sent = (known.pass.each i low).sent }
    | inr high ↦ home_handed i (let many = known.pass.walks in omega (arith, high, many, lt))
  ]

  -- the mail so far, with one letter more
  pub mail_on : (i : ℕ) → i < length (walks_of t) → (u v : ℕ) → mail_at t tick phase i u v ++ letter u v (walk_at (walks_of t) i) (states_at f s i) ≡ mail_at t tick phase (i + 1) u v
  mail_on i lt u v =
      append_assoc (mail_before t tick phase u v) (sent_in u v t f s i) (letter u v (walk_at (walks_of t) i) (states_at f s i))
      ∙ ap (λ (l : List BodyState). mail_before t tick phase u v ++ l) (sym ((handed_at i lt).sent u v))

  pub mail_next : (i : ℕ) → i < length (walks_of t) → (u v : ℕ) → AreFirst (mail_at t tick phase i u v ++ letter u v (walk_at (walks_of t) i) (states_at f s i)) (mail t u v)
  mail_next i lt u v = subst (λ (l : List BodyState). AreFirst l (mail t u v)) (sym (mail_on i lt u v)) (known.first u v (i + 1))

  pub mail_first_of : (u v : ℕ) → mail_before t tick phase u v ≡ mail_at t tick phase 0 u v
  mail_first_of u v = sym (append-nil (mail_before t tick phase u v))

  pub mail_last_of : (i : ℕ) → i ≡ length s.rows → (u v : ℕ) → mail_at t tick phase (i + 1) u v ≡ mail_after t tick phase u v
  mail_last_of i is u v = ap (λ (l : List BodyState). mail_before t tick phase u v ++ l) (all_sent (i + 1) u v (let many = known.pass.walks in omega (arith, many, is)))

-- the bodies of a stage are as many as before
pub as_long : BodiesAreHidden → (g h : ℕ → ℕ) (k : ℕ) (all states now : List BodyState) → states ≡ hidden g k all → now ≡ hidden h k all → length now ≡ length states
as_long law g h k all states now was is = ap length is ∙ (law h k all).long ∙ sym (law g k all).long ∙ sym (ap length was)

-- ---- rows, stage by stage

own_long : (home : List ℕ) (k : ℕ) (first : List BodyState) (rows : List (List ConstraintRow)) → length (own_stages home k first rows) ≡ length rows
own_long home k first [] = refl
own_long home k first (left ∷ []) = refl
own_long home k first (rows ∷ next ∷ more) = ap suc (own_long home k first (next ∷ more))

rows_long : (f : ConstraintRow → Ends → RowAfter ConstraintRow) (states : List BodyState) (rows : List (List ConstraintRow)) → length (rows_after f states rows) ≡ length rows
rows_long f states [] = refl
rows_long f states (r ∷ rows) = ap suc (rows_long f (passed constraint_slots f states r) rows)

get_next : {X : Type 0} (a b : List X) (i : ℕ) (d : X) → length a ≡ length b → get_or (take i a ++ drop i b) i d ≡ get_or b i d
get_next [] [] zero d long = refl
get_next [] [] (suc i) d long = refl
get_next [] (y ∷ b) i d long = absurd (omega (arith, long))
get_next (x ∷ a) [] i d long = absurd (omega (arith, long))
get_next (x ∷ a) (y ∷ b) zero d long = refl
get_next (x ∷ a) (y ∷ b) (suc i) d long = get_next a b i d (omega (arith, long))

set_next : {X : Type 0} (a b : List X) (i : ℕ) (d x : X) → length a ≡ length b → i < length b → x ≡ get_or a i d → set (take i a ++ drop i b) i x ≡ take (suc i) a ++ drop (suc i) b
set_next [] [] i d x long lt is = absurd (omega (arith, lt))
set_next [] (y ∷ b) i d x long lt is = absurd (omega (arith, long))
set_next (z ∷ a) [] i d x long lt is = absurd (omega (arith, long))
set_next {X} (z ∷ a) (y ∷ b) zero d x long lt is = ap (λ (w : X). w ∷ b) is
set_next {X} (z ∷ a) (y ∷ b) (suc i) d x long lt is = ap (λ (l : List X). z ∷ l) (set_next a b i d x (omega (arith, long)) (omega (arith, lt)) is)

pub count_before : (t : Step) (k : ℕ) (f : ConstraintRow → Ends → RowAfter ConstraintRow) (s : Stand) (i : ℕ) → i ≤ length s.rows → length (rows_before t k f s i) ≡ length s.rows
count_before t k f s i le = both_long (own_stages t.home k t.states (visited f s).rows) (own_stages t.home k t.states s.rows) i (length s.rows) (own_long t.home k t.states (rows_after f s.states s.rows) ∙ rows_long f s.states s.rows) (own_long t.home k t.states s.rows) le
  where
    both_long : {X : Type 0} (a b : List X) (i m : ℕ) → length a ≡ m → length b ≡ m → i ≤ m → length (take i a ++ drop i b) ≡ m
    both_long a b zero m first second le = second
    both_long [] b (suc i) m first second le = absurd (omega (arith, first, le))
    both_long (x ∷ a) [] (suc i) m first second le = absurd (omega (arith, second, le))
    both_long (x ∷ a) (y ∷ b) (suc i) zero first second le = absurd (omega (arith, le))
    both_long (x ∷ a) (y ∷ b) (suc i) (suc m) first second le = ap suc (both_long a b i m (omega (arith, first)) (omega (arith, second)) (omega (arith, le)))

module _ (t : Step) (n k : ℕ) (f : ConstraintRow → Ends → RowAfter ConstraintRow) (s : Stand) (pass : IsPassOf n t f s) (i : ℕ) (lt : i < length s.rows) where
  abbrev old_own : List (List ConstraintRow)
  old_own = own_stages t.home k t.states s.rows

  abbrev new_own : List (List ConstraintRow)
  new_own = own_stages t.home k t.states (visited f s).rows

  same_count : length new_own ≡ length old_own
  same_count = own_long t.home k t.states (rows_after f s.states s.rows) ∙ rows_long f s.states s.rows ∙ sym (own_long t.home k t.states s.rows)

  pub row_here : get_or (rows_before t k f s i) i [] ≡ own_at t k s i
  row_here = get_next new_own old_own i [] same_count

  -- the part's visits of the stage
  module _ (states now : List BodyState) (rows visited_rows : List ConstraintRow) (given : Vec2) (made : IsPassed constraint_slots IsConstraintRow f states rows now visited_rows given) (are : states ≡ bodies_in t k f s i) (own : rows ≡ own_at t k s i) where
    pub stage_bodies : now ≡ bodies_before t k f s (i + 1)
    stage_bodies = made.states ∙ ap₂ (λ (a : List BodyState) (b : List ConstraintRow). passed constraint_slots f a b) are own ∙ sym ((pass.each i lt).each k).bodies

    pub stage_given : given_from t k f s i ≡ plus given (given_from t k f s (i + 1))
    stage_given = ((pass.each i lt).each k).given ∙ ap (λ (v : Vec2). plus v (given_from t k f s (i + 1))) (sym (made.share_is ∙ ap₂ (λ (a : List BodyState) (b : List ConstraintRow). share constraint_slots f a b) are own))

    stage_row : visited_rows ≡ own_at t k (visited f s) i
    stage_row = made.rows_are ∙ ap₂ (λ (a : List BodyState) (b : List ConstraintRow). rows_passed constraint_slots f a b) are own ∙ sym ((pass.each i lt).each k).rows

    pub stage_rows_on : (colours new : List (List ConstraintRow)) → colours ≡ rows_before t k f s i → new ≡ set colours i visited_rows → new ≡ rows_before t k f s (i + 1)
    stage_rows_on colours new known put =
        put ∙ ap (λ (l : List (List ConstraintRow)). set l i visited_rows) known
        ∙ set_next new_own old_own i [] visited_rows same_count (let long = own_long t.home k t.states s.rows in omega (arith, lt, long)) stage_row
        ∙ ap (rows_before t k f s) (sym (add-one i))

-- ---- a whole pass

pub rows_done : (t : Step) (k : ℕ) (f : ConstraintRow → Ends → RowAfter ConstraintRow) (s : Stand) (i : ℕ) → i ≡ length s.rows → rows_before t k f s i ≡ own_stages t.home k t.states (visited f s).rows
rows_done t k f s i is =
    all_done (own_stages t.home k t.states (visited f s).rows) (own_stages t.home k t.states s.rows) i (let first = own_long t.home k t.states (rows_after f s.states s.rows) in let second = rows_long f s.states s.rows in omega (arith, first, second, is)) (let long = own_long t.home k t.states s.rows in omega (arith, long, is))
  where
    all_done : {X : Type 0} (a b : List X) (i : ℕ) → length a ≡ i → length b ≡ i → take i a ++ drop i b ≡ a
    all_done [] [] zero first second = refl
    all_done [] [] (suc i) first second = refl
    all_done [] (y ∷ b) i first second = absurd (omega (arith, first, second))
    all_done (x ∷ a) [] i first second = absurd (omega (arith, first, second))
    all_done (x ∷ a) (y ∷ b) zero first second = absurd (omega (arith, first))
    all_done {X} (x ∷ a) (y ∷ b) (suc i) first second = ap (λ (l : List X). x ∷ l) (all_done a b i (omega (arith, first)) (omega (arith, second)))

-- ---- the lists of a part, its bodies changed

pub with_bodies : (t : Step) (k : ℕ) (old new : Lists) → IsSound t k old → new.rows ≡ old.rows → HasWalked t k new → length new.states.items ≡ length old.states.items → AreAllStates new.states.items → IsSound t k new
with_bodies t k old new known same walk long all = record {
  walk = walk;
  long = long ∙ known.long;
  states = all;
  rows = subst (λ (r : ColourRows ConstraintRow). AreRowsBelow (length new.states.items) (all_rows r)) (sym same) (subst (λ (n : ℕ). AreRowsBelow n (all_rows old.rows)) (sym long) known.rows);
  left = ap (λ (r : ColourRows ConstraintRow). r.left) same ∙ known.left;
}

-- ---- bodies are handed on

module _ (t : Step) (n k tick : ℕ) (phase : Phase) (i : ℕ) (l : Lists) (p : Posts) (moves : List BodyMove) (known : IsKnownPass n t tick phase) (lt : i < length (walks_of t)) (before : IsBefore t k (visits phase) (stand_at t tick phase) i l)
    (posted : ArePosted t n k (mail_at t tick phase i) p) (are : moves ≡ kept k (walk_at (walks_of t) i).moves) (tell : OwnMovesTell) where
  pub may_hand_on : MaySendAll n k (own_walk moves) l.states.items p
  may_hand_on =
      may_send_all t n k (stood t.home (walks_of t) i) (walk_at (walks_of t) i) (states_at (visits phase) (stand_at t tick phase) i) (mail_at t tick phase i) moves l.states.items p tell are before.states before.sound.states (handed_at t n tick phase known i lt).handed posted
      (mail_next t n tick phase known i lt)

  module _ (now : List BodyState) (new : Posts) (exchanged : IsExchanged n k (own_walk moves) l.states.items now p new) where
    pub handed_posted : ArePosted t n k (mail_at t tick phase (i + 1)) new
    handed_posted =
        posted_as t n k (λ (u v : ℕ). mail_at t tick phase i u v ++ letter u v (walk_at (walks_of t) i) (states_at (visits phase) (stand_at t tick phase) i)) (mail_at t tick phase (i + 1)) new (mail_on t n tick phase known i lt)
        (posted_on t n k (stood t.home (walks_of t) i) (walk_at (walks_of t) i) (states_at (visits phase) (stand_at t tick phase) i) (mail_at t tick phase i) moves l.states.items p tell are before.states before.sound.states (handed_at t n tick phase known i lt).handed posted
        (mail_next t n tick phase known i lt) now new exchanged)

    bodies_are : now ≡ bodies_in t k (visits phase) (stand_at t tick phase) i
    bodies_are =
        handed_on t n k (stood t.home (walks_of t) i) (walk_at (walks_of t) i) (states_at (visits phase) (stand_at t tick phase) i) (mail_at t tick phase i) moves l.states.items p tell are before.states before.sound.states (handed_at t n tick phase known i lt).handed posted
        (mail_next t n tick phase known i lt) now new exchanged

    still_sound : AreAllStates now
    still_sound =
        sound_still t n k (stood t.home (walks_of t) i) (walk_at (walks_of t) i) (states_at (visits phase) (stand_at t tick phase) i) (mail_at t tick phase i) moves l.states.items p tell are before.states before.sound.states (handed_at t n tick phase known i lt).handed posted
        (mail_next t n tick phase known i lt) now new exchanged

    pub handed_lists : (last : Lists) → BodiesAreHidden → last.states.items ≡ now → last.rows ≡ l.rows → HasWalked t k last → IsHanded t k (visits phase) (stand_at t tick phase) i last
    handed_lists last hides is same walk =
        let states : last.states.items ≡ bodies_in t k (visits phase) (stand_at t tick phase) i = is ∙ bodies_are in
        let long : length last.states.items ≡ length l.states.items =
        as_long hides (part_at (stood t.home (walks_of t) i)) (part_at (walk_at (walks_of t) i).at) k (states_at (visits phase) (stand_at t tick phase) i) l.states.items last.states.items before.states states in
        record {
          sound = with_bodies t k l last before.sound same walk long (subst AreAllStates (sym is) still_sound);
          states = states;
          colours = ap (λ (r : ColourRows ConstraintRow). r.colours) same ∙ before.colours;
        }

-- ---- the visits of a stage

pub stage_done : (t : Step) (n k tick : ℕ) (phase : Phase) (i : ℕ) (mid last : Lists) (given : Vec2) → IsKnownPass n t tick phase → i < length (stand_at t tick phase).rows → IsHanded t k (visits phase) (stand_at t tick phase) i mid
    → IsPassed constraint_slots IsConstraintRow (visits phase) mid.states.items (get_or mid.rows.colours i []) last.states.items (get_or last.rows.colours i []) given → last.rows.colours ≡ set mid.rows.colours i (get_or last.rows.colours i []) → last.rows.left ≡ mid.rows.left
    → AreRowsBelow (length last.states.items) (all_rows last.rows) → HasWalked t k last → IsBefore t k (visits phase) (stand_at t tick phase) (i + 1) last
stage_done t n k tick phase i mid last given known lt handed made put left below walk =
    let own : get_or mid.rows.colours i [] ≡ own_at t k (stand_at t tick phase) i = ap (λ (rows : List (List ConstraintRow)). get_or rows i []) handed.colours ∙ row_here t n k (visits phase) (stand_at t tick phase) known.pass i lt in
    record {
      sound = record { walk = walk; long = made.same.long ∙ handed.sound.long; states = made.all_states; rows = below; left = left ∙ handed.sound.left };
      states = stage_bodies t n k (visits phase) (stand_at t tick phase) known.pass i lt mid.states.items last.states.items (get_or mid.rows.colours i []) (get_or last.rows.colours i []) given made handed.states own;
      colours =
          stage_rows_on t n k (visits phase) (stand_at t tick phase) known.pass i lt mid.states.items last.states.items (get_or mid.rows.colours i []) (get_or last.rows.colours i []) given made handed.states own mid.rows.colours last.rows.colours handed.colours put;
    }

pub stage_gives : (t : Step) (n k tick : ℕ) (phase : Phase) (i : ℕ) (mid : Lists) (now : List BodyState) (rows : List ConstraintRow) (given : Vec2) → IsKnownPass n t tick phase → i < length (stand_at t tick phase).rows → IsHanded t k (visits phase) (stand_at t tick phase) i mid
    → IsPassed constraint_slots IsConstraintRow (visits phase) mid.states.items (get_or mid.rows.colours i []) now rows given
    → given_from t k (visits phase) (stand_at t tick phase) i ≡ plus given (given_from t k (visits phase) (stand_at t tick phase) (i + 1))
stage_gives t n k tick phase i mid now rows given known lt handed made =
    let own : get_or mid.rows.colours i [] ≡ own_at t k (stand_at t tick phase) i = ap (λ (r : List (List ConstraintRow)). get_or r i []) handed.colours ∙ row_here t n k (visits phase) (stand_at t tick phase) known.pass i lt in
    stage_given t n k (visits phase) (stand_at t tick phase) known.pass i lt mid.states.items now (get_or mid.rows.colours i []) rows given made handed.states own

-- ---- from the first stage to the last

pub before_first : (t : Step) (k : ℕ) (f : ConstraintRow → Ends → RowAfter ConstraintRow) (s : Stand) (l : Lists) → IsStanding t k s l → IsBefore t k f s 0 l
before_first t k f s l known = record { sound = known.sound; states = known.states; colours = known.colours }

pub standing_last : (t : Step) (n k tick : ℕ) (phase : Phase) (i : ℕ) (l : Lists) → IsKnownPass n t tick phase → i ≡ length (stand_at t tick phase).rows → IsHanded t k (visits phase) (stand_at t tick phase) i l → IsStanding t k (visited (visits phase) (stand_at t tick phase)) l
standing_last t n k tick phase i l known last handed = record {
  sound = handed.sound;
  states = handed.states ∙ ap (bodies_in t k (visits phase) (stand_at t tick phase)) last ∙ known.pass.home.bodies k;
  colours = handed.colours ∙ rows_done t k (visits phase) (stand_at t tick phase) i last;
}

pub posted_first : (t : Step) (n k tick : ℕ) (phase : Phase) (p : Posts) → IsKnownPass n t tick phase → ArePosted t n k (mail_before t tick phase) p → ArePosted t n k (mail_at t tick phase 0) p
posted_first t n k tick phase p known posted = posted_as t n k (mail_before t tick phase) (mail_at t tick phase 0) p (mail_first_of t n tick phase known) posted

pub posted_last : (t : Step) (n k tick : ℕ) (phase : Phase) (i : ℕ) (p : Posts) → IsKnownPass n t tick phase → i ≡ length (stand_at t tick phase).rows → ArePosted t n k (mail_at t tick phase (i + 1)) p → ArePosted t n k (mail_after t tick phase) p
posted_last t n k tick phase i p known last posted = posted_as t n k (mail_at t tick phase (i + 1)) (mail_after t tick phase) p (mail_last_of t n tick phase known i last) posted

-- so many stages has a pass
pub stage_count : (t : Step) (n k tick : ℕ) (phase : Phase) (l : Lists) → IsKnownPass n t tick phase → IsStanding t k (stand_at t tick phase) l → length l.rows.colours ≡ length (stand_at t tick phase).rows
stage_count t n k tick phase l known standing = ap length standing.colours ∙ own_long t.home k t.states (stand_at t tick phase).rows

-- ---- what a pass gives

pub given_first : (t : Step) (k : ℕ) (f : ConstraintRow → Ends → RowAfter ConstraintRow) (s : Stand) → plus zero_vector (given_from t k f s 0) ≡ pass_given t k f s
given_first t k f s = zero_plus (pass_given t k f s)

pub given_next : (sum given whole now rest more : Vec2) → plus sum now ≡ whole → now ≡ plus given rest → more ≡ plus sum given → plus more rest ≡ whole
given_next sum given whole now rest more known is made = ap (λ (v : Vec2). plus v rest) made ∙ sym (plus_assoc sum given rest) ∙ ap (plus sum) (sym is) ∙ known

pub given_last : (t : Step) (n k tick : ℕ) (phase : Phase) (i : ℕ) (sum : Vec2) → IsKnownPass n t tick phase → i ≡ length (stand_at t tick phase).rows → plus sum (given_from t k (visits phase) (stand_at t tick phase) i) ≡ pass_given t k (visits phase) (stand_at t tick phase)
    → sum ≡ pass_given t k (visits phase) (stand_at t tick phase)
given_last t n k tick phase i sum known last is = sym (plus_zero sum) ∙ ap (plus sum) (sym (ap (given_from t k (visits phase) (stand_at t tick phase)) last ∙ known.pass.home.given k)) ∙ is
