-- Mail: a letter with the next bodies of a step may be sent, and what comes has these.
use Rattle.std.proofs.Common.{◌≡◌, ℕ, List, [], ◌∷◌, ◌++◌, drop, length, arith, refl, sym, ap, ap₂, ◌∙◌, subst}
use Rattle.std.proofs.lemmas.List.{append-nil, append_assoc}
use Rattle.momenta.specs.declared.state.BodyState.{BodyState}
use Rattle.part_runs.specs.Runs.{Step, mail}
use Rattle.part_runs.specs.Laws.{AreFirst}
use Rattle.part_solver.specs.declared.mail.Item.{Item}
use Rattle.part_solver.specs.declared.mail.Item.TheVariants.{Begin, Letter}
use Rattle.colour_solver.specs.States.{AreAllStates}
use Rattle.part_solver.specs.Mail.{IsPosted, MaySend, bodies_of}

bodies_then : (items more : List Item) → bodies_of (items ++ more) ≡ bodies_of items ++ bodies_of more
bodies_then [] more = refl
bodies_then (Begin h ∷ items) more = bodies_then items more
bodies_then (Letter l ∷ items) more = ap (λ (s : List BodyState). l.items ++ s) (bodies_then items more) ∙ sym (append_assoc l.items (bodies_of items) (bodies_of more))

same_front : (done xs ys r s : List BodyState) → (done ++ xs) ++ r ≡ (done ++ ys) ++ s → length xs ≡ length ys → xs ≡ ys
same_front [] [] [] r s h long = refl
same_front [] [] (y ∷ ys) r s h long = absurd (omega (arith, long))
same_front [] (x ∷ xs) [] r s h long = absurd (omega (arith, long))
same_front [] (x ∷ xs) (y ∷ ys) r s h long =
    let first : x ≡ y = cc h in
    let more : xs ++ r ≡ ys ++ s = cc h in
    ap (λ (z : BodyState). z ∷ xs) first ∙ ap (λ (l : List BodyState). y ∷ l) (same_front [] xs ys r s more (omega (arith, long)))
same_front (d ∷ done) xs ys r s h long = let more : (done ++ xs) ++ r ≡ (done ++ ys) ++ s = cc h in same_front done xs ys r s more long

-- ---- what is sent

pub may_send : (t : Step) (u v : ℕ) (before more : List BodyState) (items : List Item) → IsPosted t u v before items → AreFirst (before ++ more) (mail t u v) → AreAllStates more → MaySend items more
may_send t u v before more [] posted first all = posted
may_send t u v before more (Letter l ∷ items) posted first all = posted
may_send t u v before more (Begin h ∷ items) posted first all =
    let whole : mail h.step.value h.from h.to ≡ mail t u v = (λ j. mail (posted.0 j) (posted.1 j) (posted.2 j)) in
    (subst (λ (m : List BodyState). AreFirst (bodies_of items ++ more) m) (sym whole) (subst (λ (b : List BodyState). AreFirst (b ++ more) (mail t u v)) (sym posted.3) first), all)

pub posted_more : (t : Step) (u v : ℕ) (before more : List BodyState) (items : List Item) (item : Item) → IsPosted t u v before items → bodies_of (item ∷ []) ≡ more → IsPosted t u v (before ++ more) (items ++ item ∷ [])
posted_more t u v before more [] item posted e = absurd (cc posted)
posted_more t u v before more (Letter l ∷ items) item posted e = posted
posted_more t u v before more (Begin h ∷ items) item posted e = (posted.0, posted.1, posted.2, bodies_then items (item ∷ []) ∙ ap₂ (λ (a b : List BodyState). a ++ b) posted.3 e)

-- a letter has its bodies
pub in_letter : (bodies : List BodyState) → bodies ++ [] ≡ bodies
in_letter bodies = append-nil bodies

-- ---- what comes

pub come_next : (t : Step) (u v : ℕ) (before more got : List BodyState) (items : List Item) → IsPosted t u v before items → MaySend items got → length got ≡ length more → AreFirst (before ++ more) (mail t u v) → got ≡ more
come_next t u v before more got [] posted may long first = absurd (cc posted)
come_next t u v before more got (Letter l ∷ items) posted may long first = absurd (cc posted)
come_next t u v before more got (Begin h ∷ items) posted may long first =
    let whole : mail h.step.value h.from h.to ≡ mail t u v = (λ j. mail (posted.0 j) (posted.1 j) (posted.2 j)) in
    let here : AreFirst (before ++ got) (mail t u v) = subst (λ (b : List BodyState). AreFirst (b ++ got) (mail t u v)) posted.3 (subst (λ (m : List BodyState). AreFirst (bodies_of items ++ got) m) whole may.0) in
    same_front before got more (drop (length (before ++ got)) (mail t u v)) (drop (length (before ++ more)) (mail t u v)) (sym here ∙ first) long

pub come_states : (got : List BodyState) (items : List Item) → MaySend items got → AreAllStates got
come_states got [] may = absurd (cc may)
come_states got (Letter l ∷ items) may = absurd (cc may)
come_states got (Begin h ∷ items) may = may.1
