-- Each step keeps the rule.
use Rattle.std.proofs.Common.{◌≡◌, ◌≢◌, ℕ, zero, suc, ◌+◌, ◌<◌, Bool, eqb, eq-eqb, ne_eqb, List, [], ◌∷◌, ◌++◌, length, set, get_or, refl, sym, ap, ◌∙◌, subst, inl, inr, ⊎_elim, arith, append_assoc}
use Rattle.std.specs.Prelude.{Option, Some, None}
use Rattle.std.proofs.lemmas.List.{append-nil}
use Rattle.std.proofs.lemmas.List.Elements.{All-nil, All-push}
use Rattle.std.proofs.lemmas.Option.{IfSome_then}
use mathlib.Core.Option as found
use prog.Atomic.{either}
use lib.ListN.{get_elem?}
use Rattle.atomic_table.specs.Table.{State, Me, step, keeps, Allows, Splits, Joins}
use Rattle.atomic_table.proofs.Lists.{at_set}
use Rattle.seat_book.specs.declared.call.Call.{Call}
use Rattle.seat_book.specs.declared.call.Entry.{Entry}
use Rattle.seat_book.specs.declared.rule.Desk.{Desk}
use Rattle.seat_book.specs.declared.rule.Known.{Known}
use Rattle.seat_book.specs.declared.rule.View.{View}
use Rattle.seat_book.specs.History.{IsPast, IsOther, entry, known}
use Rattle.seat_book.specs.Rules.{idle, keeping, passing, holding, spent, Fits, AllFit, desk_of, known_of, IsKeeper, IsHolder, KeptBy, Kept, dealing, newcomer, both, keeper_of, pass_of, Entered, Cleared, Met}
use Rattle.seat_book.proofs.Rows.{after_set, after_push}

-- the pass of a seat is now with another
abbrev moved : (ℕ → ℕ) → ℕ → ℕ → ℕ → ℕ
moved holder seat to x = either (eqb x seat) to (holder x)

moved_here : (holder : ℕ → ℕ) (seat to : ℕ) → to ≡ moved holder seat to seat
moved_here holder seat to = sym (ap (λ (b : Bool). either b to (holder seat)) (eq-eqb seat seat refl))

moved_else : (holder : ℕ → ℕ) (seat to x : ℕ) → x ≢ seat → holder x ≡ moved holder seat to x
moved_else holder seat to x other = sym (ap (λ (b : Bool). either b to (holder x)) (ne_eqb x seat other))

module _ {C R : Type 0} where
  -- ---- pasts

  past_itself : (seat : ℕ) (history : List (Entry C R)) → IsPast seat history history
  past_itself seat history = ([], sym (append-nil history), All-nil (IsOther seat))

  past_longer : (seat : ℕ) (seen history : List (Entry C R)) (e : Entry C R) → e.seat ≢ seat → IsPast seat seen history → IsPast seat seen (history ++ e ∷ [])
  past_longer seat seen history e other p = (p.0 ++ e ∷ [], ap (λ l. l ++ e ∷ []) p.1 ∙ append_assoc seen p.0 (e ∷ []), All-push (IsOther seat) p.0 e p.2 other)

  -- ---- the rule at a keeper whose view is known

  kept_by : (id : ℕ) (d : Desk C R) (o : Option (Known C R)) (s : State (Call C R) (View C R)) → Kept s → get_elem? s.views id ≡ found.some (record { desk = Some d; pass = o }) → KeptBy id d s
  kept_by id d o s h at =
      let mine : (id ≡ h.0) × (d ≡ h.1) = (h.2.3 id (record { desk = Some d; pass = o }) at).0 in
      subst (λ (x : ℕ × Desk C R). KeptBy x.0 x.1 s) (λ i. (sym mine.0 i, sym mine.1 i)) h.2

  -- one whose pass is of another seat fits as before
  fits_moved : (keeper : ℕ) (holder : ℕ → ℕ) (d : Desk C R) (seat from to by : ℕ) (u : View C R) → from ≡ holder seat → by ≢ from → Fits keeper holder d by u → Fits keeper (moved holder seat to) d by u
  fits_moved keeper holder d seat from to by u was far f = (
    f.0,
    IfSome_then u.pass f.1 (λ q g. (g.0 ∙ moved_else holder seat to q.seat (λ (same : q.seat ≡ seat). far (g.0 ∙ ap holder same ∙ sym was)), g.1, g.2)),
  )

  keeper_alone : AllFit {C = C} {R = R} 0 (λ _. 0) (idle [] 0) (keeping (idle [] 0) ∷ [])
  keeper_alone zero v e = subst (Fits 0 (λ _. 0) (idle [] 0) 0) (found.some-injective _ _ e) ((refl, refl), tt)
  keeper_alone (suc by) v e = absurd (found.some-ne-none v (sym e))

  pub begins : (homes : List (found.Option (Call C R))) → Kept record { words = 0 ∷ []; homes = homes; views = keeping (idle [] 0) ∷ [] }
  begins homes = (0, idle [] 0, ((λ _. 0), refl, inl refl, keeper_alone))

  pub deals : (id n : ℕ) → Splits (Kept {C = C} {R = R}) id (keeping (idle [] n)) (keeping (idle [] (n + 1))) (passing (known n []))
  deals id n s h at =
      let k = kept_by id (idle [] n) None s h at in
      let views = set s.views id (keeping (idle [] (n + 1))) in
      let holder = moved k.0 n (length views) in
      let P = Fits id holder (idle [] (n + 1)) in (
        id,
        idle [] (n + 1),
        (
          holder,
          k.1,
          inl refl,
          after_push P views (passing (known n [])) (tt, (moved_here k.0 n (length views), omega arith, past_itself n []))
              (after_set P s.views id (keeping (idle [] (n + 1))) ((refl, refl), tt)
              (λ j u far e. let f = k.3 j u e in (
                IfSome_then u.desk f.0 (λ d g. absurd (far g.0)),
                IfSome_then u.pass f.1 (λ q g. let less : q.seat < n = g.1 in (g.0 ∙ moved_else k.0 n (length views) q.seat (λ (same : q.seat ≡ n). absurd (omega (arith, same, less))), omega (arith, less), g.2)),
              ))),
        ),
      )

  pub takes_in : (id : ℕ) (d : Desk C R) (other : ℕ) (p : Known C R) → Joins Kept id (keeping d) other (passing p) (holding d p) spent
  takes_in id d other p s h at apart there =
      let k = kept_by id d None s h at in
      let was : get_elem? s.views other ≡ found.some (passing p)
      = ⊎_elim (λ (t : (other ≡ id) × (holding d p ≡ passing p)). absurd (apart t.0)) (λ (t : (other ≢ id) × (get_elem? s.views other ≡ found.some (passing p))). t.1) (at_set s.views id other (holding d p) (passing p) there) in
      let theirs = (k.3 other (passing p) was).1 in
      let holder = moved k.0 p.seat id in
      let P : ℕ → View C R → Type 0 = λ j u. j ≢ other → Fits id holder d j u in
      let middle = after_set P s.views id (holding d p) (λ _. ((refl, refl), (moved_here k.0 p.seat id, theirs.1, theirs.2)))
      (λ j u _ e far. fits_moved id k.0 d p.seat other id j u theirs.0 far (k.3 j u e)) in
      (id, d, (holder, k.1, k.2, after_set (Fits id holder d) (set s.views id (holding d p)) other spent (tt, tt) (λ j u far e. middle j u e far)))

  pub gives_out : (id : ℕ) (d : Desk C R) (p : Known C R) → Splits Kept id (holding d p) (keeping d) (passing p)
  gives_out id d p s h at =
      let k = kept_by id d (Some p) s h at in
      let theirs = (k.3 id (holding d p) at).1 in
      let views = set s.views id (keeping d) in
      let holder = moved k.0 p.seat (length views) in
      let P = Fits id holder d in (
        id,
        d,
        (
          holder,
          k.1,
          k.2,
          after_push P views (passing p) (tt, (moved_here k.0 p.seat (length views), theirs.1, theirs.2))
              (after_set P s.views id (keeping d) ((refl, refl), tt) (λ j u far e. fits_moved id k.0 d p.seat id (length views) j u theirs.0 far (k.3 j u e))),
        ),
      )

  -- the keeper that holds a pass has another history, and the pass has seen more
  turns : (id : ℕ) (d : Desk C R) (p : Known C R) (d' : Desk C R) (seen : List (Entry C R)) (s : State (Call C R) (View C R)) (k : KeptBy id d s)
      → get_elem? s.views id ≡ found.some (holding d p) → d'.dealt ≡ d.dealt → IsPast p.seat seen d'.history
      → ((other : ℕ) (l : List (Entry C R)) → other ≢ p.seat → IsPast other l d.history → IsPast other l d'.history)
      → AllFit id k.0 d' (set s.views id (holding d' (known p.seat seen)))
  turns id d p d' seen s k at same here stays =
      let theirs = (k.3 id (holding d p) at).1 in
      after_set (Fits id k.0 d') s.views id (holding d' (known p.seat seen)) ((refl, refl), (theirs.0, subst (λ (n : ℕ). p.seat < n) (sym same) theirs.1, here))
      (λ j u far e. let f = k.3 j u e in (
        IfSome_then u.desk f.0 (λ _ g. absurd (far g.0)),
        IfSome_then u.pass f.1 (λ q g. (g.0, subst (λ (n : ℕ). q.seat < n) (sym same) g.1, stays q.seat q.seen (λ (its : q.seat ≡ p.seat). far (g.0 ∙ ap k.0 its ∙ sym theirs.0)) g.2)),
      ))

  pub enters : (slots id : ℕ) (history : List (Entry C R)) (dealt : ℕ) (p : Known C R) (call : Call C R) (c : List (ℕ × Call C R))
      → Allows Kept slots id (holding (idle history dealt) p, c) 0 (λ n. either (eqb n 0) (p.seat + 1) n) (Entered (step slots 0 0 (p.seat + 1) (found.some call)) (holding (idle history dealt) p, c))
  enters slots id history dealt p call c s h _ at _ =
      let d = idle history dealt in
      let k = kept_by id d (Some p) s h at in
      let now = history ++ entry p.seat call ∷ [] in
      let d' : Desk C R = record { history = now; dealt = dealt; word = p.seat + 1 } in (
        holding d' (known p.seat now),
        keeps,
        tt,
        (
          id,
          d',
          (
            k.0,
            ap (λ (ws : List ℕ). set ws 0 (either (eqb (get_or ws 0 0) 0) (p.seat + 1) (get_or ws 0 0))) k.1,
            inr (history, entry p.seat call, refl, refl),
            turns id d p d' now s k at refl (past_itself p.seat now) (λ other l far q. past_longer other l history (entry p.seat call) (λ (same : p.seat ≡ other). far (sym same)) q),
          ),
        ),
        ((k.3 id (holding d p) at).1.2, refl, refl),
      )

  pub clears : (slots id : ℕ) (d : Desk C R) (p : Known C R) (c : List (ℕ × Call C R)) → Allows Kept slots id (holding d p, c) 0 (λ _. 0) (λ _. Cleared (step slots 0 0 0 found.none) (holding d p, c) 0)
  clears slots id d p c s h _ at _ =
      let k = kept_by id d (Some p) s h at in
      let d' = idle d.history d.dealt in (
        holding d' p,
        keeps,
        tt,
        (id, d', (k.0, ap (λ (ws : List ℕ). set ws 0 0) k.1, inl refl, turns id d p d' p.seen s k at refl (k.3 id (holding d p) at).1.2 (λ other l _ q. q))),
        (refl, refl),
      )

  pub meets : (slots id : ℕ) (d : Desk C R) (p : Known C R) (c : List (ℕ × Call C R)) → Allows Kept slots id (holding d p, c) 0 (λ n. n) (Met (step slots 0 0 0 found.none) (holding d p, c))
  meets slots id d p c s h _ at _ =
      let k = kept_by id d (Some p) s h at in (
        holding d (known p.seat d.history),
        keeps,
        tt,
        (id, d, (k.0, ap (λ (ws : List ℕ). set ws 0 (get_or ws 0 0)) k.1, k.2, turns id d p d d.history s k at refl (past_itself p.seat d.history) (λ other l _ q. q))),
        ((k.3 id (holding d p) at).1.2, refl, refl),
      )

  -- ---- the same at what a seat of the table knows by an equation

  pub view_is : (me : Me (Call C R) (View C R)) (v : View C R) → me ≡ (v, []) → me.0 ≡ v
  view_is me v is = ap (λ (m : Me (Call C R) (View C R)). m.0) is

  -- an idle keeper that took a pass in
  pub holds_idle : (was now : Me (Call C R) (View C R)) (p : Known C R) → IsKeeper was → now ≡ (holding (desk_of was.0) p, []) → now ≡ (holding (idle (desk_of was.0).history (desk_of was.0).dealt) p, [])
  holds_idle was now p idles is = is ∙ ap (λ (m : Me (Call C R) (View C R)). (holding (desk_of m.0) p, [])) idles

  pub deals_at : (id : ℕ) (me : Me (Call C R) (View C R)) (n : ℕ) → me ≡ (keeping (idle [] n), []) → Splits Kept id me.0 (dealing me.0) (newcomer me.0)
  deals_at id me n is = subst (λ (x : View C R). Splits Kept id x (dealing x) (newcomer x)) (sym (view_is me (keeping (idle [] n)) is)) (deals id n)

  pub takes_in_at : (id : ℕ) (me : Me (Call C R) (View C R)) (other : ℕ) (w : View C R) (p : Known C R) → IsKeeper me → w ≡ passing p → Joins Kept id me.0 other w (both me.0 w) spent
  takes_in_at id me other w p is was =
      let d = idle (desk_of me.0).history (desk_of me.0).dealt in
      let now = view_is me (keeping d) is in
      subst (λ (x : View C R × View C R). Joins Kept id x.0 other x.1 (both x.0 x.1) spent) (λ i. (sym now i, sym was i)) (takes_in id d other p)

  pub gives_out_at : (id : ℕ) (me : Me (Call C R) (View C R)) → IsHolder me → Splits Kept id me.0 (keeper_of me.0) (pass_of me.0)
  gives_out_at id me is =
      let d = idle (desk_of me.0).history (desk_of me.0).dealt in
      subst (λ (x : View C R). Splits Kept id x (keeper_of x) (pass_of x)) (sym (view_is me (holding d (known_of me.0)) is)) (gives_out id d (known_of me.0))

  pub enters_at : (slots id : ℕ) (me : Me (Call C R) (View C R)) (history : List (Entry C R)) (dealt : ℕ) (p : Known C R) (n : ℕ) (call : Call C R) → me ≡ (holding (idle history dealt) p, []) → p.seat ≡ n
      → Allows Kept slots id me 0 (λ x. either (eqb x 0) (n + 1) x) (Entered (step slots 0 0 (n + 1) (found.some call)) me)
  enters_at slots id me history dealt p n call is named =
      subst (λ (x : Me (Call C R) (View C R) × ℕ). Allows Kept slots id x.0 0 (λ y. either (eqb y 0) (x.1 + 1) y) (Entered (step slots 0 0 (x.1 + 1) (found.some call)) x.0))
      (λ i. (sym is i, named i)) (enters slots id history dealt p call [])

  pub clears_at : (slots id : ℕ) (me : Me (Call C R) (View C R)) (d : Desk C R) (p : Known C R) → me.0 ≡ holding d p → Allows Kept slots id me 0 (λ _. 0) (λ _. Cleared (step slots 0 0 0 found.none) me 0)
  clears_at slots id me d p is = subst (λ (x : View C R). Allows Kept slots id (x, me.1) 0 (λ _. 0) (λ _. Cleared (step slots 0 0 0 found.none) (x, me.1) 0)) (sym is) (clears slots id d p me.1)

  pub meets_at : (slots id : ℕ) (me : Me (Call C R) (View C R)) (d : Desk C R) (p : Known C R) → me ≡ (holding d p, []) → Allows Kept slots id me 0 (λ n. n) (Met (step slots 0 0 0 found.none) me)
  meets_at slots id me d p is = subst (λ (x : Me (Call C R) (View C R)). Allows Kept slots id x 0 (λ n. n) (Met (step slots 0 0 0 found.none) x)) (sym is) (meets slots id d p [])
