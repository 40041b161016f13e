-- `dm_frame_ray` looks whether there is a frame, and hands it on.
use Rattle.std.proofs.Common.{◌≡◌, ℕ, List, [], ◌∷◌, refl, sym, subst, lit<, w32, Option, Some, Bor}
use mir.Syntax.{named}
use mir.Val.{Val, vint, vptr, vstruct, vcons, vnil}
use base.Fml.{Lft, Share, flft}
use base.Logic.{SProp, emp, id⊢}
use contract.Monad.{fact, fact_i}
use contract.Running.{tables}
use denote.Builtin.{u32}
use denote.Exit.{yes, left}
use denote.Laws.{Is, shows}
use denote.Param.Drops.{mut_Drops}
use denote.Plain.{uint_Makes, uint_Lawful}
use denote.RattleType.{owns}
use denote.RawPtr.{Ptr, block_ptr, null_ptr, ptr_val, block_of, count_of, at_block, tests_null}
use denote.Ref.{MutRef, mut_vals, mut_Tells}
use denote.Signature.{types_at}
use denote.Steps.{nothing, owned, peeks, heard}
use denote.Triple.Call.{calls_at}
use denote.Triple.Clauses.{Lasts, lasts}
use denote.Triple.Entry.{alive}
use denote.Triple.Spec.{triple_of}
use denote.Triple.Walked.{Stays, walk_of}
use prog.Wp.{WpFn}
use types.ByLocal.{alloc_all, pass_all, free_all, look_at, get, get_in, through, sets, lands_as, env}
use types.Kit.{‵, raw, ◌⊛◌, some, later, prop, at_ret, ◌$◌, ◌∵◌, !, qed, by, move, keep, drop, use0, use1, use2, split, join, fsplit, fjoin, feq_i, pick, await, rewrite, regoal}
use types.Part.{sub, whole}
use types.Run.{stop, fld, of_opd, addr, bin, lit, no_more, and_then, first, branches, skips, exec, returns, returns_within, enter}
use Rattle.core.proofs.alloc.Shapes.{after}
use Rattle.core.proofs.atomic.Steps.{fm}
use Rattle.std.proofs.raw_atomic.Walks.{proved, leaves}
use Rattle.dillmonth.specs.Forms.{vector_said}
use Rattle.dillmonth.specs.Frames.{HitsFramed}
use Rattle.dillmonth.specs.contracts.forms.CVector.{the_row as Vector}
use Rattle.dillmonth.proofs.forms.CVector.TheLaws as vector
use Rattle.dillmonth.specs.contracts.rays.CHit.{the_row as Hit}
use Rattle.dillmonth.specs.Loans.{lent_as}
use Rattle.world_core.specs.Frames.{View}
use Rattle.dillmonth.proofs.LoanSteps.{all_gave, all_go, either_lent, lent_again}
use Rattle.dillmonth.proofs.frame_reading.CFrameRef.TheLaws as ref
use Rattle.dillmonth.specs.contracts.frame_reading.write_hit_in as g
use Rattle.dillmonth.proofs.frame_reading.write_hit_in.Met.{met}
use Rattle.dillmonth.specs.contracts.frame_reading.dm_frame_ray.{ended, clauses}
use Rattle.dillmonth.specs.contracts.frame_reading.dm_frame_ray.Key.{name as #self}
use Rattle.dillmonth.proofs.frame_reading.dm_frame_ray.Statement.{statement}
use Rattle.dillmonth.proofs.frame_reading.dm_frame_ray.Code as code

pub dm_frame_ray_spec : {M : Type 1} → statement M
dm_frame_ray_spec 𝓤 𝓛 𝓜 𝓡 wired =
    let H = 𝓛.H in let 𝓣 = tables 𝓤 H 𝓜 𝓡 𝓡.env in let En = ended in let c = clauses 𝓛 𝓜.mem 𝓡.returns in let fn = code.function in
    let hs : Stays En.signature.params En.kept = all_gave En.signature.params En.kept in
    proved 𝓛 En hs c 𝓜 𝓡 (all_go 𝓛 1 En.signature.params En.kept) #self fn (code.unfolded 𝓤 H 𝓜 𝓡 wired)
    (λ κs. ((λ x. ref.the_told.val x ∷ []), ((λ (x : Vector.Denot). vector.the_told.val x ∷ []), ((λ (x : Vector.Denot). vector.the_told.val x ∷ []), (mut_vals, tt))))) (λ κs. (ref.the_told.tells, (vector.the_told.tells, (vector.the_told.tells, (mut_Tells (named 0) κs.0 Hit, tt))))) (λ κs qs bounds a gh are.
    let κ : Lft = gh.lifetime in let q : Share = gh.share in let p : Ptr = a.0.at in let Lent = λ (o : Option View). ‵ (lent_as κ q o p) in
    let y : (walk_of 𝓛 En hs c).Ghost = ((κs, qs, bounds, a, (ref.the_told.val a.0 ∷ [], (vector.the_told.val a.1.0 ∷ [], (vector.the_told.val a.1.1.0 ∷ [], (mut_vals a.1.1.1.0, tt))))), gh) in let Post : Val → SProp 𝓤 = (walk_of 𝓛 En hs c).post y in
    let args : Ptr → List Val = λ z. vstruct (vcons (ptr_val z) vnil) ∷ vector.the_told.val a.1.0 ∷ vector.the_told.val a.1.1.0 ∷ vptr a.1.1.1.0.ref_ptr.0 a.1.1.1.0.ref_ptr.1 ∷ [] in let Run = λ (z : Ptr). prop (WpFn 𝓤 H 𝓣.C 𝓣.Λ fn (args z) Post) in
    qed 𝓛 ((raw (alive 𝓛 En.signature κs qs) ⊛ ‵ (owns (types_at En.signature.params κs) a y.0.4)) ∷ Lent gh.frame ∷ []) ∵
    split ! $ move ! (1 ∷ []) $ fsplit ! $ drop ! $ move ! (2 ∷ []) $ either_lent ! κ q gh.frame p
    (λ e is. regoal ! Run e refl $ enter ! 𝓣.C 𝓣.Λ fn (args null_ptr) Post $ alloc_all ! (λ l. pass_all ! refl ((tt, (record { fits = lit< tt }, tt)), (((vector.the_row_laws.lawful 𝓛).typed a.1.0 _ are.1.0).0, (((vector.the_row_laws.lawful 𝓛).typed a.1.1.0 _ are.1.1.0).0, ((tt, tt), tt)))) $
    fsplit ! $ drop ! $ fsplit ! $ drop ! $ fsplit ! $ use1 𝓛 (later (‵ (left ((MutRef (named 0) κs.0 Hit).exit yes) a.1.1.1.0 a.1.1.1.0.now))) (mut_Drops 𝓛 (named 0) κs.0 Hit yes a.1.1.1.0 (mut_vals a.1.1.1.0)) $ await ! tt $ move ! (1 ∷ []) $
    sets ! (bin ! (get_in ! (fld ! refl (stop !)) (sub ! 0 refl (whole !))) (lit ! tt) tt) refl (tt, tt) $ first ! $ branches ! (get ! refl)
    (λ _. sets ! (of_opd ! (lit ! tt)) refl (tt, record { fits = lit< tt }) $ returns_within ! Post refl (look_at ! 0 refl) $ free_all ! refl $
    -- what is said of the parameters, the result, the clauses
    move ! (1 ∷ 0 ∷ []) $ fjoin ! $ nothing ! $ fjoin ! $ nothing ! $ fjoin ! $ nothing ! $ fjoin ! $ owned ! u32 _ (uint_Makes 𝓛 w32) 32 _ (refl, lit< tt) $
    use0 𝓛 (raw (fact 𝓤 (HitsFramed (vector_said a.1.0) (vector_said a.1.1.0) gh.frame 32 a.1.1.1.0.now a.1.1.1.0.now))) (fact_i 𝓤 (HitsFramed (vector_said a.1.0) (vector_said a.1.1.0) gh.frame 32 a.1.1.1.0.now a.1.1.1.0.now) (emp 𝓤) (subst (λ (o : Option View). HitsFramed (vector_said a.1.0) (vector_said a.1.1.0) o 32 a.1.1.1.0.now a.1.1.1.0.now) (sym is) (refl, refl))) $
    feq_i ! Ptr p null_ptr e $ rewrite ! 0 Lent (sym is) refl $ join ! $ keep ! (3 ∷ 2 ∷ 1 ∷ 0 ∷ []) $ by ! (leaves 𝓛 En hs c y (vint w32 32) 32 (tt, (tt, (tt, (a.1.1.1.0.now, tt)))) (tt, (tt, (tt, (tt, tt))))))
    (λ wrong. absurd wrong)))
    (λ x is inb low. let b = block_of p in let o = count_of p in let bor : Bor View = record { ref_ptr = (b, o); now = x } in
    let k = triple_of 𝓛 g.signature (g.spec 𝓛 𝓜.mem 𝓡.returns) in let z : k.Ghost = (((κ, κs), (q, qs), tt, (bor, a.1), (vptr b o ∷ [], y.0.4.1)), tt) in
    -- what the callee takes, and the loan
    move ! (1 ∷ []) $ feq_i ! (List Val) (vptr b o ∷ []) (vptr b o ∷ []) refl $ fjoin ! $ move ! (0 ∷ 3 ∷ []) $ fjoin ! $ move ! (1 ∷ 3 ∷ []) $ join ! $ join ! $
    nothing ! $ move ! (1 ∷ 0 ∷ []) $ use2 𝓛 (raw (k.pre z)) (id⊢ 𝓤 _) $
    regoal ! Run (at_block p inb) refl $ enter ! 𝓣.C 𝓣.Λ fn (args (block_ptr b o)) Post $ alloc_all ! (λ l. pass_all ! refl ((tt, (tt, tt)), (((vector.the_row_laws.lawful 𝓛).typed a.1.0 _ are.1.0).0, (((vector.the_row_laws.lawful 𝓛).typed a.1.1.0 _ are.1.1.0).0, ((tt, tt), tt)))) $ let Ev = env fn.locals l in
    sets ! (bin ! (get_in ! (fld ! refl (stop !)) (sub ! 0 refl (whole !))) (lit ! tt) (tests_null (block_ptr b o) low)) refl (tt, tt) $ first ! $ branches ! (get ! refl) (λ wrong. absurd wrong) (λ _.
    skips ! $ exec ! 𝓣.C 𝓣.Λ Ev (after 2 fn.body) (at_ret Ev Post) $
    sets ! (of_opd ! (get_in ! (fld ! refl (stop !)) (sub ! 0 refl (whole !)))) refl (tt, tt) $ sets ! (addr ! (through ! refl (stop !))) refl (tt, tt) $ sets ! (addr ! (through ! refl (stop !))) refl (tt, tt) $
    calls_at ! (fm 𝓛 𝓜 𝓡) k (met 𝓤 𝓛 𝓜 𝓡 (code.calls-dillmonth::frame_reading::write_hit_in 𝓡.env wired)) z (and_then ! (get ! refl) (and_then ! (get ! refl) (and_then ! (get ! refl) (and_then ! (get ! refl) (no_more !))))) (λ v.
    use1 𝓛 (later (some (λ (u : ℕ). ((‵ (flft κ q) ⊛ raw (alive 𝓛 En.signature κs qs)) ⊛ ‵ (u32.own_val u (v ∷ []))) ⊛
    some (λ (ws : Lasts g.ended z.0.0 z.0.3). ‵ (lasts g.ended z.0.0 z.0.3 ws) ⊛ raw (fact 𝓤 (HitsFramed (vector_said a.1.0) (vector_said a.1.1.0) (Some x) u a.1.1.1.0.now ws.1.1.1.0)))))) (id⊢ 𝓤 (k.post z v)) $
    await ! tt $ pick ! (λ u. split ! $ move ! (1 ∷ []) $ pick ! (λ ws. split ! $ move ! (1 ∷ []) $ heard ! (HitsFramed (vector_said a.1.0) (vector_said a.1.1.0) (Some x) u a.1.1.1.0.now ws.1.1.1.0) (λ said.
    move ! (1 ∷ []) $ split ! $ split ! $ move ! (2 ∷ []) $ peeks ! u32 (Is u32) (shows 𝓛 u32) u (v ∷ []) (λ so. lands_as ! refl refl ((uint_Lawful 𝓛 w32).typed u _ so).0 $
    returns ! (look_at ! 0 refl) $ free_all ! refl $
    -- [the result; the token; the tokens; what is said of the parameters; the loan]
    use0 𝓛 (raw (fact 𝓤 (HitsFramed (vector_said a.1.0) (vector_said a.1.1.0) gh.frame u a.1.1.1.0.now ws.1.1.1.0))) (fact_i 𝓤 (HitsFramed (vector_said a.1.0) (vector_said a.1.1.0) gh.frame u a.1.1.1.0.now ws.1.1.1.0) (emp 𝓤) (subst (λ (o : Option View). HitsFramed (vector_said a.1.0) (vector_said a.1.1.0) o u a.1.1.1.0.now ws.1.1.1.0) (sym is) said)) $
    move ! (2 ∷ 5 ∷ []) $ lent_again ! κ q x p low $ rewrite ! 0 Lent (sym is) refl $ join ! $ keep ! (2 ∷ 3 ∷ 1 ∷ 0 ∷ []) $ by ! (leaves 𝓛 En hs c y v u (tt, ws.1) (tt, (tt, (tt, (tt, tt))))))))))))))
