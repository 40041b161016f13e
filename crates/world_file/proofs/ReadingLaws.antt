-- What a reading answers that ends early, and one that ends well.
use Rattle.std.proofs.Common.{◌≡◌, ◌≤◌, Bool, true, false, [], ◌∷◌, Option, Some, None, refl, sym, ap, ◌∙◌, arith, subst, inl, inr}
use Rattle.std.specs.Prelude.{Result, Ok, Err}
use Rattle.std.specs.Result.{IfErr, IsErr, IsErrAnd}
use Rattle.std.proofs.lemmas.Bool.{cases_lt}
use Rattle.serde_json.specs.Data.{Data}
use Rattle.graph_colours.proofs.PlaceLemmas.{is_lower, not_lower}
use Rattle.world_file_base.specs.Asks.{all_asked, asked, clause_number, broken_up_to, lesser_clause, no_asks}
use Rattle.world_file_base.specs.declared.clause.Broken.{Broken}
use Rattle.world_file_base.specs.declared.clause.Broken.TheVariants as broken
use Rattle.world_file_base.specs.declared.clause.Clause.{Clause}
use Rattle.world_file_base.specs.declared.clause.Clause.TheVariants.{Generations, References, Memberships, Links, Islands, Colours, Momentum}
use Rattle.world_file_base.specs.declared.reader.Reader.{Reader}
use Rattle.world_file.specs.Answers.{IsRefusedBy}
use Rattle.world_file.specs.AskedParts.{IsBrokenBy, found_broken, others_asks, fitting_asks, parts_asks}
use Rattle.world_file.specs.Clauses.{first_unfit}
use Rattle.world_file.specs.Files.{plain_of, read_of, read_unless}
use Rattle.world_file.specs.Fitting.{references_keep}
use Rattle.world_file.specs.Saved.{Saved, saved_in}
use Rattle.world_file.proofs.FirstBroken.{asking_finds_the_first, found_unfit}

-- what is broken up to the last clause was found broken, and is none behind it
found_by : (last clause other : Clause) → broken_up_to last (Some other) ≡ Some clause → (Some other ≡ Some clause) × (clause_number clause ≤ clause_number last)
found_by last clause other early = elim (cases_lt (clause_number last) (clause_number other)) [
  | inl behind ↦ absurd (let wrong : None ≡ Some clause = sym (rw (is_lower (clause_number last) (clause_number other) behind) refl) ∙ early in cc)
  | inr here ↦
      let same : Some other ≡ Some clause = sym (rw (not_lower (clause_number last) (clause_number other) here) refl) ∙ early in
      let one : other ≡ clause = cc in
      (same, rw (sym one) here)
]

pub found_is : (last clause : Clause) (o : Option Clause) → broken_up_to last o ≡ Some clause → (o ≡ Some clause) × (clause_number clause ≤ clause_number last)
found_is last clause None early = absurd (let wrong : None ≡ Some clause = early in cc)
found_is last clause (Some other) early = found_by last clause other early

first_is : (clause next : Clause) (o : Option Clause) → o ≡ Some clause → clause_number clause ≤ clause_number next → lesser_clause next o ≡ Some clause
first_is clause next o is le = rw is (rw (not_lower (clause_number next) (clause_number clause) le) refl)

-- what is asked later doesn't change it
later_asked : (clause next : Clause) (t : Bool) (r : Reader) → r.broken ≡ Some clause → clause_number clause ≤ clause_number next → (asked t next r).broken ≡ Some clause
later_asked clause next true r is le = is
later_asked clause next false r is le = first_is clause next r.broken is le

five_stay : (a b c d e : Bool) (clause : Clause) (r : Reader) → r.broken ≡ Some clause → clause_number clause ≤ 4
    → (all_asked (asked a Memberships ∷ asked b Links ∷ asked c Islands ∷ asked d Colours ∷ asked e Momentum ∷ []) r).broken ≡ Some clause
five_stay a b c d e clause r is le =
    let one : Reader = asked a Memberships r in
    let two : Reader = asked b Links one in
    let three : Reader = asked c Islands two in
    let four : Reader = asked d Colours three in
    later_asked clause Momentum e four (later_asked clause Colours d three (later_asked clause Islands c two (later_asked clause Links b one (later_asked clause Memberships a r is (omega arith)) (omega arith)) (omega arith)) (omega arith)) (omega arith)

-- a clause of those before stays the first
pub others_stay : (s : Saved) (clause : Clause) (r : Reader) → r.broken ≡ Some clause → clause_number clause ≤ 4 → (others_asks s r).broken ≡ Some clause
others_stay s clause r is le = five_stay _ _ _ _ _ clause r is le

pub fitting_stays : (s : Saved) (clause : Clause) (r : Reader) → r.broken ≡ Some clause → clause_number clause ≤ 3 → (fitting_asks s r).broken ≡ Some clause
fitting_stays s clause r is le = others_stay s clause (asked (references_keep s) References r) (later_asked clause References (references_keep s) r is (omega arith)) (omega arith)

-- a reading that ends since joints or contacts aren't of what is there
pub refused_first : (s : Saved) (r then : Reader) (e : Broken) → then ≡ asked (references_keep s) References r → (clause : Clause) × (e ≡ broken.Clause clause) × (broken_up_to References then.broken ≡ Some clause) → IsBrokenBy (fitting_asks s r).broken e
refused_first s r then e is w =
    let early : (then.broken ≡ Some w.0) × (clause_number w.0 ≤ 4) = found_is References w.0 then.broken w.2 in
    let stays : (others_asks s then).broken ≡ Some w.0 = others_stay s w.0 then early.0 early.1 in
    let here : (fitting_asks s r).broken ≡ Some w.0 = ap (λ (q : Reader). (others_asks s q).broken) (sym is) ∙ stays in
    rw w.1 here

-- a reading that ends before the parts are held against one another
pub refused_early : (d : Data) (then : Reader) (e : Broken) → then ≡ parts_asks d no_asks → (clause : Clause) × (e ≡ broken.Clause clause) × (broken_up_to Generations then.broken ≡ Some clause) → IsBrokenBy (found_broken d) e
refused_early d then e is w =
    let early : (then.broken ≡ Some w.0) × (clause_number w.0 ≤ 3) = found_is Generations w.0 then.broken w.2 in
    let stays : (fitting_asks (saved_in d) then).broken ≡ Some w.0 = fitting_stays (saved_in d) w.0 then early.0 early.1 in
    let here : found_broken d ≡ Some w.0 = ap (λ (q : Reader). (fitting_asks (saved_in d) q).broken) (sym is) ∙ stays in
    rw w.1 here

-- what breaks a clause of those that the parts keep together
pub unfit_by : (s : Saved) (r : Reader) (e : Broken) → r ≡ no_asks → IsBrokenBy (fitting_asks s r).broken e → IsBrokenBy (first_unfit s) e
unfit_by s r e fresh by =
    let same : (fitting_asks s r).broken ≡ first_unfit s = ap (λ (q : Reader). (fitting_asks s q).broken) fresh ∙ found_unfit s in
    subst (λ (o : Option Clause). IsBrokenBy o e) same by

-- ---- what is answered

pub read_ok : (d : Data) (s : Saved) → s ≡ saved_in d → (fitting_asks s (parts_asks d no_asks)).broken ≡ None → read_of d ≡ Ok (plain_of s, s.totals)
unfolding read_of
read_ok d s is none =
    ap (λ o. read_unless o (saved_in d)) (sym (asking_finds_the_first d))
    ∙ ap (λ (x : Saved). read_unless (fitting_asks x (parts_asks d no_asks)).broken x) (sym is)
    ∙ ap (λ o. read_unless o s) none

read_err : (d : Data) (clause : Clause) → found_broken d ≡ Some clause → read_of d ≡ Err clause
unfolding read_of
read_err d clause is = ap (λ o. read_unless o (saved_in d)) (sym (asking_finds_the_first d) ∙ is)

pub refused_by : (d : Data) (e : Broken) → IsBrokenBy (found_broken d) e → IsRefusedBy (read_of d) e
refused_by d broken.NoMemory is = tt
refused_by d (broken.Clause clause) is = read_err d clause is

-- those of what was read, which is the same
pub refused_as : (d : Data) (s : Saved) (r : Reader) (e : Broken) → s ≡ saved_in d → r ≡ parts_asks d no_asks → IsBrokenBy (fitting_asks s r).broken e → IsRefusedBy (read_of d) e
refused_as d s r e is asks by =
    let same : (fitting_asks s r).broken ≡ found_broken d = ap (λ (x : Saved). (fitting_asks x r).broken) is ∙ ap (λ (q : Reader). (fitting_asks (saved_in d) q).broken) asks in
    refused_by d e (rw same at by)

pub read_is : (d : Data) (s : Saved) (r start : Reader) → s ≡ saved_in d → r ≡ parts_asks d start → start ≡ no_asks → (fitting_asks s r).broken ≡ None → read_of d ≡ Ok (plain_of s, s.totals)
read_is d s r start is asks fresh none =
    let same : r ≡ parts_asks d no_asks = asks ∙ ap (λ (q : Reader). parts_asks d q) fresh in
    read_ok d s is (ap (λ (q : Reader). (fitting_asks s q).broken) (sym same) ∙ none)

pub refused_late : (d : Data) (s : Saved) (r start : Reader) (e : Broken) → s ≡ saved_in d → r ≡ parts_asks d start → start ≡ no_asks → IsBrokenBy (fitting_asks s r).broken e → IsRefusedBy (read_of d) e
refused_late d s r start e is asks fresh by = refused_as d s r e is (asks ∙ ap (λ (q : Reader). parts_asks d q) fresh) by

pub refused_soon : (d : Data) (r start : Reader) (e : Broken) → r ≡ parts_asks d start → start ≡ no_asks → (clause : Clause) × (e ≡ broken.Clause clause) × (broken_up_to Generations r.broken ≡ Some clause) → IsRefusedBy (read_of d) e
refused_soon d r start e asks fresh w = refused_by d e (refused_early d r e (asks ∙ ap (λ (q : Reader). parts_asks d q) fresh) w)

-- what is handed on
pub carried : {A : Type 0} (r : Result A Broken) (x : Broken) (P : Broken → Type 0) → IsErr r → IsErrAnd r (λ e. e ≡ x) → P x → IfErr r P
carried (Ok a) x P err same holds = tt
carried (Err d) x P err same holds = subst P (sym same) holds
