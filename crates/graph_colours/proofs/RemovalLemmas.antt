-- Members that are taken out of a list where it stands: those that stay move down over the gap.
use Rattle.std.proofs.Common.{◌≡◌, ℕ, ◌+◌, ◌<◌, ◌≤◌, ◌-◌, ◌++◌, true, false, List, ◌∷◌, length, get_or, take, drop, subst, sym, ap, ◌∙◌, arith, length-drop}
use Rattle.std.specs.List.{All, AllWithin}
use Rattle.std.proofs.lemmas.List.{drop-drop}
use lib.Seq.{paste, drop-paste}
use Rattle.graph_colours.specs.declared.member.Member.{Member}
use Rattle.graph_colours.specs.declared.edits.Edit.{Edit}
use Rattle.graph_colours.specs.Members.{AreRising}
use Rattle.graph_colours.specs.FoundMembers.{is_at}
use Rattle.graph_colours.specs.declared.removals.Gap.{Gap}
use Rattle.graph_colours.specs.Edits.{edit_number, all_edited, AreInOrder}
use Rattle.graph_colours.specs.Gaps.{closed}
use Rattle.graph_colours.proofs.EditLemmas.{taken_step, passed_step, rising_drop, item_is, later_above}

-- what is behind the members that move stays
pub rest_stays : {X : Type 0} (xs : List X) (start end count : ℕ) → start ≤ end → end + count ≤ length xs → drop (end + count) (paste xs start (drop end xs) count) ≡ drop (end + count) xs
rest_stays {X} xs start end count le within =
    let moved : List X = paste xs start (drop end xs) count in
    let long : length (drop end xs) ≡ length xs - end = length-drop end xs in
    let more : ℕ = end - start in
    let at : start + count + more ≡ end + count = omega (arith, le) in
    let behind : drop (start + count) moved ≡ drop (start + count) xs = drop-paste xs start (drop end xs) count (omega (arith, le, within)) (omega (arith, long, within)) in
    ap (λ n. drop n moved) (sym at) ∙ sym (drop-drop more (start + count) moved) ∙ ap (λ (l : List X). drop more l) behind ∙ drop-drop more (start + count) xs ∙ ap (λ n. drop n xs) at

-- what is behind those that stayed there
further : {X : Type 0} (now old : List X) (n more : ℕ) → drop n now ≡ drop n old → drop (n + more) now ≡ drop (n + more) old
further {X} now old n more same = sym (drop-drop more n now) ∙ ap (λ (l : List X). drop more l) same ∙ drop-drop more n old

-- the member that an edit takes away is left out
pub left_out : {C : Type 0} (number : C → ℕ) (e : Edit C) (later : List (Edit C)) (old now : List (Member C)) (start end i : ℕ) → AreRising number (drop end old) → e.adds ≡ false → AllWithin (λ m. number m.id < edit_number number e) (drop end old) 0 i → All (λ d. edit_number number e < edit_number number d) later
    → is_at number (edit_number number e) (drop (end + i) old) ≡ true → take (start + i) now ≡ take start old ++ take i (drop end old) → drop (end + i) now ≡ drop (end + i) old
    → take (start + i) now ++ all_edited number later (drop (end + i + 1) now) ≡ take start old ++ all_edited number (e ∷ later) (drop end old)
left_out {C} number e later old now start end i rising removes before up at done rest =
    let there : is_at number (edit_number number e) (drop i (drop end old)) ≡ true = ap (λ (l : List (Member C)). is_at number (edit_number number e) l) (drop-drop i end old) ∙ at in
    let next : drop (end + i + 1) now ≡ drop (i + 1) (drop end old) = further now old (end + i) 1 rest ∙ sym (drop-drop 1 (end + i) old) ∙ ap (λ (l : List (Member C)). drop 1 l) (sym (drop-drop i end old)) ∙ drop-drop 1 i (drop end old) in
    ap (λ (l : List (Member C)). take (start + i) now ++ all_edited number later l) next ∙ taken_step number e later (take start old) (take (start + i) now) (drop end old) i rising removes before up there done

-- where there is none, the gap stays as long as it was
pub none_left_out : {C : Type 0} (number : C → ℕ) (e : Edit C) (later : List (Edit C)) (old now : List (Member C)) (start end i : ℕ) → AreRising number (drop end old) → e.adds ≡ false → AllWithin (λ m. number m.id < edit_number number e) (drop end old) 0 i → AllWithin (λ m. edit_number number e ≤ number m.id) (drop end old) i (length (drop end old)) → All (λ d. edit_number number e < edit_number number d) later
    → is_at number (edit_number number e) (drop (end + i) old) ≡ false → take (start + i) now ≡ take start old ++ take i (drop end old) → drop (end + i) now ≡ drop (end + i) old
    → take (start + i) now ++ all_edited number later (drop (end + i) now) ≡ take start old ++ all_edited number (e ∷ later) (drop end old)
none_left_out {C} number e later old now start end i rising removes before after up at done rest =
    let there : is_at number (edit_number number e) (drop i (drop end old)) ≡ false = ap (λ (l : List (Member C)). is_at number (edit_number number e) l) (drop-drop i end old) ∙ at in
    let next : drop (end + i) now ≡ drop i (drop end old) = rest ∙ sym (drop-drop i end old) in
    ap (λ (l : List (Member C)). take (start + i) now ++ all_edited number later l) next ∙ passed_step number e later (take start old) (take (start + i) now) (drop end old) i rising removes before after up there done

-- members further on rise as they did
pub rising_on : {C : Type 0} (number : C → ℕ) (old now : List (Member C)) (end i : ℕ) → AreRising number (drop end old) → drop (end + i) now ≡ drop (end + i) old → AreRising number (drop (end + i) now)
rising_on {C} number old now end i rising rest =
    let P : List (Member C) → Type 0 = λ l. AreRising number l in
    subst P (drop-drop i end old ∙ sym rest) (rising_drop number i (drop end old) rising)

pub rising_further : {C : Type 0} (number : C → ℕ) (ms : List (Member C)) (n : ℕ) → AreRising number (drop n ms) → AreRising number (drop (n + 1) ms)
rising_further {C} number ms n rising =
    let P : List (Member C) → Type 0 = λ l. AreRising number l in
    subst P (drop-drop 1 n ms) (rising_drop number 1 (drop n ms) rising)

-- the edits that are left after one more
pub removals_go : {C : Type 0} (number : C → ℕ) (es : List (Edit C)) (i : ℕ) (e : Edit C) (gap next : Gap) (ms now total : List (Member C)) → i < length es → e ≡ get_or es i e → AreInOrder number es
    → ((later : List (Edit C)) → All (λ d. edit_number number e < edit_number number d) later → closed number next later now ≡ closed number gap (e ∷ later) ms)
    → closed number gap (drop i es) ms ≡ total → closed number next (drop (i + 1) es) now ≡ total
removals_go {C} number es i e gap next ms now total lt is order step was =
    step (drop (i + 1) es) (later_above number es i e lt is order)
    ∙ ap (λ (l : List (Edit C)). closed number gap l ms) (sym (item_is es i e lt is))
    ∙ was
