-- Lists of two parts: once one of them has ended, nothing is left.
use Rattle.std.proofs.Common.{◌≡◌, ℕ, suc, ◌+◌, ◌<◌, ◌≤◌, ◌&&◌, ◌++◌, ◌∷◌, Bool, true, false, List, [], length, drop, get_or, Option, refl, sym, ap, ◌∙◌, arith, add-one, append_assoc, drop-cons, ◌⊎◌, inl, inr}
use Rattle.std.specs.List.{flat_map}
use Rattle.std.proofs.lemmas.Bool.{false≢true}
use Rattle.std.proofs.lemmas.List.{append-nil, drop_all}
use Rattle.body_handles.specs.declared.slot_table.SlotEntry.{SlotEntry}
use Rattle.plain_world.specs.declared.body.Body.{Body}
use Rattle.world_file_base.specs.declared.saved.SavedJoint.{SavedJoint}
use Rattle.world_file.specs.Fitting.{are_joints_colourless, is_colourless, joint_colour, joint_tie, joint_ties, tie_if_any}
use Rattle.world_file.specs.declared.ties.Tie.{Tie}

no_joint : (bodies : List (Option Body)) (slot : ℕ) (slot_entries : List SlotEntry) → joint_ties bodies slot slot_entries [] ≡ []
no_joint bodies slot [] = refl
no_joint bodies slot (slot_entry ∷ slot_entries) = refl

ties_end : (bodies : List (Option Body)) (slot_entries : List SlotEntry) (joints : List (Option SavedJoint)) (n k : ℕ) → (length slot_entries ≤ n) ⊎ (length joints ≤ n) → n ≤ k → joint_ties bodies k (drop k slot_entries) (drop k joints) ≡ []
ties_end bodies slot_entries joints n k (inl past) end = rw (drop_all k slot_entries (omega arith)) refl
ties_end bodies slot_entries joints n k (inr past) end = rw (drop_all k joints (omega arith)) (no_joint bodies k (drop k slot_entries))

pub ties_listed : (done whole : List Tie) (bodies : List (Option Body)) (slot_entries : List SlotEntry) (joints : List (Option SavedJoint)) (n k : ℕ) → (length slot_entries ≤ n) ⊎ (length joints ≤ n) → n ≤ k
    → done ++ flat_map tie_if_any (joint_ties bodies k (drop k slot_entries) (drop k joints)) ≡ whole → done ≡ whole
ties_listed done whole bodies slot_entries joints n k one end all =
    sym (append-nil done) ∙ ap (λ ties. done ++ flat_map tie_if_any ties) (sym (ties_end bodies slot_entries joints n k one end)) ∙ all

none_coloured : (bodies : List (Option Body)) (slot : ℕ) (slot_entries : List SlotEntry) → are_joints_colourless bodies slot slot_entries [] ≡ true
none_coloured bodies slot [] = refl
none_coloured bodies slot (slot_entry ∷ slot_entries) = refl

pub colourless_end : (bodies : List (Option Body)) (slot_entries : List SlotEntry) (joints : List (Option SavedJoint)) (n k : ℕ) → (length slot_entries ≤ n) ⊎ (length joints ≤ n) → n ≤ k
    → are_joints_colourless bodies k (drop k slot_entries) (drop k joints) ≡ true
colourless_end bodies slot_entries joints n k (inl past) end = rw (drop_all k slot_entries (omega arith)) refl
colourless_end bodies slot_entries joints n k (inr past) end = rw (drop_all k joints (omega arith)) (none_coloured bodies k (drop k slot_entries))

pub push_step : (done new whole : List Tie) (bodies : List (Option Body)) (slot_entries : List SlotEntry) (joints : List (Option SavedJoint)) (k : ℕ) (d : SlotEntry) (e : Option SavedJoint) (o : Option Tie) → k < length slot_entries → k < length joints
    → new ≡ done ++ tie_if_any o → o ≡ joint_tie bodies k (get_or slot_entries k d) (get_or joints k e)
    → done ++ flat_map tie_if_any (joint_ties bodies k (drop k slot_entries) (drop k joints)) ≡ whole → new ++ flat_map tie_if_any (joint_ties bodies (k + 1) (drop (k + 1) slot_entries) (drop (k + 1) joints)) ≡ whole
push_step done new whole bodies slot_entries joints k d e o short less added is all =
    let first : drop k slot_entries ≡ get_or slot_entries k d ∷ drop (suc k) slot_entries = drop-cons slot_entries k d short in
    let second : drop k joints ≡ get_or joints k e ∷ drop (suc k) joints = drop-cons joints k e less in
    let rest : List Tie = flat_map tie_if_any (joint_ties bodies (suc k) (drop (suc k) slot_entries) (drop (suc k) joints)) in
    let cut : flat_map tie_if_any (joint_ties bodies k (drop k slot_entries) (drop k joints)) ≡ tie_if_any o ++ rest =
    ap (λ ps. flat_map tie_if_any (joint_ties bodies k ps (drop k joints))) first ∙ ap (λ js. flat_map tie_if_any (joint_ties bodies k (get_or slot_entries k d ∷ drop (suc k) slot_entries) js)) second ∙ ap (λ x. tie_if_any x ++ rest) (sym is) in
    rw add-one (ap (λ xs. xs ++ rest) added ∙ append_assoc done (tie_if_any o) rest ∙ ap (λ xs. done ++ xs) (sym cut) ∙ all)

colourless_step : (bodies : List (Option Body)) (slot_entries : List SlotEntry) (joints : List (Option SavedJoint)) (k : ℕ) (d : SlotEntry) (e : Option SavedJoint) → k < length slot_entries → k < length joints
    → are_joints_colourless bodies k (drop k slot_entries) (drop k joints) ≡ (is_colourless (joint_tie bodies k (get_or slot_entries k d) (get_or joints k e)) (joint_colour (get_or joints k e)) && are_joints_colourless bodies (suc k) (drop (suc k) slot_entries) (drop (suc k) joints))
colourless_step bodies slot_entries joints k d e short less =
    let first : drop k slot_entries ≡ get_or slot_entries k d ∷ drop (suc k) slot_entries = drop-cons slot_entries k d short in
    let second : drop k joints ≡ get_or joints k e ∷ drop (suc k) joints = drop-cons joints k e less in
    ap (λ ps. are_joints_colourless bodies k ps (drop k joints)) first ∙ ap (λ js. are_joints_colourless bodies k (get_or slot_entries k d ∷ drop (suc k) slot_entries) js) second

by_true : (t rest whole : Bool) → t ≡ true → (t && rest) ≡ whole → rest ≡ whole
by_true true rest whole h e = e
by_true false rest whole h e = absurd (false≢true h)

by_false : (t rest whole : Bool) → t ≡ false → (t && rest) ≡ whole → false ≡ whole
by_false true rest whole h e = absurd (false≢true (sym h))
by_false false rest whole h e = e

pub colourless_yes : (bodies : List (Option Body)) (slot_entries : List SlotEntry) (joints : List (Option SavedJoint)) (k : ℕ) (d : SlotEntry) (e : Option SavedJoint) (t whole : Bool) → k < length slot_entries → k < length joints
    → t ≡ is_colourless (joint_tie bodies k (get_or slot_entries k d) (get_or joints k e)) (joint_colour (get_or joints k e)) → t ≡ true
    → are_joints_colourless bodies k (drop k slot_entries) (drop k joints) ≡ whole → are_joints_colourless bodies (k + 1) (drop (k + 1) slot_entries) (drop (k + 1) joints) ≡ whole
colourless_yes bodies slot_entries joints k d e t whole short less is h all =
    let rest : Bool = are_joints_colourless bodies (suc k) (drop (suc k) slot_entries) (drop (suc k) joints) in
    rw add-one (by_true t rest whole h (ap (λ x. x && rest) is ∙ sym (colourless_step bodies slot_entries joints k d e short less) ∙ all))

pub colourless_no : (bodies : List (Option Body)) (slot_entries : List SlotEntry) (joints : List (Option SavedJoint)) (k : ℕ) (d : SlotEntry) (e : Option SavedJoint) (t whole : Bool) → k < length slot_entries → k < length joints
    → t ≡ is_colourless (joint_tie bodies k (get_or slot_entries k d) (get_or joints k e)) (joint_colour (get_or joints k e)) → t ≡ false
    → are_joints_colourless bodies k (drop k slot_entries) (drop k joints) ≡ whole → false ≡ whole
colourless_no bodies slot_entries joints k d e t whole short less is h all =
    let rest : Bool = are_joints_colourless bodies (suc k) (drop (suc k) slot_entries) (drop (suc k) joints) in
    by_false t rest whole h (ap (λ x. x && rest) is ∙ sym (colourless_step bodies slot_entries joints k d e short less) ∙ all)
