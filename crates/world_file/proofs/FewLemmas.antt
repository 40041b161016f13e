-- What is known of a saved world of which no clause up to that of the generations is broken: how many slots it has.
use Rattle.std.proofs.Common.{◌≡◌, ℕ, suc, ◌<◌, ◌≤◌, ◌^◌, ◌&&◌, Bool, true, false, cond, List, length, Option, Some, None, refl, sym, ap, ◌∙◌, arith, nat_lt}
use Rattle.std.specs.Prelude.{codes, nat_le, unsigned_abs}
use Rattle.std.proofs.lemmas.Option.{none-some}
use Rattle.serde_json.specs.Data.{Data, Items, no_items, item}
use Rattle.serde_json.specs.Events.{items_len}
use Rattle.serde_json.specs.Find.{get}
use Rattle.momenta.specs.declared.limits.TheConstants.{MAX_GRAVITY}
use Rattle.world_file_base.specs.Asks.{clause_number, broken_up_to, no_asks}
use Rattle.world_file_base.specs.Reading.{items_in}
use Rattle.world_file_base.specs.declared.clause.Clause.{Clause}
use Rattle.world_file_base.specs.declared.clause.Clause.TheVariants.{Generations}
use Rattle.world_file_base.specs.declared.reader.Reader.{Reader}
use Rattle.world_file_base.specs.SavedSlots.{joint_key, memberships_in, slot_entries_in}
use Rattle.world_file_base.specs.Versions.{most_slots}
use Rattle.world_file_base.specs.declared.version.Version.{Version}
use Rattle.world_file_base.specs.declared.version.Version.TheVariants.{First, Second}
use Rattle.world_file.specs.Saved.{Saved, saved_in, version_in}
use Rattle.world_file.specs.AskedParts.{parts_asks}
use Rattle.world_file.specs.SavedLimits.{are_few_slots, is_in_limits, is_vector_within}
use Rattle.world_file.proofs.ClauseTests.{says_parts}
use Rattle.world_file.proofs.TestLaws.{IsClear}
use Rattle.world_file.proofs.Tests.{at_most, below, both_true}

clear_by : (clause : Clause) (t : Bool) → nat_lt 3 (clause_number clause) ≡ t → cond t None (Some clause) ≡ None → 3 < clause_number clause
clear_by clause true e none = below 3 (clause_number clause) e
clear_by clause false e none = absurd (none-some clause (sym none))

-- no clause up to that of the generations was found broken, if none is broken up to there
clear_up_to : (o : Option Clause) → broken_up_to Generations o ≡ None → IsClear 3 o
clear_up_to None none = tt
clear_up_to (Some clause) none = clear_by clause (nat_lt 3 (clause_number clause)) refl none

-- so the second is kept
kept_limits : (d : Data) → broken_up_to Generations (parts_asks d no_asks).broken ≡ None → is_in_limits d ≡ true
kept_limits d none = ((says_parts d).establishes 3 no_asks (clear_up_to (parts_asks d no_asks).broken none)).0.1.0

few_told : (gravity call step ledger bodies each joints all contacts : Bool) → (gravity && call && step && ledger && bodies && each && joints && all && contacts) ≡ true → (bodies ≡ true) × (joints ≡ true)
few_told gravity call step ledger bodies each joints all contacts h =
    let one = both_true (gravity && call && step && ledger && bodies && each && joints && all) contacts h in
    let two = both_true (gravity && call && step && ledger && bodies && each && joints) all one.0 in
    let three = both_true (gravity && call && step && ledger && bodies && each) joints two.0 in
    let four = both_true (gravity && call && step && ledger && bodies) each three.0 in
    let five = both_true (gravity && call && step && ledger) bodies four.0 in
    (five.1, three.1)

few_lists : (d : Data) → is_in_limits d ≡ true → (are_few_slots (version_in d) (get (codes "bodies") d) ≡ true) × (are_few_slots (version_in d) (get (codes "joints") d) ≡ true)
unfolding is_in_limits
few_lists d h = few_told (is_vector_within (unsigned_abs MAX_GRAVITY) (get (codes "gravity") d)) _ _ _ _ _ _ _ _ h

few_of : (version : Version) (n : ℕ) → nat_le n (most_slots version) ≡ true → n ≤ 2 ^ 32
few_of First n h = let le : n ≤ 16384 = at_most n 16384 h in omega arith
few_of Second n h = let le : n ≤ 65536 = at_most n 65536 h in omega arith

bodies_few : (d : Data) → broken_up_to Generations (parts_asks d no_asks).broken ≡ None → items_len (items_in (get (codes "bodies") d)) ≤ 2 ^ 32
bodies_few d none = few_of (version_in d) (items_len (items_in (get (codes "bodies") d))) (few_lists d (kept_limits d none)).0

joints_few : (d : Data) → broken_up_to Generations (parts_asks d no_asks).broken ≡ None → items_len (items_in (get (codes "joints") d)) ≤ 2 ^ 32
joints_few d none = few_of (version_in d) (items_len (items_in (get (codes "joints") d))) (few_lists d (kept_limits d none)).1

pub length-memberships : (ds : Items) → length (memberships_in ds) ≡ items_len ds
length-memberships no_items = refl
length-memberships (item d ds) = ap suc (length-memberships ds)

pub length-slot_entries : (key : List ℕ) (ds : Items) → length (slot_entries_in key ds) ≡ items_len ds
length-slot_entries key no_items = refl
length-slot_entries key (item d ds) = ap suc (length-slot_entries key ds)

-- what was read has few slots, if the reading goes on
pub few_memberships : (d : Data) (s : Saved) (r start : Reader) → s ≡ saved_in d → r ≡ parts_asks d start → start ≡ no_asks → broken_up_to Generations r.broken ≡ None → length s.memberships ≤ 2 ^ 32
few_memberships d s r start is asks fresh none =
    let same : r ≡ parts_asks d no_asks = asks ∙ ap (λ (q : Reader). parts_asks d q) fresh in
    let early : broken_up_to Generations (parts_asks d no_asks).broken ≡ None = ap (λ (q : Reader). broken_up_to Generations q.broken) (sym same) ∙ none in
    let size : length s.memberships ≡ items_len (items_in (get (codes "bodies") d)) = ap (λ (x : Saved). length x.memberships) is ∙ length-memberships (items_in (get (codes "bodies") d)) in
    rw size (bodies_few d early)

pub few_joints : (d : Data) (s : Saved) (r start : Reader) → s ≡ saved_in d → r ≡ parts_asks d start → start ≡ no_asks → broken_up_to Generations r.broken ≡ None → length s.joint_entries ≤ 2 ^ 32
few_joints d s r start is asks fresh none =
    let same : r ≡ parts_asks d no_asks = asks ∙ ap (λ (q : Reader). parts_asks d q) fresh in
    let early : broken_up_to Generations (parts_asks d no_asks).broken ≡ None = ap (λ (q : Reader). broken_up_to Generations q.broken) (sym same) ∙ none in
    let size : length s.joint_entries ≡ items_len (items_in (get (codes "joints") d)) = ap (λ (x : Saved). length x.joint_entries) is ∙ length-slot_entries joint_key (items_in (get (codes "joints") d)) in
    rw size (joints_few d early)
