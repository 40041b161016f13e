-- Inner: what is asked of the parts of a saved world and of their fitting, one question after another, and what that
-- finds.
use Rattle.std.specs.Prelude.{[], ◌∷◌, codes, is_some, unsigned_abs, ◌≡◌, Option, Some}
use Rattle.std.specs.List.{list_all}
use Rattle.serde_json.specs.Data.{Data}
use Rattle.serde_json.specs.Find.{get}
use Rattle.momenta.specs.declared.limits.TheConstants.{MAX_GRAVITY}
use Rattle.world_file_base.specs.Asks.{Ask, all_asked, asked, no_asks}
use Rattle.world_file_base.specs.Reading.{has_keys, items_in, whole_in}
use Rattle.world_file_base.specs.AskedValues.{list_asks, unsigned_asks, vector_within_asks, whole_asks, totals_asks}
use Rattle.world_file_base.specs.declared.clause.Clause.TheVariants.{Form, Colours, Islands, Links, Memberships, Momentum, References}
use Rattle.world_file_base.specs.AskedContacts.{contacts_asks}
use Rattle.world_file_base.specs.AskedSlots.{bodies_asks, joints_asks, slots_asks}
use Rattle.world_file_base.specs.declared.clause.Broken.{Broken}
use Rattle.world_file_base.specs.declared.clause.Broken.TheVariants as broken
use Rattle.world_file_base.specs.declared.clause.Clause.{Clause}
use Rattle.world_file.specs.Saved.{version_of, version_in, most_calls, calls_in, slow_ticks, Saved, saved_in}
use Rattle.world_file.specs.Fitting.{references_keep, ties_read, members_among, are_named_well, is_tie_kept, components_of, are_whole, colours_keep, momentum_keeps}
use Rattle.world_file.specs.Clauses.{first_broken}
use Rattle.sleep_wake.specs.Acting.{links_of}

abbrev pub heads_asks : Data → Ask
heads_asks d = all_asked (
    asked (has_keys 8 d) Form
    ∷ whole_asks (get (codes "version") d)
    ∷ asked (is_some (version_of (whole_in (get (codes "version") d)))) Form
    ∷ vector_within_asks (unsigned_abs MAX_GRAVITY) (get (codes "gravity") d)
    ∷ unsigned_asks most_calls (get (codes "call") d)
    ∷ unsigned_asks (calls_in d) (get (codes "step") d)
    ∷ totals_asks (get (codes "ledger") d)
    ∷ [])

abbrev pub parts_asks : Data → Ask
parts_asks d = all_asked (
    heads_asks d
    ∷ slots_asks (version_in d) (get (codes "bodies") d)
    ∷ bodies_asks (slow_ticks d) (items_in (get (codes "bodies") d))
    ∷ slots_asks (version_in d) (get (codes "joints") d)
    ∷ joints_asks (version_in d) (items_in (get (codes "joints") d))
    ∷ list_asks (get (codes "contacts") d)
    ∷ contacts_asks (version_in d) (items_in (get (codes "contacts") d))
    ∷ [])

abbrev pub fitting_asks : Saved → Ask
fitting_asks s = all_asked (
    asked (references_keep s) References
    ∷ asked (are_named_well s.memberships 0 s.memberships) Memberships
    ∷ asked (list_all (is_tie_kept s.memberships) (ties_read s)) Links
    ∷ asked (are_whole (components_of s.memberships (links_of (members_among (ties_read s)))) 0 s.memberships) Islands
    ∷ asked (colours_keep s) Colours
    ∷ asked (momentum_keeps s) Momentum
    ∷ [])

-- what is asked of the whole, once joints and contacts are of what is there
abbrev pub others_asks : Saved → Ask
others_asks s = all_asked (
    asked (are_named_well s.memberships 0 s.memberships) Memberships
    ∷ asked (list_all (is_tie_kept s.memberships) (ties_read s)) Links
    ∷ asked (are_whole (components_of s.memberships (links_of (members_among (ties_read s)))) 0 s.memberships) Islands
    ∷ asked (colours_keep s) Colours
    ∷ asked (momentum_keeps s) Momentum
    ∷ [])

-- what the questions find broken that are asked of a value: those of its parts one after the other, and then those of
-- the whole
abbrev pub found_broken : Data → Option Clause
found_broken d = (fitting_asks (saved_in d) (parts_asks d no_asks)).broken

-- want of memory, or the clause that is to be refused
abbrev pub IsBrokenBy : Option Clause → Broken → Type 0
IsBrokenBy due broken.NoMemory = Unit {0}
IsBrokenBy due (broken.Clause clause) = due ≡ Some clause

-- The questions that a reading asks, one after the other, find the first clause that the value breaks.
abbrev pub AskingFindsTheFirst : Type 0
AskingFindsTheFirst = (d : Data) → found_broken d ≡ first_broken d
