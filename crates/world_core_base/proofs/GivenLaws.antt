-- Rows give their contacts their impulses back, one after the other.
use Rattle.std.proofs.Common.{◌≡◌, ℕ, suc, ◌+◌, ◌<◌, ◌≤◌, List, ◌∷◌, length, drop, get_or, sym, ap, ◌∙◌, add-one}
use Rattle.std.proofs.lemmas.List.{drop_all}
use Rattle.std.proofs.Math.Seq.{drop-cons}
use Rattle.colour_solver_base.specs.declared.row.ContactRow.{ContactRow}
use Rattle.contacts_base.specs.declared.contact.ContactEntry.{ContactEntry}
use Rattle.world_core_base.specs.Gather.{put_row, with_rows}

-- the next row has given its own
pub next_given : (rows : List ContactRow) (k : ℕ) (r d : ContactRow) (now new whole : List ContactEntry) → k < length rows → r ≡ get_or rows k d → new ≡ put_row r now → with_rows now (drop k rows) ≡ whole → with_rows new (drop (k + 1) rows) ≡ whole
next_given rows k r d now new whole lt is given so =
    let head : drop k rows ≡ r ∷ drop (suc k) rows = drop-cons rows k d lt ∙ ap (λ (x : ContactRow). x ∷ drop (suc k) rows) (sym is) in
    rw add-one (ap (λ (es : List ContactEntry). with_rows es (drop (suc k) rows)) given ∙ ap (with_rows now) (sym head) ∙ so)

-- all have
pub all_given : (rows : List ContactRow) (k : ℕ) (now whole : List ContactEntry) → length rows ≤ k → with_rows now (drop k rows) ≡ whole → now ≡ whole
all_given rows k now whole past so = ap (with_rows now) (sym (drop_all k rows past)) ∙ so
