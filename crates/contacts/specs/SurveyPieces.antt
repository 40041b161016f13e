-- A look over contacts in pieces: what becomes of the contact at a place, what a piece answers, and the answers of all as
-- one.
use Rattle.std.specs.Prelude.{◌≡◌, ◌≤◌, ℕ, Bool, cond, List, [], ◌++◌, Option, None, Some, vec_capacity}
use Rattle.std.specs.List.{filter_map, flat_map}
use Rattle.contacts_base.specs.declared.near.Proxy.{Proxy}
use Rattle.contacts_base.specs.declared.contact.ContactEntry.{ContactEntry}
use Rattle.contacts_base.specs.Split.{Split, counting_at}
use Rattle.contacts_base.specs.declared.body_pair.BodyPair.{BodyPair}
use Rattle.contacts.specs.declared.fates.Fate.{Fate}
use Rattle.contacts.specs.declared.fates.Fate.TheVariants.{Stays, Goes, Renewed}
use Rattle.contacts.specs.Known.{again, stays}
use Rattle.contacts.specs.Fates.{noted, one_stirs_of}
use Rattle.contacts.specs.Looked.{begun_of, ended_of, ending}
use Rattle.contacts.specs.declared.survey.Looked.{Looked}
use Rattle.contacts.specs.SurveyValues.{Looks}

-- what becomes of a contact: it goes, or is evaluated anew where one of its bodies stirs, or stays as it is
abbrev pub fate_of : (ℕ → Bool) → List BodyPair → List Proxy → ContactEntry → Fate
fate_of moved pairs ps e = cond (stays moved pairs ps e) (cond (one_stirs_of ps e.key) (Renewed (again ps e).contact) Stays) Goes

-- where there is none that counts, nothing happens
abbrev pub fate_if : (ℕ → Bool) → List BodyPair → List Proxy → Option ContactEntry → Fate
fate_if moved pairs ps None = Stays
fate_if moved pairs ps (Some e) = fate_of moved pairs ps e

abbrev pub fate_at : (ℕ → Bool) → List BodyPair → List Proxy → Split → ℕ → Fate
fate_at moved pairs ps s place = fate_if moved pairs ps (counting_at s place)

-- what becomes of the contacts at these places
abbrev pub looks_of : (ℕ → Bool) → List BodyPair → List Proxy → Split → List ℕ → Looks
looks_of moved pairs ps s places = record {
  notes = flat_map (λ (k : ℕ). noted k (fate_at moved pairs ps s k)) places;
  ends = flat_map (λ (k : ℕ). ending k (fate_at moved pairs ps s k)) places;
  begin = filter_map (λ (k : ℕ). begun_of (counting_at s k) (fate_at moved pairs ps s k)) places;
  end = filter_map (λ (k : ℕ). ended_of (counting_at s k) (fate_at moved pairs ps s k)) places;
}

abbrev pub both_looks : Looks → Looks → Looks
both_looks a b = record { notes = a.notes ++ b.notes; ends = a.ends ++ b.ends; begin = a.begin ++ b.begin; end = a.end ++ b.end }

-- the answers of pieces, one behind the other
abbrev pub joined_looks : List Looks → Looks
joined_looks ls = record {
  notes = flat_map (λ (l : Looks). l.notes) ls;
  ends = flat_map (λ (l : Looks). l.ends) ls;
  begin = flat_map (λ (l : Looks). l.begin) ls;
  end = flat_map (λ (l : Looks). l.end) ls;
}

-- what is seen of lists
abbrev pub shown_looks : Looked → Looks
shown_looks l = record { notes = l.notes.items; ends = l.ends.items; begin = l.begin.items; end = l.end.items }

-- nothing is in the lists, and there is room for what becomes of the contacts at so many places
pub record IsLookRoomFor (count : ℕ) (l : Looked) : Type 0 where
  pub no_notes : l.notes.items ≡ []
  pub no_ends : l.ends.items ≡ []
  pub no_begin : l.begin.items ≡ []
  pub no_end : l.end.items ≡ []
  pub notes : count ≤ vec_capacity l.notes
  pub ends : count ≤ vec_capacity l.ends
  pub begin : count ≤ vec_capacity l.begin
  pub end : count ≤ vec_capacity l.end
