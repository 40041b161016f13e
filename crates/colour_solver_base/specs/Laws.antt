-- Inner: the rows that the solver makes of contacts say what the definition says of the contacts.
use Rattle.std.specs.Prelude.{◌≡◌, Some}
use Rattle.momenta.specs.declared.state.BodyState.{BodyState}
use Rattle.momenta.specs.declared.state.Ends.{Ends}
use Rattle.contacts_base.specs.declared.contact.Contact.{Contact}
use Rattle.colour_solver_base.specs.declared.row.ContactRow.{ContactRow}
use Rattle.colour_solver_base.specs.declared.row.Bodies.{Bodies}
use Rattle.colour_solver_base.specs.RowsAfter.{RowAfter}
use Rattle.colour_solver_base.specs.Rows.{row_from, row_warmed, row_solved, row_bounced}
use Rattle.colour_solver_base.specs.ContactSolving.{SolvedContact, contact_warmed, contact_solved, contact_bounced}

-- a body of which all but the motion is as it was
pub record IsMovedFrom (s t : BodyState) : Type 0 where
  pub movable : t.movable ≡ s.movable
  pub mass : t.mass ≡ s.mass
  pub start : t.start ≡ s.start
  pub reciprocals : t.reciprocals ≡ s.reciprocals

pub record AreMovedFrom (start e : Ends) : Type 0 where
  pub a : IsMovedFrom start.a e.a
  pub b : IsMovedFrom start.b e.b

-- what the visit of a contact's row has made of the row and its bodies is what s says of the contact and its bodies
pub record IsRowOf (b : Bodies) (start : Ends) (s : SolvedContact) (t : RowAfter ContactRow) : Type 0 where
  pub row : row_from b start s.contact.first s.contact.second ≡ Some t.row
  pub ends : t.ends ≡ s.ends
  pub moved : AreMovedFrom start s.ends

abbrev pub VisitsAlike : (Bodies → Ends → Contact → Ends → SolvedContact) → (ContactRow → Ends → RowAfter ContactRow) → Type 0
VisitsAlike f g = (b : Bodies) (start e : Ends) (c : Contact) (r : ContactRow) → row_from b start c.first c.second ≡ Some r → AreMovedFrom start e → IsRowOf b start (f b start c e) (g r e)

pub record RowsAreContacts : Type 0 where
  pub warm : VisitsAlike (λ b start c e. contact_warmed c e) row_warmed
  pub solve : VisitsAlike (λ b start c e. contact_solved b.friction c e) row_solved
  pub bounce : VisitsAlike (λ b start c e. contact_bounced b.restitution start c e) row_bounced
