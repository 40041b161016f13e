use Rattle.colour_solver_base.proofs.ContactRows as contact_rows
use Rattle.colour_solver_base.proofs.laws.rows_are_contacts.Goals as goal

pub returns : goal.returns
returns c = contact_rows.rows_are_contacts
