use Rattle.std.proofs.Common.{refl}
use Rattle.contacts.proofs.HeldLaws.{held_again}
use Rattle.contacts.proofs.by_marks.make_by_marks.Goals as goal

pub returns-in_err-look_over_by-clause-held : goal.returns-in_err-look_over_by-clause-held
returns-in_err-look_over_by-clause-held g c = held_again c.find_fresh.new.memory.stirring _ _ _ refl refl refl c.look_over_by.ensures.places c.look_over_by.ensures.contacts c.find_fresh.ensures.held

pub returns-clause-held : goal.returns-clause-held
returns-clause-held g c = held_again c.find_fresh.new.memory.stirring _ _ _ refl refl refl c.look_over_by.ensures.places c.look_over_by.ensures.contacts c.find_fresh.ensures.held
