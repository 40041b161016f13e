use Rattle.packed_sets.specs.Packs.{list_at}
use Rattle.packed_sets.proofs.WalkLaws.{count_left}
use Rattle.contacts.proofs.NumberWalkLaws.{IsSeeking}
use Rattle.contacts.proofs.number_book.NumberBook.number_of.Given as goal

abbrev pub invariant-loop-first : goal.invariant-loop-first
invariant-loop-first l = IsSeeking l.self.contacts.items l.key (list_at l.self.ends.firsts.sets l.key.first.slot) l.first × IsSeeking l.self.contacts.items l.key (list_at l.self.ends.seconds.sets l.key.second.slot) l.second

abbrev pub decreases-loop-first : goal.decreases-loop-first
decreases-loop-first l = count_left (list_at l.self.ends.firsts.sets l.key.first.slot) l.first
