use Rattle.std.proofs.Common.{arith, ap, ◌∙◌, List, ℕ, length}
use Rattle.std.proofs.lemmas.List.{length_push}
use Rattle.contacts.specs.declared.ends.Side.TheVariants.{First, Second}
use Rattle.contacts.proofs.NumberBookLaws.{by_side, is_made, made_book, none_absent, number_noted, slot_there, taken_within}
use Rattle.contacts.proofs.number_book.NumberBook.make.Goals as goal

pub put-requires-clause-first : goal.put-requires-clause-first
put-requires-clause-first c = slot_there First c.args.contact c.args.self.now c.requires.can.room

pub put-requires-clause-second : goal.put-requires-clause-second
put-requires-clause-second c = slot_there Second c.args.contact c.args.self.now c.requires.can.room

pub put-requires-clause-first_noted : goal.put-requires-clause-first_noted
put-requires-clause-first_noted c = let e = c.take-number.ensures in let r = c.requires.can.room in number_noted First c.args.self.now r.slots _ c.take-number.result r.room e.least e.most e.within

pub put-requires-clause-second_noted : goal.put-requires-clause-second_noted
put-requires-clause-second_noted c = let e = c.take-number.ensures in let r = c.requires.can.room in number_noted Second c.args.self.now r.slots _ c.take-number.result r.room e.least e.most e.within

pub put-requires-clause-first_absent : goal.put-requires-clause-first_absent
put-requires-clause-first_absent c = none_absent First c.args.self.now.contacts.items c.args.self.now.ends.firsts.sets c.take-number.result (c.requires.book.ends First) c.take-number.ensures.was

pub put-requires-clause-second_absent : goal.put-requires-clause-second_absent
put-requires-clause-second_absent c = none_absent Second c.args.self.now.contacts.items c.args.self.now.ends.seconds.sets c.take-number.result (c.requires.book.ends Second) c.take-number.ensures.was

pub returns-clause-made : goal.returns-clause-made
returns-clause-made c =
    let e = c.take-number.ensures in
    is_made c.args.contact c.take-number.result c.args.self.now _ (record { was = e.was; now = e.now; others = e.others }) (record {
      count = e.count;
      least = e.least;
      most = e.most;
      contacts = e.capacity;
      free = e.free_capacity;
      ids = by_side (λ side. _) c.put.ensures.first_ids c.put.ensures.second_ids;
      sets = by_side (λ side. _) c.put.ensures.first_sets c.put.ensures.second_sets;
      made = ap (λ (l : List ℕ). length l) c.push_reserved.ensures.items ∙ length_push c.args.self.now.made.items c.take-number.result;
      made_room = c.push_reserved.ensures.capacity;
    }) c.push_reserved.ensures.items (omega (arith, c.len-self.ensures, c.take-number.new.free.ok.0))

pub returns-clause-book : goal.returns-clause-book
returns-clause-book c =
    let e = c.take-number.ensures in
    let r = c.requires.can.room in
    let le = taken_within c.args.self.now r.slots _ r.room e.least e.most in
    made_book c.args.contact c.take-number.result c.args.self.now _ (record { was = e.was; now = e.now; others = e.others }) c.requires.can.absent c.put.ensures.firsts c.put.ensures.seconds
    (omega (arith, le, r.room.free, e.free_capacity)) e.free (omega (arith, c.len-self.ensures, c.take-number.new.free.ok.0)) c.requires.book
