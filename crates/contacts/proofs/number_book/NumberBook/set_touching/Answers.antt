use Rattle.std.proofs.Common.{refl, arith}
use Rattle.contacts.proofs.NumberBookLaws.{given_within}
use Rattle.contacts.proofs.NumberPartLaws.{keyed_some, marked_free, same_keys_book, touched_one}
use Rattle.contacts.proofs.number_book.NumberBook.set_touching.Goals as goal

pub index_mut-requires : goal.index_mut-requires
index_mut-requires c =
    let numbered = c.args.self.now.contacts.items in
    let lt = given_within numbered c.in-Some.number (keyed_some numbered c.in-Some.number c.args.key ((c.in-Some.ensures c.in-Some.number).0 refl)) in
    omega (arith, lt, c.args.self.now.contacts.ok.0)

pub returns-in-Some-clause-touched : goal.returns-in-Some-clause-touched
returns-in-Some-clause-touched c = touched_one c.args.key c.args.touching c.in-Some.number c.args.self.now.contacts.items ((c.in-Some.ensures c.in-Some.number).0 refl) c.requires.once

pub returns-in-Some-clause-book : goal.returns-in-Some-clause-book
returns-in-Some-clause-book c =
    let numbered = c.args.self.now.contacts.items in
    let has = (c.in-Some.ensures c.in-Some.number).0 refl in
    let touched = touched_one c.args.key c.args.touching c.in-Some.number numbered has c.requires.once in
    same_keys_book c.args.self.now _ touched.keys touched.long (marked_free numbered c.args.self.now.free.items c.in-Some.number (record { key = c.args.key; touching = c.args.touching }) (keyed_some numbered c.in-Some.number c.args.key has) c.requires.free) refl (omega arith) c.requires.ended c.requires
