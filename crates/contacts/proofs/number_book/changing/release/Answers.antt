use Rattle.std.proofs.Common.{arith}
use Rattle.contacts.proofs.NumberBookLaws.{free_fewer, given_within, released}
use Rattle.contacts.proofs.number_book.changing.release.Goals as goal

pub index_mut-requires : goal.index_mut-requires
index_mut-requires c = let lt = given_within c.args.contacts.now.items c.args.number c.requires.given in omega (arith, lt, c.args.contacts.now.ok.0)

pub push_reserved-requires : goal.push_reserved-requires
push_reserved-requires c = let fewer = free_fewer c.args.contacts.now.items c.args.free.now.items c.args.number c.requires.free c.requires.given in omega (arith, fewer, c.requires.room)

pub returns-clause-free : goal.returns-clause-free
returns-clause-free c = rw c.push_reserved.ensures.items (released c.args.contacts.now.items c.args.free.now.items c.args.number c.requires.free c.requires.given)
