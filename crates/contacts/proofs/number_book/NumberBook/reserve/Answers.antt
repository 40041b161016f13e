use Rattle.std.proofs.Common.{◌≡◌, ◌≤◌, ◌+◌, ℕ, List, Option, length, vec_capacity, refl, ap, arith}
use Rattle.std.proofs.lemmas.Result.{on_ok_weaker}
use Rattle.contacts.specs.declared.number_book.NumberedContact.{NumberedContact}
use Rattle.contacts.specs.declared.number_book.TheConstants.{MAX_CONTACTS}
use Rattle.contacts.proofs.NumberBookLaws.{by_side, free_short, same_book, same_ends}
use Rattle.contacts.proofs.number_book.NumberBook.reserve.Goals as goal

pub overflow_sub-count : goal.overflow_sub-count
overflow_sub-count c = let few = free_short c.args.self.now.contacts.items c.args.self.now.free.items c.requires.free in omega (arith, few, c.len-3.ensures, c.saturating_add-count.ensures, c.len-2.ensures)

pub returns-in_err-reserve-clause-book : goal.returns-in_err-reserve-clause-book
returns-in_err-reserve-clause-book c = same_book c.args.self.now _ (record { contacts = c.reserve.ensures.items; free = refl; ends = same_ends c.args.self.now.ends }) (omega arith) c.requires.ended c.requires

pub returns-in_err-reserve-2-clause-book : goal.returns-in_err-reserve-2-clause-book
returns-in_err-reserve-2-clause-book c =
    let free : length c.reserve-2.new.self.items ≡ length c.args.self.now.free.items = ap (λ (l : List ℕ). length l) c.reserve-2.ensures.items in
    same_book c.args.self.now _ (record { contacts = c.reserve.ensures.items; free = c.reserve-2.ensures.items; ends = same_ends c.args.self.now.ends }) c.reserve-2.ensures.capacity (omega (arith, free, c.requires.ended)) c.requires

pub returns-in_err-reserve-3-clause-book : goal.returns-in_err-reserve-3-clause-book
returns-in_err-reserve-3-clause-book c =
    let free : length c.reserve-2.new.self.items ≡ length c.args.self.now.free.items = ap (λ (l : List ℕ). length l) c.reserve-2.ensures.items in
    same_book c.args.self.now _ (record { contacts = c.reserve.ensures.items; free = c.reserve-2.ensures.items; ends = c.reserve-3.ensures.same }) c.reserve-2.ensures.capacity (omega (arith, free, c.requires.ended)) c.requires

pub returns-clause-room : goal.returns-clause-room
returns-clause-room c =
    let contacts : length c.reserve.new.self.items ≡ length c.args.self.now.contacts.items = ap (λ (l : List (Option NumberedContact)). length l) c.reserve.ensures.items in
    let free : length c.reserve-2.new.self.items ≡ length c.args.self.now.free.items = ap (λ (l : List ℕ). length l) c.reserve-2.ensures.items in
    let long : c.len-2.result ≡ length c.args.self.now.contacts.items = omega (arith, c.len-2.ensures, c.args.self.now.contacts.ok.0) in
    let spare : c.len.result ≡ length c.args.self.now.free.items = omega (arith, c.len.ensures, c.args.self.now.free.ok.0) in
    let also : c.len-3.result ≡ length c.args.self.now.free.items = omega (arith, c.len-3.ensures, c.args.self.now.free.ok.0) in
    let few : c.saturating_add-count.result ≤ MAX_CONTACTS = omega (arith, c.if-count-gt-MAX_CONTACTS.false) in
    let count : c.saturating_add-count.result ≡ c.len-2.result + c.saturating_sub-new.result = omega (arith, c.saturating_add-count.ensures, few) in
    let none : length c.make_room.new.list.items ≡ 0 = ap (λ (l : List ℕ). length l) c.make_room.ensures.empty in
    on_ok_weaker c.make_room.result (λ room.
    let enough : c.args.made ≤ vec_capacity c.make_room.new.list = room in
    record {
      bound = c.saturating_add-count.result;
      few = few;
      within = omega (arith, contacts, long, count);
      left = omega (arith, contacts, free, long, spare, count, c.saturating_sub-new.ensures);
      contacts = omega (arith, count, c.in_ok-reserve.ensures.ok, c.in_ok-reserve.ensures.len, c.len-2.ensures);
      free = omega (arith, count, long, also, c.in_ok-reserve-2.ensures.ok, c.in_ok-reserve-2.ensures.len, c.args.self.now.free.ok.0);
      noted = by_side (λ side. _) c.in_ok-reserve-3.ensures.firsts_noted c.in_ok-reserve-3.ensures.seconds_noted;
      there = by_side (λ side. _) c.in_ok-reserve-3.ensures.firsts c.in_ok-reserve-3.ensures.seconds;
      made = omega (arith, none, enough);
    }) c.make_room.ensures.room

pub returns-clause-book : goal.returns-clause-book
returns-clause-book c =
    let free : length c.reserve-2.new.self.items ≡ length c.args.self.now.free.items = ap (λ (l : List ℕ). length l) c.reserve-2.ensures.items in
    same_book c.args.self.now _ (record { contacts = c.reserve.ensures.items; free = c.reserve-2.ensures.items; ends = c.in_ok-reserve-3.ensures.same }) c.reserve-2.ensures.capacity (omega (arith, free, c.requires.ended)) c.requires
