use Rattle.check_parts.proofs.seat_book_seats.two_seats_take_turns.Given as goal

-- the roster that was just made
abbrev pub ghosts-open_two : goal.ghosts-open_two
ghosts-open_two g a = record { table = a.roster.table; seats = a.roster.seats }
