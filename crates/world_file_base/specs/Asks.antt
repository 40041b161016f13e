-- Trusted: What is asked of a saved world, and the first clause that it was found to break.
use Rattle.std.specs.Prelude.{ℕ, Bool, true, false, cond, nat_lt, List, [], ◌∷◌, Option, Some, None}
use Rattle.world_file_base.specs.declared.clause.Clause.{Clause}
use Rattle.world_file_base.specs.declared.clause.Clause.TheVariants.{Form, Limits, Generations, References, FatBoxes, Memberships, Links, Islands, Colours, Momentum}
use Rattle.world_file_base.specs.declared.clause.Broken.{Broken}
use Rattle.world_file_base.specs.declared.clause.Broken.TheVariants as broken
use Rattle.fixed_geom.specs.declared.refusal.Refusal.{Refusal}
use Rattle.fixed_geom.specs.declared.refusal.Refusal.TheVariants.{BadFile, NoMemory}
use Rattle.world_file_base.specs.declared.reader.Reader.{Reader}

-- the place of a clause in the order in which they are asked, from 1
abbrev pub clause_number : Clause → ℕ
clause_number Form = 1
clause_number Limits = 2
clause_number Generations = 3
clause_number References = 4
clause_number FatBoxes = 5
clause_number Memberships = 6
clause_number Links = 7
clause_number Islands = 8
clause_number Colours = 9
clause_number Momentum = 10

-- the first of a clause that is broken and of what was found broken so far
abbrev pub lesser_clause : Clause → Option Clause → Option Clause
lesser_clause clause None = Some clause
lesser_clause clause (Some other) = cond (nat_lt (clause_number clause) (clause_number other)) (Some clause) (Some other)

abbrev pub noted : Clause → Reader → Reader
noted clause reader = record { broken = lesser_clause clause reader.broken }

-- after it was asked whether something holds that a clause wants
abbrev pub asked : Bool → Clause → Reader → Reader
asked true clause reader = reader
asked false clause reader = noted clause reader

-- what a question leaves
abbrev pub Ask : Type 0
Ask = Reader → Reader

-- one question after the other
abbrev pub all_asked : List Ask → Ask
all_asked [] reader = reader
all_asked (ask ∷ asks) reader = all_asked asks (ask reader)

-- nothing was found broken
abbrev pub no_asks : Reader
no_asks = record { broken = None }

-- what is broken among the clauses up to this one
abbrev pub broken_up_to : Clause → Option Clause → Option Clause
broken_up_to last None = None
broken_up_to last (Some clause) = cond (nat_lt (clause_number last) (clause_number clause)) None (Some clause)

-- what a call answers that reads a world
abbrev pub refusal_of : Broken → Refusal
refusal_of broken.NoMemory = NoMemory
refusal_of (broken.Clause clause) = BadFile (clause_number clause)
