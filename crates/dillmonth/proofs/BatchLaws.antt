-- A batch is answered command by command.
use Rattle.std.proofs.Common.{◌≡◌, ℕ, ◌+◌, ◌<◌, List, [], ◌∷◌, ◌++◌, ◌∙◌, add-one, ap, get_or, length, refl, set, subst, sym, take}
use Rattle.std.proofs.Math.Seq.{take-suc}
use Rattle.std.proofs.lemmas.List.{take_more_set}
use Rattle.dillmonth.specs.Batch.{IsAnsweredAs, Ran, command_said}
use Rattle.dillmonth.specs.declared.forms.CAnswer.{CAnswer}
use Rattle.dillmonth.specs.declared.forms.CCommand.{CCommand}
use Rattle.dillmonth.specs.declared.forms.CShape.{CShape}
use Rattle.world_desk.specs.declared.desk.Desk.{Desk}

-- one command at the end of those that were answered
ran_then : (shapes : List CShape) (cs : List CCommand) (said : List CAnswer) (c : CCommand) (a : CAnswer) (old mid new : Desk)
    → Ran shapes cs said old mid → IsAnsweredAs (command_said shapes c) mid a new → Ran shapes (cs ++ c ∷ []) (said ++ a ∷ []) old new
ran_then shapes [] [] c a old mid new same one = (new, subst (λ (w : Desk). IsAnsweredAs (command_said shapes c) w a new) same one, refl)
ran_then shapes [] (b ∷ bs) c a old mid new ran one = absurd ran
ran_then shapes (d ∷ ds) [] c a old mid new ran one = absurd ran
ran_then shapes (d ∷ ds) (b ∷ bs) c a old mid new ran one = (ran.0, ran.1, ran_then shapes ds bs c a ran.0 mid new ran.2 one)

-- the next command of a list, whose answer is put at its place
pub ran_next : (shapes : List CShape) (cs : List CCommand) (said : List CAnswer) (k : ℕ) (c d : CCommand) (a : CAnswer) (old mid new : Desk)
    → k < length cs → k < length said → c ≡ get_or cs k d
    → Ran shapes (take k cs) (take k said) old mid → IsAnsweredAs (command_said shapes c) mid a new
    → Ran shapes (take (k + 1) cs) (take (k + 1) (set said k a)) old new
ran_next shapes cs said k c d a old mid new low room is ran one =
    let commands : take (k + 1) cs ≡ take k cs ++ c ∷ [] = rw add-one (take-suc cs k d low ∙ ap (λ (e : CCommand). take k cs ++ e ∷ []) (sym is)) in
    let answers : take (k + 1) (set said k a) ≡ take k said ++ a ∷ [] = take_more_set said k a room in
    subst (λ (us : List CCommand). Ran shapes us (take (k + 1) (set said k a)) old new) (sym commands)
    (subst (λ (bs : List CAnswer). Ran shapes (take k cs ++ c ∷ []) bs old new) (sym answers) (ran_then shapes (take k cs) (take k said) c a old mid new ran one))

-- all of them
pub ran_through : (shapes : List CShape) (cs : List CCommand) (said : List CAnswer) (k : ℕ) (old new : Desk)
    → take k cs ≡ cs → take k said ≡ said → Ran shapes (take k cs) (take k said) old new → Ran shapes cs said old new
ran_through shapes cs said k old new all each ran = subst (λ (us : List CCommand). Ran shapes us said old new) all (subst (λ (bs : List CAnswer). Ran shapes (take k cs) bs old new) each ran)
