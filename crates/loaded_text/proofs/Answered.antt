-- What is answered.
use Rattle.std.proofs.Common.{◌≡◌, ℕ, ◌++◌, ◌∷◌, List, Option, None, Some, IfNone, IfSome, IsSome, true≢false, refl, sym, ap, ◌∙◌, arith}
use Rattle.serde_json.specs.Written.{compact_text}
use Rattle.loaded_text.specs.Leads.{IsUnsignedIfAny}
use Rattle.world_file_base.specs.Written.{natural_or_null}
use Rattle.loaded_text.proofs.Unique.{is_no_number, other_first}

pub if_nothing : {A : Type 0} (o : Option A) (P : Type 0) → ((a : A) → o ≡ Some a → ⊥) → IfNone o P → P
if_nothing None P never holds = holds
if_nothing (Some a) P never holds = absurd (never a refl)

pub is_answered : {A : Type 0} (o : Option A) (value : A) → IfSome o (λ a. a ≡ value) → IsSome o → o ≡ Some value
is_answered None value is some = absurd (true≢false (sym some))
is_answered (Some a) value is some = ap Some is

pub null_read : (o : Option ℕ) (text rest tail : List ℕ) → IsUnsignedIfAny o → text ≡ 110 ∷ 117 ∷ 108 ∷ 108 ∷ rest → text ≡ compact_text (natural_or_null o) ++ tail → (Some None ≡ Some o) × (rest ≡ tail)
null_read None text rest tail range begun is =
    let same : 110 ∷ 117 ∷ 108 ∷ 108 ∷ rest ≡ 110 ∷ 117 ∷ 108 ∷ 108 ∷ tail = sym begun ∙ is in
    (refl, cc)
null_read (Some n) text rest tail range begun is = absurd (is_no_number n text tail (omega (arith, range)) (other_first 110 text _ begun refl) is)
