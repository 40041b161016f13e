-- Leaves that stand in a text.
use Rattle.std.proofs.Common.{◌≡◌, ℕ, ◌^◌, ◌<◌, ◌++◌, ◌∷◌, [], true, List, Option, Some, None, IfSome, ℤ, pos, negsuc, refl, sym, ap, ◌∙◌, arith, append_assoc, decimal, lt-ltb}
use Rattle.body_handles.specs.IdTexts.{id_text}
use Rattle.body_handles.specs.declared.handle.Handle.{Handle}
use Rattle.json.specs.Print.{escape}
use Rattle.loaded_text.proofs.Plain.{escape_both, escape_decimal, escape_plain}
use Rattle.loaded_text.specs.Leads.{IsSigned, Leads}
use Rattle.saved_text.specs.Whole.{is_whole}
use Rattle.serde_json.specs.Data.{depth}
use Rattle.world_file_base.specs.Written.{id_of, integer, natural, natural_or_null}
use Rattle.loaded_text.specs.Stands.{Stands}

pub natural_stands : (lead : List ℕ) (n : ℕ) (a b : List ℕ) → n < 2 ^ 64 → Leads lead (natural n) a b → Stands lead (natural n) a b
natural_stands lead n a b small is = record { text_is = is; whole = lt-ltb n (2 ^ 64) small }

integer_whole : (z : ℤ) → IsSigned z → is_whole (integer z) ≡ true
integer_whole (pos n) small = lt-ltb n (2 ^ 64) (omega (arith, small))
integer_whole (negsuc n) small = lt-ltb n (2 ^ 63) (omega (arith, small))

pub integer_stands : (lead : List ℕ) (z : ℤ) (a b : List ℕ) → IsSigned z → Leads lead (integer z) a b → Stands lead (integer z) a b
integer_stands lead z a b small is = record { text_is = is; whole = integer_whole z small }

pub or_null_depth : (o : Option ℕ) → depth (natural_or_null o) ≡ 0
or_null_depth None = refl
or_null_depth (Some n) = refl

id_plain : (h : Handle) → h.slot < 2 ^ 32 → h.generation < 2 ^ 32 → escape (id_text h) ≡ id_text h
id_plain h slot generation =
    escape_both (decimal h.slot) (46 ∷ decimal h.generation) (escape_decimal h.slot (omega (arith, slot)))
    (escape_both (46 ∷ []) (decimal h.generation) (escape_plain 46 (λ e. omega (arith, e)) (λ e. omega (arith, e)) (omega arith)) (escape_decimal h.generation (omega (arith, generation))))

-- an id between quotes
pub id_stands : (lead : List ℕ) (h : Handle) (a b c d e : List ℕ) → h.slot < 2 ^ 32 → h.generation < 2 ^ 32 → a ≡ lead ++ b → Stands (34 ∷ []) (natural h.slot) b c → Stands (46 ∷ []) (natural h.generation) c d → d ≡ 34 ∷ e → Stands lead (id_of h) a e
id_stands lead h a b c d e slot generation before first second close =
    let one = decimal h.slot in
    let two = decimal h.generation in
    let inner : b ≡ 34 ∷ (id_text h ++ (34 ∷ e)) =
    first.text_is ∙ ap (λ l. 34 ∷ (one ++ l)) (second.text_is ∙ ap (λ l. 46 ∷ (two ++ l)) close) ∙ ap (λ l. 34 ∷ l) (sym (append_assoc one (46 ∷ two) (34 ∷ e))) in
    record {
      text_is =
          before ∙ ap (λ l. lead ++ l)
          (inner ∙ ap (λ l. 34 ∷ l) (sym (append_assoc (id_text h) (34 ∷ []) e) ∙ ap (λ t. (t ++ (34 ∷ [])) ++ e) (sym (id_plain h slot generation))));
      whole = refl;
    }

-- ---- what is handed on

pub if_some : {A : Type 0} {P Q : A → Type 0} (o : Option A) → ((a : A) → P a → Q a) → IfSome o P → IfSome o Q
if_some None f p = tt
if_some (Some a) f p = f a p

pub if_both : {A : Type 0} {P Q R : A → Type 0} (o : Option A) → ((a : A) → P a → Q a → R a) → IfSome o P → IfSome o Q → IfSome o R
if_both None f p q = tt
if_both (Some a) f p q = f a p q
