-- Bytes that are taken from the front of a text.
use Rattle.std.proofs.Common.{◌≡◌, ℕ, ◌-◌, ◌++◌, Bool, false, true, true≢false, List, length, take, drop, sym, ap, ◌∙◌, arith}
use Rattle.std.proofs.lemmas.Bool.Decides.{Decides-eqb}
use Rattle.std.proofs.lemmas.List.{length-drop, take_all}
use Rattle.std.proofs.lemmas.Slice.Eq.{starts_is}
use Rattle.std.specs.Cmp.Lexicographic.{pointwise}
use Rattle.std.specs.Prelude.{nat_eq}

module _ (text bytes : List ℕ) (r : Bool) (is : r ≡ pointwise nat_eq bytes (take (length bytes) text)) where
  pub taken : r ≡ true → text ≡ bytes ++ take (length text - length bytes) (drop (length bytes) text)
  taken stands =
      let rest : length (drop (length bytes) text) ≡ length text - length bytes = length-drop (length bytes) text in
      (starts_is Decides-eqb text bytes r is).0 stands ∙ ap (λ l. bytes ++ l) (sym (take_all (length text - length bytes) (drop (length bytes) text) (omega (arith, rest))))

  -- what doesn't stand first
  pub missing : (tail : List ℕ) → r ≡ false → text ≡ bytes ++ tail → ⊥
  missing tail fails stands = true≢false (sym ((starts_is Decides-eqb text bytes r is).1 tail stands) ∙ fails)
