-- Inner: the running form of what is near: the codes of near pairs, by their places in a list.
use Rattle.std.specs.Prelude.{ℕ, suc, ◌+◌, ◌*◌, ◌^◌, cond, List, [], ◌∷◌, ◌++◌}
use Rattle.contacts_base.specs.declared.near.Proxy.{Proxy}
use Rattle.contacts_base.specs.Near.{is_near}

-- the pair of the shapes at places i and j
abbrev pub pair_code : ℕ → ℕ → ℕ
pair_code i j = i * 2 ^ 32 + j

-- the pairs of p, at place i, with those of the list, from place j on, that are near it
abbrev pub near_with : Proxy → ℕ → ℕ → List Proxy → List ℕ
near_with p i j [] = []
near_with p i j (q ∷ qs) = cond (is_near p q) (pair_code i j ∷ near_with p i (suc j) qs) (near_with p i (suc j) qs)

-- all near pairs of the list, whose first shape is at place i
abbrev pub near_from : ℕ → List Proxy → List ℕ
near_from i [] = []
near_from i (p ∷ ps) = near_with p i (suc i) ps ++ near_from (suc i) ps

-- all near pairs, ascending
unfoldable pub near_codes : List Proxy → List ℕ
near_codes ps = near_from 0 ps
