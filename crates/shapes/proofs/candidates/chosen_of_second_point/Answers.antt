use Rattle.std.proofs.Common.{◌≡◌, true, pos, int_lt, ◌+ℤ◌, [], ◌∷◌, ◌∙◌, rules}
use Rattle.std.proofs.lemmas.Int.{to_z-of_z}
use Rattle.std.proofs.lemmas.List.Elements.{All-nil, All-cons}
use Rattle.std.specs.Int.{w64}
use mir.Val.{SFits}
use Rattle.fixed_geom.specs.Vectors.{span, minus}
use Rattle.shapes.specs.Spots.{of_a, of_b}
use Rattle.shapes.specs.PointsWithin.{IsCandidate}
use Rattle.shapes.proofs.PointLemmas.{alone_at, last_alone, beyond_second}
use Rattle.shapes.proofs.candidates.chosen_of_second_point.Goals as goal

pub returns-then-are_beyond-clause-value : goal.returns-then-are_beyond-clause-value
returns-then-are_beyond-clause-value c =
    let s = c.args.pair.now in
    let fits : SFits w64 c.of_b-near.result.dist = search rules in
    let first : int_lt (c.of_b-near.result.dist +ℤ pos 20972) (span (minus c.args.pair.now.b.p c.args.pair.now.a.p)) ≡ true = simp to_z-of_z at (c.are_beyond.ensures.first c.if-are_beyond.true) in
    let second : int_lt (c.of_b-near.result.dist +ℤ pos 20972) (span (minus c.args.pair.now.b.p c.args.pair.now.a.q)) ≡ true = simp to_z-of_z at (c.are_beyond.ensures.second c.if-are_beyond.true) in
    c.alone.ensures.value ∙ alone_at s c.of_b-near.ensures.value
    ∙ last_alone s (of_a s 0 s.a.p) (of_a s 1 s.a.q) (of_b s 2 s.b.p)
    (beyond_second s c.of_b-near.result 0 s.a.p c.requires.second c.of_b-near.ensures.value first)
    (beyond_second s c.of_b-near.result 1 s.a.q c.requires.second c.of_b-near.ensures.value second)

pub chosen_from-requires-clause-rest : goal.chosen_from-requires-clause-rest
chosen_from-requires-clause-rest c = All-cons IsCandidate c.of_a.result (c.of_b-near.result ∷ []) c.of_a.ensures.candidate (All-cons IsCandidate c.of_b-near.result [] c.of_b-near.ensures.candidate (All-nil IsCandidate))
