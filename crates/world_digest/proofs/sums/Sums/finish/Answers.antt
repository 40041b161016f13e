use Rattle.std.proofs.Common.{[], ◌∙◌}
use Rattle.std.specs.Int.{to_le_bytes, w64}
use Rattle.world_digest.proofs.SumLaws.{of_pieces}
use Rattle.world_digest.proofs.sums.Sums.finish.Goals as goal

pub returns : goal.returns
returns c =
    let one = c.update.ensures [] c.new-hasher.ensures in
    let two = c.update-2.ensures _ one in
    let three = c.update-3.ensures _ two in
    let four = c.update-4.ensures _ three in
    let sums = c.args.self.now in
    c.finalize.ensures _ four
    ∙ of_pieces _ _ _ _ (to_le_bytes w64 sums.first) (to_le_bytes w64 sums.second) (to_le_bytes w64 sums.third) (to_le_bytes w64 sums.fourth)
    (c.as_slice.ensures ∙ c.to_le_bytes.ensures) (c.as_slice-2.ensures ∙ c.to_le_bytes-2.ensures) (c.as_slice-3.ensures ∙ c.to_le_bytes-3.ensures) (c.as_slice-4.ensures ∙ c.to_le_bytes-4.ensures)
