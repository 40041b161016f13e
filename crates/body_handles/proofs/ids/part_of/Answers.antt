use Rattle.std.proofs.Common.{◌∙◌, ap, arith}
use Rattle.std.specs.Result.{result_ok}
use Rattle.std.proofs.lemmas.Fmt.{parse-decimal}
use Rattle.body_handles.specs.IdTexts.{IsPadded}
use Rattle.body_handles.proofs.Decimals.{read_is_written, written_is_plain}
use Rattle.body_handles.proofs.ids.part_of.Goals as goal

pub returns-then-is_padded-clause-all : goal.returns-then-is_padded-clause-all
returns-then-is_padded-clause-all c = λ n small is. absurd (written_is_plain c.args.digits.now n small is (c.is_padded.ensures.0 c.if-is_padded.true))

pub returns-clause-read : goal.returns-clause-read
returns-clause-read c =
    let plain : ¬ IsPadded c.args.digits.now = λ padded. let t = c.is_padded.ensures.1 padded in absurd (cc) in
    rw c.ok.ensures.value (read_is_written c.args.digits.now c.parse.result c.parse.ensures.value.0 plain)

pub returns-clause-all : goal.returns-clause-all
returns-clause-all c = λ n small is. c.ok.ensures.value ∙ ap result_ok (parse-decimal 32 n c.args.digits.now c.parse.result small (omega arith) is c.parse.ensures.value.0)
