use Rattle.std.proofs.Common.{◌∙◌, ap, map, codes, ◌++◌}
use Rattle.bee_text.specs.Lines.{join_lines}
use Rattle.ledger_text.specs.Steps.{step_text}
use Rattle.proof_check.specs.Lines.{line_bytes}
use Rattle.answer_document.specs.DocumentText.{second_lines}
use Rattle.answer_document.proofs.WrittenLines.{certificate-written}
use Rattle.answer_document.proofs.write.push_certificate.Goals as goal

pub returns : goal.returns
returns c =
    let d = c.args.document.now in
    certificate-written c.args.out.now.items c.push_bytes.new.out.items c.push_ledger.new.out.items c.push_bytes-2.new.out.items c.push_proof.new.out.items _ (codes "ledger") (codes "proof")
    (map step_text d.ledger) (map line_bytes d.proof) (second_lines d.second)
    c.in_ok-push_bytes.ensures.ok
    (c.in_ok-push_ledger.ensures ∙ ap (λ l. c.push_bytes.new.out.items ++ join_lines (map step_text l)) c.as_slice.ensures)
    c.in_ok-push_bytes-2.ensures.ok
    (c.in_ok-push_proof.ensures ∙ ap (λ l. c.push_bytes-2.new.out.items ++ join_lines (map line_bytes l)) c.as_slice-2.ensures)
    c.in_ok-push_second.ensures
