use Rattle.std.proofs.Common.{codes}
use Rattle.answer_document.specs.Verdicts.{verdict_text}
use Rattle.answer_document.specs.DocumentText.{version_line, best_lines, assignment_lines, certificate_of}
use Rattle.answer_document.proofs.WrittenLines.{document-written}
use Rattle.answer_document.proofs.write.push_document.Goals as goal

pub returns : goal.returns
returns c =
    let d = c.args.document.now in
    document-written c.args.out.now.items c.push_head.new.out.items c.push_assignment.new.out.items c.push_certified.new.out.items _ (codes "end") (version_line c.args.goal) (verdict_text d.verdict)
    (best_lines d.verdict) (assignment_lines c.args.decls.now d.assignment) (certificate_of d)
    c.in_ok-push_head.ensures c.in_ok-push_assignment.ensures c.in_ok-push_certified.ensures c.in_ok-push_bytes.ensures.ok
