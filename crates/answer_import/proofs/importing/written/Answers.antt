use Rattle.std.proofs.Common.{subst}
use Rattle.answer_document.specs.declared.verdict.Verdict.{Verdict}
use Rattle.ledger_check.specs.Checked.{IsAnswer}
use Rattle.answer_import.proofs.importing.written.Goals as goal

pub returns-then-is_same : goal.returns-then-is_same
returns-then-is_same c = record {
  adds = c.derives_only.ensures c.if-not-derives_only.false;
  spelled = rw c.as_slice-decls.ensures at c.in_ok-text.ensures;
  answer =
      subst (λ (v : Verdict). IsAnswer c.args.model.now c.in_ok-text.text.items v) (c.is_same.ensures c.if-is_same.true)
      (rw c.as_slice.ensures.value at c.in-Ok.ensures.answer);
}
