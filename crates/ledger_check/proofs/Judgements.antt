-- A judgement that is valid has one verdict.
use Rattle.std.proofs.Common.{◌≡◌, sym, ap, ◌∙◌}
use Rattle.answer_document.specs.declared.verdict.Verdict.{Verdict}
use Rattle.ledger_check.specs.declared.checking.Judgement.{Judgement}
use Rattle.ledger_check.specs.declared.checking.Judgement.TheVariants as judged

-- the verdict of a judgement, or another where it has none
abbrev verdict_in : Verdict → Judgement → Verdict
verdict_in other (judged.Valid v) = v
verdict_in other (judged.Refused line why) = other

pub same-verdict : (v w : Verdict) (j : Judgement) → j ≡ judged.Valid v → j ≡ judged.Valid w → v ≡ w
same-verdict v w j e f = ap (verdict_in v) (sym e ∙ f)
