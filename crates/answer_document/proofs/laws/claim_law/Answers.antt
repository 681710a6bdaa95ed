use Rattle.answer_document.proofs.ClaimLaws.{claim_law}
use Rattle.answer_document.proofs.laws.claim_law.Goals as goal

pub returns : goal.returns
returns c = claim_law
