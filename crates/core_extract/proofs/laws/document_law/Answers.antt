use Rattle.core_extract.proofs.Claimed.{document-claims}
use Rattle.core_extract.proofs.laws.document_law.Goals as goal

pub returns : goal.returns
returns c = document-claims
