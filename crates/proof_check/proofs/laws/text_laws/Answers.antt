use Rattle.proof_check.proofs.Spelled.{text-tells, bytes-tell}
use Rattle.proof_check.proofs.laws.text_laws.Goals as goal

pub returns : goal.returns
returns c = record { text = text-tells; bytes = bytes-tell }
