use Rattle.model_decode.proofs.Solutions.{decoding}
use Rattle.model_decode.proofs.laws.decoding_law.Goals as goal

pub returns : goal.returns
returns g c = decoding g.F.Oracle.told
