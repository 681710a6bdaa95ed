use Rattle.bumblebee_reader.proofs.Canonical.{canonical_is_text_lem}
use Rattle.bumblebee_reader.proofs.laws.canonical_is_text.Goals as goal

pub returns : goal.returns
returns c = canonical_is_text_lem
