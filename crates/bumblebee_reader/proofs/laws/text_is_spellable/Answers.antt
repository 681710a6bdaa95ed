use Rattle.bumblebee_reader.proofs.Shapes.{text_is_spellable_lem}
use Rattle.bumblebee_reader.proofs.laws.text_is_spellable.Goals as goal

pub returns : goal.returns
returns c = text_is_spellable_lem
