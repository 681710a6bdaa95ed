use Rattle.drup_check.proofs.Proved.{none_where_proved, none_of_text}
use Rattle.drup_check.proofs.laws.proved_laws.Goals as goal

pub returns : goal.returns
returns c = record { none = none_where_proved; text = none_of_text }
