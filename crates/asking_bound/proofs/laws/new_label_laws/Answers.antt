use Rattle.asking_bound.proofs.Replays.{few-new-labels, few-pairs}
use Rattle.asking_bound.proofs.laws.new_label_laws.Goals as goal

pub returns : goal.returns
returns c = record { labels = few-new-labels; pairs = few-pairs }
