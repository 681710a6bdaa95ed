use Rattle.equation_store.proofs.Changes.{merge_labels, merge_changes}
use Rattle.equation_store.proofs.Owners.{merge_takes_one}
use Rattle.equation_store.proofs.laws.change_laws.Goals as goal

pub returns : goal.returns
returns c = record { labels = merge_labels; changes = merge_changes; takes_one = merge_takes_one }
