use Rattle.order_ints.proofs.Labels.{length-own_labels, label_of-old, IsLabel-more, label_of-added, resolve-more, MeetsView-more, IsLabelled-more}
use Rattle.order_ints.proofs.label_laws.own_labels_law.Goals as goal

pub returns : goal.returns
returns c = record {
  count = length-own_labels;
  old = label_of-old;
  stay = IsLabel-more;
  added = label_of-added;
  resolves = resolve-more;
  met = MeetsView-more;
  labelled = IsLabelled-more;
}
