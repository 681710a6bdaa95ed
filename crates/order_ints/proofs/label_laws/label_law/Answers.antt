use Rattle.order_ints.proofs.Labels.{label_resolves, IsLabel-not_atom, labels_below, IsLabel-resolve, resolves_once, resolves_negation, IsLabelled-nil}
use Rattle.order_ints.proofs.label_laws.label_law.Goals as goal

pub returns : goal.returns
returns c = record {
  resolves = label_resolves;
  negation = IsLabel-not_atom;
  below = labels_below;
  to_label = IsLabel-resolve;
  once = resolves_once;
  negated = resolves_negation;
  empty = IsLabelled-nil;
}
