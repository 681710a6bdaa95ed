use Rattle.equation_store.proofs.Merge.{merge_resolves, merge_keeps, merge_doubles}
use Rattle.equation_store.proofs.Changes.{merge_never_shrinks, merge_labelled, merge_is_later}
use Rattle.equation_store.proofs.laws.merge_laws.Goals as goal

pub returns : goal.returns
returns c = record {
  resolves = merge_resolves;
  keeps = merge_keeps;
  doubles = merge_doubles;
  never_shrinks = merge_never_shrinks;
  labelled = merge_labelled;
  later = merge_is_later;
}
