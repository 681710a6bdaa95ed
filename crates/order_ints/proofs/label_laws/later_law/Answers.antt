use Rattle.order_ints.proofs.Labels.{IsLater-itself, IsLater-more, IsLater-later, later_resolves, MeetsView-later}
use Rattle.order_ints.proofs.label_laws.later_law.Goals as goal

pub returns : goal.returns
returns c = record {
  itself = IsLater-itself;
  more = IsLater-more;
  later = IsLater-later;
  resolves = later_resolves;
  met = MeetsView-later;
}
