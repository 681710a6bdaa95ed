use Rattle.core_forms.proofs.EdgeLaws.{inside-known, inside-further, inside-kept, inside-stable, inside-below, inside-more}
use Rattle.core_forms.proofs.edge_laws.stable_inside_law.Goals as goal

pub returns : goal.returns
returns c = record {
  plain = inside-known;
  further = inside-further;
  kept = inside-kept;
  stable = inside-stable;
  below = inside-below;
  more = inside-more;
}
