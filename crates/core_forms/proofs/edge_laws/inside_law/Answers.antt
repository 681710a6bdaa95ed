use Rattle.core_forms.proofs.EdgeLaws.{settled-stable, settled-inside, restored-stable, restored-inside}
use Rattle.core_forms.proofs.edge_laws.inside_law.Goals as goal

pub returns : goal.returns
returns c = record {
  settled_stable = settled-stable;
  settled_below = settled-inside;
  restored_stable = restored-stable;
  restored_below = restored-inside;
}
