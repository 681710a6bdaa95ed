use Rattle.core_forms.proofs.EdgeLaws.{settled-trimmed, settled-well_formed, settled-below, settled-whole}
use Rattle.core_forms.proofs.edge_laws.settled_law.Goals as goal

pub returns : goal.returns
returns c = record { settled = settled-trimmed; well_formed = settled-well_formed; below = settled-below; whole = settled-whole }
