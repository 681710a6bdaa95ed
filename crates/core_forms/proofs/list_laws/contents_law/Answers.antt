use Rattle.core_forms.proofs.ContentLaws.{ordered-met, sound-well_formed, core_vars-parts}
use Rattle.core_forms.proofs.list_laws.contents_law.Goals as goal

pub returns : goal.returns
returns c = record { ordered = ordered-met; sound = sound-well_formed; vars = core_vars-parts }
