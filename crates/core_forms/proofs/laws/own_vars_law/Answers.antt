use Rattle.core_forms.proofs.OwnVars.{own_vars-ascending, own_vars-exact}
use Rattle.core_forms.proofs.laws.own_vars_law.Goals as goal

pub returns : goal.returns
returns c = record { ascending = own_vars-ascending; exact = own_vars-exact }
