-- The ranges of cores and of a map of names.
use Rattle.std.specs.Prelude.{◌+◌, ◌^◌, ◌≤◌, List}
use Rattle.core_forms.specs.Cores.{CoresBelow, AreWellFormed}
use Rattle.model_meaning.specs.declared.model.Decl.{Decl}
use Rattle.name_map.specs.Fits.{EntriesFit}
use Rattle.model_lower.specs.declared.state.Lowered.{Lowered}
use Rattle.model_lower.specs.Weighed.{size_of_lowered}

-- the variables and the costs of the cores are few, there is one entry for each declaration, the variables are those
-- that are counted, and the cores are well formed
pub record Fits (l : Lowered) (decls : List Decl) : Type 0 where
  pub size : size_of_lowered l ≤ 2 ^ 26
  pub entries : EntriesFit (l.vars + 1) decls l.map.entries
  pub below : CoresBelow (l.vars + 1) l.cores
  pub well_formed : AreWellFormed l.cores
