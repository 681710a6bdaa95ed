-- How large cores over variables are: the variables, and the costs of the cores.
use Rattle.std.specs.Prelude.{ℕ, ◌+◌}
use Rattle.core_forms.specs.Cores.{costs_of}
use Rattle.statement_lower.specs.declared.made.MadeCores.{MadeCores}

abbrev pub size_of_made : MadeCores → ℕ
size_of_made made = made.vars + costs_of made.cores
