-- From a model to cores and to what each declared name stands for, item by item.
use Rattle.std.specs.Prelude.{ℕ, ◌+◌, pos, ◌-ℤ◌, List, [], ◌∷◌, ◌++◌}
use Rattle.order_ints.specs.Label.{variable}
use Rattle.order_ints.specs.declared.order_int.MapValue.{MapValue}
use Rattle.order_ints.specs.declared.order_int.MapValue.TheVariants as values
use Rattle.order_ints.specs.OrderMade.{constant_of, integer_of_atom, unit_range_of, integer_of_values}
use Rattle.core_forms.specs.declared.form.Core.{Core}
use Rattle.core_forms.specs.declared.form.Core.TheVariants.{Ladder}
use Rattle.model_meaning.specs.declared.model.Kind.{Kind}
use Rattle.model_meaning.specs.declared.model.Kind.TheVariants as kind
use Rattle.model_meaning.specs.declared.model.Model.{Model}
use Rattle.model_meaning.specs.declared.what.What.{What}
use Rattle.model_meaning.specs.declared.what.What.TheVariants.{BoolToInt}
use Rattle.model_meaning.specs.Domains.{at_least_zero}
use Rattle.value_lists.specs.ValueLists.{shape_of}
use Rattle.model_items.specs.Items.{ModelItem, Declaration, Statement, Definition, items_of_model}
use Rattle.statement_lower.specs.Terms.{atom_of}
use Rattle.statement_lower.specs.Lines.{made_of}
use Rattle.model_lower.specs.declared.state.Lowered.{Lowered}

-- how many variables a declared name takes: a Boolean one, an integer one for each value but the least
abbrev pub vars_taken : Kind → ℕ
vars_taken kind.Bool = 1
vars_taken (kind.Range low high) = at_least_zero (high -ℤ low)
vars_taken (kind.Listed vs) = (shape_of vs).steps

-- what a name stands for that is declared where there are so many variables
abbrev pub entry_of : ℕ → Kind → MapValue
entry_of vars kind.Bool = values.Bool (variable (vars + 1))
entry_of vars (kind.Range low high) = values.Int (unit_range_of low (vars + 1) (vars_taken (kind.Range low high)))
entry_of vars (kind.Listed vs) = values.Int (integer_of_values vs (vars + 1))

-- an integer is to be ordered
abbrev pub entry_cores : MapValue → List Core
entry_cores (values.Bool a) = []
entry_cores (values.Int a) = Ladder a ∷ []

-- after one more declaration
abbrev pub with_declaration : Lowered → Kind → Lowered
with_declaration l k = record {
  vars = l.vars + vars_taken k;
  map = record { entries = l.map.entries ++ entry_of l.vars k ∷ [] };
  cores = l.cores ++ entry_cores (entry_of l.vars k);
}

-- after one more statement, whose fresh variables and cores stand behind those so far
abbrev pub with_statement : Lowered → What → Lowered
with_statement l what = record {
  vars = (made_of l.vars l.map.entries what).vars;
  map = l.map;
  cores = l.cores ++ (made_of l.vars l.map.entries what).cores;
}

-- what the name stands for that a `bool2int` declares: its Boolean, as an integer
abbrev pub defined_entry : List MapValue → What → MapValue
defined_entry entries (BoolToInt x i) = values.Int (integer_of_atom (atom_of entries x))
defined_entry entries what = values.Int (constant_of (pos 0))

-- after one more `bool2int` that declares its integer, which takes no variable and makes no core
abbrev pub with_definition : Lowered → What → Lowered
with_definition l what = record {
  vars = l.vars;
  map = record { entries = l.map.entries ++ defined_entry l.map.entries what ∷ [] };
  cores = l.cores;
}

-- after one more item
abbrev pub lowered_item : Lowered → ModelItem → Lowered
lowered_item l (Declaration d) = with_declaration l d.kind
lowered_item l (Statement s) = with_statement l s.what
lowered_item l (Definition d s) = with_definition l s.what

abbrev pub lowered_items : Lowered → List ModelItem → Lowered
lowered_items l [] = l
lowered_items l (i ∷ items) = lowered_items (lowered_item l i) items

-- before the first item
abbrev pub nothing_lowered : Lowered
nothing_lowered = record { vars = 0; map = record { entries = [] }; cores = [] }

abbrev pub lowered_of : Model → Lowered
lowered_of model = lowered_items nothing_lowered (items_of_model model)
