-- The model of a pseudo-Boolean file. A Boolean of the name `xi` stands for the variable of index i, and where there is
-- an objective, an integer of the name `o` for the cost. The place of `xi` is i - 1, since each variable is declared,
-- in order.
use Rattle.std.specs.Prelude.{ℕ, zero, suc, ◌+◌, ◌-◌, ℤ, List, [], ◌∷◌, ◌++◌, map, codes, decimal}
use Rattle.std.specs.Prelude.{Option, Some, None}
use Rattle.model_meaning.specs.declared.what.BoolTerm.{BoolTerm}
use Rattle.model_meaning.specs.declared.what.BoolTerm.TheVariants as bool_term
use Rattle.model_meaning.specs.declared.what.IntTerm.{IntTerm}
use Rattle.model_meaning.specs.declared.what.IntTerm.TheVariants as int_term
use Rattle.model_meaning.specs.declared.what.What.TheVariants.{BoolLinear}
use Rattle.model_meaning.specs.declared.statement.Relation.{Relation}
use Rattle.model_meaning.specs.declared.statement.Relation.TheVariants as relation
use Rattle.model_meaning.specs.declared.model.Kind.TheVariants as kind
use Rattle.model_meaning.specs.declared.model.Decl.{Decl}
use Rattle.model_meaning.specs.declared.model.Stmt.{Stmt}
use Rattle.model_meaning.specs.declared.model.Goal.{Goal}
use Rattle.model_meaning.specs.declared.model.Goal.TheVariants as goal
use Rattle.model_meaning.specs.declared.model.Model.{Model}
use Rattle.opb_front.specs.declared.items.Term.{Term}
use Rattle.opb_front.specs.declared.items.Comparison.{Comparison}
use Rattle.opb_front.specs.declared.items.Comparison.TheVariants.{AtLeast, AtMost, Equal}
use Rattle.opb_front.specs.declared.items.Constraint.{Constraint}
use Rattle.opb_front.specs.declared.items.Objective.{Objective}
use Rattle.opb_front.specs.declared.items.Opb.{Opb}

-- the names
abbrev pub variable_name : ℕ → List ℕ
variable_name index = codes "x" ++ decimal index

abbrev pub cost_name : List ℕ
cost_name = codes "o"

-- Declarations.

-- the variable of an index; its item has the number of its index
abbrev pub variable : ℕ → Decl
variable index = record { number = index; name = variable_name index; kind = kind.Bool }

-- so many variables, from an index on
abbrev pub variables_from : ℕ → ℕ → List Decl
variables_from index zero = []
variables_from index (suc n) = variable index ∷ variables_from (index + 1) n

-- the cost, from the sum of the negative coefficients to that of the positive ones, item n
abbrev pub cost : ℕ → Objective → Decl
cost n o = record { number = n; name = cost_name; kind = kind.Range o.low o.high }

abbrev pub cost_decls : ℕ → Option Objective → List Decl
cost_decls n None = []
cost_decls n (Some o) = cost n o ∷ []

-- Statements.

abbrev pub relation_of : Comparison → Relation
relation_of AtLeast = relation.Geq
relation_of AtMost = relation.Leq
relation_of Equal = relation.Eq

-- the statement's name
abbrev pub sum_name : Comparison → List ℕ
sum_name AtLeast = codes "bool_array_pb_geq"
sum_name AtMost = codes "bool_array_pb_leq"
sum_name Equal = codes "bool_array_pb_eq"

abbrev pub coefficients : List Term → List ℤ
coefficients terms = map (λ (t : Term). t.coefficient) terms

-- a literal, by the place of its variable
abbrev pub member : Term → BoolTerm
member t = bool_term.Of (t.literal.index - 1) t.literal.positive

abbrev pub members : List Term → List BoolTerm
members terms = map member terms

-- a sum stands to a number, or to the cost, as it is to, item n
abbrev pub sum : ℕ → Comparison → List Term → IntTerm → Stmt
sum n c terms bound =
    record { number = n; what = BoolLinear (sum_name c) (relation_of c) (coefficients terms) (members terms) bound }

-- the cost at this place is the sum of the objective
abbrev pub cost_stmts : ℕ → ℕ → Option Objective → List Stmt
cost_stmts n place None = []
cost_stmts n place (Some o) = sum n Equal o.terms (int_term.Of place) ∷ []

-- the constraints, from item n on
abbrev pub constraint_stmts : ℕ → List Constraint → List Stmt
constraint_stmts n [] = []
constraint_stmts n (c ∷ cs) = sum n c.comparison c.terms (int_term.Number c.bound) ∷ constraint_stmts (n + 1) cs

-- the number of the first constraint's item
abbrev pub first_constraint : ℕ → Option Objective → ℕ
first_constraint vars None = vars + 1
first_constraint vars (Some o) = vars + 3

-- what is sought: the least cost, where there is an objective
abbrev pub goal_of : ℕ → Option Objective → Goal
goal_of place None = goal.Satisfy
goal_of place (Some o) = goal.Minimize place None

-- the model
abbrev pub opb_model : Opb → Model
opb_model opb = record {
  decls = variables_from 1 opb.vars ++ cost_decls (opb.vars + 1) opb.objective;
  stmts = cost_stmts (opb.vars + 2) opb.vars opb.objective
      ++ constraint_stmts (first_constraint opb.vars opb.objective) opb.constraints;
  goal = goal_of opb.vars opb.objective;
}
