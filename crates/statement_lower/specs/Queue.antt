-- A sum that is compared, two members at a time: the first two make way for a fresh integer behind the others, which is
-- their sum, until two are left.
use Rattle.std.specs.Prelude.{ℕ, zero, suc, ◌+◌, ℤ, pos, List, [], ◌∷◌, ◌++◌}
use Rattle.order_ints.specs.declared.atom.Atom.TheVariants.{True}
use Rattle.order_ints.specs.declared.order_int.OrdInt.{OrdInt}
use Rattle.order_ints.specs.OrderMade.{constant_of, integer_of_values}
use Rattle.order_ints.specs.OrderChange.{negated_of, shifted_of}
use Rattle.core_forms.specs.declared.form.Core.{Core}
use Rattle.core_forms.specs.declared.form.Core.TheVariants as core
use Rattle.core_forms.specs.Shapes.{steps_of}
use Rattle.core_forms.specs.Sums.{sums_of}
use Rattle.model_meaning.specs.declared.statement.Relation.{Relation}
use Rattle.statement_lower.specs.declared.made.MadeCores.{MadeCores}
use Rattle.statement_lower.specs.Comparison.{comparison_core}

-- a fresh integer for the sum of two, with the variables behind so many
abbrev pub fresh_sum : ℕ → OrdInt → OrdInt → OrdInt
fresh_sum vars a b = integer_of_values (sums_of a b) (vars + 1)

-- how many variables there are then, one for each of its values but the least
abbrev pub vars_behind_sum : ℕ → OrdInt → OrdInt → ℕ
vars_behind_sum vars a b = vars + steps_of (fresh_sum vars a b)

-- two integers and a number, added up, stand in a relation to 0: the first and the number to the second negated
abbrev pub last_made : ℕ → Relation → ℤ → OrdInt → OrdInt → MadeCores
last_made vars rel k a b =
    record { vars = vars; cores = comparison_core rel True (shifted_of a k) (negated_of b) ∷ [] }

-- the first member, or 0 where there is none
abbrev pub first_or_zero : List OrdInt → OrdInt
first_or_zero [] = constant_of (pos 0)
first_or_zero (a ∷ rest) = a

-- one core more, in front
abbrev pub with_first : Core → MadeCores → MadeCores
with_first first made = record { vars = made.vars; cores = first ∷ made.cores }

-- So many times the first two members make way for a fresh sum behind the others; then the first two and a number,
-- added up, stand in a relation to 0. One that is missing is the constant 0.
abbrev pub queue_made : ℕ → ℕ → Relation → ℤ → List OrdInt → MadeCores
queue_made times vars rel k [] = last_made vars rel k (constant_of (pos 0)) (constant_of (pos 0))
queue_made times vars rel k (a ∷ []) = last_made vars rel k a (constant_of (pos 0))
queue_made zero vars rel k (a ∷ b ∷ rest) = last_made vars rel k a b
queue_made (suc times) vars rel k (a ∷ b ∷ rest) =
    with_first (core.Sum3 a b (fresh_sum vars a b))
    (queue_made times (vars_behind_sum vars a b) rel k (rest ++ fresh_sum vars a b ∷ []))
