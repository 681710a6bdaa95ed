-- What each form means: when a valuation meets a core.
use Rattle.std.specs.Prelude.{Bool, ◌&&◌, ◌||◌, nat_le, ℤ, pos, ◌+ℤ◌, ◌*ℤ◌, int_le, int_lt}
use Rattle.std.specs.Prelude.{IsTrue}
use Rattle.std.specs.Bool.{beq}
use Rattle.std.specs.Ordering.{int_eq}
use Rattle.order_ints.specs.declared.order_int.OrdInt.{OrdInt}
use Rattle.order_ints.specs.Truth.{Valuation, atom_truth}
use Rattle.order_ints.specs.AtomClauses.{atom_clause_truth}
use Rattle.order_ints.specs.OrderValue.{value_of, in_order}
use Rattle.core_forms.specs.declared.form.Core.{Core}
use Rattle.core_forms.specs.declared.form.Core.TheVariants.{Ladder, Clause, Parity, Conj, Comp, LeqR, EqR, Sum3, Count}
use Rattle.core_forms.specs.declared.form.Core.TheVariants.{Sum, Max, AllDiff, Amo, Prod, DivMod, Lex}
use Rattle.core_forms.specs.Truths.{all_true, true_count, truths, is_odd}
use Rattle.core_forms.specs.Values.{all_ordered, values, total, is_greatest, all_differ, is_before}

-- an integer is ordered
abbrev pub ordered : Valuation → OrdInt → Bool
ordered σ a = in_order σ a.steps

-- the first value is the second times the third plus the fourth, which is from 0 and below the second
abbrev pub is_division : ℤ → ℤ → ℤ → ℤ → Bool
is_division a b q r = int_eq a (b *ℤ q +ℤ r) && (int_le (pos 0) r && int_lt r b)

-- whether a core is met, form by form; each form also says that its integers are ordered
abbrev pub core_truth : Valuation → Core → Bool
core_truth σ (Ladder a) = ordered σ a
core_truth σ (Clause ls) = atom_clause_truth σ ls
core_truth σ (Parity ls odd) = beq (is_odd (true_count σ ls)) odd
core_truth σ (Conj r ls) = beq (atom_truth σ r) (all_true σ ls)
core_truth σ (Comp a b hi lo) =
    beq (atom_truth σ hi) (atom_truth σ a || atom_truth σ b)
    && beq (atom_truth σ lo) (atom_truth σ a && atom_truth σ b)
core_truth σ (LeqR r a b) = (ordered σ a && ordered σ b)
    && beq (atom_truth σ r) (int_le (value_of σ a) (value_of σ b))
core_truth σ (EqR r a b) = (ordered σ a && ordered σ b)
    && beq (atom_truth σ r) (int_eq (value_of σ a) (value_of σ b))
core_truth σ (Sum3 a b c) =
    (ordered σ a && (ordered σ b && ordered σ c)) && int_eq (value_of σ a +ℤ value_of σ b) (value_of σ c)
core_truth σ (Count ls c) = ordered σ c && int_eq (value_of σ c) (pos (true_count σ ls))
core_truth σ (Sum ints k) = all_ordered σ ints && int_eq (total (values σ ints)) k
core_truth σ (Max ints c) = (all_ordered σ ints && ordered σ c) && is_greatest (value_of σ c) (values σ ints)
core_truth σ (AllDiff ints cs) = all_ordered σ ints && all_differ (values σ ints) (truths σ cs)
core_truth σ (Amo ls) = nat_le (true_count σ ls) 1
core_truth σ (Prod a b c) =
    (ordered σ a && (ordered σ b && ordered σ c)) && int_eq (value_of σ a *ℤ value_of σ b) (value_of σ c)
core_truth σ (DivMod a b q r) =
    (ordered σ a && (ordered σ b && (ordered σ q && ordered σ r)))
    && is_division (value_of σ a) (value_of σ b) (value_of σ q) (value_of σ r)
core_truth σ (Lex r strict front back) =
    (all_ordered σ front && all_ordered σ back)
    && beq (atom_truth σ r) (is_before strict (values σ front) (values σ back))

-- a valuation meets a core
abbrev pub Meets : Valuation → Core → Type 0
Meets σ core = IsTrue (core_truth σ core)
