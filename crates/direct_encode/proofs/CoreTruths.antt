-- When the clauses of a core are true.
use Rattle.std.proofs.Common.{◌≡◌, Bool, true, false, ◌&&◌, List, ◌++◌, ◌+ℤ◌, ◌*ℤ◌, refl}
use Rattle.std.specs.Prelude.{int_le, IsTrue}
use Rattle.std.proofs.lemmas.Bool.{false≢true}
use Rattle.std.specs.Bool.{beq}
use Rattle.std.specs.Ordering.{int_eq}
use Rattle.order_ints.specs.declared.atom.Atom.{Atom}
use Rattle.order_ints.specs.declared.order_int.OrdInt.{OrdInt}
use Rattle.order_ints.specs.Truth.{Valuation, atom_truth}
use Rattle.order_ints.specs.AtomClauses.{atom_clause_truth, atom_clauses_truth}
use Rattle.order_ints.specs.OrderValue.{value_of, in_order, IsOrdered}
use Rattle.order_ints.proofs.TruthLaws.{atom_clauses_truth-append}
use Rattle.core_forms.specs.declared.form.Core.{Core}
use Rattle.core_forms.specs.declared.form.Core.TheVariants.{Ladder, Clause, Parity, Conj, Comp, LeqR, EqR, Sum3, Count, Sum, Max, AllDiff, Amo, Prod, DivMod, Lex}
use Rattle.core_forms.specs.Values.{all_ordered, values, is_greatest}
use Rattle.core_forms.specs.WellFormed.{IsWellFormed}
use Rattle.core_forms.specs.Basic.{is_basic_of}
use Rattle.core_forms.specs.Meaning.{is_division, core_truth}
use Rattle.direct_encode.specs.Orders.{order_clauses, orders_of}
use Rattle.direct_encode.specs.Comparisons.{leq_clauses, eq_clauses}
use Rattle.direct_encode.specs.Maxima.{max_clauses}
use Rattle.direct_encode.specs.Tables.{sum3_clauses, prod_clauses, div_mod_clauses}
use Rattle.direct_encode.specs.Clauses.{clauses_of}
use Rattle.direct_encode.proofs.Truths.{truth-order_clauses, truth-compared, truth-leq_clauses, truth-eq_clauses}
use Rattle.direct_encode.proofs.AtomTruths.{truth-parity, truth-conj, truth-comp, truth-amo}
use Rattle.direct_encode.proofs.MaxTruths.{truth-orders_of, truth-max}
use Rattle.direct_encode.proofs.SumTruths.{truth-sum3}
use Rattle.direct_encode.proofs.ProductTruths.{truth-prod}
use Rattle.direct_encode.proofs.DivisionTruths.{truth-div_mod}

one-clause : (b : Bool) → (b && true) ≡ b
one-clause true = refl
one-clause false = refl

guarded : (s t u v : Bool) → (s ≡ true → t ≡ true → u ≡ v) → (s && (t && u)) ≡ ((s && t) && v)
guarded true true u v e = e refl refl
guarded true false u v e = refl
guarded false t u v e = refl

truth-of_max : (σ : Valuation) (ints : List OrdInt) (c : OrdInt) → atom_clauses_truth σ (orders_of ints ++ (order_clauses c ++ max_clauses ints c)) ≡ ((all_ordered σ ints && in_order σ c.steps) && is_greatest (value_of σ c) (values σ ints))
truth-of_max σ ints c =
    let split = atom_clauses_truth-append σ (orders_of ints) (order_clauses c ++ max_clauses ints c) in
    let more = atom_clauses_truth-append σ (order_clauses c) (max_clauses ints c) in
    let first = truth-orders_of σ ints in
    let second = truth-order_clauses σ c in
    let all = guarded (all_ordered σ ints) (in_order σ c.steps) (atom_clauses_truth σ (max_clauses ints c)) (is_greatest (value_of σ c) (values σ ints)) (truth-max σ ints c) in
    cc

guarded3 : (s t u v w : Bool) → (s ≡ true → t ≡ true → u ≡ true → v ≡ w) → (s && (t && (u && v))) ≡ ((s && (t && u)) && w)
guarded3 true true true v w e = e refl refl refl
guarded3 true true false v w e = refl
guarded3 true false u v w e = refl
guarded3 false t u v w e = refl

-- what is said of three ordered integers, beside their order
truth-three : (σ : Valuation) (a b c : OrdInt) (cs : List (List Atom)) (t : Bool) → (IsOrdered σ a → IsOrdered σ b → IsOrdered σ c → atom_clauses_truth σ cs ≡ t) → atom_clauses_truth σ (order_clauses a ++ (order_clauses b ++ (order_clauses c ++ cs))) ≡ ((in_order σ a.steps && (in_order σ b.steps && in_order σ c.steps)) && t)
truth-three σ a b c cs t says =
    let split = atom_clauses_truth-append σ (order_clauses a) (order_clauses b ++ (order_clauses c ++ cs)) in
    let more = atom_clauses_truth-append σ (order_clauses b) (order_clauses c ++ cs) in
    let last = atom_clauses_truth-append σ (order_clauses c) cs in
    let first = truth-order_clauses σ a in
    let second = truth-order_clauses σ b in
    let third = truth-order_clauses σ c in
    let all = guarded3 (in_order σ a.steps) (in_order σ b.steps) (in_order σ c.steps) (atom_clauses_truth σ cs) t says in
    cc

guarded4 : (s t u x v w : Bool) → (s ≡ true → t ≡ true → u ≡ true → x ≡ true → v ≡ w) → (s && (t && (u && (x && v)))) ≡ ((s && (t && (u && x))) && w)
guarded4 true true true true v w e = e refl refl refl refl
guarded4 true true true false v w e = refl
guarded4 true true false x v w e = refl
guarded4 true false u x v w e = refl
guarded4 false t u x v w e = refl

-- and of four
truth-four : (σ : Valuation) (a b q r : OrdInt) (cs : List (List Atom)) (t : Bool) → (IsOrdered σ a → IsOrdered σ b → IsOrdered σ q → IsOrdered σ r → atom_clauses_truth σ cs ≡ t) → atom_clauses_truth σ (order_clauses a ++ (order_clauses b ++ (order_clauses q ++ (order_clauses r ++ cs)))) ≡ ((in_order σ a.steps && (in_order σ b.steps && (in_order σ q.steps && in_order σ r.steps))) && t)
truth-four σ a b q r cs t says =
    let split = atom_clauses_truth-append σ (order_clauses a) (order_clauses b ++ (order_clauses q ++ (order_clauses r ++ cs))) in
    let more = atom_clauses_truth-append σ (order_clauses b) (order_clauses q ++ (order_clauses r ++ cs)) in
    let further = atom_clauses_truth-append σ (order_clauses q) (order_clauses r ++ cs) in
    let last = atom_clauses_truth-append σ (order_clauses r) cs in
    let first = truth-order_clauses σ a in
    let second = truth-order_clauses σ b in
    let third = truth-order_clauses σ q in
    let fourth = truth-order_clauses σ r in
    let all = guarded4 (in_order σ a.steps) (in_order σ b.steps) (in_order σ q.steps) (in_order σ r.steps) (atom_clauses_truth σ cs) t says in
    cc

-- the clauses of a core are true exactly where the core is met
pub truth-clauses_of : (σ : Valuation) (core : Core) → IsTrue (is_basic_of core) → IsWellFormed core → atom_clauses_truth σ (clauses_of core) ≡ core_truth σ core
truth-clauses_of σ (Ladder a) basic well = truth-order_clauses σ a
truth-clauses_of σ (Clause ls) basic well = one-clause (atom_clause_truth σ ls)
truth-clauses_of σ (Parity ls odd) basic well = truth-parity σ ls odd
truth-clauses_of σ (Conj r ls) basic well = truth-conj σ r ls
truth-clauses_of σ (Comp a b hi lo) basic well = truth-comp σ a b hi lo
truth-clauses_of σ (LeqR r a b) basic well =
    truth-compared σ a b (leq_clauses r a b) (beq (atom_truth σ r) (int_le (value_of σ a) (value_of σ b))) (truth-leq_clauses σ r a b)
truth-clauses_of σ (EqR r a b) basic well =
    truth-compared σ a b (eq_clauses r a b) (beq (atom_truth σ r) (int_eq (value_of σ a) (value_of σ b))) (truth-eq_clauses σ r a b)
truth-clauses_of σ (Sum3 a b c) basic well =
    truth-three σ a b c (sum3_clauses a b c) (int_eq (value_of σ a +ℤ value_of σ b) (value_of σ c)) (λ oa ob oc. truth-sum3 σ a b c oa ob oc well.0.1 well.1.1)
truth-clauses_of σ (Count ls c) basic well = absurd (false≢true basic)
truth-clauses_of σ (Sum ints k) basic well = absurd (false≢true basic)
truth-clauses_of σ (Max ints c) basic well = truth-of_max σ ints c
truth-clauses_of σ (AllDiff ints cs) basic well = absurd (false≢true basic)
truth-clauses_of σ (Amo ls) basic well = truth-amo σ ls
truth-clauses_of σ (Prod a b c) basic well =
    truth-three σ a b c (prod_clauses a b c) (int_eq (value_of σ a *ℤ value_of σ b) (value_of σ c)) (λ oa ob oc. truth-prod σ a b c oa ob oc)
truth-clauses_of σ (DivMod a b q r) basic well =
    truth-four σ a b q r (div_mod_clauses a b q r) (is_division (value_of σ a) (value_of σ b) (value_of σ q) (value_of σ r)) (λ oa ob oq orest. truth-div_mod σ a b q r oa ob oq orest well.4 well.5)
truth-clauses_of σ (Lex r strict front back) basic well = absurd (false≢true basic)
