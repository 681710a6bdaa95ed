-- Line by line, the cores of a statement stand for its being true.
use Rattle.std.proofs.Common.{◌≡◌, ℕ, suc, ◌+◌, ◌≤◌, ℤ, pos, ◌≤ℤ◌, Bool, true, false, List, [], ◌∷◌, ◌++◌, length, map, IsTrue, refl, sym, ap, ◌∙◌, arith}
use Rattle.std.specs.Prelude.{unsigned_abs, if◌then◌else◌}
use Rattle.std.specs.Ordering.{int_eq}
use Rattle.std.proofs.lemmas.List.{length-map}
use Rattle.order_ints.specs.declared.atom.Atom.{Atom}
use Rattle.order_ints.specs.declared.atom.Atom.TheVariants.{True}
use Rattle.order_ints.specs.declared.order_int.OrdInt.{OrdInt}
use Rattle.order_ints.specs.declared.order_int.MapValue.{MapValue}
use Rattle.order_ints.specs.Truth.{Valuation, Agree, atom_truth, not_atom}
use Rattle.order_ints.specs.Place.{AtomBelow, AtomsBelow}
use Rattle.order_ints.specs.OrderValue.{value_of, IsOrdered}
use Rattle.order_ints.specs.OrderChange.{negated_of}
use Rattle.order_ints.specs.OrderMade.{integer_of_atom}
use Rattle.order_ints.specs.OrderRange.{low_of}
use Rattle.order_ints.specs.Numbers as numbers
use Rattle.order_ints.specs.Represents.{DependsBelow}
use Rattle.order_ints.proofs.Truths.{AtomBelow-not_atom}
use Rattle.core_forms.specs.declared.form.Core.TheVariants as core
use Rattle.core_forms.specs.Truths as forms
use Rattle.core_forms.specs.Cores.{CoresBelow, AreWellFormed}
use Rattle.model_meaning.specs.declared.model.Decl.{Decl}
use Rattle.model_meaning.specs.declared.what.BoolTerm.{BoolTerm}
use Rattle.model_meaning.specs.declared.what.IntTerm.{IntTerm}
use Rattle.model_meaning.specs.declared.what.IntTerm.TheVariants as int_term
use Rattle.model_meaning.specs.declared.what.What.{What}
use Rattle.model_meaning.specs.declared.what.What.TheVariants.{
  BoolToInt,
  BoolEq,
  BoolOp,
  BoolArray,
  BoolArrayReified,
  Compare,
  CompareReified,
  BoolSum,
  BoolLinear,
  IntSum,
  IntLinear,
  IntOp,
  Absolute,
  IntArray,
  IntAllDifferent,
  Lexicographic,
}
use Rattle.model_meaning.specs.declared.wanted.Wanted.TheVariants as wanted
use Rattle.model_meaning.specs.declared.statement.Operator.{Operator}
use Rattle.model_meaning.specs.declared.statement.Operator.TheVariants as operator
use Rattle.model_meaning.specs.declared.statement.Relation.{Relation}
use Rattle.model_meaning.specs.declared.statement.Relation.TheVariants as relation
use Rattle.model_meaning.specs.declared.statement.Arithmetic.{Arithmetic}
use Rattle.model_meaning.specs.declared.statement.Arithmetic.TheVariants as arithmetic
use Rattle.model_meaning.specs.declared.statement.Aggregate.{Aggregate}
use Rattle.model_meaning.specs.declared.statement.Aggregate.TheVariants as aggregate
use Rattle.model_meaning.specs.declared.statement.Statement.TheVariants as statement
use Rattle.model_meaning.specs.Arguments.{Number, Numbers}
use Rattle.model_meaning.specs.Terms.{truth_of, number_of, truths_of, numbers_of, as_number}
use Rattle.model_meaning.specs.Booleans.{combine, count_true}
use Rattle.model_meaning.specs.Integers.{relates, gives, is_quotient, is_remainder, is_aggregate}
use Rattle.model_meaning.specs.Holds.{Holds, holds, same}
use Rattle.model_meaning.specs.Limits.{TermInLimit, TermsInLimit, WhatInLimit}
use Rattle.model_meaning.specs.WellTyped.{TruthFits, NumberFits, TruthsFit, NumbersFit, HasMember, IsAtLeast, ArgumentFits, ValuesFit, WhatFits}
use Rattle.model_meaning.proofs.TableLaws.{Decides-holds}
use Rattle.statement_lower.specs.Terms.{atom_of, atoms_of, integer_of, integers_of}
use Rattle.name_map.specs.Fits.{EntriesFit}
use Rattle.statement_lower.specs.Entries.{AreOrdered}
use Rattle.statement_lower.specs.Comparison.{comparison_core}
use Rattle.statement_lower.specs.Lines.{bit_core, equal_core, equal_cores, array_cores, operator_made, fresh_range, compared_count, count_made, operation_made, aggregate_made, absolute_core, least_core, made_of}
use Rattle.statement_lower.specs.Lowers.{Lowers, LineLaw}
use Rattle.statement_lower.proofs.EntryLaws.{SmallInteger, AreSmallIntegers, atom_of-laws, atoms_of-truths, atoms_of-below, integer_of-small, integer_of-value, integer_of-least, small-more, integers_of-values, integers_of-small, IsOrdered-integer_of, ordered-integers_of, numbers_of-agree}
use Rattle.statement_lower.proofs.OrderedEntries.{AreOrdered-depends}
use Rattle.statement_lower.proofs.BooleanLines.{equal-truth, array-truth, or-truth, and-truth, xor-truth}
use Rattle.statement_lower.proofs.Comparisons.{comparison-truth, comparison-below, comparison-well_formed}
use Rattle.statement_lower.proofs.IntegerLines.{small-negated, small-negated_each, count-truth, sum-truth, product-truth, greatest-truth, least-truth, absolute-truth, greatest-below, greatest-well_formed, product-well_formed, sum-well_formed, count-well_formed}
use Rattle.statement_lower.proofs.FreshAtoms.{AtomsBelow-negated, AtomsBelow-more, truths-agree, lowers-all_equal}
use Rattle.statement_lower.proofs.FreshIntegers.{small-fresh, Counts, extends-number}
use Rattle.statement_lower.proofs.WordLines.{bit-value, bit-ordered, small-bit, difference-stands, words-stand}
use Rattle.statement_lower.proofs.DivisionLines.{quotient-lowers, remainder-lowers}
use Rattle.statement_lower.proofs.EqualSums.{truths-stand, sums-stand, multiples-stand, aggregate-sum-stands}
use Rattle.statement_lower.proofs.MeaningLaws.{same_meanings}
use Rattle.statement_lower.proofs.LowersLaws.{lowers-here, lowers-one, lowers-same, lowers-behind}

-- `bool_array_OP`: ranges.

pub equal-cores-below : (n : ℕ) (atoms : List Atom) → AtomsBelow n atoms → CoresBelow n (equal_cores atoms)
equal-cores-below n [] h = tt
equal-cores-below n (x ∷ atoms) h = each atoms h.1
  where
    each : (atoms : List Atom) → AtomsBelow n atoms → CoresBelow n (map (equal_core x) atoms)
    each [] k = tt
    each (y ∷ atoms) k = (((h.0, (k.0, tt)), tt), each atoms k.1)

equal-cores-well_formed : (atoms : List Atom) → AreWellFormed (equal_cores atoms)
equal-cores-well_formed [] = tt
equal-cores-well_formed (x ∷ atoms) = each atoms
  where
    each : (atoms : List Atom) → AreWellFormed (map (equal_core x) atoms)
    each [] = tt
    each (y ∷ atoms) = (tt, each atoms)

array-below : (n : ℕ) (op : Operator) (atoms : List Atom) → AtomsBelow n atoms → CoresBelow n (array_cores op atoms)
array-below n operator.Or atoms h = ((h, tt), tt)
array-below n operator.And atoms h = (((tt, h), tt), tt)
array-below n operator.Xor atoms h = ((h, tt), tt)
array-below n operator.Iff atoms h = equal-cores-below n atoms h

array-well_formed : (op : Operator) (atoms : List Atom) → AreWellFormed (array_cores op atoms)
array-well_formed operator.Or atoms = (tt, tt)
array-well_formed operator.And atoms = (tt, tt)
array-well_formed operator.Xor atoms = (tt, tt)
array-well_formed operator.Iff atoms = equal-cores-well_formed atoms

AtomsBelow-last : (n : ℕ) (atoms : List Atom) (z : Atom) → AtomsBelow n atoms → AtomBelow n z → AtomsBelow n (atoms ++ z ∷ [])
AtomsBelow-last n [] z h k = (k, tt)
AtomsBelow-last n (a ∷ atoms) z h k = (h.0, AtomsBelow-last n atoms z h.1 k)

-- `bool_array_sum_REL`: the number of true members.

count-most : (σ : Valuation) (atoms : List Atom) → forms.true_count σ atoms ≤ length atoms
count-most σ [] = omega arith
count-most σ (a ∷ atoms) = by_truth (atom_truth σ a) (forms.true_count σ atoms) (length atoms) (count-most σ atoms)
  where
    by_truth : (t : Bool) (m n : ℕ) → m ≤ n → (if t then suc m else m) ≤ suc n
    by_truth true m n h = omega (arith, h)
    by_truth false m n h = omega (arith, h)

count-agree : (n : ℕ) (σ τ : Valuation) (atoms : List Atom) → Agree n σ τ → AtomsBelow n atoms → forms.true_count σ atoms ≡ forms.true_count τ atoms
count-agree n σ τ atoms agree below =
    same_meanings.count σ atoms ∙ (ap count_true (truths-agree n σ τ atoms agree below) ∙ sym (same_meanings.count τ atoms))

-- Over atoms and integers.

module _ (vars : ℕ) (C : Valuation → Type 0) (keeps : DependsBelow (vars + 1) C) where
  -- `bool_OP_reif`, `bool_array_OP_reif`
  pub operator-lowers : (op : Operator) (atoms : List Atom) (z : Atom) → AtomsBelow (vars + 1) atoms → AtomBelow (vars + 1) z
      → Lowers vars (operator_made vars op atoms z).vars C (operator_made vars op atoms z).cores (λ σ. IsTrue (same (atom_truth σ z) (combine op (forms.truths σ atoms))))
  operator-lowers operator.Or atoms z below at =
      lowers-one vars C (core.Conj (not_atom z) (map not_atom atoms)) (λ σ. same (atom_truth σ z) (combine operator.Or (forms.truths σ atoms)))
      ((AtomBelow-not_atom (vars + 1) z at, AtomsBelow-negated (vars + 1) atoms below), tt) tt (λ σ c. or-truth σ atoms z)
  operator-lowers operator.And atoms z below at =
      lowers-one vars C (core.Conj z atoms) (λ σ. same (atom_truth σ z) (combine operator.And (forms.truths σ atoms)))
      ((at, below), tt) tt (λ σ c. and-truth σ atoms z)
  operator-lowers operator.Xor atoms z below at =
      lowers-one vars C (core.Parity (atoms ++ z ∷ []) false) (λ σ. same (atom_truth σ z) (combine operator.Xor (forms.truths σ atoms)))
      (AtomsBelow-last (vars + 1) atoms z below at, tt) tt (λ σ c. xor-truth σ atoms z)
  operator-lowers operator.Iff atoms z below at = lowers-all_equal vars C atoms z keeps below at

-- The statements.

module _ (vars n : ℕ) (ds : List Decl) (entries : List MapValue) (h : EntriesFit (vars + 1) ds entries) where
  abbrev C : Valuation → Type 0
  C σ = AreOrdered σ entries

  abbrev env : Valuation → List ℤ
  env σ = numbers.numbers_of σ entries

  truth : (x : BoolTerm) → TruthFits ds n x → (σ : Valuation) → atom_truth σ (atom_of entries x) ≡ truth_of (env σ) x
  truth x k σ = (atom_of-laws σ (vars + 1) n ds entries x h k).0

  below : (x : BoolTerm) → TruthFits ds n x → AtomBelow (vars + 1) (atom_of entries x)
  below x k = (atom_of-laws (λ _. false) (vars + 1) n ds entries x h k).1

  truths : (xs : List BoolTerm) → TruthsFit ds n xs → (σ : Valuation) → forms.truths σ (atoms_of entries xs) ≡ truths_of (env σ) xs
  truths xs k σ = atoms_of-truths σ (vars + 1) n ds entries xs h k

  all-below : (xs : List BoolTerm) → TruthsFit ds n xs → AtomsBelow (vars + 1) (atoms_of entries xs)
  all-below xs k = atoms_of-below (vars + 1) n ds entries xs h k

  small : (i : IntTerm) → NumberFits ds n i → TermInLimit i → SmallInteger (vars + 1) (integer_of entries i)
  small i k l = integer_of-small (vars + 1) n ds entries h i k l

  value : (i : IntTerm) → NumberFits ds n i → (σ : Valuation) → value_of σ (integer_of entries i) ≡ number_of (env σ) i
  value i k σ = integer_of-value (vars + 1) n ds entries h σ i k

  least : (m : ℤ) (i : IntTerm) → NumberFits ds n i → IsAtLeast ds m i → m ≤ℤ low_of (integer_of entries i)
  least m i k l = integer_of-least (vars + 1) n ds entries h m i k l

  ordered : (i : IntTerm) (σ : Valuation) → C σ → IsOrdered σ (integer_of entries i)
  ordered i σ c = IsOrdered-integer_of σ entries i c

  -- a statement whose name is an operator: its operands as atoms
  pub operator-stands : (op : Operator) (atoms : List Atom) (z : Atom) (ts : Valuation → List Bool) (t : Valuation → Bool)
      → AtomsBelow (vars + 1) atoms → AtomBelow (vars + 1) z
      → ((σ : Valuation) → forms.truths σ atoms ≡ ts σ) → ((σ : Valuation) → atom_truth σ z ≡ t σ)
      → Lowers vars (operator_made vars op atoms z).vars C (operator_made vars op atoms z).cores (λ σ. IsTrue (same (t σ) (combine op (ts σ))))
  operator-stands op atoms z ts t all at e f =
      lowers-same vars (operator_made vars op atoms z).vars C (operator_made vars op atoms z).cores
      (λ σ. IsTrue (same (atom_truth σ z) (combine op (forms.truths σ atoms)))) (λ σ. IsTrue (same (t σ) (combine op (ts σ))))
      (λ σ c. (λ m. rw (e σ, f σ) at m, λ m. rw (e σ, f σ) m))
      (operator-lowers vars C (AreOrdered-depends (vars + 1) ds entries h) op atoms z all at)

  operation-stands : (o : Arithmetic) (i j k : IntTerm) → NumberFits ds n i → NumberFits ds n j → NumberFits ds n k
      → TermInLimit i → TermInLimit j → TermInLimit k → ValuesFit ds (statement.IntOp o) (Number i ∷ Number j ∷ Number k ∷ [])
      → Lowers vars (operation_made vars o (integer_of entries i) (integer_of entries j) (integer_of entries k)).vars C
      (operation_made vars o (integer_of entries i) (integer_of entries j) (integer_of entries k)).cores
      (λ σ. IsTrue (gives o (number_of (env σ) i) (number_of (env σ) j) (number_of (env σ) k)))
  operation-stands arithmetic.Plus i j k fi fj fk li lj lk low =
      let a = small i fi li in
      let b = small j fj lj in
      let c = small k fk lk in
      lowers-one vars C (core.Sum3 (integer_of entries i) (integer_of entries j) (integer_of entries k)) (λ σ. gives arithmetic.Plus (number_of (env σ) i) (number_of (env σ) j) (number_of (env σ) k))
      (tt, (a.below, (b.below, (c.below, tt)))) (sum-well_formed (vars + 1) (integer_of entries i) (integer_of entries j) (integer_of entries k) a b c)
      (λ σ o. rw (← value i fi σ, ← value j fj σ, ← value k fk σ) (sum-truth σ (integer_of entries i) (integer_of entries j) (integer_of entries k) (ordered i σ o) (ordered j σ o) (ordered k σ o)))
  operation-stands arithmetic.Times i j k fi fj fk li lj lk low =
      let a = small i fi li in
      let b = small j fj lj in
      let c = small k fk lk in
      lowers-one vars C (core.Prod (integer_of entries i) (integer_of entries j) (integer_of entries k)) (λ σ. gives arithmetic.Times (number_of (env σ) i) (number_of (env σ) j) (number_of (env σ) k))
      (tt, (a.below, (b.below, (c.below, tt)))) (product-well_formed (vars + 1) (integer_of entries i) (integer_of entries j) (integer_of entries k) a b c)
      (λ σ o. rw (← value i fi σ, ← value j fj σ, ← value k fk σ) (product-truth σ (integer_of entries i) (integer_of entries j) (integer_of entries k) (ordered i σ o) (ordered j σ o) (ordered k σ o)))
  operation-stands arithmetic.Max i j k fi fj fk li lj lk low =
      let members : List OrdInt = integer_of entries i ∷ integer_of entries j ∷ [] in
      let each : AreSmallIntegers (vars + 1) members = (small i fi li, (small j fj lj, tt)) in
      let c = small k fk lk in
      lowers-one vars C (core.Max members (integer_of entries k)) (λ σ. gives arithmetic.Max (number_of (env σ) i) (number_of (env σ) j) (number_of (env σ) k))
      (greatest-below (vars + 1) members (integer_of entries k) each c) (greatest-well_formed (vars + 1) members (integer_of entries k) each c (omega arith))
      (λ σ o. rw (← value i fi σ, ← value j fj σ, ← value k fk σ) (greatest-truth σ members (integer_of entries k) (ordered-integers_of σ entries (i ∷ j ∷ []) o) (ordered k σ o)))
  operation-stands arithmetic.Min i j k fi fj fk li lj lk low =
      let members : List OrdInt = integer_of entries i ∷ integer_of entries j ∷ [] in
      let each : AreSmallIntegers (vars + 1) (map negated_of members) =
      small-negated_each (vars + 1) members (small i fi li, (small j fj lj, tt)) in
      let c = small-negated (vars + 1) (integer_of entries k) (small k fk lk) in
      lowers-one vars C (least_core members (integer_of entries k)) (λ σ. gives arithmetic.Min (number_of (env σ) i) (number_of (env σ) j) (number_of (env σ) k))
      (greatest-below (vars + 1) (map negated_of members) (negated_of (integer_of entries k)) each c)
      (greatest-well_formed (vars + 1) (map negated_of members) (negated_of (integer_of entries k)) each c (omega arith))
      (λ σ o. rw (← value i fi σ, ← value j fj σ, ← value k fk σ) (least-truth σ members (integer_of entries k) (ordered-integers_of σ entries (i ∷ j ∷ []) o) (ordered k σ o)))
  operation-stands arithmetic.Div i j k fi fj fk li lj lk fits =
      lowers-same vars (operation_made vars arithmetic.Div (integer_of entries i) (integer_of entries j) (integer_of entries k)).vars C
      (operation_made vars arithmetic.Div (integer_of entries i) (integer_of entries j) (integer_of entries k)).cores
      (λ σ. IsTrue (is_quotient (value_of σ (integer_of entries i)) (value_of σ (integer_of entries j)) (value_of σ (integer_of entries k)))) (λ σ. IsTrue (gives arithmetic.Div (number_of (env σ) i) (number_of (env σ) j) (number_of (env σ) k)))
      (λ σ c. (λ m. rw (value i fi σ, value j fj σ, value k fk σ) at m, λ m. rw (value i fi σ, value j fj σ, value k fk σ) m))
      (quotient-lowers vars C (AreOrdered-depends (vars + 1) ds entries h) (integer_of entries i) (integer_of entries j) (integer_of entries k)
      (small i fi li) (small j fj lj) (small k fk lk) (least (pos 0) i fi fits.0) (least (pos 1) j fj fits.1)
      (λ σ o. (ordered i σ o, ordered j σ o, ordered k σ o)))
  operation-stands arithmetic.Mod i j k fi fj fk li lj lk fits =
      lowers-same vars (operation_made vars arithmetic.Mod (integer_of entries i) (integer_of entries j) (integer_of entries k)).vars C
      (operation_made vars arithmetic.Mod (integer_of entries i) (integer_of entries j) (integer_of entries k)).cores
      (λ σ. IsTrue (is_remainder (value_of σ (integer_of entries i)) (value_of σ (integer_of entries j)) (value_of σ (integer_of entries k)))) (λ σ. IsTrue (gives arithmetic.Mod (number_of (env σ) i) (number_of (env σ) j) (number_of (env σ) k)))
      (λ σ c. (λ m. rw (value i fi σ, value j fj σ, value k fk σ) at m, λ m. rw (value i fi σ, value j fj σ, value k fk σ) m))
      (remainder-lowers vars C (AreOrdered-depends (vars + 1) ds entries h) (integer_of entries i) (integer_of entries j) (integer_of entries k)
      (small i fi li) (small j fj lj) (small k fk lk) (least (pos 0) i fi fits.0) (least (pos 1) j fj fits.1)
      (λ σ o. (ordered i σ o, ordered j σ o, ordered k σ o)))

  aggregate-stands : (o : Aggregate) (is : List IntTerm) (i : IntTerm) → NumbersFit ds n is → NumberFits ds n i
      → TermsInLimit is → TermInLimit i → length is ≤ 16777216 → HasMember o (Numbers is ∷ Number i ∷ [])
      → Lowers vars (aggregate_made vars o (integers_of entries is) (integer_of entries i)).vars C
      (aggregate_made vars o (integers_of entries is) (integer_of entries i)).cores
      (λ σ. IsTrue (is_aggregate o (numbers_of (env σ) is) (number_of (env σ) i)))
  aggregate-stands aggregate.Max is i fs fi ls li few some =
      let members : List OrdInt = integers_of entries is in
      let each : AreSmallIntegers (vars + 1) members = integers_of-small (vars + 1) n ds entries is h fs ls in
      let a = small i fi li in
      lowers-one vars C (core.Max members (integer_of entries i)) (λ σ. is_aggregate aggregate.Max (numbers_of (env σ) is) (number_of (env σ) i))
      (greatest-below (vars + 1) members (integer_of entries i) each a)
      (greatest-well_formed (vars + 1) members (integer_of entries i) each a (omega (arith, length-map is (integer_of entries), some)))
      (λ σ o. rw (← value i fi σ, ← integers_of-values (vars + 1) n ds entries h σ is fs) (greatest-truth σ members (integer_of entries i) (ordered-integers_of σ entries is o) (ordered i σ o)))
  aggregate-stands aggregate.Min is i fs fi ls li few some =
      let members : List OrdInt = integers_of entries is in
      let each : AreSmallIntegers (vars + 1) (map negated_of members) = small-negated_each (vars + 1) members (integers_of-small (vars + 1) n ds entries is h fs ls) in
      let a = small-negated (vars + 1) (integer_of entries i) (small i fi li) in
      lowers-one vars C (least_core members (integer_of entries i)) (λ σ. is_aggregate aggregate.Min (numbers_of (env σ) is) (number_of (env σ) i))
      (greatest-below (vars + 1) (map negated_of members) (negated_of (integer_of entries i)) each a)
      (greatest-well_formed (vars + 1) (map negated_of members) (negated_of (integer_of entries i)) each a (omega (arith, length-map members negated_of, length-map is (integer_of entries), some)))
      (λ σ o. rw (← value i fi σ, ← integers_of-values (vars + 1) n ds entries h σ is fs) (least-truth σ members (integer_of entries i) (ordered-integers_of σ entries is o) (ordered i σ o)))
  aggregate-stands aggregate.Plus is i fs fi ls li few some = aggregate-sum-stands vars n ds entries h is i fs ls few fi li

  comparison-stands : (rel : Relation) (r : Atom) (t : Valuation → Bool) (i j : IntTerm) → AtomBelow (vars + 1) r → ((σ : Valuation) → atom_truth σ r ≡ t σ)
      → NumberFits ds n i → NumberFits ds n j → TermInLimit i → TermInLimit j
      → Lowers vars vars C (comparison_core rel r (integer_of entries i) (integer_of entries j) ∷ []) (λ σ. IsTrue (same (t σ) (relates rel (number_of (env σ) i) (number_of (env σ) j))))
  comparison-stands rel r t i j at e fi fj li lj =
      let a = small i fi li in
      let b = small j fj lj in
      lowers-one vars C (comparison_core rel r (integer_of entries i) (integer_of entries j)) (λ σ. same (t σ) (relates rel (number_of (env σ) i) (number_of (env σ) j)))
      (comparison-below (vars + 1) rel r (integer_of entries i) (integer_of entries j) at a.below b.below) (comparison-well_formed rel r (integer_of entries i) (integer_of entries j) a.sound b.sound)
      (λ σ o. rw (← e σ, ← value i fi σ, ← value j fj σ) (comparison-truth σ rel r (integer_of entries i) (integer_of entries j) (ordered i σ o) (ordered j σ o)))

  -- a fresh integer counts, and is compared
  compared-stands : (rel : Relation) (xs : List BoolTerm) (i : IntTerm) → TruthsFit ds n xs → NumberFits ds n i → TermInLimit i → length xs ≤ 16777216
      → Lowers vars (compared_count vars rel (atoms_of entries xs) (integer_of entries i)).vars C (compared_count vars rel (atoms_of entries xs) (integer_of entries i)).cores
      (λ σ. IsTrue (relates rel (pos (count_true (truths_of (env σ) xs))) (number_of (env σ) i)))
  compared-stands rel xs i fs fi li few =
      let atoms : List Atom = atoms_of entries xs in
      let a : OrdInt = integer_of entries i in
      let most : ℕ = length atoms in
      let short : most ≤ 16777216 = omega (arith, length-map xs (atom_of entries), few) in
      let z : OrdInt = fresh_range vars most in
      let fresh : SmallInteger (vars + most + 1) z = small-fresh vars most (omega (arith, short)) in
      let fits : SmallInteger (vars + most + 1) a = small-more (vars + 1) (vars + most + 1) a (omega arith) (small i fi li) in
      let below-atoms : AtomsBelow (vars + most + 1) atoms = AtomsBelow-more (vars + 1) (vars + most + 1) atoms (omega arith) (all-below xs fs) in
      let keeps = AreOrdered-depends (vars + 1) ds entries h in
      let D : Valuation → Type 0 = Counts vars most C (λ σ. forms.true_count σ atoms) in
      lowers-behind vars (vars + most) (vars + most) C D (core.Count atoms z ∷ []) (comparison_core rel True z a ∷ [])
      (extends-number vars most C (core.Count atoms z) (λ σ. forms.true_count σ atoms)
      (below-atoms, (fresh.below, tt)) (count-well_formed (vars + most + 1) atoms z fresh short)
      (λ σ c. refl) (λ σ. count-most σ atoms) (λ σ τ agree. count-agree (vars + 1) σ τ atoms agree (all-below xs fs)) keeps)
      keeps
      (λ σ. IsTrue (relates rel (pos (count_true (truths_of (env σ) xs))) (number_of (env σ) i)))
      (λ σ. IsTrue (same true (relates rel (value_of σ z) (value_of σ a))))
      (λ σ τ agree p.
      let e : relates rel (pos (count_true (truths_of (env σ) xs))) (number_of (env σ) i) ≡ relates rel (pos (count_true (truths_of (env τ) xs))) (number_of (env τ) i) =
      ap (λ e. relates rel (pos (count_true (truths_of e xs))) (number_of e i)) (numbers_of-agree (vars + 1) σ τ ds entries agree h) in
      sym e ∙ p)
      (λ σ d.
      let e : relates rel (value_of σ z) (value_of σ a) ≡ relates rel (pos (count_true (truths_of (env σ) xs))) (number_of (env σ) i) =
      rw (d.2, value i fi σ, ← truths xs fs σ) (ap (λ n. relates rel (pos n) (number_of (env σ) i)) (same_meanings.count σ atoms)) in
      (λ p. e ∙ p, λ p. sym e ∙ p))
      (lowers-one (vars + most) D (comparison_core rel True z a) (λ σ. same true (relates rel (value_of σ z) (value_of σ a)))
      (comparison-below (vars + most + 1) rel True z a tt fresh.below fits.below) (comparison-well_formed rel True z a fresh.sound fits.sound)
      (λ σ d. comparison-truth σ rel True z a d.1 (ordered i σ d.0)))

  count-stands : (rel : Relation) (xs : List BoolTerm) (i : IntTerm) → TruthsFit ds n xs → NumberFits ds n i → TermInLimit i → length xs ≤ 16777216
      → Lowers vars (count_made vars rel (atoms_of entries xs) (integer_of entries i)).vars C (count_made vars rel (atoms_of entries xs) (integer_of entries i)).cores
      (λ σ. IsTrue (relates rel (pos (count_true (truths_of (env σ) xs))) (number_of (env σ) i)))
  count-stands relation.Eq xs i fs fi li few =
      let a = small i fi li in
      lowers-one vars C (core.Count (atoms_of entries xs) (integer_of entries i)) (λ σ. relates relation.Eq (pos (count_true (truths_of (env σ) xs))) (number_of (env σ) i))
      (all-below xs fs, (a.below, tt)) (count-well_formed (vars + 1) (atoms_of entries xs) (integer_of entries i) a (omega (arith, length-map xs (atom_of entries), few)))
      (λ σ o. rw (← value i fi σ, ← truths xs fs σ) (count-truth σ (atoms_of entries xs) (integer_of entries i) (ordered i σ o)))
  count-stands relation.Leq xs i fs fi li few = compared-stands relation.Leq xs i fs fi li few
  count-stands relation.Geq xs i fs fi li few = compared-stands relation.Geq xs i fs fi li few
  count-stands relation.Lt xs i fs fi li few = compared-stands relation.Lt xs i fs fi li few
  count-stands relation.Gt xs i fs fi li few = compared-stands relation.Gt xs i fs fi li few
  count-stands relation.Neq xs i fs fi li few = compared-stands relation.Neq xs i fs fi li few

  -- an integer is a Boolean's
  bit-stands : (x : BoolTerm) (i : IntTerm) → TruthFits ds n x → ArgumentFits ds n wanted.NewInteger (Number i) → TermInLimit i
      → Lowers vars vars C (bit_core (atom_of entries x) (integer_of entries i) ∷ []) (λ σ. IsTrue (int_eq (number_of (env σ) i) (as_number (truth_of (env σ) x))))
  bit-stands x (int_term.Number z) f g l = absurd g
  bit-stands x (int_term.Of p) f g l =
      let i : IntTerm = int_term.Of p in
      let a : OrdInt = integer_of entries i in
      let fa : SmallInteger (vars + 1) a = integer_of-small (vars + 1) (n + 1) ds entries h i g l in
      let b : OrdInt = integer_of_atom (atom_of entries x) in
      let fb : SmallInteger (vars + 1) b = small-bit (vars + 1) (atom_of entries x) (below x f) in
      lowers-one vars C (bit_core (atom_of entries x) a) (λ σ. int_eq (number_of (env σ) i) (as_number (truth_of (env σ) x)))
      (comparison-below (vars + 1) relation.Eq True a b tt fa.below fb.below) (comparison-well_formed relation.Eq True a b fa.sound fb.sound)
      (λ σ o.
      rw (← integer_of-value (vars + 1) (n + 1) ds entries h σ i g, ← truth x f σ, ← bit-value (atom_truth σ (atom_of entries x)))
      (comparison-truth σ relation.Eq True a b (ordered i σ o) (bit-ordered (atom_truth σ (atom_of entries x)))))

  -- the test of a statement
  stands : (w : What) → WhatFits ds n w → WhatInLimit w
      → Lowers vars (made_of vars entries w).vars C (made_of vars entries w).cores (λ σ. IsTrue (holds (env σ) w))
  unfolding holds
  stands (BoolToInt x i) fit limit = bit-stands x i fit.arguments.0 fit.arguments.1.0 limit.0.1.0
  stands (BoolEq x y) fit limit =
      lowers-one vars C (equal_core (atom_of entries x) (atom_of entries y)) (λ σ. same (truth_of (env σ) x) (truth_of (env σ) y))
      ((below x fit.arguments.0, (below y fit.arguments.1.0, tt)), tt) tt
      (λ σ o. rw (← truth x fit.arguments.0 σ, ← truth y fit.arguments.1.0 σ) (equal-truth σ (atom_of entries x) (atom_of entries y)))
  stands (BoolOp name op x y z) fit limit =
      let args = fit.arguments in
      operator-stands op (atom_of entries x ∷ atom_of entries y ∷ []) (atom_of entries z)
      (λ σ. truth_of (env σ) x ∷ truth_of (env σ) y ∷ []) (λ σ. truth_of (env σ) z)
      (below x args.0, (below y args.1.0, tt)) (below z args.1.1.0)
      (λ σ. truths (x ∷ y ∷ []) (args.0, (args.1.0, tt)) σ)
      (λ σ. truth z args.1.1.0 σ)
  stands (BoolArray name op xs) fit limit =
      lowers-here vars C (array_cores op (atoms_of entries xs)) (λ σ. combine op (truths_of (env σ) xs))
      (array-below (vars + 1) op (atoms_of entries xs) (all-below xs fit.arguments.0)) (array-well_formed op (atoms_of entries xs))
      (λ σ o. rw (← truths xs fit.arguments.0 σ) (array-truth σ op (atoms_of entries xs)))
  stands (BoolArrayReified name op xs z) fit limit =
      operator-stands op (atoms_of entries xs) (atom_of entries z) (λ σ. truths_of (env σ) xs) (λ σ. truth_of (env σ) z)
      (all-below xs fit.arguments.0) (below z fit.arguments.1.0) (truths xs fit.arguments.0) (truth z fit.arguments.1.0)
  stands (Compare name rel i j) fit limit =
      comparison-stands rel True (λ σ. true) i j tt (λ σ. refl) fit.arguments.0 fit.arguments.1.0 limit.0.0 limit.0.1.0
  stands (CompareReified name rel i j z) fit limit =
      let args = fit.arguments in
      comparison-stands rel (atom_of entries z) (λ σ. truth_of (env σ) z) i j (below z args.1.1.0) (truth z args.1.1.0) args.0 args.1.0 limit.0.0 limit.0.1.0
  stands (BoolSum name rel xs i) fit limit =
      count-stands rel xs i fit.arguments.0 fit.arguments.1.0 limit.0.1.0 (omega (arith, limit.1))
  stands (BoolLinear name rel cs xs i) fit limit =
      let args = fit.arguments in
      truths-stand vars n ds entries h rel cs xs i limit.0.0 args.1.0 (omega (arith, limit.1)) args.1.1.0 limit.0.1.1.0
  stands (IntSum name rel is i) fit limit =
      let args = fit.arguments in
      sums-stand vars n ds entries h rel is i args.0 limit.0.0 (omega (arith, limit.1)) args.1.0 limit.0.1.0
  stands (IntLinear name rel cs is i) fit limit =
      let args = fit.arguments in
      multiples-stand vars n ds entries h rel cs is i limit.0.0 args.1.0 limit.0.1.0 (omega (arith, limit.1)) args.1.1.0 limit.0.1.1.0
  stands (IntOp name o i j k) fit limit =
      let args = fit.arguments in
      operation-stands o i j k args.0 args.1.0 args.1.1.0 limit.0.0 limit.0.1.0 limit.0.1.1.0 fit.values
  stands (Absolute i j) fit limit =
      let args = fit.arguments in
      let a = small i args.0 limit.0.0 in
      let b = small j args.1.0 limit.0.1.0 in
      let members : List OrdInt = integer_of entries i ∷ negated_of (integer_of entries i) ∷ [] in
      let each : AreSmallIntegers (vars + 1) members = (a, (small-negated (vars + 1) (integer_of entries i) a, tt)) in
      lowers-one vars C (absolute_core (integer_of entries i) (integer_of entries j)) (λ σ. int_eq (number_of (env σ) j) (pos (unsigned_abs (number_of (env σ) i))))
      (greatest-below (vars + 1) members (integer_of entries j) each b) (greatest-well_formed (vars + 1) members (integer_of entries j) each b (omega arith))
      (λ σ o. rw (← value i args.0 σ, ← value j args.1.0 σ) (absolute-truth σ (integer_of entries i) (integer_of entries j) (ordered i σ o) (ordered j σ o)))
  stands (IntArray name o is i) fit limit =
      aggregate-stands o is i fit.arguments.0 fit.arguments.1.0 limit.0.0 limit.0.1.0 (omega (arith, limit.1)) fit.values
  stands (IntAllDifferent name d is z xs) fit limit =
      difference-stands vars n ds entries h d is z xs fit.arguments fit.lengths limit.0.0
  stands (Lexicographic name o xs ys is js z) fit limit =
      words-stand vars n ds entries h o.strict xs ys is js z o.of_booleans o.reified fit.arguments fit.lengths limit.0

pub line_law : LineLaw
line_law vars n ds entries w h fit limit =
    let decides = λ (σ : Valuation). Decides-holds (numbers.numbers_of σ entries) w in
    lowers-same vars (made_of vars entries w).vars (λ σ. AreOrdered σ entries) (made_of vars entries w).cores
    (λ σ. IsTrue (holds (numbers.numbers_of σ entries) w)) (λ σ. Holds (numbers.numbers_of σ entries) w)
    (λ σ c. ((decides σ).0, (decides σ).1))
    (stands vars n ds entries h w fit limit)
