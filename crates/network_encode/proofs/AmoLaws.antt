-- The parts of at-most-one stand for it.
use Rattle.std.proofs.Common.{◌≡◌, ℕ, zero, suc, ◌+◌, ◌≤◌, Bool, true, false, not, ◌&&◌, List, [], ◌∷◌, ◌++◌, length, refl, sym, ap, ◌∙◌, arith}
use Rattle.std.specs.Prelude.{nat_le}
use Rattle.std.proofs.lemmas.Bool.Decides.{nat_tests}
use Rattle.std.proofs.lemmas.List.{length-append}
use Rattle.order_ints.specs.Label.{variable}
use Rattle.order_ints.specs.declared.atom.Atom.{Atom}
use Rattle.order_ints.specs.Truth.{Valuation, Agree, atom_truth, not_atom}
use Rattle.order_ints.proofs.Gains.{AtomBelow-more}
use Rattle.order_ints.proofs.Truths.{atom_truth-not_atom}
use Rattle.order_ints.proofs.TruthLaws.{atom_agrees}
use Rattle.order_ints.proofs.PlaceLaws.{AtomsBelow-up}
use Rattle.core_cost.specs.ListForms.{cost_of_amo}
use Rattle.core_forms.specs.declared.form.Core.TheVariants.{Amo}
use Rattle.core_forms.specs.Truths.{true_count}
use Rattle.core_forms.specs.Place.{CoreBelow}
use Rattle.core_forms.specs.Meaning.{core_truth, Meets}
use Rattle.core_forms.specs.Cost.{cost_of}
use Rattle.core_forms.specs.Cores.{MeetsAll, costs_of}
use Rattle.core_forms.proofs.Mapped.{core_truth-agree}
use Rattle.part_base.specs.PartsFor.{DoFit, ArePartsFor}
use Rattle.part_base.specs.FreshTruths.{with_fresh}
use Rattle.part_base.proofs.PartLaws.{parts-made}
use Rattle.part_base.proofs.FreshLaws.{with_fresh-Agree, truth-first}
use Rattle.network_encode.specs.AtomParts.{amo_parts}
use Rattle.network_encode.proofs.TrueCounts.{one_if, count-cons, count-last, fresh_below, AtomsBelow-last}

le-true : (m n : ℕ) → m ≤ n → nat_le m n ≡ true
le-true m n h = grind (arith, nat_tests)

true-le : (m n : ℕ) → nat_le m n ≡ true → m ≤ n
true-le m n h = grind (arith, nat_tests)

and-left : (s t : Bool) → (s && t) ≡ true → s ≡ true
and-left true t h = refl
and-left false t h = absurd (cc)

and-right : (s t : Bool) → (s && t) ≡ true → t ≡ true
and-right true t h = h
and-right false t h = absurd (cc)

both : (s t : Bool) → s ≡ true → t ≡ true → (s && (t && true)) ≡ true
both true true h k = refl
both true false h k = absurd (cc)
both false t h k = absurd (cc)

-- a truth and its negation count one together
one-not : (t : Bool) → one_if (not t) + one_if t ≡ 1
one-not true = refl
one-not false = refl

-- the fresh variable and its negation, as counts
fresh-count : (σ : Valuation) (t : Atom) → one_if (atom_truth σ (not_atom t)) + one_if (atom_truth σ t) ≡ 1
fresh-count σ t = ap (λ b. one_if b + one_if (atom_truth σ t)) (atom_truth-not_atom σ t) ∙ one-not (atom_truth σ t)

-- whether a number is not 0
abbrev is_some_of : ℕ → Bool
is_some_of n = nat_le 1 n

some-counts : (n : ℕ) → n ≤ 1 → one_if (is_some_of n) ≡ n
some-counts zero h = refl
some-counts (suc zero) h = refl
some-counts (suc (suc n)) h = absurd (omega (arith, h))

-- the counts of the lists of the parts
module _ (σ : Valuation) (l m n t : Atom) (rest : List Atom) where
  count-front : true_count σ (l ∷ m ∷ n ∷ not_atom t ∷ []) ≡ true_count σ (l ∷ m ∷ n ∷ []) + one_if (atom_truth σ (not_atom t))
  count-front = count-last σ (l ∷ m ∷ n ∷ []) (not_atom t)

  count-all : true_count σ (l ∷ m ∷ n ∷ rest) ≡ true_count σ (l ∷ m ∷ n ∷ []) + true_count σ rest
  count-all =
      omega (arith, count-cons σ l (m ∷ n ∷ rest), count-cons σ m (n ∷ rest), count-cons σ n rest, count-cons σ l (m ∷ n ∷ []), count-cons σ m (n ∷ []), count-cons σ n [])

-- two parts cost what the whole costs
cost-more : (k : ℕ) → 2 ≤ k → cost_of_amo (suc (suc (suc k))) ≡ 13 + cost_of_amo (suc k)
cost-more zero h = absurd (omega (arith, h))
cost-more (suc zero) h = absurd (omega (arith, h))
cost-more (suc (suc k)) h = refl

module _ (next : ℕ) (l m n : Atom) (rest : List Atom) where
  implies : (σ : Valuation) → MeetsAll σ (amo_parts next (l ∷ m ∷ n ∷ rest)).cores → Meets σ (Amo (l ∷ m ∷ n ∷ rest))
  implies σ met =
      let front = core_truth σ (Amo (l ∷ m ∷ n ∷ not_atom (variable next) ∷ [])) in
      let back = core_truth σ (Amo (rest ++ variable next ∷ [])) in
      let first = true-le (true_count σ (l ∷ m ∷ n ∷ not_atom (variable next) ∷ [])) 1 (and-left front (back && true) met) in
      let second = true-le (true_count σ (rest ++ variable next ∷ [])) 1 (and-left back true (and-right front (back && true) met)) in
      le-true (true_count σ (l ∷ m ∷ n ∷ rest)) 1
      (omega (arith, first, second, count-front σ l m n (variable next) rest, count-all σ l m n (variable next) rest, count-last σ rest (variable next), fresh-count σ (variable next)))

  -- the fresh variable is true where one of the three members is
  changed : Valuation → Valuation
  changed σ = with_fresh next σ (λ _. is_some_of (true_count σ (l ∷ m ∷ n ∷ [])))

  extends : CoreBelow next (Amo (l ∷ m ∷ n ∷ rest)) → (σ : Valuation) → Meets σ (Amo (l ∷ m ∷ n ∷ rest)) → (τ : Valuation) × Agree next σ τ × MeetsAll τ (amo_parts next (l ∷ m ∷ n ∷ rest)).cores
  unfolding changed
  extends below σ met =
      let τ = changed σ in
      let same : Agree next σ τ = with_fresh-Agree next σ (λ _. is_some_of (true_count σ (l ∷ m ∷ n ∷ []))) in
      let kept : core_truth τ (Amo (l ∷ m ∷ n ∷ rest)) ≡ true = sym (core_truth-agree next σ τ (Amo (l ∷ m ∷ n ∷ rest)) below same) ∙ met in
      let few = true-le (true_count τ (l ∷ m ∷ n ∷ rest)) 1 kept in
      let sl : atom_truth σ l ≡ atom_truth τ l = atom_agrees next σ τ same l below.0.0 in
      let sm : atom_truth σ m ≡ atom_truth τ m = atom_agrees next σ τ same m below.0.1.0 in
      let sn : atom_truth σ n ≡ atom_truth τ n = atom_agrees next σ τ same n below.0.1.1.0 in
      let counts : true_count σ (l ∷ m ∷ n ∷ []) ≡ true_count τ (l ∷ m ∷ n ∷ []) =
      omega (arith, count-cons σ l (m ∷ n ∷ []), count-cons σ m (n ∷ []), count-cons σ n [], count-cons τ l (m ∷ n ∷ []), count-cons τ m (n ∷ []), count-cons τ n [], ap one_if sl, ap one_if sm, ap one_if sn) in
      let three : true_count τ (l ∷ m ∷ n ∷ []) ≤ 1 = omega (arith, few, count-all τ l m n (variable next) rest) in
      let is : one_if (atom_truth τ (variable next)) ≡ true_count τ (l ∷ m ∷ n ∷ []) =
      ap one_if (truth-first next σ (λ _. is_some_of (true_count σ (l ∷ m ∷ n ∷ []))) ∙ ap is_some_of counts) ∙ some-counts (true_count τ (l ∷ m ∷ n ∷ [])) three in
      let first : core_truth τ (Amo (l ∷ m ∷ n ∷ not_atom (variable next) ∷ [])) ≡ true =
      le-true (true_count τ (l ∷ m ∷ n ∷ not_atom (variable next) ∷ [])) 1 (omega (arith, count-front τ l m n (variable next) rest, fresh-count τ (variable next), is)) in
      let second : core_truth τ (Amo (rest ++ variable next ∷ [])) ≡ true =
      le-true (true_count τ (rest ++ variable next ∷ [])) 1 (omega (arith, count-last τ rest (variable next), is, few, count-all τ l m n (variable next) rest)) in
      (τ, same, both (core_truth τ (Amo (l ∷ m ∷ n ∷ not_atom (variable next) ∷ []))) (core_truth τ (Amo (rest ++ variable next ∷ []))) first second)

  fit : 1 ≤ next → CoreBelow next (Amo (l ∷ m ∷ n ∷ rest)) → DoFit next (amo_parts next (l ∷ m ∷ n ∷ rest))
  fit least below = record {
    formed = (tt, (tt, tt));
    below = (
      ((AtomBelow-more next (next + 1) l (omega arith) below.0.0, (AtomBelow-more next (next + 1) m (omega arith) below.0.1.0, (AtomBelow-more next (next + 1) n (omega arith) below.0.1.1.0, (fresh_below next least, tt)))), tt),
      ((AtomsBelow-last (next + 1) rest (variable next) (AtomsBelow-up next (next + 1) (omega arith) rest below.0.1.1.1) (fresh_below next least), tt), tt),
    );
  }

  cost : 2 ≤ length rest → 1 + costs_of (amo_parts next (l ∷ m ∷ n ∷ rest)).cores ≤ cost_of (Amo (l ∷ m ∷ n ∷ rest))
  cost more = omega (arith, ap cost_of_amo (length-append rest (variable next ∷ [])), cost-more (length rest) more, ap cost_of_amo longer)
    where
      longer : length rest + 1 ≡ suc (length rest)
      longer = omega arith

pub amo_parts-for : (next : ℕ) (ls : List Atom) → 5 ≤ length ls → 1 ≤ next → CoreBelow next (Amo ls) → ArePartsFor (Amo ls) next (amo_parts next ls)
amo_parts-for next [] more least below = absurd (omega (arith, more))
amo_parts-for next (l ∷ []) more least below = absurd (omega (arith, more))
amo_parts-for next (l ∷ m ∷ []) more least below = absurd (omega (arith, more))
amo_parts-for next (l ∷ m ∷ n ∷ rest) more least below =
    parts-made (Amo (l ∷ m ∷ n ∷ rest)) next (amo_parts next (l ∷ m ∷ n ∷ rest)) below (fit next l m n rest least below) (cost next l m n rest (omega (arith, more)))
    (implies next l m n rest) (extends next l m n rest below)
