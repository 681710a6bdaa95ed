-- The parts of a parity stand for it.
use Rattle.std.proofs.Common.{◌≡◌, ℕ, zero, suc, ◌+◌, ◌≤◌, Bool, true, false, not, ◌&&◌, cond, List, [], ◌∷◌, ◌++◌, length, refl, sym, ap, ◌∙◌, arith}
use Rattle.std.specs.Bool.{beq}
use Rattle.std.proofs.lemmas.List.{length-append}
use Rattle.order_ints.specs.Label.{variable}
use Rattle.order_ints.specs.declared.atom.Atom.{Atom}
use Rattle.order_ints.specs.Truth.{Valuation, Agree, atom_truth}
use Rattle.order_ints.proofs.Gains.{AtomBelow-more}
use Rattle.order_ints.proofs.TruthLaws.{atom_agrees}
use Rattle.order_ints.proofs.PlaceLaws.{AtomsBelow-up}
use Rattle.core_cost.specs.ListForms.{cost_of_parity}
use Rattle.core_forms.specs.declared.form.Core.TheVariants.{Parity}
use Rattle.core_forms.specs.Truths.{true_count, is_odd}
use Rattle.core_forms.specs.Place.{CoreBelow}
use Rattle.core_forms.specs.Meaning.{core_truth, Meets}
use Rattle.core_forms.specs.Cost.{cost_of}
use Rattle.core_forms.specs.Cores.{MeetsAll, costs_of}
use Rattle.core_forms.proofs.Mapped.{core_truth-agree}
use Rattle.part_base.specs.PartsFor.{DoFit, ArePartsFor}
use Rattle.part_base.specs.FreshTruths.{with_fresh}
use Rattle.part_base.proofs.PartLaws.{parts-made}
use Rattle.part_base.proofs.FreshLaws.{with_fresh-Agree, truth-first}
use Rattle.network_encode.proofs.TrueCounts.{fresh_below, AtomsBelow-last}
use Rattle.network_encode.specs.AtomParts.{parity_parts}

-- whether an odd number of atoms is true
abbrev odd_of : Valuation → List Atom → Bool
odd_of σ ls = is_odd (true_count σ ls)

-- one truth more
abbrev turned_by : Bool → Bool → Bool
turned_by t b = cond t (not b) b

odd-cons : (σ : Valuation) (a : Atom) (ls : List Atom) → odd_of σ (a ∷ ls) ≡ turned_by (atom_truth σ a) (odd_of σ ls)
odd-cons σ a ls = by_truth (atom_truth σ a)
  where
    by_truth : (t : Bool) → is_odd (cond t (suc (true_count σ ls)) (true_count σ ls)) ≡ turned_by t (odd_of σ ls)
    by_truth true = refl
    by_truth false = refl

turned-twice : (s t b : Bool) → turned_by s (turned_by t b) ≡ turned_by t (turned_by s b)
turned-twice true true b = refl
turned-twice true false b = refl
turned-twice false true b = refl
turned-twice false false b = refl

odd-last : (σ : Valuation) (ls : List Atom) (a : Atom) → odd_of σ (ls ++ a ∷ []) ≡ turned_by (atom_truth σ a) (odd_of σ ls)
odd-last σ [] a = odd-cons σ a []
odd-last σ (l ∷ ls) a =
    odd-cons σ l (ls ++ a ∷ []) ∙ ap (turned_by (atom_truth σ l)) (odd-last σ ls a)
    ∙ turned-twice (atom_truth σ l) (atom_truth σ a) (odd_of σ ls)
    ∙ ap (turned_by (atom_truth σ a)) (sym (odd-cons σ l ls))

-- three truths of which an even number holds
even-three : (s t u : Bool) → beq (turned_by s (turned_by t (turned_by u false))) false ≡ true → u ≡ turned_by s t
even-three true true true h = absurd (cc)
even-three true true false h = refl
even-three true false true h = refl
even-three true false false h = absurd (cc)
even-three false true true h = refl
even-three false true false h = absurd (cc)
even-three false false true h = absurd (cc)
even-three false false false h = refl

three-even : (s t : Bool) → beq (turned_by s (turned_by t (turned_by (turned_by s t) false))) false ≡ true
three-even true true = refl
three-even true false = refl
three-even false true = refl
three-even false false = refl

turned-both : (s t b : Bool) → turned_by (turned_by s t) b ≡ turned_by s (turned_by t b)
turned-both true true true = refl
turned-both true true false = refl
turned-both true false b = refl
turned-both false t b = refl

-- the oddness of three atoms
odd-three : (σ : Valuation) (l m t : Atom) → odd_of σ (l ∷ m ∷ t ∷ []) ≡ turned_by (atom_truth σ l) (turned_by (atom_truth σ m) (turned_by (atom_truth σ t) false))
odd-three σ l m t =
    odd-cons σ l (m ∷ t ∷ []) ∙ ap (turned_by (atom_truth σ l)) (odd-cons σ m (t ∷ []) ∙ ap (turned_by (atom_truth σ m)) (odd-cons σ t []))

odd-all : (σ : Valuation) (l m : Atom) (rest : List Atom) → odd_of σ (l ∷ m ∷ rest) ≡ turned_by (turned_by (atom_truth σ l) (atom_truth σ m)) (odd_of σ rest)
odd-all σ l m rest =
    odd-cons σ l (m ∷ rest) ∙ ap (turned_by (atom_truth σ l)) (odd-cons σ m rest)
    ∙ sym (turned-both (atom_truth σ l) (atom_truth σ m) (odd_of σ rest))

-- two parts cost what the whole costs
cost-more : (n : ℕ) → 2 ≤ n → cost_of_parity (suc (suc n)) ≡ 13 + cost_of_parity (suc n)
cost-more zero h = absurd (omega (arith, h))
cost-more (suc zero) h = absurd (omega (arith, h))
cost-more (suc (suc n)) h = refl

and-left : (s t : Bool) → (s && t) ≡ true → s ≡ true
and-left true t h = refl
and-left false t h = absurd (cc)

and-right : (s t : Bool) → (s && t) ≡ true → t ≡ true
and-right true t h = h
and-right false t h = absurd (cc)

both : (s t : Bool) → s ≡ true → t ≡ true → (s && (t && true)) ≡ true
both true true h k = refl
both true false h k = absurd (cc)
both false t h k = absurd (cc)

module _ (next : ℕ) (l m : Atom) (rest : List Atom) (odd : Bool) where
  implies : (σ : Valuation) → MeetsAll σ (parity_parts next (l ∷ m ∷ rest) odd).cores → Meets σ (Parity (l ∷ m ∷ rest) odd)
  implies σ met =
      let front = core_truth σ (Parity (l ∷ m ∷ variable next ∷ []) false) in
      let back = core_truth σ (Parity (rest ++ variable next ∷ []) odd) in
      let first : core_truth σ (Parity (l ∷ m ∷ variable next ∷ []) false) ≡ true = and-left front (back && true) met in
      let second : core_truth σ (Parity (rest ++ variable next ∷ []) odd) ≡ true = and-left back true (and-right front (back && true) met) in
      let is : atom_truth σ (variable next) ≡ turned_by (atom_truth σ l) (atom_truth σ m) =
      even-three (atom_truth σ l) (atom_truth σ m) (atom_truth σ (variable next)) (ap (λ b. beq b false) (sym (odd-three σ l m (variable next))) ∙ first) in
      ap (λ b. beq b odd) (odd-all σ l m rest ∙ ap (λ t. turned_by t (odd_of σ rest)) (sym is) ∙ sym (odd-last σ rest (variable next))) ∙ second

  -- the fresh variable is true where one of the two members is
  changed : Valuation → Valuation
  changed σ = with_fresh next σ (λ _. turned_by (atom_truth σ l) (atom_truth σ m))

  extends : CoreBelow next (Parity (l ∷ m ∷ rest) odd) → (σ : Valuation) → Meets σ (Parity (l ∷ m ∷ rest) odd) → (τ : Valuation) × Agree next σ τ × MeetsAll τ (parity_parts next (l ∷ m ∷ rest) odd).cores
  unfolding changed
  extends below σ met =
      let τ = changed σ in
      let same : Agree next σ τ = with_fresh-Agree next σ (λ _. turned_by (atom_truth σ l) (atom_truth σ m)) in
      let kept : core_truth τ (Parity (l ∷ m ∷ rest) odd) ≡ true = sym (core_truth-agree next σ τ (Parity (l ∷ m ∷ rest) odd) below same) ∙ met in
      let sl : atom_truth σ l ≡ atom_truth τ l = atom_agrees next σ τ same l below.0.0 in
      let sm : atom_truth σ m ≡ atom_truth τ m = atom_agrees next σ τ same m below.0.1.0 in
      let is : atom_truth τ (variable next) ≡ turned_by (atom_truth τ l) (atom_truth τ m) =
      truth-first next σ (λ _. turned_by (atom_truth σ l) (atom_truth σ m)) ∙ (λ i. turned_by (sl i) (sm i)) in
      let first : core_truth τ (Parity (l ∷ m ∷ variable next ∷ []) false) ≡ true =
      ap (λ b. beq b false) (odd-three τ l m (variable next) ∙ ap (λ u. turned_by (atom_truth τ l) (turned_by (atom_truth τ m) (turned_by u false))) is) ∙ three-even (atom_truth τ l) (atom_truth τ m) in
      let second : core_truth τ (Parity (rest ++ variable next ∷ []) odd) ≡ true =
      ap (λ b. beq b odd) (odd-last τ rest (variable next) ∙ ap (λ u. turned_by u (odd_of τ rest)) is ∙ sym (odd-all τ l m rest)) ∙ kept in
      (τ, same, both (core_truth τ (Parity (l ∷ m ∷ variable next ∷ []) false)) (core_truth τ (Parity (rest ++ variable next ∷ []) odd)) first second)

  fit : 1 ≤ next → CoreBelow next (Parity (l ∷ m ∷ rest) odd) → DoFit next (parity_parts next (l ∷ m ∷ rest) odd)
  fit least below = record {
    formed = (tt, (tt, tt));
    below = (
      ((AtomBelow-more next (next + 1) l (omega arith) below.0.0, (AtomBelow-more next (next + 1) m (omega arith) below.0.1.0, (fresh_below next least, tt))), tt),
      ((AtomsBelow-last (next + 1) rest (variable next) (AtomsBelow-up next (next + 1) (omega arith) rest below.0.1.1) (fresh_below next least), tt), tt),
    );
  }

  cost : 2 ≤ length rest → 1 + costs_of (parity_parts next (l ∷ m ∷ rest) odd).cores ≤ cost_of (Parity (l ∷ m ∷ rest) odd)
  cost more = omega (arith, ap cost_of_parity (length-append rest (variable next ∷ [])), cost-more (length rest) more, ap cost_of_parity longer)
    where
      longer : length rest + 1 ≡ suc (length rest)
      longer = omega arith

pub parity_parts-for : (next : ℕ) (ls : List Atom) (odd : Bool) → 4 ≤ length ls → 1 ≤ next → CoreBelow next (Parity ls odd) → ArePartsFor (Parity ls odd) next (parity_parts next ls odd)
parity_parts-for next [] odd more least below = absurd (omega (arith, more))
parity_parts-for next (l ∷ []) odd more least below = absurd (omega (arith, more))
parity_parts-for next (l ∷ m ∷ rest) odd more least below =
    parts-made (Parity (l ∷ m ∷ rest) odd) next (parity_parts next (l ∷ m ∷ rest) odd) below (fit next l m rest odd least below) (cost next l m rest odd (omega (arith, more)))
    (implies next l m rest odd) (extends next l m rest odd below)
