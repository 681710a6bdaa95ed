-- A tidied core means what the core means.
use Rattle.std.proofs.Common.{◌≡◌, ℕ, zero, suc, ◌+◌, Bool, true, false, not, ◌&&◌, ◌||◌, cond, List, [], ◌∷◌, ℤ, pos, neg_ℤ, ◌+ℤ◌, refl, sym, ap, ◌∙◌, arith}
use Rattle.std.specs.Prelude.{nat_le}
use Rattle.std.specs.Bool.{beq}
use Rattle.std.specs.Ordering.{int_eq}
use Rattle.std.proofs.lemmas.Int.{ints}
use Rattle.std.proofs.lemmas.Bool.{or_right, and_right}
use Rattle.std.proofs.lemmas.Bool.Decides.{same_from_decides, Decides-int_eq, Decides-like}
use Rattle.order_ints.specs.declared.atom.Atom.{Atom}
use Rattle.order_ints.specs.declared.atom.Atom.TheVariants.{True, False, Of}
use Rattle.order_ints.specs.declared.order_int.OrdInt.{OrdInt}
use Rattle.order_ints.specs.Truth.{Valuation, atom_truth, lit_truth}
use Rattle.order_ints.specs.AtomClauses.{atom_clause_truth}
use Rattle.order_ints.specs.OrderValue.{value_of}
use Rattle.order_ints.specs.OrderChange.{shifted_of}
use Rattle.order_ints.specs.View.{MeetsView}
use Rattle.order_ints.proofs.Multiples.{value_of-shifted_of}
use Rattle.core_forms.specs.declared.form.Core.{Core}
use Rattle.core_forms.specs.declared.form.Core.TheVariants.{Ladder, Clause, Parity, Conj, Comp, LeqR, EqR, Sum3, Count, Sum, Max, AllDiff, Amo, Prod, DivMod, Lex}
use Rattle.core_forms.specs.Truths.{all_true, true_count, is_odd}
use Rattle.core_forms.specs.Values.{all_ordered, values}
use Rattle.core_forms.specs.Meaning.{core_truth}
use Rattle.core_forms.specs.Place.{CoreBelow}
use Rattle.core_forms.specs.Resolved.{resolved_core}
use Rattle.core_forms.specs.Trimmed.{has_true, has_false, without_true, without_false, without_constants, constant_trues, turned, tidied_clause, tidied_members, tidied_int, tidied_ints, tidied_core, trimmed_core}
use Rattle.core_forms.proofs.Tidied.{by_test, value-tidied, in_order-tidied}
use Rattle.core_forms.proofs.Mapped.{core_truth-resolved}

-- where turns were taken for the true ones that are gone, parity is as it was
parity-turned : (k m : ℕ) (odd : Bool) → beq (is_odd m) (turned k odd) ≡ beq (is_odd (k + m)) odd
parity-turned zero m odd = let e : m ≡ 0 + m = omega arith in ap (λ x. beq (is_odd x) odd) e
parity-turned (suc k) m odd =
    let e : suc (k + m) ≡ suc k + m = omega arith in
    flip (is_odd m) (turned k odd) ∙ ap not (parity-turned k m odd) ∙ sym (turn (is_odd (k + m)) odd) ∙ ap (λ x. beq (is_odd x) odd) e
  where
    flip : (b o : Bool) → beq b (not o) ≡ not (beq b o)
    flip true true = refl
    flip true false = refl
    flip false true = refl
    flip false false = refl

    turn : (b o : Bool) → beq (not b) o ≡ not (beq b o)
    turn true true = refl
    turn true false = refl
    turn false true = refl
    turn false false = refl

-- a number less k is m where the number is k + m
int_eq-shifted : (v : ℤ) (k m : ℕ) → int_eq (v +ℤ neg_ℤ (pos k)) (pos m) ≡ int_eq v (pos (k + m))
int_eq-shifted v k m =
    let there : v +ℤ neg_ℤ (pos k) ≡ pos m → v ≡ pos (k + m) = λ e. omega (arith, ints, e) in
    let back : v ≡ pos (k + m) → v +ℤ neg_ℤ (pos k) ≡ pos m = λ e. omega (arith, ints, e) in
    same_from_decides _ _ (Decides-like _ there back (Decides-int_eq (v +ℤ neg_ℤ (pos k)) (pos m))) (Decides-int_eq v (pos (k + m)))

module _ (σ : Valuation) where
  clause-has_true : (ls : List Atom) → has_true ls ≡ true → atom_clause_truth σ ls ≡ true
  clause-has_true [] h = absurd (cc)
  clause-has_true (True ∷ ls) h = refl
  clause-has_true (False ∷ ls) h = clause-has_true ls h
  clause-has_true (Of l ∷ ls) h = or_right (lit_truth σ l) (atom_clause_truth σ ls) (clause-has_true ls h)

  clause-without_false : (ls : List Atom) → atom_clause_truth σ (without_false ls) ≡ atom_clause_truth σ ls
  clause-without_false [] = refl
  clause-without_false (True ∷ ls) = refl
  clause-without_false (False ∷ ls) = clause-without_false ls
  clause-without_false (Of l ∷ ls) = ap (λ b. lit_truth σ l || b) (clause-without_false ls)

  clause-tidied : (ls : List Atom) → atom_clause_truth σ (tidied_clause ls) ≡ atom_clause_truth σ ls
  clause-tidied ls =
      by_test (has_true ls) (True ∷ []) (without_false ls) (λ xs. atom_clause_truth σ xs ≡ atom_clause_truth σ ls)
      (λ e. sym (clause-has_true ls e)) (λ _. clause-without_false ls)

  all_true-has_false : (ls : List Atom) → has_false ls ≡ true → all_true σ ls ≡ false
  all_true-has_false [] h = absurd (cc)
  all_true-has_false (True ∷ ls) h = all_true-has_false ls h
  all_true-has_false (False ∷ ls) h = refl
  all_true-has_false (Of l ∷ ls) h = and_right (lit_truth σ l) (all_true σ ls) (all_true-has_false ls h)

  all_true-without_true : (ls : List Atom) → all_true σ (without_true ls) ≡ all_true σ ls
  all_true-without_true [] = refl
  all_true-without_true (True ∷ ls) = all_true-without_true ls
  all_true-without_true (False ∷ ls) = refl
  all_true-without_true (Of l ∷ ls) = ap (λ b. lit_truth σ l && b) (all_true-without_true ls)

  all_true-tidied : (ls : List Atom) → all_true σ (tidied_members ls) ≡ all_true σ ls
  all_true-tidied ls =
      by_test (has_false ls) (False ∷ []) (without_true ls) (λ xs. all_true σ xs ≡ all_true σ ls)
      (λ e. sym (all_true-has_false ls e)) (λ _. all_true-without_true ls)

  count-without_false : (ls : List Atom) → true_count σ (without_false ls) ≡ true_count σ ls
  count-without_false [] = refl
  count-without_false (True ∷ ls) = ap suc (count-without_false ls)
  count-without_false (False ∷ ls) = count-without_false ls
  count-without_false (Of l ∷ ls) = ap (λ n. cond (lit_truth σ l) (suc n) n) (count-without_false ls)

  -- the true ones are the constants and the others
  count-without_constants : (ls : List Atom) → constant_trues ls + true_count σ (without_constants ls) ≡ true_count σ ls
  count-without_constants [] = refl
  count-without_constants (True ∷ ls) = omega (arith, count-without_constants ls)
  count-without_constants (False ∷ ls) = count-without_constants ls
  count-without_constants (Of l ∷ ls) = by (lit_truth σ l) (true_count σ (without_constants ls)) (true_count σ ls) (count-without_constants ls)
    where
      by : (t : Bool) (m n : ℕ) → constant_trues ls + m ≡ n → constant_trues ls + cond t (suc m) m ≡ cond t (suc n) n
      by true m n e = omega (arith, e)
      by false m n e = e

  all_ordered-tidied : (xs : List OrdInt) → all_ordered σ (tidied_ints xs) ≡ all_ordered σ xs
  all_ordered-tidied [] = refl
  all_ordered-tidied (a ∷ xs) = let e = in_order-tidied σ a in let r = all_ordered-tidied xs in cc

  values-tidied : (xs : List OrdInt) → values σ (tidied_ints xs) ≡ values σ xs
  values-tidied [] = refl
  values-tidied (a ∷ xs) = let e = value-tidied σ a in let r = values-tidied xs in cc

  parity-tidied : (ls : List Atom) (odd : Bool) → beq (is_odd (true_count σ (without_constants ls))) (turned (constant_trues ls) odd) ≡ beq (is_odd (true_count σ ls)) odd
  parity-tidied ls odd =
      parity-turned (constant_trues ls) (true_count σ (without_constants ls)) odd ∙ ap (λ n. beq (is_odd n) odd) (count-without_constants ls)

  count-tidied : (ls : List Atom) (c : OrdInt) → int_eq (value_of σ (shifted_of (tidied_int c) (neg_ℤ (pos (constant_trues ls))))) (pos (true_count σ (without_constants ls))) ≡ int_eq (value_of σ c) (pos (true_count σ ls))
  count-tidied ls c =
      ap (λ v. int_eq v (pos (true_count σ (without_constants ls)))) (value_of-shifted_of σ (tidied_int c) (neg_ℤ (pos (constant_trues ls))) ∙ ap (λ v. v +ℤ neg_ℤ (pos (constant_trues ls))) (value-tidied σ c))
      ∙ int_eq-shifted (value_of σ c) (constant_trues ls) (true_count σ (without_constants ls))
      ∙ ap (λ n. int_eq (value_of σ c) (pos n)) (count-without_constants ls)

  pub core_truth-tidied : (core : Core) → core_truth σ (tidied_core core) ≡ core_truth σ core
  core_truth-tidied (Ladder a) = in_order-tidied σ a
  core_truth-tidied (Clause ls) = clause-tidied ls
  core_truth-tidied (Parity ls odd) = parity-tidied ls odd
  core_truth-tidied (Conj r ls) = ap (λ b. beq (atom_truth σ r) b) (all_true-tidied ls)
  core_truth-tidied (Comp a b hi lo) = refl
  core_truth-tidied (LeqR r a b) =
      let oa = in_order-tidied σ a in let ob = in_order-tidied σ b in let va = value-tidied σ a in let vb = value-tidied σ b in cc
  core_truth-tidied (EqR r a b) =
      let oa = in_order-tidied σ a in let ob = in_order-tidied σ b in let va = value-tidied σ a in let vb = value-tidied σ b in cc
  core_truth-tidied (Sum3 a b c) =
      let oa = in_order-tidied σ a in let ob = in_order-tidied σ b in let oc = in_order-tidied σ c in
      let va = value-tidied σ a in let vb = value-tidied σ b in let vc = value-tidied σ c in cc
  core_truth-tidied (Count ls c) = let o = in_order-tidied σ c in let e = count-tidied ls c in cc
  core_truth-tidied (Sum xs k) = let o = all_ordered-tidied xs in let v = values-tidied xs in cc
  core_truth-tidied (Max xs c) =
      let o = all_ordered-tidied xs in let v = values-tidied xs in let oc = in_order-tidied σ c in let vc = value-tidied σ c in cc
  core_truth-tidied (AllDiff xs cs) = let o = all_ordered-tidied xs in let v = values-tidied xs in cc
  core_truth-tidied (Amo ls) = ap (λ n. nat_le n 1) (count-without_false ls)
  core_truth-tidied (Prod a b c) =
      let oa = in_order-tidied σ a in let ob = in_order-tidied σ b in let oc = in_order-tidied σ c in
      let va = value-tidied σ a in let vb = value-tidied σ b in let vc = value-tidied σ c in cc
  core_truth-tidied (DivMod a b q r) =
      let oa = in_order-tidied σ a in let ob = in_order-tidied σ b in let oq = in_order-tidied σ q in let or = in_order-tidied σ r in
      let va = value-tidied σ a in let vb = value-tidied σ b in let vq = value-tidied σ q in let vr = value-tidied σ r in cc
  core_truth-tidied (Lex r strict front back) =
      let of = all_ordered-tidied front in let ob = all_ordered-tidied back in let vf = values-tidied front in let vb = values-tidied back in cc

-- a valuation that meets the view meets the trimmed core exactly where it meets the core
pub core_truth-trimmed : (σ : Valuation) (view : List Atom) (n : ℕ) (core : Core) → CoreBelow n core → MeetsView σ view → core_truth σ (trimmed_core view core) ≡ core_truth σ core
core_truth-trimmed σ view n core below meets = core_truth-tidied σ (resolved_core view core) ∙ core_truth-resolved σ view n core below meets
