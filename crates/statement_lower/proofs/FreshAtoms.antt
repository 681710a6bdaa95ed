-- Fresh atoms that are the truth of something.
use Rattle.std.proofs.Common.{◌≡◌, ℕ, ◌+◌, ◌≤◌, Bool, true, false, not, ◌&&◌, ◌||◌, cond, ltb, List, [], ◌∷◌, map, IsTrue, refl, sym, ap, ◌∙◌, arith}
use Rattle.std.specs.Bool.{beq}
use Rattle.std.proofs.lemmas.Bool.{lt-ltb, le-ltb, false≢true}
use Rattle.order_ints.specs.declared.atom.Atom.{Atom}
use Rattle.order_ints.specs.Truth.{Valuation, Agree, atom_truth, not_atom}
use Rattle.order_ints.specs.Place.{AtomBelow, AtomsBelow}
use Rattle.order_ints.specs.Represents.{DependsBelow}
use Rattle.order_ints.proofs.Truths.{atom_truth-not_atom, atom_truth-agree, AtomBelow-not_atom}
use Rattle.order_ints.proofs.Gains.{AtomBelow-more}
use Rattle.core_forms.specs.declared.form.Core.{Core}
use Rattle.core_forms.specs.declared.form.Core.TheVariants as core
use Rattle.core_forms.specs.Truths as forms
use Rattle.core_forms.specs.Meaning.{core_truth}
use Rattle.core_forms.specs.Place.{CoreBelow}
use Rattle.core_forms.specs.WellFormed.{IsWellFormed}
use Rattle.core_forms.proofs.CoreLists.{MeetsAll-one}
use Rattle.model_meaning.specs.Booleans.{all_true, none_true}
use Rattle.model_meaning.specs.Holds.{same}
use Rattle.statement_lower.specs.Fresh.{fresh_atom, second_fresh_atom}
use Rattle.statement_lower.specs.Lines.{all_equal_cores}
use Rattle.statement_lower.specs.Lowers.{Lowers}
use Rattle.statement_lower.proofs.BooleanLines.{all-truths, none-truths}
use Rattle.statement_lower.proofs.LowersLaws.{Extends, extends-then, lowers-behind, lowers-one}

-- the valuation that is as another below a variable, and has a value from it on
abbrev pub set_from : Valuation → ℕ → Bool → Valuation
set_from σ n t v = cond (ltb v n) (σ v) t

pub set_from-same : (σ : Valuation) (n : ℕ) (t : Bool) → Agree n σ (set_from σ n t)
set_from-same σ n t v below = sym (ap (λ b. cond b (σ v) t) (lt-ltb v n below))

pub set_from-here : (σ : Valuation) (n : ℕ) (t : Bool) → set_from σ n t n ≡ t
set_from-here σ n t = let le : n ≤ n = omega arith in ap (λ b. cond b (σ n) t) (le-ltb n n le)

-- Lists of atoms.

pub truths-agree : (n : ℕ) (σ τ : Valuation) (atoms : List Atom) → Agree n σ τ → AtomsBelow n atoms → forms.truths σ atoms ≡ forms.truths τ atoms
truths-agree n σ τ [] agree h = refl
truths-agree n σ τ (a ∷ atoms) agree h = rw (atom_truth-agree n σ τ a agree h.0, truths-agree n σ τ atoms agree h.1) refl

pub AtomsBelow-more : (n m : ℕ) (atoms : List Atom) → n ≤ m → AtomsBelow n atoms → AtomsBelow m atoms
AtomsBelow-more n m [] le h = tt
AtomsBelow-more n m (a ∷ atoms) le h = (AtomBelow-more n m a le h.0, AtomsBelow-more n m atoms le h.1)

pub AtomsBelow-negated : (n : ℕ) (atoms : List Atom) → AtomsBelow n atoms → AtomsBelow n (map not_atom atoms)
AtomsBelow-negated n [] h = tt
AtomsBelow-negated n (a ∷ atoms) h = (AtomBelow-not_atom n a h.0, AtomsBelow-negated n atoms h.1)

-- A core says that a fresh atom is the truth of a test.

beq-equal : (x y : Bool) → IsTrue (beq x y) → x ≡ y
beq-equal true true h = refl
beq-equal true false h = absurd (false≢true h)
beq-equal false true h = absurd (false≢true h)
beq-equal false false h = refl

beq-itself : (x : Bool) → IsTrue (beq x x)
beq-itself true = refl
beq-itself false = refl

-- the fresh variable has the value of a test
abbrev pub Names : ℕ → (Valuation → Type 0) → (Valuation → Bool) → Valuation → Type 0
Names vars C test σ = C σ × (σ (vars + 1) ≡ test σ)

pub extends-atom : (vars : ℕ) (C : Valuation → Type 0) (core : Core) (test : Valuation → Bool)
    → CoreBelow (vars + 1 + 1) core → IsWellFormed core
    → ((σ : Valuation) → C σ → core_truth σ core ≡ beq (σ (vars + 1)) (test σ))
    → ((σ τ : Valuation) → Agree (vars + 1) σ τ → test σ ≡ test τ)
    → DependsBelow (vars + 1) C
    → Extends vars (vars + 1) C (Names vars C test) (core ∷ [])
extends-atom vars C core test below well_formed says depends keeps = record {
  more = omega arith;
  below = (below, tt);
  well_formed = (well_formed, tt);
  gives = λ σ c h. (c, beq-equal (σ (vars + 1)) (test σ) (sym (says σ c) ∙ (MeetsAll-one σ core).0 h));
  extends = λ σ c.
      let τ : Valuation = set_from σ (vars + 1) (test σ) in
      let agree : Agree (vars + 1) σ τ = set_from-same σ (vars + 1) (test σ) in
      let e : τ (vars + 1) ≡ test τ = set_from-here σ (vars + 1) (test σ) ∙ depends σ τ agree in
      (τ, agree, (MeetsAll-one τ core).1 (says τ (keeps σ τ agree c) ∙ (ap (λ b. beq b (test τ)) e ∙ beq-itself (test τ))));
}

-- what a fresh atom names depends on it and on those before
pub Names-depends : (vars : ℕ) (C : Valuation → Type 0) (test : Valuation → Bool)
    → ((σ τ : Valuation) → Agree (vars + 1) σ τ → test σ ≡ test τ) → DependsBelow (vars + 1) C
    → DependsBelow (vars + 1 + 1) (Names vars C test)
Names-depends vars C test depends keeps σ τ agree h =
    let less : Agree (vars + 1) σ τ = λ v lt. agree v (omega (arith, lt)) in
    (keeps σ τ less h.0, sym (agree (vars + 1) (omega arith)) ∙ (h.1 ∙ depends σ τ less))

-- Whether all are equal.

module _ (vars : ℕ) (C : Valuation → Type 0) (atoms : List Atom) (z : Atom) (keeps : DependsBelow (vars + 1) C) (below : AtomsBelow (vars + 1) atoms) (at : AtomBelow (vars + 1) z) where
  abbrev all : Valuation → Bool
  all σ = all_true (forms.truths σ atoms)

  abbrev none : Valuation → Bool
  none σ = none_true (forms.truths σ atoms)

  all-agree : (σ τ : Valuation) → Agree (vars + 1) σ τ → all σ ≡ all τ
  all-agree σ τ agree = ap all_true (truths-agree (vars + 1) σ τ atoms agree below)

  none-agree : (σ τ : Valuation) → Agree (vars + 1 + 1) σ τ → none σ ≡ none τ
  none-agree σ τ agree = ap none_true (truths-agree (vars + 1) σ τ atoms (λ v lt. agree v (omega (arith, lt))) below)

  first : Extends vars (vars + 1) C (Names vars C all) (core.Conj (fresh_atom vars) atoms ∷ [])
  first =
      extends-atom vars C (core.Conj (fresh_atom vars) atoms) all
      (((omega arith, omega arith), AtomsBelow-more (vars + 1) (vars + 1 + 1) atoms (omega arith) below), tt) tt
      (λ σ c. ap (beq (σ (vars + 1))) (all-truths σ atoms)) all-agree keeps

  second : Extends (vars + 1) (vars + 1 + 1) (Names vars C all) (Names (vars + 1) (Names vars C all) none) (core.Conj (second_fresh_atom vars) (map not_atom atoms) ∷ [])
  second =
      extends-atom (vars + 1) (Names vars C all) (core.Conj (second_fresh_atom vars) (map not_atom atoms)) none
      (((omega arith, omega arith), AtomsBelow-more (vars + 1) (vars + 1 + 1 + 1) (map not_atom atoms) (omega arith) (AtomsBelow-negated (vars + 1) atoms below)), tt) tt
      (λ σ c. ap (beq (σ (vars + 1 + 1))) (none-truths σ atoms)) none-agree (Names-depends vars C all all-agree keeps)

  one-of : (t a b : Bool) → beq (not t) (not a && (not b && true)) ≡ same t (a || b)
  one-of true true b = refl
  one-of true false true = refl
  one-of true false false = refl
  one-of false true b = refl
  one-of false false true = refl
  one-of false false false = refl

  abbrev last : Core
  last = core.Conj (not_atom z) (not_atom (fresh_atom vars) ∷ not_atom (second_fresh_atom vars) ∷ [])

  last-truth : (σ : Valuation) → core_truth σ last ≡ same (atom_truth σ z) (σ (vars + 1) || σ (vars + 1 + 1))
  last-truth σ =
      rw (atom_truth-not_atom σ z)
      (one-of (atom_truth σ z) (σ (vars + 1)) (σ (vars + 1 + 1)))

  third : Lowers (vars + 1 + 1) (vars + 1 + 1) (Names (vars + 1) (Names vars C all) none) (last ∷ []) (λ σ. IsTrue (same (atom_truth σ z) (σ (vars + 1) || σ (vars + 1 + 1))))
  third =
      lowers-one (vars + 1 + 1) (Names (vars + 1) (Names vars C all) none) last (λ σ. same (atom_truth σ z) (σ (vars + 1) || σ (vars + 1 + 1)))
      ((AtomBelow-not_atom (vars + 1 + 1 + 1) z (AtomBelow-more (vars + 1) (vars + 1 + 1 + 1) z (omega arith) at), ((omega arith, omega arith), ((omega arith, omega arith), tt))), tt) tt
      (λ σ c. last-truth σ)

  pub lowers-all_equal : Lowers vars (vars + 1 + 1) C (all_equal_cores (fresh_atom vars) (second_fresh_atom vars) atoms z) (λ σ. IsTrue (same (atom_truth σ z) (all σ || none σ)))
  lowers-all_equal =
      lowers-behind vars (vars + 1 + 1) (vars + 1 + 1) C (Names (vars + 1) (Names vars C all) none)
      (core.Conj (fresh_atom vars) atoms ∷ core.Conj (second_fresh_atom vars) (map not_atom atoms) ∷ []) (last ∷ [])
      (extends-then vars (vars + 1) (vars + 1 + 1) C (Names vars C all) (core.Conj (fresh_atom vars) atoms ∷ []) (core.Conj (second_fresh_atom vars) (map not_atom atoms) ∷ []) first keeps (Names (vars + 1) (Names vars C all) none) second)
      keeps
      (λ σ. IsTrue (same (atom_truth σ z) (all σ || none σ)))
      (λ σ. IsTrue (same (atom_truth σ z) (σ (vars + 1) || σ (vars + 1 + 1))))
      (λ σ τ agree h.
      let e : same (atom_truth σ z) (all σ || none σ) ≡ same (atom_truth τ z) (all τ || none τ) =
      rw (atom_truth-agree (vars + 1) σ τ z agree at, truths-agree (vars + 1) σ τ atoms agree below) refl in
      sym e ∙ h)
      (λ σ d.
      let e : same (atom_truth σ z) (σ (vars + 1) || σ (vars + 1 + 1)) ≡ same (atom_truth σ z) (all σ || none σ) =
      rw (d.0.1, d.1) refl in
      (λ h. e ∙ h, λ h. sym e ∙ h))
      third
