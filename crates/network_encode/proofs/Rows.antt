-- A row of comparators puts two lists in order whose numbers of true atoms differ by at most one, and each valuation can be
-- changed in the row's fresh variables so that it is met.
use Rattle.std.proofs.Common.{◌≡◌, ℕ, zero, suc, ◌+◌, ◌*◌, ◌≤◌, min, Bool, true, false, ◌&&◌, ◌||◌, List, [], ◌∷◌, length, refl, sym, ap, ◌∙◌, arith}
use Rattle.std.specs.Bool.{beq}
use Rattle.order_ints.specs.Label.{own_labels, variable}
use Rattle.order_ints.specs.declared.atom.Atom.{Atom}
use Rattle.order_ints.specs.Truth.{Valuation, Agree, atom_truth}
use Rattle.order_ints.specs.Place.{AtomBelow, AtomsBelow}
use Rattle.order_ints.proofs.TruthLaws.{atom_agrees}
use Rattle.order_ints.proofs.PlaceLaws.{AtomsBelow-up}
use Rattle.order_ints.proofs.Standing.{Agree-fewer, Agree-trans}
use Rattle.core_forms.specs.declared.form.Core.TheVariants.{Comp}
use Rattle.core_forms.specs.Meaning.{core_truth}
use Rattle.core_forms.specs.Cores.{cores_truth, MeetsAll, CoresBelow, AreWellFormed, costs_of}
use Rattle.part_base.specs.FreshTruths.{with_fresh}
use Rattle.part_base.proofs.FreshLaws.{with_fresh-Agree, truth-first, truth-with_fresh}
use Rattle.network_encode.specs.MergeParts.{row_cores, row_wires}
use Rattle.network_encode.proofs.Halves.{and-left, and-right}
use Rattle.network_encode.proofs.Sorted.{Sorted, sorted-same}

equal-truths : (s t : Bool) → beq s t ≡ true → s ≡ t
equal-truths true true h = refl
equal-truths true false h = absurd (cc)
equal-truths false true h = absurd (cc)
equal-truths false false h = refl

beq-same : (s t : Bool) → s ≡ t → beq s t ≡ true
beq-same true true h = refl
beq-same true false h = absurd (cc)
beq-same false true h = absurd (cc)
beq-same false false h = refl

both-true : (s t : Bool) → s ≡ true → t ≡ true → (s && t) ≡ true
both-true true t h k = k
both-true false t h k = absurd (cc)

-- what a comparator gives
record Compared (σ : Valuation) (hi lo : Atom) (s t : Bool) : Type 0 where
  upper : atom_truth σ hi ≡ (s || t)
  lower : atom_truth σ lo ≡ (s && t)

compared : (σ : Valuation) (a b hi lo : Atom) (s t : Bool) → core_truth σ (Comp a b hi lo) ≡ true → atom_truth σ a ≡ s → atom_truth σ b ≡ t → Compared σ hi lo s t
compared σ a b hi lo s t met first second =
    let up = beq (atom_truth σ hi) (atom_truth σ a || atom_truth σ b) in
    let down = beq (atom_truth σ lo) (atom_truth σ a && atom_truth σ b) in
    record {
      upper = equal-truths (atom_truth σ hi) (atom_truth σ a || atom_truth σ b) (and-left up down met) ∙ (λ i. first i || second i);
      lower = equal-truths (atom_truth σ lo) (atom_truth σ a && atom_truth σ b) (and-right up down met) ∙ (λ i. first i && second i);
    }

-- ---- in order

pub sorted-row : (σ : Valuation) (fresh k j : ℕ) (ds es : List Atom) → k ≤ j + 1 → j ≤ k + 1 → Sorted σ k ds → Sorted σ j es → MeetsAll σ (row_cores fresh ds es) → Sorted σ (k + j) (row_wires fresh ds es)
sorted-row σ fresh k j [] es less more first second met = sorted-same σ j (k + j) es (omega (arith, first)) second
sorted-row σ fresh k j (d ∷ ds) [] less more first second met = sorted-same σ k (k + j) (d ∷ ds) (omega (arith, second)) first
sorted-row σ fresh zero zero (d ∷ ds) (e ∷ es) less more first second met =
    let here = core_truth σ (Comp d e (variable fresh) (variable (fresh + 1))) in
    let rest = cores_truth σ (row_cores (fresh + 2) ds es) in
    let is = compared σ d e (variable fresh) (variable (fresh + 1)) false false (and-left here rest met) first.0 second.0 in
    (is.upper, (is.lower, sorted-row σ (fresh + 2) zero zero ds es less more first.1 second.1 (and-right here rest met)))
sorted-row σ fresh zero (suc zero) (d ∷ ds) (e ∷ es) less more first second met =
    let here = core_truth σ (Comp d e (variable fresh) (variable (fresh + 1))) in
    let rest = cores_truth σ (row_cores (fresh + 2) ds es) in
    let is = compared σ d e (variable fresh) (variable (fresh + 1)) false true (and-left here rest met) first.0 second.0 in
    (is.upper, (is.lower, sorted-row σ (fresh + 2) zero zero ds es (omega arith) (omega arith) first.1 second.1 (and-right here rest met)))
sorted-row σ fresh zero (suc (suc j)) (d ∷ ds) (e ∷ es) less more first second met = absurd (omega (arith, more))
sorted-row σ fresh (suc zero) zero (d ∷ ds) (e ∷ es) less more first second met =
    let here = core_truth σ (Comp d e (variable fresh) (variable (fresh + 1))) in
    let rest = cores_truth σ (row_cores (fresh + 2) ds es) in
    let is = compared σ d e (variable fresh) (variable (fresh + 1)) true false (and-left here rest met) first.0 second.0 in
    (is.upper, (is.lower, sorted-row σ (fresh + 2) zero zero ds es (omega arith) (omega arith) first.1 second.1 (and-right here rest met)))
sorted-row σ fresh (suc (suc k)) zero (d ∷ ds) (e ∷ es) less more first second met = absurd (omega (arith, less))
sorted-row σ fresh (suc k) (suc j) (d ∷ ds) (e ∷ es) less more first second met =
    let here = core_truth σ (Comp d e (variable fresh) (variable (fresh + 1))) in
    let rest = cores_truth σ (row_cores (fresh + 2) ds es) in
    let is = compared σ d e (variable fresh) (variable (fresh + 1)) true true (and-left here rest met) first.0 second.0 in
    let behind = sorted-row σ (fresh + 2) k j ds es (omega (arith, less)) (omega (arith, more)) first.1 second.1 (and-right here rest met) in
    sorted-same σ (suc (suc (k + j))) (suc k + suc j) (variable fresh ∷ variable (fresh + 1) ∷ row_wires (fresh + 2) ds es) (omega arith)
    (is.upper, (is.lower, behind))

-- ---- extended

-- two truth values
abbrev two_truths : Bool → Bool → ℕ → Bool
two_truths s t zero = s
two_truths s t (suc i) = t

-- a valuation with the truth values of a comparator's outputs
abbrev raised : Valuation → ℕ → Atom → Atom → Valuation
raised σ fresh d e = with_fresh fresh σ (two_truths (atom_truth σ d || atom_truth σ e) (atom_truth σ d && atom_truth σ e))

comparator-met : (σ τ : Valuation) (fresh : ℕ) (d e : Atom) → AtomBelow fresh d → AtomBelow fresh e → Agree (fresh + 2) (raised σ fresh d e) τ → core_truth τ (Comp d e (variable fresh) (variable (fresh + 1))) ≡ true
comparator-met σ τ fresh d e bd be same =
    let truths = two_truths (atom_truth σ d || atom_truth σ e) (atom_truth σ d && atom_truth σ e) in
    let all : Agree fresh σ τ =
    Agree-trans fresh σ (raised σ fresh d e) τ (with_fresh-Agree fresh σ truths) (Agree-fewer fresh (fresh + 2) (raised σ fresh d e) τ (omega arith) same) in
    let sd : atom_truth σ d ≡ atom_truth τ d = atom_agrees fresh σ τ all d bd in
    let se : atom_truth σ e ≡ atom_truth τ e = atom_agrees fresh σ τ all e be in
    let hi : atom_truth τ (variable fresh) ≡ (atom_truth τ d || atom_truth τ e) =
    sym (same fresh (omega arith)) ∙ truth-first fresh σ truths ∙ (λ i. sd i || se i) in
    let lo : atom_truth τ (variable (fresh + 1)) ≡ (atom_truth τ d && atom_truth τ e) =
    sym (same (fresh + 1) (omega arith)) ∙ truth-with_fresh fresh σ truths 1 ∙ (λ i. sd i && se i) in
    both-true (beq (atom_truth τ (variable fresh)) (atom_truth τ d || atom_truth τ e)) (beq (atom_truth τ (variable (fresh + 1))) (atom_truth τ d && atom_truth τ e))
    (beq-same (atom_truth τ (variable fresh)) (atom_truth τ d || atom_truth τ e) hi)
    (beq-same (atom_truth τ (variable (fresh + 1))) (atom_truth τ d && atom_truth τ e) lo)

pub row-extends : (σ : Valuation) (fresh : ℕ) (ds es : List Atom) → AtomsBelow fresh ds → AtomsBelow fresh es → (τ : Valuation) × Agree fresh σ τ × MeetsAll τ (row_cores fresh ds es)
row-extends σ fresh [] es bd be = (σ, (λ v h. refl), refl)
row-extends σ fresh (d ∷ ds) [] bd be = (σ, (λ v h. refl), refl)
row-extends σ fresh (d ∷ ds) (e ∷ es) bd be =
    let truths = two_truths (atom_truth σ d || atom_truth σ e) (atom_truth σ d && atom_truth σ e) in
    let next = row-extends (raised σ fresh d e) (fresh + 2) ds es (AtomsBelow-up fresh (fresh + 2) (omega arith) ds bd.1) (AtomsBelow-up fresh (fresh + 2) (omega arith) es be.1) in
    let same : Agree fresh σ next.0 =
    Agree-trans fresh σ (raised σ fresh d e) next.0 (with_fresh-Agree fresh σ truths) (Agree-fewer fresh (fresh + 2) (raised σ fresh d e) next.0 (omega arith) next.1) in (
      next.0,
      same,
      both-true (core_truth next.0 (Comp d e (variable fresh) (variable (fresh + 1)))) (cores_truth next.0 (row_cores (fresh + 2) ds es))
          (comparator-met σ next.0 fresh d e bd.0 be.0 next.1)
          next.2,
    )

-- ---- places, and what a row costs

-- the variables from first on
pub vars-below : (n first count : ℕ) → 1 ≤ first → first + count ≤ n → AtomsBelow n (own_labels first count)
vars-below n first zero least room = tt
vars-below n first (suc count) least room =
    ((least, omega (arith, room)), vars-below n (first + 1) count (omega arith) (omega (arith, room)))

pub length-vars : (first count : ℕ) → length (own_labels first count) ≡ count
length-vars first zero = refl
length-vars first (suc count) = ap suc (length-vars (first + 1) count)

pub row_cores-below : (n fresh : ℕ) (ds es : List Atom) → 1 ≤ fresh → fresh + 2 * min (length ds) (length es) ≤ n → AtomsBelow n ds → AtomsBelow n es → CoresBelow n (row_cores fresh ds es)
row_cores-below n fresh [] es least room bd be = tt
row_cores-below n fresh (d ∷ ds) [] least room bd be = tt
row_cores-below n fresh (d ∷ ds) (e ∷ es) least room bd be = (
  ((bd.0, (be.0, ((least, omega (arith, room)), ((omega arith, omega (arith, room)), tt)))), tt),
  row_cores-below n (fresh + 2) ds es (omega arith) (omega (arith, room)) bd.1 be.1,
)

pub row_wires-below : (n fresh : ℕ) (ds es : List Atom) → 1 ≤ fresh → fresh + 2 * min (length ds) (length es) ≤ n → AtomsBelow n ds → AtomsBelow n es → AtomsBelow n (row_wires fresh ds es)
row_wires-below n fresh [] es least room bd be = be
row_wires-below n fresh (d ∷ ds) [] least room bd be = bd
row_wires-below n fresh (d ∷ ds) (e ∷ es) least room bd be = (
  (least, omega (arith, room)),
  ((omega arith, omega (arith, room)), row_wires-below n (fresh + 2) ds es (omega arith) (omega (arith, room)) bd.1 be.1),
)

pub row_cores-formed : (fresh : ℕ) (ds es : List Atom) → AreWellFormed (row_cores fresh ds es)
row_cores-formed fresh [] es = tt
row_cores-formed fresh (d ∷ ds) [] = tt
row_cores-formed fresh (d ∷ ds) (e ∷ es) = (tt, row_cores-formed (fresh + 2) ds es)

pub row_cores-cost : (fresh : ℕ) (ds es : List Atom) → costs_of (row_cores fresh ds es) ≡ 14 * min (length ds) (length es)
row_cores-cost fresh [] es = omega arith
row_cores-cost fresh (d ∷ ds) [] = omega arith
row_cores-cost fresh (d ∷ ds) (e ∷ es) = omega (arith, row_cores-cost (fresh + 2) ds es)

pub length-row_wires : (fresh : ℕ) (ds es : List Atom) → length (row_wires fresh ds es) ≡ length ds + length es
length-row_wires fresh [] es = omega arith
length-row_wires fresh (d ∷ ds) [] = omega arith
length-row_wires fresh (d ∷ ds) (e ∷ es) = omega (arith, length-row_wires (fresh + 2) ds es)
