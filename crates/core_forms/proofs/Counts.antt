-- Numbers of true atoms.
use Rattle.std.proofs.Common.{◌≡◌, ℕ, zero, suc, ◌%◌, Bool, true, false, not, refl, ap, ◌∙◌, arith, eqb}
use Rattle.std.proofs.lemmas.Bool.Decides.{nat_tests}
use Rattle.std.specs.Bool.{beq}
use Rattle.core_forms.specs.Truths.{is_odd}
use Rattle.core_forms.specs.Trimmed.{turned}

-- a number is odd where dividing it by 2 leaves 1
pub is_odd_rest : (n : ℕ) → eqb (n % 2) 1 ≡ is_odd n
is_odd_rest zero = refl
is_odd_rest (suc n) = step n (is_odd n) (is_odd_rest n)
  where
    step : (m : ℕ) (b : Bool) → eqb (m % 2) 1 ≡ b → eqb (suc m % 2) 1 ≡ not b
    step m b h = grind (arith, nat_tests)

-- so many turns change a flag where their number is odd
pub turned_rest : (n : ℕ) (odd : Bool) → not (beq (eqb (n % 2) 1) odd) ≡ turned n odd
turned_rest n odd = ap (λ b. not (beq b odd)) (is_odd_rest n) ∙ turns n
  where
    flip : (b : Bool) (o : Bool) → not (beq (not b) o) ≡ not (not (beq b o))
    flip true true = refl
    flip true false = refl
    flip false true = refl
    flip false false = refl

    base : (o : Bool) → not (beq false o) ≡ o
    base true = refl
    base false = refl

    turns : (m : ℕ) → not (beq (is_odd m) odd) ≡ turned m odd
    turns zero = base odd
    turns (suc m) = flip (is_odd m) odd ∙ ap not (turns m)
