-- The truth values that a row gives to its variables.
use Rattle.std.proofs.Common.{◌≡◌, ℕ, zero, suc, ◌+◌, ◌<◌, ◌≤◌, min, Bool, true, false, cond, eqb, length, get_or, drop, map, List, [], ◌∷◌, Contains, refl, sym, ap, subst, arith, add-one, drop-cons}
use Rattle.std.proofs.lemmas.Map.Made.{Contains-tail}
use Rattle.std.proofs.lemmas.Bool.{ne_eqb, eqb-true, eqb-false}
use Rattle.order_ints.specs.Truth.{Valuation, valuation_at}

-- where a variable is not the one at a place, what stands behind that place decides
pub row-step : (vars : List ℕ) (values : List Bool) (v i : ℕ) → i < length vars → i < length values → (get_or vars i 0 ≡ v → ⊥) → valuation_at (drop i vars) (drop i values) v ≡ valuation_at (drop (i + 1) vars) (drop (i + 1) values) v
row-step vars values v i h k ne =
    let test : eqb v (get_or vars i 0) ≡ false = ne_eqb v (get_or vars i 0) (λ e. ne (sym e)) in
    rw (add-one, drop-cons vars i 0 h, drop-cons values i false k, test)

-- behind the last place every variable is false
pub row-end : (vars : List ℕ) (values : List Bool) (v i : ℕ) → min (length vars) (length values) ≤ i → valuation_at (drop i vars) (drop i values) v ≡ false
row-end [] values v zero h = refl
row-end [] values v (suc i) h = refl
row-end (w ∷ vars) [] v zero h = refl
row-end (w ∷ vars) [] v (suc i) h = none (drop i vars)
  where
    none : (ws : List ℕ) → valuation_at ws [] v ≡ false
    none [] = refl
    none (x ∷ ws) = refl
row-end (w ∷ vars) (b ∷ values) v zero h = absurd (omega arith)
row-end (w ∷ vars) (b ∷ values) v (suc i) h = row-end vars values v i (omega arith)

-- a valuation that gives the listed variables these values agrees with the row on each of them
at_place : (σ : Valuation) (ws : List ℕ) (v w : ℕ) → Contains (w ∷ ws) v → (Contains ws v → σ v ≡ valuation_at ws (map σ ws) v) → (b : Bool) → eqb v w ≡ b → σ v ≡ cond b (σ w) (valuation_at ws (map σ ws) v)
at_place σ ws v w c rest true t = ap σ (eqb-true v w t)
at_place σ ws v w c rest false t = rest (Contains-tail w ws v (λ e. eqb-false v w t (sym e)) c)

told : (σ : Valuation) (ws : List ℕ) (v : ℕ) → Contains ws v → σ v ≡ valuation_at ws (map σ ws) v
told σ [] v c = absurd (omega (arith, c.1))
told σ (w ∷ ws) v c = at_place σ ws v w c (told σ ws v) (eqb v w) refl

pub row-agrees : (σ : Valuation) (vars : List ℕ) (values : List Bool) → map σ vars ≡ values → (v : ℕ) → Contains vars v → σ v ≡ valuation_at vars values v
row-agrees σ vars values e v c = subst (λ (bs : List Bool). σ v ≡ valuation_at vars bs v) e (told σ vars v c)
