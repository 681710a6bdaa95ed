-- Ids that ascend.
use Rattle.std.proofs.Common.{◌≡◌, ℕ, zero, suc, ◌+◌, ◌<◌, ◌≤◌, List, [], ◌∷◌, ◌++◌, length, get_or, arith, refl, subst, inl, inr}
use Rattle.std.proofs.lemmas.Bool.{cases_lt}
use Rattle.proof_check.specs.Arena.{Ascend, last_from}

-- each is above the one that they begin above
pub ascend-low : (low : ℕ) (ids : List ℕ) (i : ℕ) → Ascend low ids → i < length ids → low < get_or ids i 0
ascend-low low [] i up lt = absurd (omega arith)
ascend-low low (id ∷ ids) zero up lt = up.0
ascend-low low (id ∷ ids) (suc i) up lt =
    let above : id < get_or ids i 0 = ascend-low id ids i up.1 (omega (arith, lt)) in omega (arith, up.0, above)

-- a later one is greater
pub ascend-at : (low : ℕ) (ids : List ℕ) (i j : ℕ) → Ascend low ids → i < j → j < length ids → get_or ids i 0 < get_or ids j 0
ascend-at low [] i j up lt inside = absurd (omega arith)
ascend-at low (id ∷ ids) i zero up lt inside = absurd (omega arith)
ascend-at low (id ∷ ids) zero (suc j) up lt inside = ascend-low id ids j up.1 (omega (arith, inside))
ascend-at low (id ∷ ids) (suc i) (suc j) up lt inside = ascend-at id ids i j up.1 (omega (arith, lt)) (omega (arith, inside))

-- one more above the last
pub ascend-more : (low : ℕ) (ids : List ℕ) (id : ℕ) → Ascend low ids → last_from low ids < id → Ascend low (ids ++ id ∷ [])
ascend-more low [] id up lt = (lt, tt)
ascend-more low (x ∷ ids) id up lt = (up.0, ascend-more x ids id up.1 lt)

pub last-more : (low : ℕ) (ids : List ℕ) (id : ℕ) → last_from low (ids ++ id ∷ []) ≡ id
last-more low [] id = refl
last-more low (x ∷ ids) id = last-more x ids id

-- the last one, by its place
pub last-at : (low : ℕ) (ids : List ℕ) (n : ℕ) → length ids ≡ n + 1 → last_from low ids ≡ get_or ids n 0
last-at low [] n e = absurd (omega arith)
last-at low (x ∷ []) zero e = refl
last-at low (x ∷ []) (suc n) e = absurd (omega (arith, e))
last-at low (x ∷ y ∷ ids) zero e = absurd (omega (arith, e))
last-at low (x ∷ y ∷ ids) (suc n) e = last-at x (y ∷ ids) n (omega (arith, e))

-- up to a place whose id is smaller, all are smaller
pub below-middle : (ids : List ℕ) (id m : ℕ) → Ascend 0 ids → m < length ids → get_or ids m 0 < id → (i : ℕ) → i < m + 1 → get_or ids i 0 < id
below-middle ids id m up inside less i lt =
    elim (cases_lt i m) [
      | inl before ↦ (let step : get_or ids i 0 < get_or ids m 0 = ascend-at 0 ids i m up before inside in omega (arith, step, less))
      | inr after ↦ (let same : m ≡ i = omega (arith, after, lt) in let P : ℕ → Type 0 = λ k. get_or ids k 0 < id in subst P same less)
    ]

-- from a place on whose id is greater, all are greater
pub above-middle : (ids : List ℕ) (id m : ℕ) → Ascend 0 ids → id < get_or ids m 0 → (i : ℕ) → m ≤ i → i < length ids → id < get_or ids i 0
above-middle ids id m up more i le inside =
    elim (cases_lt m i) [
      | inl behind ↦ (let step : get_or ids m 0 < get_or ids i 0 = ascend-at 0 ids m i up behind inside in omega (arith, step, more))
      | inr here ↦ (let same : m ≡ i = omega (arith, here, le) in let P : ℕ → Type 0 = λ k. id < get_or ids k 0 in subst P same more)
    ]
