-- The cost of a sum of unit steps meets its equation: it is the lesser of the table's and of the network's.
use Rattle.std.proofs.Common.{◌≡◌, ℕ, ◌+◌, ◌≤◌, Bool, true, false, min, zero, suc, refl, ap, ◌∙◌, arith, inl, inr, leb, ◌&&◌}
use Rattle.std.proofs.lemmas.Bool.{leb-true, and_parts, cases_Bool}
use Rattle.core_cost.specs.Comparisons.{cost_of_ladder}
use Rattle.core_cost.specs.Network.{half_up, half_down, has_network, cost_of_table, cheaper, unit_sum_within, cost_of_unit_sum, cost_of_network, cost_of_sum3_over}

-- what a network asks of its sides
pub sides : (n m : ℕ) → has_network n m ≡ true → (1 ≤ n) × (1 ≤ m) × (3 ≤ n + m)
sides n m h =
    let outer = and_parts (leb 1 n && leb 1 m) (leb 3 (n + m)) h in
    let inner = and_parts (leb 1 n) (leb 1 m) outer.0 in
    (leb-true 1 n inner.0, leb-true 1 m inner.1, leb-true 3 (n + m) outer.1)

pub none_at_one : (n m : ℕ) → n ≤ 1 → m ≤ 1 → has_network n m ≡ false
none_at_one n m h k = elim (cases_Bool (has_network n m)) [ inl t ↦ let s = sides n m t in absurd (omega arith) | inr f ↦ f ]

cheaper-same : (t : Bool) (table x y : ℕ) → (t ≡ true → x ≡ y) → cheaper t table x ≡ cheaper t table y
cheaper-same true table x y h = ap (min table) (h refl)
cheaper-same false table x y h = refl

-- more halvings than are needed change nothing
pub within-same : (d e n m : ℕ) → n ≤ d + 1 → m ≤ d + 1 → n ≤ e + 1 → m ≤ e + 1 → unit_sum_within d n m ≡ unit_sum_within e n m
within-same zero zero n m h k i j = refl
within-same zero (suc e) n m h k i j = rw (none_at_one n m (omega arith) (omega arith)) refl
within-same (suc d) zero n m h k i j = rw (none_at_one n m (omega arith) (omega arith)) refl
within-same (suc d) (suc e) n m h k i j =
    let up = within-same d e (half_up n) (half_up m) (omega arith) (omega arith) (omega arith) (omega arith) in
    let down = within-same d e (half_down n) (half_down m) (omega arith) (omega arith) (omega arith) (omega arith) in
    rw (up, down) refl

-- the cost of a sum of unit steps is that of a sum
pub unit_sum-equation : (n m : ℕ) → cost_of_unit_sum n m ≡ cost_of_sum3_over n m (n + m) n m
unfolding cost_of_unit_sum
unit_sum-equation n m =
    within-same (n + m) (suc (n + m)) n m (omega arith) (omega arith) (omega arith) (omega arith)
    ∙ ap (λ rest. cost_of_ladder n + cost_of_ladder m + cost_of_ladder (n + m) + rest)
    (cheaper-same (has_network n m) (cost_of_table n m) _ _ (λ t.
    let s = sides n m t in
    let up = within-same (n + m) (half_up n + half_up m) (half_up n) (half_up m) (omega arith) (omega arith) (omega arith) (omega arith) in
    let down = within-same (n + m) (half_down n + half_down m) (half_down n) (half_down m) (omega arith) (omega arith) (omega arith) (omega arith) in
    rw (up, down) refl))

pub unit_sum_by_table : (n m : ℕ) → has_network n m ≡ false
    → cost_of_unit_sum n m ≡ cost_of_ladder n + cost_of_ladder m + cost_of_ladder (n + m) + cost_of_table n m
unit_sum_by_table n m f = unit_sum-equation n m ∙ rw f refl

pub unit_sum_by_network : (n m : ℕ) → has_network n m ≡ true
    → cost_of_unit_sum n m ≡ cost_of_ladder n + cost_of_ladder m + cost_of_ladder (n + m) + min (cost_of_table n m) (cost_of_network n m (n + m))
unit_sum_by_network n m t = unit_sum-equation n m ∙ rw t refl
