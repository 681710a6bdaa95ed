-- Costs grow with numbers of steps, of atoms and of members.
use Rattle.std.proofs.Common.{◌≡◌, ℕ, ◌+◌, ◌*◌, ◌-◌, ◌/◌, ◌≤◌, ◌⊎◌, Bool, true, false, List, [], ◌∷◌, length, zero, suc, refl, arith, inl, inr, leb, ◌&&◌}
use Rattle.std.proofs.lemmas.Bool.{leb-false, le-leb, lt-leb, and_cases, cases_lt}
use Rattle.std.proofs.lemmas.Nat.{mul-le}
use Rattle.core_cost.specs.ListForms.{cost_of_parity, cost_of_amo}
use Rattle.core_cost.specs.Comparisons.{cost_of_ladder, cost_of_leq, cost_of_eq, cost_of_lex}
use Rattle.core_cost.specs.Arithmetic.{cost_of_members, cost_of_max, cost_of_all_diff, pairs_of_values, cost_of_prod, cost_of_div_mod}
use Rattle.core_cost.specs.Network.{half_up, half_down, has_network, cost_of_table, cheaper, cost_over_halves, unit_sum_within, cost_of_unit_sum, cost_of_network, cost_of_sum3_over}
use Rattle.core_cost.specs.Counts.{cost_of_half, count_within, cost_of_count}
use Rattle.core_cost.specs.Relations.{AreAtMost, PairsAreAtMost}
use Rattle.core_cost.proofs.NetworkLaws.{sides, within-same}
use Rattle.core_cost.proofs.CountLaws.{count_within-same}

pub ladder_lem : (n : ℕ) → cost_of_ladder n ≡ 2 * (n - 1)
ladder_lem zero = refl
ladder_lem (suc n) = omega arith

pub ladder-mono : (n m : ℕ) → n ≤ m → cost_of_ladder n ≤ cost_of_ladder m
ladder-mono n m h = omega (arith, ladder_lem n, ladder_lem m)

parity_next : (k : ℕ) → cost_of_parity k ≤ cost_of_parity (suc k)
parity_next zero = omega arith
parity_next (suc zero) = omega arith
parity_next (suc (suc zero)) = omega arith
parity_next (suc (suc (suc k))) = omega arith

amo_next : (k : ℕ) → cost_of_amo k ≤ cost_of_amo (suc k)
amo_next zero = omega arith
amo_next (suc zero) = omega arith
amo_next (suc (suc zero)) = omega arith
amo_next (suc (suc (suc zero))) = omega arith
amo_next (suc (suc (suc (suc zero)))) = omega arith
amo_next (suc (suc (suc (suc (suc k))))) = omega (arith, amo_next (suc (suc (suc k))))

-- what grows at each number grows
grows : (f : ℕ → ℕ) → ((k : ℕ) → f k ≤ f (suc k)) → (d k : ℕ) → f k ≤ f (d + k)
grows f next zero k = let e : 0 + k ≡ k = omega arith in rw e (omega arith)
grows f next (suc d) k =
    let e : suc d + k ≡ suc (d + k) = omega arith in
    let before = grows f next d k in
    let step = next (d + k) in
    rw e (omega arith)

pub parity-mono : (k l : ℕ) → k ≤ l → cost_of_parity k ≤ cost_of_parity l
parity-mono k l h = let e : l - k + k ≡ l = omega arith in rw e at (grows cost_of_parity parity_next (l - k) k)

pub amo-mono : (k l : ℕ) → k ≤ l → cost_of_amo k ≤ cost_of_amo l
amo-mono k l h = let e : l - k + k ≡ l = omega arith in rw e at (grows cost_of_amo amo_next (l - k) k)

pub leq-mono : (n m n' m' : ℕ) → n ≤ n' → m ≤ m' → cost_of_leq n m ≤ cost_of_leq n' m'
leq-mono n m n' m' h k = omega (arith, ladder-mono n n' h, ladder-mono m m' k)

pub eq-mono : (n m n' m' : ℕ) → n ≤ n' → m ≤ m' → cost_of_eq n m ≤ cost_of_eq n' m'
eq-mono n m n' m' h k = omega (arith, ladder-mono n n' h, ladder-mono m m' k)

one_le_lex : (ps : List (ℕ × ℕ)) → 1 ≤ cost_of_lex ps
one_le_lex [] = omega arith
one_le_lex (p ∷ []) = omega arith
one_le_lex (p ∷ q ∷ ps) = omega arith

pub lex-mono : (ps qs : List (ℕ × ℕ)) → PairsAreAtMost ps qs → cost_of_lex ps ≤ cost_of_lex qs
lex-mono [] qs h = one_le_lex qs
lex-mono (p ∷ ps) [] h = absurd h
lex-mono (p ∷ []) (q ∷ []) h = leq-mono p.0 p.1 q.0 q.1 h.0 h.1.0
lex-mono (p ∷ []) (q ∷ q' ∷ qs) h = omega (arith, leq-mono p.0 p.1 q.0 q.1 h.0 h.1.0)
lex-mono (p ∷ p' ∷ ps) (q ∷ []) h = absurd h.1.1
lex-mono (p ∷ p' ∷ ps) (q ∷ q' ∷ qs) h = omega (arith, leq-mono p.0 p.1 q.0 q.1 h.0 h.1.0, lex-mono (p' ∷ ps) (q' ∷ qs) h.1.1)

pub pairs-mono : (n m n' m' : ℕ) → n ≤ n' → m ≤ m' → pairs_of_values n m ≤ pairs_of_values n' m'
pairs-mono n m n' m' h k = mul-le (n + 1) (m + 1) (n' + 1) (m' + 1) (omega arith) (omega arith)

length-at_most : (ns ms : List ℕ) → AreAtMost ns ms → length ns ≤ length ms
length-at_most [] ms h = omega arith
length-at_most (n ∷ ns) [] h = absurd h
length-at_most (n ∷ ns) (m ∷ ms) h = omega (arith, length-at_most ns ms h.1)

members-mono : (ns ms : List ℕ) → AreAtMost ns ms → cost_of_members ns ≤ cost_of_members ms
members-mono [] ms h = omega arith
members-mono (n ∷ ns) [] h = absurd h
members-mono (n ∷ ns) (m ∷ ms) h = omega (arith, h.0, ladder-mono n m h.0, members-mono ns ms h.1)

pub max-mono : (ns ms : List ℕ) (c d : ℕ) → AreAtMost ns ms → c ≤ d → cost_of_max ns c ≤ cost_of_max ms d
max-mono ns ms c d h k =
    let places = pairs-mono c (length ns) d (length ms) k (length-at_most ns ms h) in
    let members = members-mono ns ms h in
    let order = ladder-mono c d k in
    sums (cost_of_members ns) (cost_of_members ms) (pairs_of_values c (length ns)) (pairs_of_values d (length ms)) (cost_of_ladder c) (cost_of_ladder d) members places order
  where
    sums : (a a' b b' c c' : ℕ) → a ≤ a' → b ≤ b' → c ≤ c' → a + b + c ≤ a' + b' + c'
    sums a a' b b' c c' x y z = omega arith

pub all_diff-mono : (ns ms : List ℕ) → AreAtMost ns ms → cost_of_all_diff ns ≤ cost_of_all_diff ms
all_diff-mono [] ms h = omega arith
all_diff-mono (n ∷ ns) [] h = absurd h
all_diff-mono (n ∷ ns) (m ∷ ms) h = omega (arith, h.0, ladder-mono n m h.0, all_diff-mono ns ms h.1)

pub prod-mono : (n m c n' m' c' : ℕ) → n ≤ n' → m ≤ m' → c ≤ c' → cost_of_prod n m c ≤ cost_of_prod n' m' c'
prod-mono n m c n' m' c' h k i =
    let pairs = pairs-mono n m n' m' h k in
    let a = ladder-mono n n' h in let b = ladder-mono m m' k in let d = ladder-mono c c' i in omega arith

pub div_mod-mono : (n m q r n' m' q' r' : ℕ) → n ≤ n' → m ≤ m' → q ≤ q' → r ≤ r' → cost_of_div_mod n m q r ≤ cost_of_div_mod n' m' q' r'
div_mod-mono n m q r n' m' q' r' h k i j =
    let pairs = pairs-mono n m n' m' h k in
    let a = ladder-mono n n' h in let b = ladder-mono m m' k in let d = ladder-mono q q' i in let e = ladder-mono r r' j in omega arith

-- ---- networks

-- a network costs at least 14 for each wire, less 7
pub over_halves-floor : (odd even wires c : ℕ) → 14 * wires ≤ cost_over_halves odd even wires c + 7
over_halves-floor odd even wires c = omega (arith, ladder_lem wires)

over_halves-mono : (odd even wires c odd' even' wires' c' : ℕ) → odd ≤ odd' → even ≤ even' → wires ≤ wires' → c ≤ c'
    → cost_over_halves odd even wires c ≤ cost_over_halves odd' even' wires' c'
over_halves-mono odd even wires c odd' even' wires' c' h k i j =
    let equal = eq-mono wires c wires' c' i j in
    let comparators : (wires - 1) / 2 ≤ (wires' - 1) / 2 = omega arith in
    sums (cost_of_eq wires c) (cost_of_eq wires' c') ((wires - 1) / 2) ((wires' - 1) / 2) equal comparators
  where
    sums : (e e' p p' : ℕ) → e ≤ e' → p ≤ p' → odd + even + wires + 16 * p + e ≤ odd' + even' + wires' + 16 * p' + e'
    sums e e' p p' x y = omega arith

-- where there is no network
pub no_sides : (n m : ℕ) → has_network n m ≡ false → (n ≡ 0) ⊎ ((m ≡ 0) ⊎ (n + m ≤ 2))
no_sides n m h =
    elim (and_cases (leb 1 n && leb 1 m) (leb 3 (n + m)) h) [
      | inl either ↦ elim (and_cases (leb 1 n) (leb 1 m) either) [
        | inl fails ↦ inl (let l = leb-false 1 n fails in omega arith)
        | inr fails ↦ inr (inl (let l = leb-false 1 m fails in omega arith))
      ]
      | inr fails ↦ inr (inr (let l = leb-false 3 (n + m) fails in omega arith))
    ]

few_pairs : (n m : ℕ) → n + m ≤ 2 → pairs_of_values n m ≤ 4
few_pairs zero m h = omega arith
few_pairs (suc zero) m h = omega arith
few_pairs (suc (suc n)) m h = let e : n ≡ 0 = omega arith in let f : m ≡ 0 = omega arith in rw (e, f) (omega arith)

floor_steps : (a b wires cost : ℕ) → a ≤ b → 6 * b + 7 ≤ 14 * wires → 14 * wires ≤ cost + 7 → 6 * a ≤ cost
floor_steps a b wires cost h k i = omega arith

-- a table of sides without a network costs at most any network of sides that are no shorter
pub table-floor : (n m N M N' M' odd even c : ℕ) → n ≤ N → m ≤ M → N ≤ N' → M ≤ M' → has_network N' M' ≡ true → has_network N M ≡ false
    → cost_of_table n m ≤ cost_over_halves odd even (N' + M') c
table-floor n m N M N' M' odd even c h k i j stands none =
    let s = sides N' M' stands in
    let floor = over_halves-floor odd even (N' + M') c in
    elim (no_sides N M none) [
      | inl first ↦ floor_steps (pairs_of_values n m) (pairs_of_values 0 M') (N' + M') _ (pairs-mono n m 0 M' (omega arith) (omega arith)) (omega arith) floor
      | inr more ↦ elim more [
        | inl second ↦ floor_steps (pairs_of_values n m) (pairs_of_values N' 0) (N' + M') _ (pairs-mono n m N' 0 (omega arith) (omega arith)) (omega arith) floor
        | inr few ↦ floor_steps (pairs_of_values n m) 4 (N' + M') _ (few_pairs n m (omega arith)) (omega arith) floor
      ]
    ]

cheaper-mono : (s t : Bool) (table net table' net' : ℕ) → table ≤ table'
    → (t ≡ true → s ≡ true → net ≤ net') → (t ≡ true → s ≡ false → table ≤ net')
    → cheaper s table net ≤ cheaper t table' net'
cheaper-mono true true table net table' net' h k i = let l = k refl refl in omega arith
cheaper-mono false true table net table' net' h k i = let l = i refl refl in omega arith
cheaper-mono true false table net table' net' h k i = omega arith
cheaper-mono false false table net table' net' h k i = h

table-mono : (n m n' m' : ℕ) → n ≤ n' → m ≤ m' → cost_of_table n m ≤ cost_of_table n' m'
table-mono n m n' m' h k = let p = pairs-mono n m n' m' h k in omega arith

four_sums : (a b c d a' b' c' d' : ℕ) → a ≤ a' → b ≤ b' → c ≤ c' → d ≤ d' → a + b + c + d ≤ a' + b' + c' + d'
four_sums a b c d a' b' c' d' x y z w = omega arith

-- the four parts of a sum's cost, of sides n ≤ N and m ≤ M, by its network's halves
sum_parts-mono : (n m c N M odd even wires n' m' c' N' M' odd' even' wires' : ℕ)
    → n ≤ N → m ≤ M → n ≤ n' → m ≤ m' → c ≤ c' → N ≤ N' → M ≤ M' → odd ≤ odd' → even ≤ even' → wires ≤ wires' → wires' ≡ N' + M'
    → cost_of_ladder n + cost_of_ladder m + cost_of_ladder c + cheaper (has_network N M) (cost_of_table n m) (cost_over_halves odd even wires c)
    ≤ cost_of_ladder n' + cost_of_ladder m' + cost_of_ladder c' + cheaper (has_network N' M') (cost_of_table n' m') (cost_over_halves odd' even' wires' c')
sum_parts-mono n m c N M odd even wires n' m' c' N' M' odd' even' wires' a b h k i u v x y z e =
    let rest = cheaper-mono (has_network N M) (has_network N' M') (cost_of_table n m) (cost_over_halves odd even wires c)
    (cost_of_table n' m') (cost_over_halves odd' even' wires' c') (table-mono n m n' m' h k)
    (λ t s. over_halves-mono odd even wires c odd' even' wires' c' x y z i)
    (λ t s. rw e (table-floor n m N M N' M' odd' even' c' a b u v t s)) in
    four_sums (cost_of_ladder n) (cost_of_ladder m) (cost_of_ladder c) _ (cost_of_ladder n') (cost_of_ladder m') (cost_of_ladder c') _
    (ladder-mono n n' h) (ladder-mono m m' k) (ladder-mono c c' i) rest

within-mono : (d n m n' m' : ℕ) → n ≤ n' → m ≤ m' → unit_sum_within d n m ≤ unit_sum_within d n' m'
within-mono zero n m n' m' h k =
    four_sums (cost_of_ladder n) (cost_of_ladder m) (cost_of_ladder (n + m)) (cost_of_table n m)
    (cost_of_ladder n') (cost_of_ladder m') (cost_of_ladder (n' + m')) (cost_of_table n' m')
    (ladder-mono n n' h) (ladder-mono m m' k) (ladder-mono (n + m) (n' + m') (omega arith)) (table-mono n m n' m' h k)
within-mono (suc d) n m n' m' h k =
    let odd = within-mono d (half_up n) (half_up m) (half_up n') (half_up m') (omega arith) (omega arith) in
    let even = within-mono d (half_down n) (half_down m) (half_down n') (half_down m') (omega arith) (omega arith) in
    sum_parts-mono n m (n + m) n m _ _ (n + m) n' m' (n' + m') n' m' _ _ (n' + m')
    (omega arith) (omega arith) h k (omega arith) h k odd even (omega arith) refl

pub unit_sum-mono : (n m n' m' : ℕ) → n ≤ n' → m ≤ m' → cost_of_unit_sum n m ≤ cost_of_unit_sum n' m'
unfolding cost_of_unit_sum
unit_sum-mono n m n' m' h k =
    let same = within-same (n + m) (n' + m') n m (omega arith) (omega arith) (omega arith) (omega arith) in
    rw same (within-mono (n' + m') n m n' m' h k)

pub network-mono : (n m c n' m' c' : ℕ) → n ≤ n' → m ≤ m' → c ≤ c' → cost_of_network n m c ≤ cost_of_network n' m' c'
network-mono n m c n' m' c' h k i =
    over_halves-mono _ _ (n + m) c _ _ (n' + m') c'
    (unit_sum-mono (half_up n) (half_up m) (half_up n') (half_up m') (omega arith) (omega arith))
    (unit_sum-mono (half_down n) (half_down m) (half_down n') (half_down m') (omega arith) (omega arith))
    (omega arith) i

pub sum3_over-mono : (n m c N M n' m' c' N' M' : ℕ) → n ≤ N → m ≤ M → n ≤ n' → m ≤ m' → c ≤ c' → N ≤ N' → M ≤ M'
    → cost_of_sum3_over n m c N M ≤ cost_of_sum3_over n' m' c' N' M'
sum3_over-mono n m c N M n' m' c' N' M' a b h k i u v =
    sum_parts-mono n m c N M _ _ (N + M) n' m' c' N' M' _ _ (N' + M') a b h k i u v
    (unit_sum-mono (half_up N) (half_up M) (half_up N') (half_up M') (omega arith) (omega arith))
    (unit_sum-mono (half_down N) (half_down M) (half_down N') (half_down M') (omega arith) (omega arith))
    (omega arith) refl

-- ---- counts

half-mono : (h x h' x' : ℕ) → h ≤ h' → x ≤ x' → cost_of_half h x ≤ cost_of_half h' x'
half-mono h x h' x' p q =
    elim (cases_lt h 2) [
      | inl few ↦ rw (lt-leb 2 h few) (omega arith)
      | inr many ↦ let many' : 2 ≤ h' = omega arith in rw (le-leb 2 h many, le-leb 2 h' many') (omega arith)
    ]

three_sums : (a b c a' b' c' : ℕ) → a ≤ a' → b ≤ b' → c ≤ c' → a + b + c ≤ a' + b' + c'
three_sums a b c a' b' c' x y z = omega arith

last_of_three : (a b c d : ℕ) → d ≤ c → d ≤ a + b + c
last_of_three a b c d h = omega arith

count_within-mono : (d k c k' c' : ℕ) → k ≤ k' → c ≤ c' → count_within d k c ≤ count_within d k' c'
count_within-mono zero k c k' c' h i = sum3_over-mono k 0 c k 0 k' 0 c' k' 0 (omega arith) (omega arith) h (omega arith) i h (omega arith)
count_within-mono (suc d) k c k' c' h i =
    elim (cases_lt k 2) [
      | inl few ↦ elim (cases_lt k' 2) [
        | inl few' ↦ rw (lt-leb 2 k few, lt-leb 2 k' few') (sum3_over-mono k 0 c k 0 k' 0 c' k' 0 (omega arith) (omega arith) h (omega arith) i h (omega arith))
        | inr many' ↦ rw (lt-leb 2 k few, le-leb 2 k' many')
            (last_of_three _ _ _ _ (sum3_over-mono k 0 c k 0 (half_up k') (half_down k') c' (half_up k') (half_down k')
            (omega arith) (omega arith) (omega arith) (omega arith) i (omega arith) (omega arith)))
      ]
      | inr many ↦
          let many' : 2 ≤ k' = omega arith in
          let up : half_up k ≤ half_up k' = omega arith in
          let down : half_down k ≤ half_down k' = omega arith in
          rw (le-leb 2 k many, le-leb 2 k' many')
          (three_sums _ _ _ _ _ _
          (half-mono (half_up k) _ (half_up k') _ up (count_within-mono d (half_up k) (half_up k) (half_up k') (half_up k') up up))
          (half-mono (half_down k) _ (half_down k') _ down (count_within-mono d (half_down k) (half_down k) (half_down k') (half_down k') down down))
          (sum3_over-mono (half_up k) (half_down k) c (half_up k) (half_down k) (half_up k') (half_down k') c' (half_up k') (half_down k')
          (omega arith) (omega arith) up down i up down))
    ]

pub count-mono : (k c k' c' : ℕ) → k ≤ k' → c ≤ c' → cost_of_count k c ≤ cost_of_count k' c'
unfolding cost_of_count
count-mono k c k' c' h i =
    let same = count_within-same k k' k c (omega arith) (omega arith) in
    rw same (count_within-mono k' k c k' c' h i)

-- ---- where a side loses all its steps

pub first_side-floor : (n m c : ℕ) → has_network n m ≡ true → 6 * (n + 1) ≤ cost_of_network n m c
first_side-floor n m c h =
    let s = sides n m h in
    let floor = over_halves-floor (cost_of_unit_sum (half_up n) (half_up m)) (cost_of_unit_sum (half_down n) (half_down m)) (n + m) c in
    floor_steps (n + 1) (n + 1) (n + m) _ (omega arith) (omega arith) floor

pub second_side-floor : (n m c : ℕ) → has_network n m ≡ true → 6 * (m + 1) ≤ cost_of_network n m c
second_side-floor n m c h =
    let s = sides n m h in
    let floor = over_halves-floor (cost_of_unit_sum (half_up n) (half_up m)) (cost_of_unit_sum (half_down n) (half_down m)) (n + m) c in
    floor_steps (m + 1) (m + 1) (n + m) _ (omega arith) (omega arith) floor

pub one_step-floor : (n m c : ℕ) → has_network n m ≡ true → 24 ≤ cost_of_network n m c
one_step-floor n m c h =
    let s = sides n m h in
    let floor = over_halves-floor (cost_of_unit_sum (half_up n) (half_up m)) (cost_of_unit_sum (half_down n) (half_down m)) (n + m) c in
    floor_steps 4 4 (n + m) _ (omega arith) (omega arith) floor
