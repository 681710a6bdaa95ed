-- The rows of a truth table are all valuations of its variables; what they leave of equations is what they imply.
use Rattle.std.proofs.Common.{◌≡◌, ℕ, zero, suc, ◌+◌, ◌*◌, ◌/◌, ◌%◌, ◌^◌, ◌<◌, ◌≤◌, inl, inr, Bool, true, false, not, ◌&&◌, ◌||◌, cond, eqb, length, map, take, set, length-set, List, [], ◌∷◌, ◌++◌, append_assoc, refl, sym, ap, subst, ◌∙◌, arith, add-one, ◌-◌}
use Rattle.std.specs.Bool.{beq}
use Rattle.std.specs.List.{filter}
use Rattle.std.proofs.Math.Nat.{pow-suc}
use Rattle.std.proofs.Math.Seq.{take-suc-set}
use Rattle.std.proofs.lemmas.Bool.{eq-eqb, ne_eqb, eqb-true, eqb-false}
use Rattle.order_ints.specs.declared.atom.Atom.{Atom}
use Rattle.order_ints.specs.declared.atom.Atom.TheVariants.{True, False, Of}
use Rattle.order_ints.specs.Truth.{Valuation, valuation_at, atom_truth}
use Rattle.order_ints.proofs.TruthRows.{row-agrees}
use Rattle.core_forms.specs.declared.form.Core.{Core}
use Rattle.core_forms.specs.Meaning.{core_truth}
use Rattle.core_forms.specs.Variables.{atom_vars, core_vars, AreAmong}
use Rattle.core_forms.proofs.Rows.{core_truth-row}
use Rattle.table_rules.specs.Rows.{row_of, valuation_in, are_equal_in, is_some_apart, are_equal_below, left_below}
use Rattle.table_rules.specs.Pairs.{IsIn}

-- the number of a row
abbrev bit : Bool → ℕ
bit true = 1
bit false = 0

abbrev number_of : List Bool → ℕ
number_of [] = 0
number_of (b ∷ values) = bit b + 2 * number_of values

number-below : (values : List Bool) → number_of values < 2 ^ length values
number-below [] = omega arith
number-below (b ∷ values) = by b (number-below values)
  where
    by : (b : Bool) → number_of values < 2 ^ length values → bit b + 2 * number_of values < 2 ^ suc (length values)
    by true h = omega (arith, pow-suc 2 (length values))
    by false h = omega (arith, pow-suc 2 (length values))

lowest : (b : Bool) (n : ℕ) → eqb ((bit b + 2 * n) % 2) 1 ≡ b
lowest true n = eq-eqb ((1 + 2 * n) % 2) 1 (omega arith)
lowest false n = ne_eqb ((0 + 2 * n) % 2) 1 (λ e. omega arith)

others : (b : Bool) (n : ℕ) → (bit b + 2 * n) / 2 ≡ n
others true n = omega arith
others false n = omega arith

row-number : (values : List Bool) → row_of (length values) (number_of values) ≡ values
row-number [] = refl
row-number (b ∷ values) =
    ap (λ t. t ∷ row_of (length values) ((bit b + 2 * number_of values) / 2)) (lowest b (number_of values))
    ∙ ap (λ n. b ∷ row_of (length values) n) (others b (number_of values))
    ∙ ap (λ r. b ∷ r) (row-number values)

length-map : (σ : Valuation) (vars : List ℕ) → length (map σ vars) ≡ length vars
length-map σ [] = refl
length-map σ (v ∷ vars) = ap suc (length-map σ vars)

-- each valuation has a row: that of its truth values
abbrev row_under : Valuation → List ℕ → ℕ
row_under σ vars = number_of (map σ vars)

row-exists : (σ : Valuation) (vars : List ℕ) → row_under σ vars < 2 ^ length vars
row-exists σ vars = subst (λ (n : ℕ). row_under σ vars < 2 ^ n) (length-map σ vars) (number-below (map σ vars))

row-is : (σ : Valuation) (vars : List ℕ) → row_of (length vars) (row_under σ vars) ≡ map σ vars
row-is σ vars = subst (λ (n : ℕ). row_of n (row_under σ vars) ≡ map σ vars) (length-map σ vars) (row-number (map σ vars))

core-in-row : (σ : Valuation) (core : Core) (vars : List ℕ) → AreAmong (core_vars core) vars → core_truth (valuation_in vars (row_under σ vars)) core ≡ core_truth σ core
core-in-row σ core vars among =
    subst (λ (values : List Bool). core_truth (valuation_at vars values) core ≡ core_truth σ core) (sym (row-is σ vars)) (sym (core_truth-row σ core vars among))

atom-at-row : (σ : Valuation) (a : Atom) (vars : List ℕ) → AreAmong (atom_vars a) vars → atom_truth (valuation_at vars (map σ vars)) a ≡ atom_truth σ a
atom-at-row σ True vars among = refl
atom-at-row σ False vars among = refl
atom-at-row σ (Of l) vars among =
    ap (λ t. cond l.positive t (not t)) (sym (row-agrees σ vars (map σ vars) refl l.var (among l.var (0, omega arith, refl))))

atom-in-row : (σ : Valuation) (a : Atom) (vars : List ℕ) → AreAmong (atom_vars a) vars → atom_truth (valuation_in vars (row_under σ vars)) a ≡ atom_truth σ a
atom-in-row σ a vars among =
    subst (λ (values : List Bool). atom_truth (valuation_at vars values) a ≡ atom_truth σ a) (sym (row-is σ vars)) (atom-at-row σ a vars among)

pub beq-refl : (b : Bool) → beq b b ≡ true
beq-refl true = refl
beq-refl false = refl

beq-true : (b c : Bool) → beq b c ≡ true → b ≡ c
beq-true true true h = refl
beq-true true false h = absurd (cc)
beq-true false true h = absurd (cc)
beq-true false false h = refl

pub and-true : (s t : Bool) → (s && t) ≡ true → (s ≡ true) × (t ≡ true)
and-true true t h = (refl, h)
and-true false t h = absurd (cc)

pub true-and : (s t : Bool) → s ≡ true → t ≡ true → (s && t) ≡ true
true-and true t e h = h
true-and false t e h = absurd (cc)

module _ (core : Core) (vars : List ℕ) (p : Atom × Atom) where
  -- the pair is equally true in one row, if the core is met there
  abbrev IsEqualIn : ℕ → Type 0
  IsEqualIn r = core_truth (valuation_in vars r) core ≡ true → are_equal_in (valuation_in vars r) p ≡ true

  if-met : (s t : Bool) → (not s || t) ≡ true → s ≡ true → t ≡ true
  if-met true t h e = h
  if-met false t h e = absurd (cc)

  met-if : (s t : Bool) → (s ≡ true → t ≡ true) → (not s || t) ≡ true
  met-if true t h = h refl
  met-if false t h = refl

  -- the test over the rows is that it is so in each
  pub below-each : (k : ℕ) → are_equal_below core vars p k ≡ true → (r : ℕ) → r < k → IsEqualIn r
  below-each zero h r l = absurd (omega arith)
  below-each (suc k) h r l =
      let both = and-true (are_equal_below core vars p k) (not (core_truth (valuation_in vars k) core) || are_equal_in (valuation_in vars k) p) h in
      by (eqb r k) refl (below-each k both.0 r) (if-met (core_truth (valuation_in vars k) core) (are_equal_in (valuation_in vars k) p) both.1)
    where
      by : (t : Bool) → eqb r k ≡ t → (r < k → IsEqualIn r) → IsEqualIn k → IsEqualIn r
      by true e below here = subst IsEqualIn (sym (eqb-true r k e)) here
      by false e below here = below (omega (arith, eqb-false r k e))

  pub each-below : (k : ℕ) → ((r : ℕ) → r < k → IsEqualIn r) → are_equal_below core vars p k ≡ true
  each-below zero h = refl
  each-below (suc k) h =
      true-and (are_equal_below core vars p k) (not (core_truth (valuation_in vars k) core) || are_equal_in (valuation_in vars k) p)
      (each-below k (λ r l. h r (omega arith))) (met-if (core_truth (valuation_in vars k) core) (are_equal_in (valuation_in vars k) p) (h k (omega arith)))

-- pairs that are equally true under the same valuations are so in the same rows
pub same-below : (core : Core) (vars : List ℕ) (p q : Atom × Atom) → ((σ : Valuation) → are_equal_in σ p ≡ are_equal_in σ q) → (k : ℕ) → are_equal_below core vars p k ≡ are_equal_below core vars q k
same-below core vars p q same zero = refl
same-below core vars p q same (suc k) =
    ap (λ t. t && (not (core_truth (valuation_in vars k) core) || are_equal_in (valuation_in vars k) p)) (same-below core vars p q same k)
    ∙ ap (λ t. are_equal_below core vars q k && (not (core_truth (valuation_in vars k) core) || t)) (same (valuation_in vars k))

-- over the core's variables, the rows imply what the core implies
pub rows-imply : (core : Core) (vars : List ℕ) (a b : Atom) → AreAmong (core_vars core) vars → AreAmong (atom_vars a) vars → AreAmong (atom_vars b) vars
    → are_equal_below core vars (a, b) (2 ^ length vars) ≡ true → (σ : Valuation) → core_truth σ core ≡ true → atom_truth σ a ≡ atom_truth σ b
rows-imply core vars a b among over_a over_b h σ met =
    let row = below-each core vars (a, b) (2 ^ length vars) h (row_under σ vars) (row-exists σ vars) (core-in-row σ core vars among ∙ met) in
    sym (atom-in-row σ a vars over_a)
    ∙ beq-true (atom_truth (valuation_in vars (row_under σ vars)) a) (atom_truth (valuation_in vars (row_under σ vars)) b) row
    ∙ atom-in-row σ b vars over_b

pub implied-rows : (core : Core) (vars : List ℕ) (a b : Atom) → ((σ : Valuation) → core_truth σ core ≡ true → atom_truth σ a ≡ atom_truth σ b)
    → are_equal_below core vars (a, b) (2 ^ length vars) ≡ true
implied-rows core vars a b h =
    each-below core vars (a, b) (2 ^ length vars) (λ r l met.
    ap (λ t. beq (atom_truth (valuation_in vars r) a) t) (sym (h (valuation_in vars r) met)) ∙ beq-refl (atom_truth (valuation_in vars r) a))

in-filter : (test : Atom × Atom → Bool) (pairs : List (Atom × Atom)) (p : Atom × Atom) → IsIn p (filter test pairs) → IsIn p pairs × (test p ≡ true)
in-filter test [] p h = absurd h
in-filter test (q ∷ pairs) p h = by (test q) refl h (in-filter test pairs p)
  where
    by : (t : Bool) → test q ≡ t → IsIn p (cond t (q ∷ filter test pairs) (filter test pairs)) → (IsIn p (filter test pairs) → IsIn p pairs × (test p ≡ true)) → IsIn p (q ∷ pairs) × (test p ≡ true)
    by true e (inl s) rest = (inl s, ap test s ∙ e)
    by true e (inr i) rest = let m = rest i in (inr m.0, m.1)
    by false e i rest = let m = rest i in (inr m.0, m.1)

pub filter-in : (test : Atom × Atom → Bool) (pairs : List (Atom × Atom)) (p : Atom × Atom) → IsIn p pairs → test p ≡ true → IsIn p (filter test pairs)
filter-in test [] p h e = absurd h
filter-in test (q ∷ pairs) p h e = by (test q) refl h (λ i. filter-in test pairs p i e)
  where
    by : (t : Bool) → test q ≡ t → IsIn p (q ∷ pairs) → (IsIn p pairs → IsIn p (filter test pairs)) → IsIn p (cond t (q ∷ filter test pairs) (filter test pairs))
    by true d (inl s) rest = inl s
    by true d (inr i) rest = inr (rest i)
    by false d (inl s) rest = absurd (let k : true ≡ false = sym e ∙ ap test s ∙ d in cc)
    by false d (inr i) rest = rest i

module _ (core : Core) (vars : List ℕ) (pairs : List (Atom × Atom)) (p : Atom × Atom) where
  -- what the rows leave is what was there and is equally true in them
  pub left-equal : (k : ℕ) → IsIn p (left_below core vars pairs k) → IsIn p pairs × (are_equal_below core vars p k ≡ true)
  left-equal zero h = (h, refl)
  left-equal (suc k) h = by (core_truth (valuation_in vars k) core) h (left-equal k)
    where
      by : (t : Bool) → IsIn p (cond t (filter (are_equal_in (valuation_in vars k)) (left_below core vars pairs k)) (left_below core vars pairs k))
          → (IsIn p (left_below core vars pairs k) → IsIn p pairs × (are_equal_below core vars p k ≡ true))
          → IsIn p pairs × ((are_equal_below core vars p k && (not t || are_equal_in (valuation_in vars k) p)) ≡ true)
      by true i rest =
          let f = in-filter (are_equal_in (valuation_in vars k)) (left_below core vars pairs k) p i in
          let m = rest f.0 in (m.0, true-and (are_equal_below core vars p k) (are_equal_in (valuation_in vars k) p) m.1 f.1)
      by false i rest = let m = rest i in (m.0, true-and (are_equal_below core vars p k) true m.1 refl)

  pub equal-left : (k : ℕ) → IsIn p pairs → are_equal_below core vars p k ≡ true → IsIn p (left_below core vars pairs k)
  equal-left zero h e = h
  equal-left (suc k) h e = by (core_truth (valuation_in vars k) core) e (equal-left k h)
    where
      by : (t : Bool) → (are_equal_below core vars p k && (not t || are_equal_in (valuation_in vars k) p)) ≡ true
          → (are_equal_below core vars p k ≡ true → IsIn p (left_below core vars pairs k))
          → IsIn p (cond t (filter (are_equal_in (valuation_in vars k)) (left_below core vars pairs k)) (left_below core vars pairs k))
      by true h rest =
          let both = and-true (are_equal_below core vars p k) (are_equal_in (valuation_in vars k) p) h in
          filter-in (are_equal_in (valuation_in vars k)) (left_below core vars pairs k) p (rest both.0) both.1
      by false h rest = rest (and-true (are_equal_below core vars p k) true h).0

-- a row in which the core is met and the atoms differ tells them apart
pub differ-below : (core : Core) (vars : List ℕ) (p : Atom × Atom) (r k : ℕ) → r < k → core_truth (valuation_in vars r) core ≡ true → are_equal_in (valuation_in vars r) p ≡ false → are_equal_below core vars p k ≡ false
differ-below core vars p r k l met differ = by (are_equal_below core vars p k) refl
  where
    by : (t : Bool) → are_equal_below core vars p k ≡ t → t ≡ false
    by true e = absurd (let same = below-each core vars p k e r l met in cc)
    by false e = refl

-- where some rows leave nothing, more rows do
pub none-left : (core : Core) (vars : List ℕ) (pairs : List (Atom × Atom)) (r k : ℕ) → r ≤ k → left_below core vars pairs r ≡ [] → left_below core vars pairs k ≡ []
none-left core vars pairs r zero l e = subst (λ (n : ℕ). left_below core vars pairs n ≡ []) (let z : r ≡ 0 = omega arith in z) e
none-left core vars pairs r (suc k) l e = at (eqb r (suc k)) refl (none-left core vars pairs r k)
  where
    stays : (t : Bool) → left_below core vars pairs k ≡ [] → cond t (filter (are_equal_in (valuation_in vars k)) (left_below core vars pairs k)) (left_below core vars pairs k) ≡ []
    stays true h = ap (filter (are_equal_in (valuation_in vars k))) h
    stays false h = h

    at : (t : Bool) → eqb r (suc k) ≡ t → (r ≤ k → left_below core vars pairs r ≡ [] → left_below core vars pairs k ≡ []) → left_below core vars pairs (suc k) ≡ []
    at true s rest = subst (λ (n : ℕ). left_below core vars pairs n ≡ []) (eqb-true r (suc k) s) e
    at false s rest = stays (core_truth (valuation_in vars k) core) (rest (omega (arith, eqb-false r (suc k) s)) e)

-- a row written value by value
row-more : (values : List Bool) (i rest : ℕ) (whole : List Bool) → i < length values
    → take i values ++ row_of (length values - i) rest ≡ whole
    → take (i + 1) (set values i (eqb (rest % 2) 1)) ++ row_of (length values - (i + 1)) (rest / 2) ≡ whole
row-more values i rest whole l e =
    let m : length values - i ≡ suc (length values - suc i) = omega arith in
    rw (add-one, take-suc-set values i (eqb (rest % 2) 1) l)
    (append_assoc (take i values) (eqb (rest % 2) 1 ∷ []) (row_of (length values - suc i) (rest / 2))
    ∙ ap (λ n. take i values ++ row_of n rest) (sym m) ∙ e)

pub row-step : (values : List Bool) (i rest number : ℕ) → i < length values
    → take i values ++ row_of (length values - i) rest ≡ row_of (length values) number
    → take (i + 1) (set values i (eqb (rest % 2) 1)) ++ row_of (length (set values i (eqb (rest % 2) 1)) - (i + 1)) (rest / 2) ≡ row_of (length (set values i (eqb (rest % 2) 1))) number
row-step values i rest number l e =
    subst (λ (n : ℕ). take (i + 1) (set values i (eqb (rest % 2) 1)) ++ row_of (n - (i + 1)) (rest / 2) ≡ row_of n number) (sym (length-set values i (eqb (rest % 2) 1)))
    (row-more values i rest (row_of (length values) number) l e)

-- the row that was written is the one with this number
pub written : (core : Core) (vars : List ℕ) (old new : List Bool) (number : ℕ) (b : Bool) → new ≡ row_of (length old) number → length old ≡ length vars
    → b ≡ core_truth (valuation_at vars new) core → core_truth (valuation_in vars number) core ≡ b
written core vars old new number b is long e =
    let row : new ≡ row_of (length vars) number = is ∙ ap (λ n. row_of n number) long in
    ap (λ r. core_truth (valuation_at vars r) core) (sym row) ∙ sym e

pub written-differ : (vars : List ℕ) (old new : List Bool) (number : ℕ) (p : Atom × Atom) (b : Bool) → new ≡ row_of (length old) number → length old ≡ length vars
    → b ≡ are_equal_in (valuation_at vars new) p → b ≡ false → are_equal_in (valuation_in vars number) p ≡ false
written-differ vars old new number p b is long e differ =
    let row : new ≡ row_of (length vars) number = is ∙ ap (λ n. row_of n number) long in
    ap (λ r. are_equal_in (valuation_at vars r) p) (sym row) ∙ sym e ∙ differ

-- where no pair is apart, all pairs stay
none-apart : (σ : Valuation) (pairs : List (Atom × Atom)) → is_some_apart σ pairs ≡ false → filter (are_equal_in σ) pairs ≡ pairs
none-apart σ [] h = refl
none-apart σ (p ∷ pairs) h = by (are_equal_in σ p) h (none-apart σ pairs)
  where
    by : (t : Bool) → (not t || is_some_apart σ pairs) ≡ false → (is_some_apart σ pairs ≡ false → filter (are_equal_in σ) pairs ≡ pairs)
        → cond t (p ∷ filter (are_equal_in σ) pairs) (filter (are_equal_in σ) pairs) ≡ p ∷ pairs
    by true k rest = ap (λ (ps : List (Atom × Atom)). p ∷ ps) (rest k)
    by false k rest = absurd (cc)

-- what a row leaves, as it was written: where the core is met, where no pair is apart, and where the core is not met
module _ (core : Core) (vars : List ℕ) (whole pairs : List (Atom × Atom)) (old new : List Bool) (number : ℕ)
    (is : new ≡ row_of (length old) number) (long : length old ≡ length vars) (left : pairs ≡ left_below core vars whole number) where
  in-row : valuation_at vars new ≡ valuation_in vars number
  in-row = ap (valuation_at vars) (is ∙ ap (λ n. row_of n number) long)

  pub met-next : (b : Bool) (kept : List (Atom × Atom)) → b ≡ core_truth (valuation_at vars new) core → b ≡ true → kept ≡ filter (are_equal_in (valuation_at vars new)) pairs
      → kept ≡ left_below core vars whole (suc number)
  met-next b kept e h filtered =
      filtered ∙ (λ i. filter (are_equal_in (in-row i)) (left i))
      ∙ sym (ap (λ t. cond t (filter (are_equal_in (valuation_in vars number)) (left_below core vars whole number)) (left_below core vars whole number)) (written core vars old new number b is long e ∙ h))

  pub unmet-next : (b : Bool) → b ≡ core_truth (valuation_at vars new) core → b ≡ false → pairs ≡ left_below core vars whole (suc number)
  unmet-next b e h =
      left ∙ sym (ap (λ t. cond t (filter (are_equal_in (valuation_in vars number)) (left_below core vars whole number)) (left_below core vars whole number)) (written core vars old new number b is long e ∙ h))

  pub together-next : (b : Bool) → b ≡ is_some_apart (valuation_at vars new) pairs → b ≡ false → pairs ≡ left_below core vars whole (suc number)
  together-next b e h = left ∙ by (core_truth (valuation_in vars number) core)
    where
      all : filter (are_equal_in (valuation_in vars number)) (left_below core vars whole number) ≡ left_below core vars whole number
      all =
          let same : is_some_apart (valuation_at vars new) pairs ≡ is_some_apart (valuation_in vars number) (left_below core vars whole number) = λ i. is_some_apart (in-row i) (left i) in
          none-apart (valuation_in vars number) (left_below core vars whole number) (sym same ∙ sym e ∙ h)

      by : (t : Bool) → left_below core vars whole number ≡ cond t (filter (are_equal_in (valuation_in vars number)) (left_below core vars whole number)) (left_below core vars whole number)
      by true = sym all
      by false = refl
