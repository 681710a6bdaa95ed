-- How many variables a core has.
use Rattle.std.proofs.Common.{◌≡◌, ℕ, zero, suc, ◌+◌, ◌≤◌, ◌<◌, ◌==◌, Bool, true, false, ◌||◌, List, [], ◌∷◌, length, get_or, Contains, refl, ap, sym, arith, ⊎_elim}
use Rattle.std.specs.Prelude.{if◌then◌else◌}
use Rattle.std.specs.List.{list_any}
use Rattle.std.proofs.lemmas.Bool.{true≢false, cases_eq, cases_Bool, eqb-true, eq-eqb, ne_eqb}
use Rattle.index_ring.specs.Lists.{times}
use Rattle.core_forms.specs.declared.form.Core.{Core}
use Rattle.core_forms.specs.OwnVars.{own_vars}
use Rattle.core_forms.specs.Place.{CoreBelow}
use Rattle.core_forms.specs.Variables.{core_vars}
use Rattle.core_forms.proofs.OwnVars.{own_vars-exact}
use Rattle.core_forms.proofs.VariableLaws.{vars_below}
use Rattle.fixpoint_queue.specs.Pairs.{has_var}

-- what a test finds is there
any-there : (v : ℕ) (vars : List ℕ) → list_any (λ w. w == v) vars ≡ true → Contains vars v
any-there v [] t = absurd (true≢false (sym t))
any-there v (w ∷ vars) t = by (w == v) refl t (any-there v vars)
  where
    by : (b : Bool) → (w == v) ≡ b → (b || list_any (λ u. u == v) vars) ≡ true → (list_any (λ u. u == v) vars ≡ true → Contains vars v) → Contains (w ∷ vars) v
    by true e h rest = (0, omega arith, eqb-true w v e)
    by false e h rest = let c = rest h in (suc c.0, omega (arith, c.1), c.2)

-- no core has a variable from a limit on that its variables are below
pub no-var : (n : ℕ) (core : Core) → CoreBelow n core → (v : ℕ) → n ≤ v → has_var core v ≡ false
no-var n core below v past = ⊎_elim (λ (t : has_var core v ≡ true). absurd (omega (arith, past, (vars_below n core below v (any-there v (core_vars core) t)).1))) (λ f. f) (cases_Bool (has_var core v))

times-there : (v : ℕ) (vars : List ℕ) → Contains vars v → 1 ≤ times v vars
times-there v vars c = at vars c.0 c.1 c.2
  where
    at : (ws : List ℕ) (i : ℕ) → i < length ws → get_or ws i v ≡ v → 1 ≤ times v ws
    at [] i lt e = absurd (omega (arith, lt))
    at (w ∷ ws) zero lt e = let one : (if w == v then 1 else 0) ≡ 1 = ap {B = ℕ} (λ (b : Bool). if b then 1 else 0) (eq-eqb w v e) in omega (arith, one)
    at (w ∷ ws) (suc i) lt e = omega (arith, at ws i (omega (arith, lt)) e)

-- one counts for each variable of a core
abbrev pub one_var : Core → ℕ → ℕ
one_var core v = if has_var core v then 1 else 0

one-own : (core : Core) (v : ℕ) → one_var core v ≤ times v (own_vars core)
one-own core v = by (has_var core v) refl
  where
    by : (b : Bool) → has_var core v ≡ b → (if b then 1 else 0) ≤ times v (own_vars core)
    by true t = times-there v (own_vars core) ((own_vars-exact core v).1 (any-there v (core_vars core) t))
    by false t = omega arith

-- ---- over the variables 1 to n

abbrev pub vars_to : Core → ℕ → ℕ
vars_to core zero = 0
vars_to core (suc n) = one_var core (suc n) + vars_to core n

abbrev times_to : List ℕ → ℕ → ℕ
times_to xs zero = 0
times_to xs (suc n) = times (suc n) xs + times_to xs n

own-to : (core : Core) (n : ℕ) → vars_to core n ≤ times_to (own_vars core) n
own-to core zero = omega arith
own-to core (suc n) = omega (arith, one-own core (suc n), own-to core n)

abbrev one_to : ℕ → ℕ → ℕ
one_to x zero = 0
one_to x (suc n) = (if x == suc n then 1 else 0) + one_to x n

-- a number is met once at most
one-past : (x n : ℕ) → n < x → one_to x n ≡ 0
one-past x zero past = refl
one-past x (suc n) past = omega (arith, ap {B = ℕ} (λ (b : Bool). if b then 1 else 0) (ne_eqb x (suc n) (λ e. absurd (omega (arith, e, past)))), one-past x n (omega (arith, past)))

one-most : (x n : ℕ) → one_to x n ≤ 1
one-most x zero = omega arith
one-most x (suc n) =
    ⊎_elim
    (λ (e : x ≡ suc n). omega (arith, most (x == suc n), one-past x n (omega (arith, e))))
    (λ (ne : x ≡ suc n → ⊥). omega (arith, ap {B = ℕ} (λ (b : Bool). if b then 1 else 0) (ne_eqb x (suc n) ne), one-most x n))
    (cases_eq x (suc n))
  where
    most : (b : Bool) → (if b then 1 else 0) ≤ 1
    most true = omega arith
    most false = omega arith

times-none : (n : ℕ) → times_to [] n ≡ 0
times-none zero = refl
times-none (suc n) = omega (arith, times-none n)

times-first : (x : ℕ) (xs : List ℕ) (n : ℕ) → times_to (x ∷ xs) n ≡ one_to x n + times_to xs n
times-first x xs zero = refl
times-first x xs (suc n) = omega (arith, times-first x xs n)

times-most : (xs : List ℕ) (n : ℕ) → times_to xs n ≤ length xs
times-most [] n = omega (arith, times-none n)
times-most (x ∷ xs) n = omega (arith, times-first x xs n, one-most x n, times-most xs n)

-- together they are no more than the different variables of the core
pub vars-most : (core : Core) (n : ℕ) → vars_to core n ≤ length (own_vars core)
vars-most core n = omega (arith, own-to core n, times-most (own_vars core) n)
