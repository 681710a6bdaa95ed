-- Integers over fresh variables: their values, their conditions, and that each value is taken.
use Rattle.std.proofs.Common.{◌≡◌, ℕ, zero, suc, ◌+◌, ◌-◌, ◌<◌, ◌≤◌, ◌^◌, true, false, cond, ltb, List, [], ◌∷◌, ◌++◌, map, length, get_or, take, drop, Contains, ℤ, pos, ◌+ℤ◌, ◌-ℤ◌, ◌<ℤ◌, refl, sym, ap, subst, ◌∙◌, arith}
use Rattle.std.specs.Prelude.{unsigned_abs}
use Rattle.std.proofs.lemmas.Int.{ints}
use Rattle.std.proofs.lemmas.Bool.{lt-ltb, le-ltb}
use Rattle.std.proofs.lemmas.List.{append_assoc, take_all}
use Rattle.order_ints.specs.Label.{own_labels, variable}
use Rattle.order_ints.specs.declared.literal.Lit.{Lit}
use Rattle.order_ints.specs.declared.atom.Atom.{Atom}
use Rattle.order_ints.specs.declared.atom.Atom.TheVariants.{True, Of}
use Rattle.order_ints.specs.declared.order_int.OrdInt.{OrdInt}
use Rattle.order_ints.specs.Truth.{Valuation, Agree, atom_truth}
use Rattle.order_ints.specs.Place.{AtomBelow, StepsBelow}
use Rattle.order_ints.specs.OrderValue.{gains, value_of, none_true, in_order, IsOrdered}
use Rattle.order_ints.specs.OrderRange.{weights, AreRising, IntBelow, IsBounded}
use Rattle.order_ints.specs.OrderLevels.{levels, values_of}
use Rattle.order_ints.proofs.Gains.{gains-none_true}
use Rattle.order_ints.specs.OrderMade.{unit_steps, unit_range_of, values_from, steps_between, integer_of_values, AscendFrom, AreAscending, AreSmall, AreVars}

-- steps of weight 1
pub weights-unit_steps : (first count : ℕ) → weights (unit_steps first count) ≡ count
weights-unit_steps first zero = refl
weights-unit_steps first (suc count) = omega (arith, weights-unit_steps (first + 1) count)

pub atoms-unit_steps : (first count : ℕ) → map (λ (s : Atom × ℕ). s.0) (unit_steps first count) ≡ own_labels first count
atoms-unit_steps first zero = refl
atoms-unit_steps first (suc count) = ap (λ atoms. variable first ∷ atoms) (atoms-unit_steps (first + 1) count)

values-unit_steps : (low : ℤ) (x : Atom) (first count : ℕ) → map (λ (level : ℤ × Atom). level.0) (levels low x (unit_steps first count)) ≡ values_from low (suc count)
values-unit_steps low x first zero = refl
values-unit_steps low x first (suc count) =
    ap (λ values. low ∷ values) (values-unit_steps (low +ℤ pos 1) (variable first) (first + 1) count)

pub values_of-unit_range_of : (low : ℤ) (first count : ℕ) → values_of (unit_range_of low first count) ≡ values_from low (count + 1)
values_of-unit_range_of low first count =
    let e : suc count ≡ count + 1 = omega arith in
    values-unit_steps low True first count ∙ ap (values_from low) e

pub AreRising-unit_steps : (first count : ℕ) → AreRising (unit_steps first count)
AreRising-unit_steps first zero = tt
AreRising-unit_steps first (suc count) = (omega arith, AreRising-unit_steps (first + 1) count)

-- one step less is left
pub unit_steps-next : (first count : ℕ) → 0 < count → unit_steps first count ≡ (variable first, 1) ∷ unit_steps (first + 1) (count - 1)
unit_steps-next first zero h = absurd (omega arith)
unit_steps-next first (suc count) h = let e : count ≡ suc count - 1 = omega arith in ap (λ m. (variable first, 1) ∷ unit_steps (first + 1) m) e

-- the steps over the variables from one on, so many of them, have their variables below each bound above those
pub StepsBelow-vars : (n first count : ℕ) (steps : List (Atom × ℕ)) → map (λ (s : Atom × ℕ). s.0) steps ≡ own_labels first count → (0 < count → 1 ≤ first) → first + count ≤ n → StepsBelow n steps
StepsBelow-vars n first zero [] e some h = tt
StepsBelow-vars n first (suc count) [] e some h = tt
StepsBelow-vars n first zero (s ∷ steps) e some h = absurd (cc)
StepsBelow-vars n first (suc count) (s ∷ steps) e some h =
    let atom : s.0 ≡ variable first = cc in
    let others : map (λ (s : Atom × ℕ). s.0) steps ≡ own_labels (first + 1) count = cc in
    let here : AtomBelow n (variable first) = (some (omega arith), omega arith) in
    (subst (λ a. AtomBelow n a) (sym atom) here, StepsBelow-vars n (first + 1) count steps others (λ _. omega arith) (omega arith))

-- the steps between listed values
pub atoms-steps_between : (value : ℤ) (values : List ℤ) (first : ℕ) → map (λ (s : Atom × ℕ). s.0) (steps_between value values first) ≡ own_labels first (length values)
atoms-steps_between value [] first = refl
atoms-steps_between value (next ∷ values) first = ap (λ atoms. variable first ∷ atoms) (atoms-steps_between next values (first + 1))

-- a value and the way up from it
raised-gap : (value next : ℤ) → value <ℤ next → value +ℤ pos (unsigned_abs (next -ℤ value)) ≡ next
raised-gap value next h = omega (arith, ints)

pub values-steps_between : (value : ℤ) (x : Atom) (values : List ℤ) (first : ℕ) → AscendFrom value values → map (λ (level : ℤ × Atom). level.0) (levels value x (steps_between value values first)) ≡ value ∷ values
values-steps_between value x [] first h = refl
values-steps_between value x (next ∷ values) first h =
    ap (λ vs. value ∷ vs)
    (ap (λ v. map (λ (level : ℤ × Atom). level.0) (levels v (variable first) (steps_between next values (first + 1)))) (raised-gap value next h.0)
    ∙ values-steps_between next (variable first) values (first + 1) h.1)

pub values_of-integer_of_values : (values : List ℤ) (first : ℕ) → 0 < length values → AreAscending values → values_of (integer_of_values values first) ≡ values
values_of-integer_of_values [] first some h = absurd (omega arith)
values_of-integer_of_values (least ∷ values) first some h = values-steps_between least True values first h

gap-rises : (value next : ℤ) → value <ℤ next → 1 ≤ unsigned_abs (next -ℤ value)
gap-rises value next h = omega (arith, ints)

pub AreRising-steps_between : (value : ℤ) (values : List ℤ) (first : ℕ) → AscendFrom value values → AreRising (steps_between value values first)
AreRising-steps_between value [] first h = tt
AreRising-steps_between value (next ∷ values) first h = (gap-rises value next h.0, AreRising-steps_between next values (first + 1) h.1)

small-high : (value : ℤ) (values : List ℤ) (first : ℕ) → AscendFrom value values → AreSmall (value ∷ values) → unsigned_abs (value +ℤ pos (weights (steps_between value values first))) < 2 ^ 100
small-high value [] first h small = omega (arith, ints, small.0)
small-high value (next ∷ values) first h small =
    let e : value +ℤ pos (unsigned_abs (next -ℤ value) + weights (steps_between next values (first + 1))) ≡ next +ℤ pos (weights (steps_between next values (first + 1))) =
    omega (arith, ints, h.0) in
    subst (λ z. unsigned_abs z < 2 ^ 100) (sym e) (small-high next values (first + 1) h.1 small.1)

pub IsBounded-integer_of_values : (values : List ℤ) (first : ℕ) → AreAscending values → AreSmall values → IsBounded (integer_of_values values first)
IsBounded-integer_of_values [] first h small = (omega arith, omega arith)
IsBounded-integer_of_values (least ∷ values) first h small = (small.0, small-high least values first h small)

-- the valuation that is as another below a variable, true at so many variables from it on, and false at the further ones
abbrev pub raised_from : Valuation → ℕ → ℕ → Valuation
raised_from σ first k v = cond (ltb v first) (σ v) (ltb v (first + k))

first_atom : (τ : Valuation) (bound first : ℕ) (s : Atom × ℕ) → ((v : ℕ) → first ≤ v → τ v ≡ ltb v bound) → s.0 ≡ variable first → atom_truth τ s.0 ≡ ltb first bound
first_atom τ bound first s rule e = ap (atom_truth τ) e ∙ rule first (omega arith)

raised-none : (τ : Valuation) (bound first count : ℕ) (steps : List (Atom × ℕ)) → ((v : ℕ) → first ≤ v → τ v ≡ ltb v bound) → bound ≤ first → map (λ (s : Atom × ℕ). s.0) steps ≡ own_labels first count → none_true τ steps ≡ true
raised-none τ bound first count [] rule h e = refl
raised-none τ bound first zero (s ∷ steps) rule h e = absurd (cc)
raised-none τ bound first (suc count) (s ∷ steps) rule h e =
    let atom : s.0 ≡ variable first = cc in
    let others : map (λ (s : Atom × ℕ). s.0) steps ≡ own_labels (first + 1) count = cc in
    let not_here : atom_truth τ s.0 ≡ false = first_atom τ bound first s rule atom ∙ le-ltb first bound h in
    let none : none_true τ steps ≡ true = raised-none τ bound (first + 1) count steps (λ v le. rule v (omega arith)) (omega arith) others in
    rw (not_here, none) refl

-- where so many variables from one on are true, and the further ones are not, the integer is ordered and has that value
raised-value : (τ : Valuation) (bound first count k : ℕ) (low : ℤ) (x : Atom) (steps : List (Atom × ℕ)) (value : ℤ) → ((v : ℕ) → first ≤ v → τ v ≡ ltb v bound) → bound ≡ first + k → map (λ (s : Atom × ℕ). s.0) steps ≡ own_labels first count → k < length (map (λ (level : ℤ × Atom). level.0) (levels low x steps)) → get_or (map (λ (level : ℤ × Atom). level.0) (levels low x steps)) k value ≡ value → (in_order τ steps ≡ true) × (low +ℤ pos (gains τ steps) ≡ value)
raised-value τ bound first count zero low x [] value rule at e within found = (refl, omega (arith, ints))
raised-value τ bound first count (suc k) low x [] value rule at e within found = absurd (omega arith)
raised-value τ bound first zero k low x (s ∷ steps) value rule at e within found = absurd (cc)
raised-value τ bound first (suc count) zero low x (s ∷ steps) value rule at e within found =
    let atom : s.0 ≡ variable first = cc in
    let others : map (λ (s : Atom × ℕ). s.0) steps ≡ own_labels (first + 1) count = cc in
    let not_here : atom_truth τ s.0 ≡ false = first_atom τ bound first s rule atom ∙ le-ltb first bound (omega arith) in
    let none : none_true τ steps ≡ true = raised-none τ bound (first + 1) count steps (λ v le. rule v (omega arith)) (omega arith) others in
    let nothing : gains τ steps ≡ 0 = gains-none_true τ steps none in
    (rw (not_here, none) refl, rw (not_here, nothing) (omega (arith, ints)))
raised-value τ bound first (suc count) (suc k) low x (s ∷ steps) value rule at e within found =
    let atom : s.0 ≡ variable first = cc in
    let others : map (λ (s : Atom × ℕ). s.0) steps ≡ own_labels (first + 1) count = cc in
    let here : atom_truth τ s.0 ≡ true = first_atom τ bound first s rule atom ∙ lt-ltb first bound (omega arith) in
    let rest = raised-value τ bound (first + 1) count k (low +ℤ pos s.1) s.0 steps value (λ v le. rule v (omega arith)) (omega arith) others (omega arith) found in
    (rw here rest.0, rw here (omega (arith, ints, rest.1)))

-- an integer over fresh variables has each of its values under a valuation that is as a given one below them
pub takes_each_value : (σ : Valuation) (a : OrdInt) (first count : ℕ) (value : ℤ) → map (λ (s : Atom × ℕ). s.0) a.steps ≡ own_labels first count → Contains (values_of a) value → (τ : Valuation) × Agree first σ τ × (IsOrdered τ a × (value_of τ a ≡ value))
takes_each_value σ a first count value e c =
    let τ : Valuation = raised_from σ first c.0 in
    let rule : (v : ℕ) → first ≤ v → τ v ≡ ltb v (first + c.0) =
    λ v le. ap (λ b. cond b (σ v) (ltb v (first + c.0))) (le-ltb v first le) in
    let same : Agree first σ τ =
    λ v lt. sym (ap (λ b. cond b (σ v) (ltb v (first + c.0))) (lt-ltb v first lt)) in
    let r = raised-value τ (first + c.0) first count c.0 a.base True a.steps value rule refl e c.1 c.2 in
    (τ, same, (r.0, r.1))

-- a literal is known by its variable and its sign
pub atom_is : (l : Lit) (var : ℕ) → l.var ≡ var → l.positive ≡ true → Of l ≡ variable var
atom_is l var v p = ap Of (let q : l ≡ record { var = var; positive = true } = lit_is in q)
  where
    lit_is : l ≡ record { var = var; positive = true }
    lit_is = rw (← v, ← p) refl

-- one more step of weight 1 is made
pub unit_steps-turn : (front more all : List (Atom × ℕ)) (s : Atom × ℕ) (first k count : ℕ) → k < count → more ≡ front ++ s ∷ [] → s ≡ (variable (first + k), 1) → front ++ unit_steps (first + k) (count - k) ≡ all → more ++ unit_steps (first + (k + 1)) (count - (k + 1)) ≡ all
unit_steps-turn front more all s first k count h pushed is so_far =
    let e : first + (k + 1) ≡ first + k + 1 = omega arith in
    let f : count - (k + 1) ≡ count - k - 1 = omega arith in
    rw (pushed, e, f, append_assoc front (s ∷ []) (unit_steps (first + k + 1) (count - k - 1)), is)
    (ap (λ steps. front ++ steps) (sym (unit_steps-next (first + k) (count - k) (omega arith))) ∙ so_far)

pub IsBounded-unit_range_of : (low : ℤ) (first count : ℕ) → unsigned_abs low < 2 ^ 100 → unsigned_abs (low +ℤ pos count) < 2 ^ 100 → IsBounded (unit_range_of low first count)
IsBounded-unit_range_of low first count least greatest =
    (least, subst (λ (n : ℕ). unsigned_abs (low +ℤ pos n) < 2 ^ 100) (sym (weights-unit_steps first count)) greatest)

-- the integer of listed values: its variables, that it rises, and below which bound they are
pub atoms-integer_of_values : (values : List ℤ) (first : ℕ) → map (λ (s : Atom × ℕ). s.0) (integer_of_values values first).steps ≡ own_labels first (length values - 1)
atoms-integer_of_values [] first = let e : 0 ≡ zero - 1 = omega arith in ap (own_labels first) e
atoms-integer_of_values (least ∷ values) first =
    let e : length values ≡ suc (length values) - 1 = omega arith in
    atoms-steps_between least values first ∙ ap (own_labels first) e

pub AreRising-integer_of_values : (values : List ℤ) (first : ℕ) → AreAscending values → AreRising (integer_of_values values first).steps
AreRising-integer_of_values [] first h = tt
AreRising-integer_of_values (least ∷ values) first h = AreRising-steps_between least values first h

pub IntBelow-integer_of_values : (n : ℕ) (values : List ℤ) (first : ℕ) → AreVars first (length values - 1) → first + length values ≤ n + 1 → IntBelow n (integer_of_values values first)
IntBelow-integer_of_values n [] first vars h = tt
IntBelow-integer_of_values n (least ∷ values) first vars h =
    StepsBelow-vars n first (length values) (steps_between least values first) (atoms-steps_between least values first) (λ some. (vars (omega arith)).0) (omega arith)

pub least-integer_of_values : (values : List ℤ) (first : ℕ) → 0 < length values → get_or values 0 (pos 0) ≡ (integer_of_values values first).base
least-integer_of_values [] first some = absurd (omega arith)
least-integer_of_values (least ∷ values) first some = refl

pub further-integer_of_values : (values : List ℤ) (first : ℕ) → 0 < length values → steps_between (get_or values 0 (pos 0)) (take (length values - 1) (drop 1 values)) first ≡ (integer_of_values values first).steps
further-integer_of_values [] first some = absurd (omega arith)
further-integer_of_values (least ∷ values) first some =
    ap (λ vs. steps_between least vs first) (take_all (length (least ∷ values) - 1) values (omega arith))
