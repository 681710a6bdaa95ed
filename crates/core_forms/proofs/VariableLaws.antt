-- The variables of a core: what depends on them, where they have a place, and those of a trimmed core.
use Rattle.std.proofs.Common.{◌≡◌, ℕ, zero, suc, ◌<◌, ◌≤◌, Bool, true, false, not, cond, ◌⊎◌, inl, inr, get_or, List, [], ◌∷◌, ◌++◌, Contains, refl, ap, subst, arith}
use Rattle.std.proofs.lemmas.List.Elements.{Contains-append_left, Contains-append_right, Contains-append_cases}
use Rattle.order_ints.specs.declared.atom.Atom.{Atom}
use Rattle.order_ints.specs.declared.atom.Atom.TheVariants.{True, False, Of}
use Rattle.order_ints.specs.declared.order_int.OrdInt.{OrdInt}
use Rattle.order_ints.specs.Truth.{Valuation, atom_truth, not_atom}
use Rattle.order_ints.specs.Place.{AtomBelow}
use Rattle.order_ints.specs.View.{label_of, resolve}
use Rattle.core_forms.specs.declared.form.Core.{Core}
use Rattle.core_forms.specs.Contents.{ints_of, atoms_of}
use Rattle.core_forms.specs.Meaning.{core_truth}
use Rattle.core_forms.specs.Place.{CoreBelow}
use Rattle.core_forms.specs.Each.{EachOf, EachStep, EachInt, EachAtom}
use Rattle.core_forms.specs.Variables.{atom_vars, atoms_vars, steps_vars, int_vars, ints_vars, core_vars, SameOn, IsLabelVar}
use Rattle.core_forms.specs.Trimmed.{trimmed_core}
use Rattle.core_forms.proofs.EachLaws.{each_below, below_each, each_weaker}
use Rattle.core_forms.proofs.Mapped.{core_truth-same}
use Rattle.core_forms.proofs.Places.{each_trimmed}

-- what holds of each variable of the first and of the second list
left_part : (R : ℕ → Type 0) (xs ys : List ℕ) → ((v : ℕ) → Contains (xs ++ ys) v → R v) → (v : ℕ) → Contains xs v → R v
left_part R xs ys h v c = h v (Contains-append_left xs ys v c)

right_part : (R : ℕ → Type 0) (xs ys : List ℕ) → ((v : ℕ) → Contains (xs ++ ys) v → R v) → (v : ℕ) → Contains ys v → R v
right_part R xs ys h v c = h v (Contains-append_right xs ys v c)

both_parts : (R : ℕ → Type 0) (xs ys : List ℕ) → ((v : ℕ) → Contains xs v → R v) → ((v : ℕ) → Contains ys v → R v) → (v : ℕ) → Contains (xs ++ ys) v → R v
both_parts R xs ys h k v c = by (Contains-append_cases xs ys v c)
  where
    by : (Contains xs v ⊎ Contains ys v) → R v
    by (inl d) = h v d
    by (inr d) = k v d

pub none_there : (v : ℕ) → Contains [] v → ⊥
none_there v c = omega (arith, c.1)

module _ (R : ℕ → Type 0) where
  -- it holds of the variables of an atom
  abbrev pub OfVars : Atom → Type 0
  OfVars a = (v : ℕ) → Contains (atom_vars a) v → R v

  of_vars : (ls : List Atom) → ((v : ℕ) → Contains (atoms_vars ls) v → R v) → EachOf OfVars ls
  of_vars [] h = tt
  of_vars (a ∷ ls) h = (left_part R (atom_vars a) (atoms_vars ls) h, of_vars ls (right_part R (atom_vars a) (atoms_vars ls) h))

  step_vars : (steps : List (Atom × ℕ)) → ((v : ℕ) → Contains (steps_vars steps) v → R v) → EachStep OfVars steps
  step_vars [] h = tt
  step_vars (s ∷ steps) h = (left_part R (atom_vars s.0) (steps_vars steps) h, step_vars steps (right_part R (atom_vars s.0) (steps_vars steps) h))

  int_vars' : (xs : List OrdInt) → ((v : ℕ) → Contains (ints_vars xs) v → R v) → EachInt OfVars xs
  int_vars' [] h = tt
  int_vars' (a ∷ xs) h = (step_vars a.steps (left_part R (int_vars a) (ints_vars xs) h), int_vars' xs (right_part R (int_vars a) (ints_vars xs) h))

  -- what holds of each variable of a core holds of those of each of its atoms
  pub each_vars : (core : Core) → ((v : ℕ) → Contains (core_vars core) v → R v) → EachAtom OfVars core
  each_vars core h = (
    of_vars (atoms_of core) (left_part R (atoms_vars (atoms_of core)) (ints_vars (ints_of core)) h),
    int_vars' (ints_of core) (right_part R (atoms_vars (atoms_of core)) (ints_vars (ints_of core)) h),
  )

  vars_of : (ls : List Atom) → EachOf OfVars ls → (v : ℕ) → Contains (atoms_vars ls) v → R v
  vars_of [] h = λ v c. absurd (none_there v c)
  vars_of (a ∷ ls) h = both_parts R (atom_vars a) (atoms_vars ls) h.0 (vars_of ls h.1)

  vars_step : (steps : List (Atom × ℕ)) → EachStep OfVars steps → (v : ℕ) → Contains (steps_vars steps) v → R v
  vars_step [] h = λ v c. absurd (none_there v c)
  vars_step (s ∷ steps) h = both_parts R (atom_vars s.0) (steps_vars steps) h.0 (vars_step steps h.1)

  vars_int : (xs : List OrdInt) → EachInt OfVars xs → (v : ℕ) → Contains (ints_vars xs) v → R v
  vars_int [] h = λ v c. absurd (none_there v c)
  vars_int (a ∷ xs) h = both_parts R (int_vars a) (ints_vars xs) (vars_step a.steps h.0) (vars_int xs h.1)

  -- and back
  pub vars_each : (core : Core) → EachAtom OfVars core → (v : ℕ) → Contains (core_vars core) v → R v
  vars_each core h =
      both_parts R (atoms_vars (atoms_of core)) (ints_vars (ints_of core)) (vars_of (atoms_of core) h.0) (vars_int (ints_of core) h.1)

-- an atom's variable is one of its variables
pub own_var : (v : ℕ) → Contains (v ∷ []) v
own_var v = (0, omega arith, refl)

truth_same : (σ τ : Valuation) (a : Atom) → OfVars (λ v. σ v ≡ τ v) a → atom_truth σ a ≡ atom_truth τ a
truth_same σ τ True h = refl
truth_same σ τ False h = refl
truth_same σ τ (Of l) h = ap (λ b. cond l.positive b (not b)) (h l.var (own_var l.var))

-- the meaning of a core depends on its variables alone
pub core_truth-vars : (σ τ : Valuation) (core : Core) → SameOn (core_vars core) σ τ → core_truth σ core ≡ core_truth τ core
core_truth-vars σ τ core same =
    core_truth-same σ τ core (each_weaker (OfVars (λ v. σ v ≡ τ v)) (λ a. atom_truth σ a ≡ atom_truth τ a) (truth_same σ τ) core (each_vars (λ v. σ v ≡ τ v) core same))

var_below : (n : ℕ) (a : Atom) → AtomBelow n a → OfVars (λ v. (1 ≤ v) × (v < n)) a
var_below n True h = λ v c. absurd (none_there v c)
var_below n False h = λ v c. absurd (none_there v c)
var_below n (Of l) h = λ v c. at v c.0 c.1 c.2
  where
    at : (v k : ℕ) → k < 1 → get_or (l.var ∷ []) k v ≡ v → (1 ≤ v) × (v < n)
    at v zero lt e = (omega (arith, e, h.0), omega (arith, e, h.1))
    at v (suc k) lt e = absurd (omega (arith, lt))

below_var : (n : ℕ) (a : Atom) → OfVars (λ v. (1 ≤ v) × (v < n)) a → AtomBelow n a
below_var n True h = tt
below_var n False h = tt
below_var n (Of l) h = h l.var (own_var l.var)

-- the variables of a core below n are from 1 and below n, and back
pub vars_below : (n : ℕ) (core : Core) → CoreBelow n core → (v : ℕ) → Contains (core_vars core) v → (1 ≤ v) × (v < n)
vars_below n core below = vars_each (λ v. (1 ≤ v) × (v < n)) core (each_below n (OfVars (λ v. (1 ≤ v) × (v < n))) (var_below n) core below)

pub below_vars : (n : ℕ) (core : Core) → ((v : ℕ) → Contains (core_vars core) v → (1 ≤ v) × (v < n)) → CoreBelow n core
below_vars n core h =
    below_each n core (each_weaker (OfVars (λ v. (1 ≤ v) × (v < n))) (AtomBelow n) (below_var n) core (each_vars (λ v. (1 ≤ v) × (v < n)) core h))

vars-not : (a : Atom) → atom_vars (not_atom a) ≡ atom_vars a
vars-not True = refl
vars-not False = refl
vars-not (Of l) = refl

label_var : (view : List Atom) (vars : List ℕ) (a : Atom) → OfVars (λ v. Contains vars v) a → OfVars (IsLabelVar view vars) (resolve view a)
label_var view vars True h = λ w c. absurd (none_there w c)
label_var view vars False h = λ w c. absurd (none_there w c)
label_var view vars (Of l) h = by l.positive
  where
    by : (p : Bool) → OfVars (IsLabelVar view vars) (cond p (label_of view l.var) (not_atom (label_of view l.var)))
    by true = λ w c. (l.var, h l.var (own_var l.var), c)
    by false = λ w c. (l.var, h l.var (own_var l.var), subst (λ (xs : List ℕ). Contains xs w) (vars-not (label_of view l.var)) c)

-- the variables of a trimmed core are those of labels of the core's variables
pub vars-trimmed : (view : List Atom) (core : Core) (w : ℕ) → Contains (core_vars (trimmed_core view core)) w → IsLabelVar view (core_vars core) w
vars-trimmed view core =
    let R : ℕ → Type 0 = IsLabelVar view (core_vars core) in
    let has : ℕ → Type 0 = λ v. Contains (core_vars core) v in
    vars_each R (trimmed_core view core) (each_trimmed (OfVars R) (λ w c. absurd (none_there w c)) (λ w c. absurd (none_there w c)) view core
    (each_weaker (OfVars has) (λ a. OfVars R (resolve view a)) (label_var view (core_vars core)) core (each_vars has core (λ v c. c))))
