-- Trimming keeps at which atom each value is reached: it is the label of the atom that it was.
use Rattle.std.proofs.Common.{◌≡◌, ℕ, ◌+◌, Bool, true, false, cond, ◌⊎◌, inl, inr, List, [], ◌∷◌, length, ◌==◌, ℤ, pos, ◌+ℤ◌, ◌≤ℤ◌, ◌<ℤ◌, refl, sym, ap, ◌∙◌, ⊎_elim, arith}
use Rattle.std.specs.Prelude.{int_le}
use Rattle.std.proofs.lemmas.Int.{ints}
use Rattle.std.proofs.lemmas.Bool.Decides.{nat_tests}
use Rattle.order_ints.specs.declared.atom.Atom.{Atom}
use Rattle.order_ints.specs.declared.atom.Atom.TheVariants.{True, False}
use Rattle.order_ints.specs.declared.order_int.OrdInt.{OrdInt}
use Rattle.order_ints.specs.Same.{is_true, is_false, same_atom}
use Rattle.order_ints.specs.Equality.{is_true-True, is_false-False, same_atom-true}
use Rattle.order_ints.specs.OrderRange.{low_of}
use Rattle.order_ints.specs.OrderLevels.{levels, first_reaching, at_of}
use Rattle.order_ints.specs.View.{resolve}
use Rattle.order_ints.proofs.Comparisons.{int_le-false, le_from_test, lt_from_test}
use Rattle.order_ints.proofs.Reaching.{reaching-low, reaching-above}
use Rattle.core_forms.specs.Resolved.{map_steps, map_int}
use Rattle.core_forms.specs.Trimmed.{merged_steps, raised_by, tidied_int, trimmed_int}
use Rattle.core_forms.proofs.Tidied.{by_test}
use Rattle.rule_base.specs.Constant.{is_constant}

-- one number is at most another, or above it
pub cases-le : (v w : ℤ) → (v ≤ℤ w) ⊎ (w <ℤ v)
cases-le v w = by (int_le v w) refl
  where
    by : (b : Bool) → int_le v w ≡ b → (v ≤ℤ w) ⊎ (w <ℤ v)
    by true e = inl (le_from_test v w e)
    by false e = inr (lt_from_test v w e)

-- the atom at which v is reached on levels from a value upwards
abbrev pub reached : ℤ → ℤ → Atom → List (Atom × ℕ) → Atom
reached v low x steps = first_reaching v (levels low x steps)

-- where a value starts is all that counts of how it was made
reached-from : (v low other : ℤ) (x : Atom) (steps : List (Atom × ℕ)) → low ≡ other → reached v low x steps ≡ reached v other x steps
reached-from v low other x steps e = ap (λ (l : ℤ). reached v l x steps) e

-- two lists of steps behind one first atom reach a value alike where they do so above it
reached-alike : (v low : ℤ) (x : Atom) (steps others : List (Atom × ℕ)) → (low <ℤ v → reached v low x steps ≡ reached v low x others) → reached v low x steps ≡ reached v low x others
reached-alike v low x steps others above =
    ⊎_elim
    (λ (h : v ≤ℤ low). reaching-low v low x steps h ∙ sym (reaching-low v low x others h))
    (λ (h : low <ℤ v). above h) (cases-le v low)

-- one more False step at the end reaches nothing more
false-gone : (v low : ℤ) (x : Atom) (w : ℕ) → reached v low x [] ≡ reached v low x ((False, w) ∷ [])
false-gone v low x w = reached-alike v low x [] ((False, w) ∷ []) above
  where
    none : low <ℤ v → reached v low x [] ≡ False
    none h = ap (λ (b : Bool). cond b x False) (int_le-false v low h)

    last : reached v (low +ℤ pos w) False [] ≡ False
    last = same (int_le v (low +ℤ pos w))
      where
        same : (b : Bool) → cond b False False ≡ False
        same true = refl
        same false = refl

    above : low <ℤ v → reached v low x [] ≡ reached v low x ((False, w) ∷ [])
    above h = none h ∙ sym (reaching-above v low x (False, w) [] h ∙ last)

-- two neighbours of one atom are one step
neighbours-joined : (v low : ℤ) (x a : Atom) (w u : ℕ) (steps : List (Atom × ℕ)) → reached v low x ((a, w + u) ∷ steps) ≡ reached v low x ((a, w) ∷ (a, u) ∷ steps)
neighbours-joined v low x a w u steps = reached-alike v low x ((a, w + u) ∷ steps) ((a, w) ∷ (a, u) ∷ steps) above
  where
    far : low +ℤ pos (w + u) ≡ low +ℤ pos w +ℤ pos u
    far = omega (arith, ints)

    beyond : reached v (low +ℤ pos (w + u)) a steps ≡ reached v (low +ℤ pos w) a ((a, u) ∷ steps)
    beyond = ⊎_elim
        (λ (h : v ≤ℤ (low +ℤ pos w)). reaching-low v (low +ℤ pos (w + u)) a steps (omega (arith, ints, h)) ∙ sym (reaching-low v (low +ℤ pos w) a ((a, u) ∷ steps) h))
        (λ (h : (low +ℤ pos w) <ℤ v). reached-from v (low +ℤ pos (w + u)) (low +ℤ pos w +ℤ pos u) a steps far ∙ sym (reaching-above v (low +ℤ pos w) a (a, u) steps h))
        (cases-le v (low +ℤ pos w))

    above : low <ℤ v → reached v low x ((a, w + u) ∷ steps) ≡ reached v low x ((a, w) ∷ (a, u) ∷ steps)
    above h = reaching-above v low x (a, w + u) steps h ∙ beyond ∙ sym (reaching-above v low x (a, w) ((a, u) ∷ steps) h)

-- steps that are alike from a step on are alike with that step
behind-alike : (v low : ℤ) (x : Atom) (s : Atom × ℕ) (steps others : List (Atom × ℕ)) → reached v (low +ℤ pos s.1) s.0 steps ≡ reached v (low +ℤ pos s.1) s.0 others → reached v low x (s ∷ steps) ≡ reached v low x (s ∷ others)
behind-alike v low x s steps others e = reached-alike v low x (s ∷ steps) (s ∷ others) (λ h. reaching-above v low x s steps h ∙ e ∙ sym (reaching-above v low x s others h))

-- merged steps reach what the steps reach
merged-reach : (v low : ℤ) (x a : Atom) (w : ℕ) (steps : List (Atom × ℕ)) → reached v low x (merged_steps a w steps) ≡ reached v low x ((a, w) ∷ steps)
merged-reach v low x a w [] =
    by_test (is_false a) [] ((a, w) ∷ []) (λ xs. reached v low x xs ≡ reached v low x ((a, w) ∷ []))
    (λ e. false-gone v low x w ∙ ap (λ (b : Atom). reached v low x ((b, w) ∷ [])) (sym (is_false-False a e))) (λ _. refl)
merged-reach v low x a w (s ∷ steps) =
    by_test (same_atom a s.0) (merged_steps a (w + s.1) steps) ((a, w) ∷ merged_steps s.0 s.1 steps) (λ xs. reached v low x xs ≡ reached v low x ((a, w) ∷ s ∷ steps))
    (λ e. merged-reach v low x a (w + s.1) steps ∙ neighbours-joined v low x a w s.1 steps ∙ ap (λ (b : Atom). reached v low x ((a, w) ∷ (b, s.1) ∷ steps)) (same_atom-true a s.0 e))
    (λ _. behind-alike v low x (a, w) (merged_steps s.0 s.1 steps) (s ∷ steps) (merged-reach v (low +ℤ pos w) a s.0 s.1 steps))

-- a True step at the beginning raises the base
true-raised : (v low : ℤ) (w : ℕ) (steps : List (Atom × ℕ)) → reached v (low +ℤ pos w) True steps ≡ reached v low True ((True, w) ∷ steps)
true-raised v low w steps = ⊎_elim
    (λ (h : v ≤ℤ low). reaching-low v (low +ℤ pos w) True steps (omega (arith, ints, h)) ∙ sym (reaching-low v low True ((True, w) ∷ steps) h))
    (λ (h : low <ℤ v). sym (reaching-above v low True (True, w) steps h)) (cases-le v low)

raised-reach : (v base : ℤ) (steps : List (Atom × ℕ)) → at_of (raised_by base steps) v ≡ reached v base True steps
raised-reach v base [] = refl
raised-reach v base (s ∷ steps) =
    by_test (is_true s.0) (raised_by (base +ℤ pos s.1) steps) (record { base = base; steps = merged_steps s.0 s.1 steps }) (λ a. at_of a v ≡ reached v base True (s ∷ steps))
    (λ e. raised-reach v (base +ℤ pos s.1) steps ∙ true-raised v base s.1 steps ∙ ap (λ (b : Atom). reached v base True ((b, s.1) ∷ steps)) (sym (is_true-True s.0 e)))
    (λ _. merged-reach v base True s.0 s.1 steps)

pub at-tidied : (a : OrdInt) (v : ℤ) → at_of (tidied_int a) v ≡ at_of a v
at-tidied a v = raised-reach v a.base a.steps

-- another atom in place of each one, where False stays
mapped-reach : (f : Atom → Atom) → f False ≡ False → (v low : ℤ) (x : Atom) (steps : List (Atom × ℕ)) → reached v low (f x) (map_steps f steps) ≡ f (reached v low x steps)
mapped-reach f keeps v low x [] = by (int_le v low)
  where
    by : (b : Bool) → cond b (f x) False ≡ f (cond b x False)
    by true = refl
    by false = sym keeps
mapped-reach f keeps v low x (s ∷ steps) = by (int_le v low) (mapped-reach f keeps v (low +ℤ pos s.1) s.0 steps)
  where
    by : (b : Bool) {y z : Atom} → y ≡ f z → cond b (f x) y ≡ f (cond b x z)
    by true e = refl
    by false e = e

-- at each value a trimmed integer has the label of the atom that the integer has there
pub at-trimmed : (view : List Atom) (a : OrdInt) (v : ℤ) → at_of (trimmed_int view a) v ≡ resolve view (at_of a v)
at-trimmed view a v = at-tidied (map_int (resolve view) a) v ∙ mapped-reach (resolve view) refl v a.base True a.steps

-- a constant stays one, of the same value
no-steps : (steps : List (Atom × ℕ)) → (length steps == 0) ≡ true → steps ≡ []
no-steps [] e = refl
no-steps (s ∷ steps) e = absurd (grind (arith, nat_tests))

constant-trimmed : (view : List Atom) (a : OrdInt) → is_constant a ≡ true → trimmed_int view a ≡ record { base = a.base; steps = [] }
constant-trimmed view a e = ap (λ (steps : List (Atom × ℕ)). raised_by a.base (map_steps (resolve view) steps)) (no-steps a.steps e)

pub constant-stays : (view : List Atom) (a : OrdInt) → is_constant a ≡ true → is_constant (trimmed_int view a) ≡ true
constant-stays view a e = ap is_constant (constant-trimmed view a e)

pub low-stays : (view : List Atom) (a : OrdInt) → is_constant a ≡ true → low_of (trimmed_int view a) ≡ low_of a
low-stays view a e = ap low_of (constant-trimmed view a e)
