-- What a sum, a count or a maximum leaves its members, once some of the atoms of the core are a constant and each other one is itself.
use Rattle.std.proofs.Common.{◌≡◌, ℕ, ◌+◌, Bool, true, false, cond, ◌⊎◌, inl, inr, List, [], ◌∷◌, ◌++◌, map, ℤ, pos, ◌+ℤ◌, ◌-ℤ◌, refl, sym, ap, subst, ◌∙◌, Contains, arith}
use Rattle.std.specs.Prelude.{int_le, if◌then◌else◌}
use Rattle.std.proofs.lemmas.Bool.{false≢true}
use Rattle.std.proofs.lemmas.Int.{ints}
use Rattle.order_ints.specs.declared.atom.Atom.{Atom}
use Rattle.order_ints.specs.declared.atom.Atom.TheVariants.{True, False, Of}
use Rattle.order_ints.specs.declared.order_int.OrdInt.{OrdInt}
use Rattle.order_ints.specs.Same.{is_true, is_false, same_atom}
use Rattle.order_ints.specs.OrderRange.{weights, low_of, high_of}
use Rattle.order_ints.specs.OrderLevels.{levels, first_reaching, at_of}
use Rattle.order_ints.specs.View.{resolve}
use Rattle.core_forms.specs.declared.equation.Rule.TheVariants.{Form}
use Rattle.core_forms.specs.declared.form.Core.TheVariants.{Sum, Max}
use Rattle.core_forms.specs.Each.{EachOf, EachStep, EachInt}
use Rattle.core_forms.specs.Resolved.{map_steps}
use Rattle.core_forms.specs.Trimmed.{merged_steps, raised_by, trimmed_int}
use Rattle.core_forms.specs.Variables.{atom_vars, core_vars}
use Rattle.core_forms.proofs.Tidied.{by_test}
use Rattle.core_forms.proofs.VariableLaws.{each_vars}
use Rattle.core_forms.proofs.EachLaws.{EachInt-left, EachInt-right}
use Rattle.rule_base.specs.Pairs.{is_listed}
use Rattle.rule_base.specs.Stated.{at_least, is_below}
use Rattle.arith_rules.specs.Links.{within}
use Rattle.arith_rules.specs.SumRows.{lows_of, highs_of, shares, sum_equations}
use Rattle.arith_rules.specs.MaxRows.{member_ranges, top_equations, unreached_equations, leader_equations, max_equations}
use Rattle.equation_runs.specs.Turns.{IsMadeOrTold, AreToldFrom}
use Rattle.equation_runs.specs.RunRows.{equation_of}
use Rattle.equation_runs.proofs.FreeLaws.{are_apart}
use Rattle.equation_runs.specs.FreeAtoms.{step_atoms, int_atoms}
use Rattle.equation_runs.specs.BoundRows.{literals, lower_atoms, upper_atoms, above_atoms}
use Rattle.equation_runs.proofs.AtTrimmed.{at-trimmed}
use Rattle.equation_runs.proofs.LinkLists.{listed-left, listed-right}
use Rattle.equation_runs.proofs.Neighbours.{listed-first}
use Rattle.equation_runs.proofs.ChainTurns.{trimmed_ints}
use Rattle.equation_runs.proofs.Always.{Told, arith_listed, arith-told}
use Rattle.equation_runs.proofs.Behind.{IsIn, in-left, in-right, each-in, apart-parts, IsLiteral, free-literal, all_made, Stays, told-behind}
use Rattle.equation_runs.proofs.ConjTurns.{stays-not-false, stays-not-true}

-- ---- the ends of a trimmed integer

-- where no step is True the least value stays
low-still : (view : List Atom) (base : ℤ) (steps : List (Atom × ℕ)) → EachStep (λ y. is_true (resolve view y) ≡ false) steps → low_of (raised_by base (map_steps (resolve view) steps)) ≡ base
low-still view base [] each = refl
low-still view base (s ∷ steps) each =
    ap (λ (t : Bool). low_of (if t then raised_by (base +ℤ pos s.1) (map_steps (resolve view) steps) else record { base = base; steps = merged_steps (resolve view s.0) s.1 (map_steps (resolve view) steps) })) each.0

-- where none is False the greatest one stays
weights-still : (view : List Atom) (a : Atom) (w : ℕ) (steps : List (Atom × ℕ)) → is_false a ≡ false → EachStep (λ y. is_false (resolve view y) ≡ false) steps → weights (merged_steps a w (map_steps (resolve view) steps)) ≡ w + weights steps
weights-still view a w [] isnt each = ap (λ (t : Bool). weights (if t then [] else (a, w) ∷ [])) isnt
weights-still view a w (s ∷ steps) isnt each =
    by_test (same_atom a (resolve view s.0)) (merged_steps a (w + s.1) (map_steps (resolve view) steps)) ((a, w) ∷ merged_steps (resolve view s.0) s.1 (map_steps (resolve view) steps)) (λ xs. weights xs ≡ w + (s.1 + weights steps))
    (λ _. let h = weights-still view a (w + s.1) steps isnt each.1 in omega (arith, h))
    (λ _. let h = weights-still view (resolve view s.0) s.1 steps each.0 each.1 in omega (arith, h))

high-still : (view : List Atom) (base : ℤ) (steps : List (Atom × ℕ)) → EachStep (λ y. is_false (resolve view y) ≡ false) steps → high_of (raised_by base (map_steps (resolve view) steps)) ≡ base +ℤ pos (weights steps)
high-still view base [] each = refl
high-still view base (s ∷ steps) each =
    by_test (is_true (resolve view s.0)) (raised_by (base +ℤ pos s.1) (map_steps (resolve view) steps)) (record { base = base; steps = merged_steps (resolve view s.0) s.1 (map_steps (resolve view) steps) }) (λ a. high_of a ≡ base +ℤ pos (s.1 + weights steps))
    (λ _. let h = high-still view (base +ℤ pos s.1) steps each.1 in omega (arith, ints, h))
    (λ _. let h = weights-still view (resolve view s.0) s.1 steps each.0 each.1 in omega (arith, ints, h))

pub low-stays-so : (view : List Atom) (a : OrdInt) → EachStep (λ y. is_true (resolve view y) ≡ false) a.steps → low_of (trimmed_int view a) ≡ low_of a
low-stays-so view a each = low-still view a.base a.steps each

pub high-stays-so : (view : List Atom) (a : OrdInt) → EachStep (λ y. is_false (resolve view y) ≡ false) a.steps → high_of (trimmed_int view a) ≡ high_of a
high-stays-so view a each = high-still view a.base a.steps each

sum-one : (p q r s : ℤ) → p ≡ q → r ≡ s → p +ℤ r ≡ q +ℤ s
sum-one p q r s e f = omega (arith, ints, e, f)

lows-still : (view : List Atom) (xs : List OrdInt) → EachInt (λ y. is_true (resolve view y) ≡ false) xs → lows_of (trimmed_ints view xs) ≡ lows_of xs
lows-still view [] each = refl
lows-still view (a ∷ xs) each = sum-one (low_of (trimmed_int view a)) (low_of a) (lows_of (trimmed_ints view xs)) (lows_of xs) (low-stays-so view a each.0) (lows-still view xs each.1)

highs-still : (view : List Atom) (xs : List OrdInt) → EachInt (λ y. is_false (resolve view y) ≡ false) xs → highs_of (trimmed_ints view xs) ≡ highs_of xs
highs-still view [] each = refl
highs-still view (a ∷ xs) each = sum-one (high_of (trimmed_int view a)) (high_of a) (highs_of (trimmed_ints view xs)) (highs_of xs) (high-stays-so view a each.0) (highs-still view xs each.1)

-- ---- atoms of integers

-- what holds of the atoms of steps, and of integers, and back
pub steps-each : (P : Atom → Type 0) (steps : List (Atom × ℕ)) → ((x : Atom) → IsIn x (step_atoms steps) → P x) → EachStep P steps
steps-each P [] each = tt
steps-each P (s ∷ steps) each = (each s.0 (inl refl), steps-each P steps (λ x is. each x (inr is)))

ints-each : (P : Atom → Type 0) (xs : List OrdInt) → ((x : Atom) → IsIn x (int_atoms xs) → P x) → EachInt P xs
ints-each P [] each = tt
ints-each P (a ∷ xs) each =
    (steps-each P a.steps (λ x is. each x (in-left x (step_atoms a.steps) (int_atoms xs) is)), ints-each P xs (λ x is. each x (in-right x (step_atoms a.steps) (int_atoms xs) is)))

pub each-both : (P : Atom → Type 0) (xs ys : List Atom) → EachOf P xs → EachOf P ys → EachOf P (xs ++ ys)
each-both P [] ys first second = second
each-both P (x ∷ xs) ys first second = (first.0, each-both P xs ys first.1 second)

pub each-steps : (P : Atom → Type 0) (steps : List (Atom × ℕ)) → EachStep P steps → EachOf P (step_atoms steps)
each-steps P [] each = tt
each-steps P (s ∷ steps) each = (each.0, each-steps P steps each.1)

each-ints : (P : Atom → Type 0) (xs : List OrdInt) → EachInt P xs → EachOf P (int_atoms xs)
each-ints P [] each = tt
each-ints P (a ∷ xs) each = each-both P (step_atoms a.steps) (int_atoms xs) (each-steps P a.steps each.0) (each-ints P xs each.1)

-- an integer is one of a list
abbrev pub IsOne : OrdInt → List OrdInt → Type 0
IsOne a [] = ⊥
IsOne a (b ∷ xs) = (b ≡ a) ⊎ IsOne a xs

one-trimmed : (view : List Atom) (a : OrdInt) (xs : List OrdInt) → IsOne a xs → IsOne (trimmed_int view a) (trimmed_ints view xs)
one-trimmed view a [] is = is
one-trimmed view a (b ∷ xs) (inl e) = inl (ap (trimmed_int view) e)
one-trimmed view a (b ∷ xs) (inr is) = inr (one-trimmed view a xs is)

-- the atom at a value is a constant or that of a step
reached-in : (v low : ℤ) (x : Atom) (steps : List (Atom × ℕ)) → (first_reaching v (levels low x steps) ≡ x) ⊎ ((first_reaching v (levels low x steps) ≡ False) ⊎ IsIn (first_reaching v (levels low x steps)) (step_atoms steps))
reached-in v low x [] = by (int_le v low)
  where
    by : (b : Bool) → (cond b x False ≡ x) ⊎ ((cond b x False ≡ False) ⊎ ⊥)
    by true = inl refl
    by false = inr (inl refl)
reached-in v low x (s ∷ steps) = by (int_le v low) (reached-in v (low +ℤ pos s.1) s.0 steps)
  where
    by : (b : Bool) {y : Atom} → (y ≡ s.0) ⊎ ((y ≡ False) ⊎ IsIn y (step_atoms steps)) → (cond b x y ≡ x) ⊎ ((cond b x y ≡ False) ⊎ IsIn (cond b x y) (step_atoms (s ∷ steps)))
    by true h = inl refl
    by false (inl e) = inr (inr (inl (sym e)))
    by false (inr (inl e)) = inr (inl e)
    by false (inr (inr is)) = inr (inr (inr is))

step-in : (a : OrdInt) (xs : List OrdInt) (x : Atom) → IsOne a xs → IsIn x (step_atoms a.steps) → IsIn x (int_atoms xs)
step-in a [] x is there = absurd is
step-in a (b ∷ xs) x (inl e) there = in-left x (step_atoms b.steps) (int_atoms xs) (subst (λ (c : OrdInt). IsIn x (step_atoms c.steps)) (sym e) there)
step-in a (b ∷ xs) x (inr is) there = in-right x (step_atoms b.steps) (int_atoms xs) (step-in a xs x is there)

at-in : (a : OrdInt) (v : ℤ) (xs : List OrdInt) → IsOne a xs → IsLiteral (at_of a v) → IsIn (at_of a v) (int_atoms xs)
at-in a v xs is one = by (reached-in v a.base True a.steps)
  where
    by : (at_of a v ≡ True) ⊎ ((at_of a v ≡ False) ⊎ IsIn (at_of a v) (step_atoms a.steps)) → IsIn (at_of a v) (int_atoms xs)
    by (inl e) = absurd (false≢true (sym (ap is_true (sym e ∙ one.is))))
    by (inr (inl e)) = absurd (false≢true (sym (ap is_false (sym e ∙ one.is))))
    by (inr (inr there)) = step-in a xs (at_of a v) is there

-- of the literals among atoms, one for each integer
each-literal : (P : Atom → Type 0) (xs : List Atom) → EachOf (λ x. IsLiteral x → P x) xs → EachOf P (literals xs)
each-literal P [] each = tt
each-literal P (True ∷ xs) each = each-literal P xs each.1
each-literal P (False ∷ xs) each = each-literal P xs each.1
each-literal P (Of l ∷ xs) each = (each.0 (record { literal = l; is = refl }), each-literal P xs each.1)

each-one : (P : Atom → Type 0) (f : OrdInt → Atom) (xs : List OrdInt) → ((a : OrdInt) → IsOne a xs → P (f a)) → EachOf P (map f xs)
each-one P f [] each = tt
each-one P f (a ∷ xs) each = (each a (inl refl), each-one P f xs (λ b is. each b (inr is)))

-- ---- what the rules list

lower-listed : (k lows highs : ℤ) (a : OrdInt) (xs : List OrdInt) → IsOne a xs → is_listed (at_of a (k -ℤ (highs -ℤ high_of a))) True (shares k lows highs xs) ≡ true
lower-listed k lows highs a [] is = absurd is
lower-listed k lows highs a (b ∷ xs) (inl e) =
    subst (λ (c : OrdInt). is_listed (at_of c (k -ℤ (highs -ℤ high_of c))) True (shares k lows highs (b ∷ xs)) ≡ true) e
    (listed-first (at_of b (k -ℤ (highs -ℤ high_of b))) True (is_below b (k -ℤ (lows -ℤ low_of b) +ℤ pos 1) ∷ shares k lows highs xs))
lower-listed k lows highs a (b ∷ xs) (inr is) =
    listed-right (at_of a (k -ℤ (highs -ℤ high_of a))) True (within b (k -ℤ (highs -ℤ high_of b)) (k -ℤ (lows -ℤ low_of b))) (shares k lows highs xs) (lower-listed k lows highs a xs is)

upper-listed : (k lows highs : ℤ) (a : OrdInt) (xs : List OrdInt) → IsOne a xs → is_listed (at_of a (k -ℤ (lows -ℤ low_of a) +ℤ pos 1)) False (shares k lows highs xs) ≡ true
upper-listed k lows highs a [] is = absurd is
upper-listed k lows highs a (b ∷ xs) (inl e) =
    subst (λ (c : OrdInt). is_listed (at_of c (k -ℤ (lows -ℤ low_of c) +ℤ pos 1)) False (shares k lows highs (b ∷ xs)) ≡ true) e
    (listed-right (at_of b (k -ℤ (lows -ℤ low_of b) +ℤ pos 1)) False (at_least b (k -ℤ (highs -ℤ high_of b)) ∷ []) (is_below b (k -ℤ (lows -ℤ low_of b) +ℤ pos 1) ∷ shares k lows highs xs)
    (listed-first (at_of b (k -ℤ (lows -ℤ low_of b) +ℤ pos 1)) False (shares k lows highs xs)))
upper-listed k lows highs a (b ∷ xs) (inr is) =
    listed-right (at_of a (k -ℤ (lows -ℤ low_of a) +ℤ pos 1)) False (within b (k -ℤ (highs -ℤ high_of b)) (k -ℤ (lows -ℤ low_of b))) (shares k lows highs xs) (upper-listed k lows highs a xs is)

above-listed : (c a : OrdInt) (xs : List OrdInt) → IsOne a xs → is_listed (at_of a (high_of c +ℤ pos 1)) False (member_ranges c xs) ≡ true
above-listed c a [] is = absurd is
above-listed c a (b ∷ xs) (inl e) =
    subst (λ (d : OrdInt). is_listed (at_of d (high_of c +ℤ pos 1)) False (member_ranges c (b ∷ xs)) ≡ true) e
    (listed-right (at_of b (high_of c +ℤ pos 1)) False (at_least c (low_of b) ∷ []) (is_below b (high_of c +ℤ pos 1) ∷ member_ranges c xs)
    (listed-first (at_of b (high_of c +ℤ pos 1)) False (member_ranges c xs)))
above-listed c a (b ∷ xs) (inr is) =
    listed-right (at_of a (high_of c +ℤ pos 1)) False (at_least c (low_of b) ∷ is_below b (high_of c +ℤ pos 1) ∷ []) (member_ranges c xs) (above-listed c a xs is)

-- a maximum lists the ranges of its members
in-front : (x y : Atom) (c : OrdInt) (xs : List OrdInt) → is_listed x y (member_ranges c xs) ≡ true → is_listed x y (max_equations xs c) ≡ true
in-front x y c xs e =
    listed-left x y (member_ranges c xs ++ top_equations c xs ++ unreached_equations c xs) (leader_equations c xs xs)
    (listed-left x y (member_ranges c xs ++ top_equations c xs) (unreached_equations c xs) (listed-left x y (member_ranges c xs) (top_equations c xs) e))

-- a sum of members lists their shares
sum-listed : (x y : Atom) (a : OrdInt) (xs : List OrdInt) (k : ℤ) → IsOne a xs → is_listed x y (shares k (lows_of xs) (highs_of xs) xs) ≡ true → is_listed x y (sum_equations xs k) ≡ true
sum-listed x y a [] k is e = absurd is
sum-listed x y a (b ∷ xs) k is e = e

-- ---- a sum

module _ (xs : List OrdInt) (k : ℤ) (free : are_apart (int_atoms xs) ≡ true) where
  lower-told : (a : OrdInt) → IsOne a xs → (view done : List Atom) → ((y : Atom) → IsIn y (int_atoms xs) → Stays True done view y) → IsMadeOrTold Told (Sum xs k) view (equation_of Form (at_of a (k -ℤ (highs_of xs -ℤ high_of a)), True))
  lower-told a is view done stay = arith-told (Sum xs k) view (at_of a (k -ℤ (highs_of xs -ℤ high_of a))) True (inr listed)
    where
      now : List OrdInt
      now = trimmed_ints view xs

      each : EachInt (λ y. is_false (resolve view y) ≡ false) xs
      each = ints-each (λ y. is_false (resolve view y) ≡ false) xs (λ y there. stays-not-false done view y (free-literal (int_atoms xs) free y there) (stay y there))

      own : EachStep (λ y. is_false (resolve view y) ≡ false) a.steps
      own = steps-each (λ y. is_false (resolve view y) ≡ false) a.steps (λ y there. stays-not-false done view y (free-literal (int_atoms xs) free y (step-in a xs y is there)) (stay y (step-in a xs y is there)))

      same : at_of (trimmed_int view a) (k -ℤ (highs_of now -ℤ high_of (trimmed_int view a))) ≡ resolve view (at_of a (k -ℤ (highs_of xs -ℤ high_of a)))
      same = (λ i. at_of (trimmed_int view a) (k -ℤ (highs-still view xs each i -ℤ high-stays-so view a own i))) ∙ at-trimmed view a (k -ℤ (highs_of xs -ℤ high_of a))

      listed : is_listed (resolve view (at_of a (k -ℤ (highs_of xs -ℤ high_of a)))) True (arith_listed (Sum xs k) view) ≡ true
      listed = subst (λ (x : Atom). is_listed x True (sum_equations now k) ≡ true) same
          (sum-listed (at_of (trimmed_int view a) (k -ℤ (highs_of now -ℤ high_of (trimmed_int view a)))) True (trimmed_int view a) now k (one-trimmed view a xs is)
          (lower-listed k (lows_of now) (highs_of now) (trimmed_int view a) now (one-trimmed view a xs is)))

  upper-told : (a : OrdInt) → IsOne a xs → (view done : List Atom) → ((y : Atom) → IsIn y (int_atoms xs) → Stays False done view y) → IsMadeOrTold Told (Sum xs k) view (equation_of Form (at_of a (k -ℤ (lows_of xs -ℤ low_of a) +ℤ pos 1), False))
  upper-told a is view done stay = arith-told (Sum xs k) view (at_of a (k -ℤ (lows_of xs -ℤ low_of a) +ℤ pos 1)) False (inr listed)
    where
      now : List OrdInt
      now = trimmed_ints view xs

      each : EachInt (λ y. is_true (resolve view y) ≡ false) xs
      each = ints-each (λ y. is_true (resolve view y) ≡ false) xs (λ y there. stays-not-true done view y (free-literal (int_atoms xs) free y there) (stay y there))

      own : EachStep (λ y. is_true (resolve view y) ≡ false) a.steps
      own = steps-each (λ y. is_true (resolve view y) ≡ false) a.steps (λ y there. stays-not-true done view y (free-literal (int_atoms xs) free y (step-in a xs y is there)) (stay y (step-in a xs y is there)))

      same : at_of (trimmed_int view a) (k -ℤ (lows_of now -ℤ low_of (trimmed_int view a)) +ℤ pos 1) ≡ resolve view (at_of a (k -ℤ (lows_of xs -ℤ low_of a) +ℤ pos 1))
      same = (λ i. at_of (trimmed_int view a) (k -ℤ (lows-still view xs each i -ℤ low-stays-so view a own i) +ℤ pos 1)) ∙ at-trimmed view a (k -ℤ (lows_of xs -ℤ low_of a) +ℤ pos 1)

      listed : is_listed (resolve view (at_of a (k -ℤ (lows_of xs -ℤ low_of a) +ℤ pos 1))) False (arith_listed (Sum xs k) view) ≡ true
      listed = subst (λ (x : Atom). is_listed x False (sum_equations now k) ≡ true) same
          (sum-listed (at_of (trimmed_int view a) (k -ℤ (lows_of now -ℤ low_of (trimmed_int view a)) +ℤ pos 1)) False (trimmed_int view a) now k (one-trimmed view a xs is)
          (upper-listed k (lows_of now) (highs_of now) (trimmed_int view a) now (one-trimmed view a xs is)))

  own-atoms : EachOf (λ a. (v : ℕ) → Contains (atom_vars a) v → Contains (core_vars (Sum xs k)) v) (int_atoms xs)
  own-atoms = each-ints _ xs (each_vars (λ v. Contains (core_vars (Sum xs k)) v) (Sum xs k) (λ v c. c)).1

  pub lower-turn : AreToldFrom Told (Sum xs k) [] (all_made True (literals (lower_atoms k (highs_of xs) xs)))
  lower-turn =
      told-behind (Sum xs k) True refl (λ _. refl) (int_atoms xs) free own-atoms (int_atoms xs) (λ x is. is) (literals (lower_atoms k (highs_of xs) xs)) []
      (each-literal (λ x. IsIn x (int_atoms xs)) (lower_atoms k (highs_of xs) xs) (each-one (λ x. IsLiteral x → IsIn x (int_atoms xs)) (λ a. at_of a (k -ℤ (highs_of xs -ℤ high_of a))) xs (λ a is one. at-in a (k -ℤ (highs_of xs -ℤ high_of a)) xs is one))) tt
      (each-literal _ (lower_atoms k (highs_of xs) xs) (each-one (λ x. IsLiteral x → (view done : List Atom) → EachOf (λ y. IsIn y (int_atoms xs)) done → ((y : Atom) → IsIn y (int_atoms xs) → Stays True done view y) → IsMadeOrTold Told (Sum xs k) view (equation_of Form (x, True)))
      (λ a. at_of a (k -ℤ (highs_of xs -ℤ high_of a))) xs (λ a is _ view done _ stay. lower-told a is view done stay)))

  pub upper-turn : AreToldFrom Told (Sum xs k) [] (all_made False (literals (upper_atoms k (lows_of xs) xs)))
  upper-turn =
      told-behind (Sum xs k) False refl (λ _. refl) (int_atoms xs) free own-atoms (int_atoms xs) (λ x is. is) (literals (upper_atoms k (lows_of xs) xs)) []
      (each-literal (λ x. IsIn x (int_atoms xs)) (upper_atoms k (lows_of xs) xs) (each-one (λ x. IsLiteral x → IsIn x (int_atoms xs)) (λ a. at_of a (k -ℤ (lows_of xs -ℤ low_of a) +ℤ pos 1)) xs (λ a is one. at-in a (k -ℤ (lows_of xs -ℤ low_of a) +ℤ pos 1) xs is one))) tt
      (each-literal _ (upper_atoms k (lows_of xs) xs) (each-one (λ x. IsLiteral x → (view done : List Atom) → EachOf (λ y. IsIn y (int_atoms xs)) done → ((y : Atom) → IsIn y (int_atoms xs) → Stays False done view y) → IsMadeOrTold Told (Sum xs k) view (equation_of Form (x, False)))
      (λ a. at_of a (k -ℤ (lows_of xs -ℤ low_of a) +ℤ pos 1)) xs (λ a is _ view done _ stay. upper-told a is view done stay)))

-- ---- a maximum

module _ (xs : List OrdInt) (c : OrdInt) (free : are_apart (int_atoms (c ∷ xs)) ≡ true) where
  abbrev all_atoms : List Atom
  all_atoms = int_atoms (c ∷ xs)

  -- those of the members stand behind those of c
  member-atom : (x : Atom) → IsIn x (int_atoms xs) → IsIn x all_atoms
  member-atom x is = in-right x (step_atoms c.steps) (int_atoms xs) is

  above-told : (a : OrdInt) → IsOne a xs → (view done : List Atom) → EachOf (λ y. IsIn y (int_atoms xs)) done → ((y : Atom) → IsIn y all_atoms → Stays False done view y) → IsMadeOrTold Told (Max xs c) view (equation_of Form (at_of a (high_of c +ℤ pos 1), False))
  above-told a is view done members stay = arith-told (Max xs c) view (at_of a (high_of c +ℤ pos 1)) False (inr listed)
    where
      now : List OrdInt
      now = trimmed_ints view xs

      -- the atoms of c are themselves
      not_false : (y : Atom) → IsIn y (step_atoms c.steps) → is_false (resolve view y) ≡ false
      not_false y there = by (stay y (in-left y (step_atoms c.steps) (int_atoms xs) there))
        where
          by : Stays False done view y → is_false (resolve view y) ≡ false
          by (inl e) = let one = free-literal all_atoms free y (in-left y (step_atoms c.steps) (int_atoms xs) there) in ap is_false (e ∙ one.is)
          by (inr e) = absurd (apart-parts (step_atoms c.steps) (int_atoms xs) free y there (each-in (λ z. IsIn z (int_atoms xs)) y done members e.1))

      same : at_of (trimmed_int view a) (high_of (trimmed_int view c) +ℤ pos 1) ≡ resolve view (at_of a (high_of c +ℤ pos 1))
      same = (λ i. at_of (trimmed_int view a) (high-stays-so view c (steps-each (λ y. is_false (resolve view y) ≡ false) c.steps not_false) i +ℤ pos 1)) ∙ at-trimmed view a (high_of c +ℤ pos 1)

      listed : is_listed (resolve view (at_of a (high_of c +ℤ pos 1))) False (arith_listed (Max xs c) view) ≡ true
      listed = subst (λ (x : Atom). is_listed x False (max_equations now (trimmed_int view c)) ≡ true) same
          (in-front (at_of (trimmed_int view a) (high_of (trimmed_int view c) +ℤ pos 1)) False (trimmed_int view c) now
          (above-listed (trimmed_int view c) (trimmed_int view a) now (one-trimmed view a xs is)))

  own-parts : EachInt (λ a. (v : ℕ) → Contains (atom_vars a) v → Contains (core_vars (Max xs c)) v) (xs ++ c ∷ [])
  own-parts = (each_vars (λ v. Contains (core_vars (Max xs c)) v) (Max xs c) (λ v c. c)).1

  own-all : EachOf (λ a. (v : ℕ) → Contains (atom_vars a) v → Contains (core_vars (Max xs c)) v) all_atoms
  own-all = each-ints _ (c ∷ xs) ((EachInt-right _ xs (c ∷ []) own-parts).0, EachInt-left _ xs (c ∷ []) own-parts)

  pub above-turn : AreToldFrom Told (Max xs c) [] (all_made False (literals (above_atoms c xs)))
  above-turn =
      told-behind (Max xs c) False refl (λ _. refl) all_atoms free own-all (int_atoms xs) member-atom (literals (above_atoms c xs)) []
      (each-literal (λ x. IsIn x (int_atoms xs)) (above_atoms c xs) (each-one (λ x. IsLiteral x → IsIn x (int_atoms xs)) (λ a. at_of a (high_of c +ℤ pos 1)) xs (λ a is one. at-in a (high_of c +ℤ pos 1) xs is one))) tt
      (each-literal _ (above_atoms c xs) (each-one (λ x. IsLiteral x → (view done : List Atom) → EachOf (λ y. IsIn y (int_atoms xs)) done → ((y : Atom) → IsIn y all_atoms → Stays False done view y) → IsMadeOrTold Told (Max xs c) view (equation_of Form (x, False)))
      (λ a. at_of a (high_of c +ℤ pos 1)) xs (λ a is _ view done members stay. above-told a is view done members stay)))
