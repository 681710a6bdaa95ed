-- Two neighbours among the steps of an integer, as a view has them: trimming either makes them one step, or takes one of them away
-- that tells nothing of the other, or leaves them neighbours.
use Rattle.std.proofs.Common.{◌≡◌, ℕ, ◌+◌, Bool, true, false, ◌&&◌, ◌⊎◌, inl, inr, List, [], ◌∷◌, ◌++◌, ℤ, pos, ◌+ℤ◌, refl, sym, ap, subst, ◌∙◌}
use Rattle.std.proofs.lemmas.Bool.{false≢true}
use Rattle.order_ints.specs.declared.atom.Atom.{Atom}
use Rattle.order_ints.specs.declared.atom.Atom.TheVariants.{True, False}
use Rattle.order_ints.specs.declared.order_int.OrdInt.{OrdInt}
use Rattle.order_ints.specs.Truth.{not_atom}
use Rattle.order_ints.specs.Same.{is_true, is_false, same_atom}
use Rattle.order_ints.specs.Equality.{is_true-True, is_false-False, same_atom-true, same_atom-refl}
use Rattle.order_ints.specs.View.{resolve}
use Rattle.core_forms.specs.Resolved.{map_steps}
use Rattle.core_forms.specs.Trimmed.{merged_steps, raised_by, trimmed_int}
use Rattle.core_forms.proofs.Tidied.{by_test}
use Rattle.rule_base.specs.Pairs.{is_pair_of, is_listed, only_if}
use Rattle.equi_rules.specs.OrderRows.{neighbour_equations, equations_above, step_equations}
use Rattle.equation_runs.proofs.LinkLists.{IsWithin, listed-left, listed-right}
use Rattle.equation_runs.proofs.NextValue.{or-left}

-- something holds of each two neighbours, from an atom on
abbrev pub EachNext : (Atom → Atom → Type 0) → Atom → List (Atom × ℕ) → Type 0
EachNext P x [] = Unit {0}
EachNext P x (s ∷ steps) = P x s.0 × EachNext P s.0 steps

abbrev pub EachNeighbour : (Atom → Atom → Type 0) → List (Atom × ℕ) → Type 0
EachNeighbour P [] = Unit {0}
EachNeighbour P (s ∷ steps) = EachNext P s.0 steps

-- without the first one
pub each-later : (P : Atom → Atom → Type 0) (x : Atom) (steps : List (Atom × ℕ)) → EachNext P x steps → EachNeighbour P steps
each-later P x [] each = tt
each-later P x (s ∷ steps) each = each.1

-- and with one more in front
each-earlier : (P : Atom → Atom → Type 0) (x : Atom) (steps : List (Atom × ℕ)) → ((y : Atom) → P x y) → EachNeighbour P steps → EachNext P x steps
each-earlier P x [] first each = tt
each-earlier P x (s ∷ steps) first each = (first s.0, each)

-- where the lower one of two atoms is False the upper one is, or this is listed
abbrev pub IsFalseAbove : List (Atom × Atom) → Atom → Atom → Type 0
IsFalseAbove listed lower upper = lower ≡ False → (upper ≡ False) ⊎ (is_listed upper False listed ≡ true)

-- where the upper one is True the lower one is, or this is listed
abbrev pub IsTrueBelow : List (Atom × Atom) → Atom → Atom → Type 0
IsTrueBelow listed lower upper = upper ≡ True → (lower ≡ True) ⊎ (is_listed lower True listed ≡ true)

abbrev pub AreTold : List (Atom × Atom) → Atom → Atom → Type 0
AreTold listed lower upper = IsFalseAbove listed lower upper × IsTrueBelow listed lower upper

-- steps that are not False at first have that first step when they are merged
merged-first : (a : Atom) (w : ℕ) (steps : List (Atom × ℕ)) (P : List (Atom × ℕ) → Type 0) → is_false a ≡ false → ((u : ℕ) (more : List (Atom × ℕ)) → P ((a, u) ∷ more)) → P (merged_steps a w steps)
merged-first a w [] P isnt each =
    by_test (is_false a) [] ((a, w) ∷ []) P (λ e. absurd (false≢true (sym isnt ∙ e))) (λ _. each w [])
merged-first a w (s ∷ steps) P isnt each =
    by_test (same_atom a s.0) (merged_steps a (w + s.1) steps) ((a, w) ∷ merged_steps s.0 s.1 steps) P
    (λ _. merged-first a (w + s.1) steps P isnt each) (λ _. each w (merged_steps s.0 s.1 steps))

-- what two neighbours list
both-true : (s t : Bool) → s ≡ true → t ≡ true → (s && t) ≡ true
both-true s t e f = λ i. e i && f i

pub listed-first : (x y : Atom) (ps : List (Atom × Atom)) → is_listed x y ((x, y) ∷ ps) ≡ true
listed-first x y ps =
    or-left (is_pair_of x y (x, y)) (is_listed x y ps)
    (or-left (same_atom x x && same_atom y y) (same_atom x y && same_atom y x) (both-true (same_atom x x) (same_atom y y) (same_atom-refl x) (same_atom-refl y)))

upper-listed : (lower : Atom) → is_listed lower True (neighbour_equations lower True) ≡ true
upper-listed lower =
    listed-left lower True (only_if (is_true True) ((lower, True) ∷ []) ++ only_if (is_false lower) ((True, False) ∷ [])) (only_if (same_atom True (not_atom lower)) ((lower, True) ∷ []))
    (listed-left lower True (only_if (is_true True) ((lower, True) ∷ [])) (only_if (is_false lower) ((True, False) ∷ [])) (listed-first lower True []))

lower-listed : (upper : Atom) → is_listed upper False (neighbour_equations False upper) ≡ true
lower-listed upper =
    listed-left upper False (only_if (is_true upper) ((False, True) ∷ []) ++ only_if (is_false False) ((upper, False) ∷ [])) (only_if (same_atom upper (not_atom False)) ((False, True) ∷ []))
    (listed-right upper False (only_if (is_true upper) ((False, True) ∷ [])) (only_if (is_false False) ((upper, False) ∷ [])) (listed-first upper False []))

-- what the steps behind one list is listed with it
within-above : (a : Atom) (steps : List (Atom × ℕ)) → IsWithin (step_equations steps) (equations_above a steps)
within-above a [] x y e = e
within-above a (s ∷ steps) x y e = listed-right x y (neighbour_equations a s.0) (equations_above s.0 steps) e

-- neighbours of one atom are told
one-told : (listed : List (Atom × Atom)) (x y : Atom) → x ≡ y → AreTold listed x y
one-told listed x y same = ((λ e. inl (sym same ∙ e)), (λ e. inl (same ∙ e)))

True≢False : True ≡ False → ⊥
True≢False e = false≢true (ap is_false e)

-- and so are those that stay neighbours
apart-told : (listed : List (Atom × Atom)) (a b : Atom) (u : ℕ) (steps : List (Atom × ℕ)) → IsWithin (equations_above a (merged_steps b u steps)) listed → AreTold listed a b
apart-told listed a b u steps within = (false-above, true-below)
  where
    false-above : IsFalseAbove listed a b
    false-above e = by (is_false b) refl
      where
        by : (t : Bool) → is_false b ≡ t → (b ≡ False) ⊎ (is_listed b False listed ≡ true)
        by true is = inl (is_false-False b is)
        by false isnt = inr (merged-first b u steps (λ xs. IsWithin (equations_above a xs) listed → is_listed b False listed ≡ true) isnt
            (λ v more holds. holds b False (listed-left b False (neighbour_equations a b) (equations_above b more)
            (ap (λ (x : Atom). is_listed b False (neighbour_equations x b)) e ∙ lower-listed b))) within)

    true-below : IsTrueBelow listed a b
    true-below e = inr (merged-first b u steps (λ xs. IsWithin (equations_above a xs) listed → is_listed a True listed ≡ true) (ap is_false e)
        (λ v more holds. holds a True (listed-left a True (neighbour_equations a b) (equations_above b more)
        (ap (λ (x : Atom). is_listed a True (neighbour_equations a x)) e ∙ upper-listed a))) within)

-- merged steps
merged-told : (listed : List (Atom × Atom)) (a : Atom) (w : ℕ) (steps : List (Atom × ℕ)) → IsWithin (step_equations (merged_steps a w steps)) listed → EachNext (AreTold listed) a steps
merged-told listed a w [] within = tt
merged-told listed a w (s ∷ steps) within =
    by_test (same_atom a s.0) (merged_steps a (w + s.1) steps) ((a, w) ∷ merged_steps s.0 s.1 steps)
    (λ xs. IsWithin (step_equations xs) listed → EachNext (AreTold listed) a (s ∷ steps))
    (λ e within. (one-told listed a s.0 (same_atom-true a s.0 e), subst (λ (x : Atom). EachNext (AreTold listed) x steps) (same_atom-true a s.0 e) (merged-told listed a (w + s.1) steps within)))
    (λ _ within. (apart-told listed a s.0 s.1 steps within, merged-told listed s.0 s.1 steps (λ x y e. within x y (within-above a (merged_steps s.0 s.1 steps) x y e)))) within

-- a True step tells nothing of the one above it
true-told : (listed : List (Atom × Atom)) (x y : Atom) → x ≡ True → AreTold listed x y
true-told listed x y is = ((λ e. absurd (True≢False (sym is ∙ e))), (λ _. inl is))

raised-told : (listed : List (Atom × Atom)) (base : ℤ) (steps : List (Atom × ℕ)) → IsWithin (step_equations (raised_by base steps).steps) listed → EachNeighbour (AreTold listed) steps
raised-told listed base [] within = tt
raised-told listed base (s ∷ steps) within =
    by_test (is_true s.0) (raised_by (base +ℤ pos s.1) steps) (record { base = base; steps = merged_steps s.0 s.1 steps })
    (λ a. IsWithin (step_equations a.steps) listed → EachNeighbour (AreTold listed) (s ∷ steps))
    (λ e within. each-earlier (AreTold listed) s.0 steps (λ y. true-told listed s.0 y (is_true-True s.0 e)) (raised-told listed (base +ℤ pos s.1) steps within))
    (λ _ within. merged-told listed s.0 s.1 steps within) within

-- of the steps as a view has them
abbrev pub AreToldIn : List Atom → List (Atom × Atom) → Atom → Atom → Type 0
AreToldIn view listed lower upper = AreTold listed (resolve view lower) (resolve view upper)

mapped-next : (view : List Atom) (listed : List (Atom × Atom)) (x : Atom) (steps : List (Atom × ℕ)) → EachNext (AreTold listed) (resolve view x) (map_steps (resolve view) steps) → EachNext (AreToldIn view listed) x steps
mapped-next view listed x [] each = tt
mapped-next view listed x (s ∷ steps) each = (each.0, mapped-next view listed s.0 steps each.1)

mapped-neighbours : (view : List Atom) (listed : List (Atom × Atom)) (steps : List (Atom × ℕ)) → EachNeighbour (AreTold listed) (map_steps (resolve view) steps) → EachNeighbour (AreToldIn view listed) steps
mapped-neighbours view listed [] each = tt
mapped-neighbours view listed (s ∷ steps) each = mapped-next view listed s.0 steps each

-- where all that the trimmed integer lists is listed, each two neighbours are told in the view
pub neighbours-told : (view : List Atom) (listed : List (Atom × Atom)) (a : OrdInt) → IsWithin (step_equations (trimmed_int view a).steps) listed → EachNeighbour (AreToldIn view listed) a.steps
neighbours-told view listed a within = mapped-neighbours view listed a.steps (raised-told listed a.base (map_steps (resolve view) a.steps) within)
