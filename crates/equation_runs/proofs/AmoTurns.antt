-- Where a member of at-most-one is True, that another one is false is made or stated in every view.
use Rattle.std.proofs.Common.{◌≡◌, Bool, true, false, ◌||◌, inl, inr, List, [], ◌∷◌, map, refl, sym, ap, subst, ◌∙◌}
use Rattle.std.specs.Prelude.{if◌then◌else◌}
use Rattle.std.proofs.lemmas.Bool.{false≢true}
use Rattle.order_ints.specs.declared.atom.Atom.{Atom}
use Rattle.order_ints.specs.declared.atom.Atom.TheVariants.{True, False}
use Rattle.order_ints.specs.Same.{is_true, is_false}
use Rattle.order_ints.specs.Equality.{is_true-True, is_false-False}
use Rattle.order_ints.specs.View.{resolve}
use Rattle.core_forms.specs.declared.equation.Rule.TheVariants.{Form}
use Rattle.core_forms.specs.declared.form.Core.TheVariants.{Amo}
use Rattle.core_forms.specs.Each.{EachOf}
use Rattle.core_forms.specs.Trimmed.{has_true, without_false}
use Rattle.core_forms.proofs.Tidied.{by_test}
use Rattle.rule_base.specs.Pairs.{is_pair_of, is_listed}
use Rattle.rule_base.specs.Stated.{all_equal}
use Rattle.equi_rules.specs.AtomRows.{beside_true, amo_equations}
use Rattle.equation_runs.specs.RunRows.{equation_of}
use Rattle.equation_runs.proofs.NextValue.{or-left, or-right}
use Rattle.equation_runs.proofs.LinkLists.{EachPair, IsOneOrListed}
use Rattle.equation_runs.proofs.Neighbours.{listed-first}
use Rattle.equation_runs.proofs.LaterTurns.{AreToldAlways}
use Rattle.equation_runs.proofs.Always.{Told, IsLinked, equi_listed, equi-always}

-- what some facts of each atom of a list become
pub each-change : (P Q : Atom → Type 0) → ((x : Atom) → P x → Q x) → (xs : List Atom) → EachOf P xs → EachOf Q xs
each-change P Q change [] each = tt
each-change P Q change (x ∷ xs) each = (change x each.0, each-change P Q change xs each.1)

pub each-at : {X : Type 0} (P : X → Atom → Type 0) (xs : List Atom) → ((v : X) → EachOf (P v) xs) → EachOf (λ x. (v : X) → P v x) xs
each-at P [] each = tt
each-at P (x ∷ xs) each = ((λ v. (each v).0), each-at P xs (λ v. (each v).1))

-- pairs with one constant
pub each-equal : (P : Atom → Atom → Type 0) (k : Atom) (xs : List Atom) → EachOf (λ x. P x k) xs → EachPair P (all_equal xs k)
each-equal P k [] each = tt
each-equal P k (x ∷ xs) each = (each.0, each-equal P k xs each.1)

-- an atom is False, or it is said to be by one of the pairs
abbrev IsSaid : List Atom → Atom → Type 0
IsSaid ys x = IsOneOrListed x False (all_equal ys False)

said-later : (y : Atom) (ys : List Atom) (x : Atom) → IsSaid ys x → IsSaid (y ∷ ys) x
said-later y ys x (inl e) = inl e
said-later y ys x (inr e) = inr (or-right (is_pair_of x False (y, False)) (is_listed x False (all_equal ys False)) e)

said-first : (x : Atom) (ys : List Atom) → IsSaid (x ∷ ys) x
said-first x ys = inr (listed-first x False (all_equal ys False))

-- a True one, where one of them is
said-true : (ys : List Atom) → has_true ys ≡ true → IsSaid ys True
said-true [] e = absurd (false≢true e)
said-true (y ∷ ys) e = by (said-true ys) (is_true y) refl
  where
    by : (has_true ys ≡ true → IsSaid ys True) → (t : Bool) → is_true y ≡ t → IsSaid (y ∷ ys) True
    by rest true is = subst (λ (z : Atom). IsSaid (z ∷ ys) True) (sym (is_true-True y is)) (said-first True ys)
    by rest false isnt = said-later y ys True (rest (sym (ap (λ (t : Bool). if t then true else has_true ys) isnt) ∙ e))

-- of the members beside the first True one, and of all
beside-within : (ys : List Atom) (x : Atom) → IsSaid (beside_true ys) x → IsSaid ys x
beside-within [] x said = said
beside-within (z ∷ ys) x said =
    by_test (is_true z) ys (if has_true ys then z ∷ beside_true ys else []) (λ us. IsSaid us x → IsSaid (z ∷ ys) x)
    (λ _ s. said-later z ys x s)
    (λ _. by_test (has_true ys) (z ∷ beside_true ys) [] (λ us. IsSaid us x → IsSaid (z ∷ ys) x)
    (λ _ s. kept (beside-within ys x) s) (λ _ s. none s)) said
  where
    kept : (IsSaid (beside_true ys) x → IsSaid ys x) → IsSaid (z ∷ beside_true ys) x → IsSaid (z ∷ ys) x
    kept rest (inl e) = inl e
    kept rest (inr e) = by (is_pair_of x False (z, False)) refl
      where
        by : (t : Bool) → is_pair_of x False (z, False) ≡ t → IsSaid (z ∷ ys) x
        by true is = inr (or-left (is_pair_of x False (z, False)) (is_listed x False (all_equal ys False)) is)
        by false isnt = said-later z ys x (rest (inr (sym (ap (λ (t : Bool). t || is_listed x False (all_equal (beside_true ys) False)) isnt) ∙ e)))

    none : IsSaid [] x → IsSaid (z ∷ ys) x
    none (inl e) = inl e
    none (inr e) = absurd (false≢true e)

module _ (f : Atom → Atom) (keeps : f True ≡ True) where
  -- the list as a view has it
  abbrev kept_of : List Atom → List Atom
  kept_of xs = without_false (map f xs)

  -- each of its members is False or kept
  members-kept : (xs : List Atom) → EachOf (λ x. IsSaid (kept_of xs) (f x)) xs
  members-kept [] = tt
  members-kept (x ∷ xs) =
      by_test (is_false (f x)) (kept_of xs) (f x ∷ kept_of xs) (λ ys. EachOf (λ z. IsSaid ys (f z)) (x ∷ xs))
      (λ is. (inl (is_false-False (f x) is), members-kept xs))
      (λ _. (said-first (f x) (kept_of xs), each-change (λ z. IsSaid (kept_of xs) (f z)) (λ z. IsSaid (f x ∷ kept_of xs) (f z)) (λ z. said-later (f x) (kept_of xs) (f z)) xs (members-kept xs)))

  true-kept : (xs : List Atom) → has_true xs ≡ true → has_true (kept_of xs) ≡ true
  true-kept [] e = e
  true-kept (x ∷ xs) e = by (true-kept xs) (is_true x) refl
    where
      later : has_true (kept_of xs) ≡ true → has_true (kept_of (x ∷ xs)) ≡ true
      later h =
          by_test (is_false (f x)) (kept_of xs) (f x ∷ kept_of xs) (λ ys. has_true ys ≡ true) (λ _. h)
          (λ _. by_test (is_true (f x)) true (has_true (kept_of xs)) (λ t. t ≡ true) (λ _. refl) (λ _. h))

      by : (has_true xs ≡ true → has_true (kept_of xs) ≡ true) → (t : Bool) → is_true x ≡ t → has_true (kept_of (x ∷ xs)) ≡ true
      by rest true is = subst (λ (z : Atom). has_true (without_false (z ∷ map f xs)) ≡ true) (sym (ap f (is_true-True x is) ∙ keeps)) refl
      by rest false isnt = later (rest (sym (ap (λ (t : Bool). if t then true else has_true xs) isnt) ∙ e))

  -- those beside a True one are False, or stand beside a True one of what is kept
  beside-kept : (xs : List Atom) → EachOf (λ x. IsSaid (beside_true (kept_of xs)) (f x)) (beside_true xs)
  beside-kept [] = tt
  beside-kept (x ∷ xs) =
      by_test (is_true x) xs (if has_true xs then x ∷ beside_true xs else []) (λ us. EachOf (λ z. IsSaid (beside_true (kept_of (x ∷ xs))) (f z)) us)
      (λ is. subst (λ (y : Atom). EachOf (λ z. IsSaid (beside_true (without_false (y ∷ map f xs))) (f z)) xs) (sym (ap f (is_true-True x is) ∙ keeps)) (members-kept xs))
      (λ _. by_test (has_true xs) (x ∷ beside_true xs) [] (λ us. EachOf (λ z. IsSaid (beside_true (kept_of (x ∷ xs))) (f z)) us)
      (λ some. by_test (is_false (f x)) (kept_of xs) (f x ∷ kept_of xs) (λ ys. EachOf (λ z. IsSaid (beside_true ys) (f z)) (x ∷ beside_true xs))
      (λ is. (inl (is_false-False (f x) is), beside-kept xs))
      (λ _. by_test (is_true (f x)) (kept_of xs) (if has_true (kept_of xs) then f x ∷ beside_true (kept_of xs) else []) (λ ys. EachOf (λ z. IsSaid ys (f z)) (x ∷ beside_true xs))
      (λ is. (
        subst (λ (y : Atom). IsSaid (kept_of xs) y) (sym (is_true-True (f x) is)) (said-true (kept_of xs) (true-kept xs some)),
        each-change (λ z. IsSaid (beside_true (kept_of xs)) (f z)) (λ z. IsSaid (kept_of xs) (f z)) (λ z. beside-within (kept_of xs) (f z)) (beside_true xs) (beside-kept xs),
      ))
      (λ _. subst (λ (t : Bool). EachOf (λ z. IsSaid (if t then f x ∷ beside_true (kept_of xs) else []) (f z)) (x ∷ beside_true xs)) (sym (true-kept xs some)) (
        said-first (f x) (beside_true (kept_of xs)),
        each-change (λ z. IsSaid (beside_true (kept_of xs)) (f z)) (λ z. IsSaid (f x ∷ beside_true (kept_of xs)) (f z)) (λ z. said-later (f x) (beside_true (kept_of xs)) (f z)) (beside_true xs) (beside-kept xs),
      ))))
      (λ _. tt))

pub amo-turn : (ls : List Atom) → AreToldAlways Told (Amo ls) (map (equation_of Form) (amo_equations ls))
amo-turn ls =
    equi-always (Amo ls) (amo_equations ls)
    (each-equal (IsLinked (equi_listed (Amo ls))) False (beside_true ls)
    (each-at (λ (view : List Atom) x. IsOneOrListed (resolve view x) False (equi_listed (Amo ls) view)) (beside_true ls) (λ view. beside-kept (resolve view) refl ls)))
