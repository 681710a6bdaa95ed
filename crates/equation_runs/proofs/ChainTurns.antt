-- Each equation that follows along the steps of an integer is made or stated in every view in which the one before it is made.
use Rattle.std.proofs.Common.{◌≡◌, ℕ, Bool, true, false, not, ◌&&◌, ◌⊎◌, inl, inr, List, [], ◌∷◌, ◌++◌, map, refl, sym, ap, subst, ◌∙◌}
use Rattle.std.specs.Prelude.{reverse}
use Rattle.std.proofs.lemmas.List.{map-append, reverse-append}
use Rattle.order_ints.specs.declared.atom.Atom.{Atom}
use Rattle.order_ints.specs.declared.atom.Atom.TheVariants.{True, False}
use Rattle.order_ints.specs.declared.order_int.OrdInt.{OrdInt}
use Rattle.order_ints.specs.Same.{same_atom}
use Rattle.order_ints.specs.Equality.{same_atom-true}
use Rattle.order_ints.specs.View.{resolve}
use Rattle.core_forms.specs.declared.equation.Equation.{Equation}
use Rattle.core_forms.specs.declared.equation.Rule.TheVariants.{Order}
use Rattle.core_forms.specs.declared.form.Core.{Core}
use Rattle.core_forms.specs.declared.form.Core.TheVariants.{Ladder, Clause, Parity, Conj, Comp, LeqR, EqR, Sum3, Count, Sum, Max, AllDiff, Amo, Prod, DivMod, Lex}
use Rattle.core_forms.specs.Contents.{ints_of}
use Rattle.core_forms.specs.Resolved.{map_ints}
use Rattle.core_forms.specs.Trimmed.{tidied_ints, trimmed_int, trimmed_core}
use Rattle.core_forms.proofs.Tidied.{by_test}
use Rattle.rule_base.specs.Pairs.{is_listed}
use Rattle.rule_base.specs.Stated.{all_equal}
use Rattle.equi_rules.specs.OrderRows.{step_equations, int_equations, order_equations}
use Rattle.equation_runs.specs.Turns.{IsMade, IsMadeOrTold, AreToldAfter, is_stated}
use Rattle.equation_runs.specs.RunRows.{equation_of, behind, chain_pairs, chains_of}
use Rattle.equation_runs.proofs.Stated.{by-equi}
use Rattle.equation_runs.proofs.LinkLists.{IsWithin, listed-left, listed-right}
use Rattle.equation_runs.proofs.Always.{Told}
use Rattle.equation_runs.proofs.Neighbours.{EachNext, EachNeighbour, each-later, AreToldIn, neighbours-told}

-- lists of equations one behind the other
pub append-turn : (told : Core → Equation → Type 0) (core : Core) (before : Equation) (xs ys : List Equation) → AreToldAfter told core before xs → ((e : Equation) → AreToldAfter told core e ys) → AreToldAfter told core before (xs ++ ys)
append-turn told core before [] ys first second = second before
append-turn told core before (e ∷ xs) ys first second = (first.0, append-turn told core e xs ys first.1 second)

pub map-turn : (told : Core → Equation → Type 0) (core : Core) (before : Equation) (f : Atom × Atom → Equation) (ps qs : List (Atom × Atom)) → AreToldAfter told core before (map f ps) → ((e : Equation) → AreToldAfter told core e (map f qs)) → AreToldAfter told core before (map f (ps ++ qs))
map-turn told core before f ps qs first second = subst (AreToldAfter told core before) (sym (map-append f ps qs)) (append-turn told core before (map f ps) (map f qs) first second)

-- neighbours from the other end
each-last : (P : Atom → Atom → Type 0) (xs : List (Atom × ℕ)) (s t : Atom × ℕ) → EachNeighbour P (xs ++ s ∷ []) → P s.0 t.0 → EachNeighbour P (xs ++ s ∷ t ∷ [])
each-last P [] s t each last = (last, tt)
each-last P (x ∷ xs) s t each last = along x.0 xs each
  where
    along : (y : Atom) (ys : List (Atom × ℕ)) → EachNext P y (ys ++ s ∷ []) → EachNext P y (ys ++ s ∷ t ∷ [])
    along y [] each = (each.0, (last, tt))
    along y (z ∷ ys) each = (each.0, along z.0 ys each.1)

each-reversed : (P Q : Atom → Atom → Type 0) → ((x y : Atom) → P x y → Q y x) → (steps : List (Atom × ℕ)) → EachNeighbour P steps → EachNeighbour Q (reverse steps)
each-reversed P Q turned [] each = tt
each-reversed P Q turned (s ∷ []) each = tt
each-reversed P Q turned (s ∷ t ∷ steps) each =
    subst (EachNeighbour Q) (sym (reverse-append (s ∷ t ∷ []) steps))
    (each-last Q (reverse steps) t s (subst (EachNeighbour Q) (reverse-append (t ∷ []) steps) (each-reversed P Q turned (t ∷ steps) each.1)) (turned s.0 t.0 each.0))

-- the integers of a trimmed core are the integers trimmed
abbrev pub trimmed_ints : List Atom → List OrdInt → List OrdInt
trimmed_ints view ints = tidied_ints (map_ints (resolve view) ints)

trimmed-append : (view : List Atom) (xs ys : List OrdInt) → trimmed_ints view xs ++ trimmed_ints view ys ≡ trimmed_ints view (xs ++ ys)
trimmed-append view [] ys = refl
trimmed-append view (a ∷ xs) ys = ap (λ (ints : List OrdInt). trimmed_int view a ∷ ints) (trimmed-append view xs ys)

order-trimmed : (view : List Atom) (core : Core) → order_equations (trimmed_core view core) ≡ int_equations (trimmed_ints view (ints_of core))
order-trimmed view (Ladder a) = refl
order-trimmed view (Clause ls) = refl
order-trimmed view (Parity ls odd) = refl
order-trimmed view (Conj r ls) = refl
order-trimmed view (Comp a b hi lo) = refl
order-trimmed view (LeqR r a b) = refl
order-trimmed view (EqR r a b) = refl
order-trimmed view (Sum3 a b c) = refl
order-trimmed view (Count ls c) = refl
order-trimmed view (Sum ints k) = refl
order-trimmed view (Max ints c) = ap int_equations (trimmed-append view ints (c ∷ []))
order-trimmed view (AllDiff ints cs) = refl
order-trimmed view (Amo ls) = refl
order-trimmed view (Prod a b c) = refl
order-trimmed view (DivMod a b q r) = refl
order-trimmed view (Lex r strict front back) = ap int_equations (trimmed-append view front back)

-- what is listed is stated by Order, where its atoms are not one
order-told : (core : Core) (view : List Atom) (x y : Atom) → (resolve view x ≡ resolve view y) ⊎ (is_listed (resolve view x) (resolve view y) (order_equations (trimmed_core view core)) ≡ true) → IsMadeOrTold Told core view (equation_of Order (x, y))
order-told core view x y (inl e) = inl e
order-told core view x y (inr e) = by (same_atom (resolve view x) (resolve view y)) refl
  where
    by : (t : Bool) → same_atom (resolve view x) (resolve view y) ≡ t → IsMadeOrTold Told core view (equation_of Order (x, y))
    by true same = inl (same_atom-true (resolve view x) (resolve view y) same)
    by false differ =
        inr (by-equi (trimmed_core view core) (equation_of Order (resolve view x, resolve view y))
        (ap (λ (t : Bool). not t && is_listed (resolve view x) (resolve view y) (order_equations (trimmed_core view core))) differ ∙ e))

-- along steps, a constant from one atom to the next
module _ (core : Core) (k : Atom) (fixed : (view : List Atom) → resolve view k ≡ k) where
  abbrev pub Goes : Atom → Atom → Type 0
  Goes x y = (view : List Atom) → resolve view x ≡ k → (resolve view y ≡ k) ⊎ (is_listed (resolve view y) k (order_equations (trimmed_core view core)) ≡ true)

  goes-told : (view : List Atom) (y : Atom) → (resolve view y ≡ k) ⊎ (is_listed (resolve view y) k (order_equations (trimmed_core view core)) ≡ true) → IsMadeOrTold Told core view (equation_of Order (y, k))
  goes-told view y one = order-told core view y k (subst (λ (z : Atom). (resolve view y ≡ z) ⊎ (is_listed (resolve view y) z (order_equations (trimmed_core view core)) ≡ true)) (sym (fixed view)) one)

  along-turn : (x : Atom) (steps : List (Atom × ℕ)) (before : Equation) → ((view : List Atom) → IsMade view before → resolve view x ≡ k) → EachNext Goes x steps → AreToldAfter Told core before (map (equation_of Order) (all_equal (map (λ t. t.0) steps) k))
  along-turn x [] before is each = tt
  along-turn x (s ∷ steps) before is each =
      ((λ view made. goes-told view s.0 (each.0 view (is view made))), along-turn s.0 steps (equation_of Order (s.0, k)) (λ view made. made ∙ fixed view) each.1)

  behind-turn : (steps : List (Atom × ℕ)) (before : Equation) → EachNeighbour Goes steps → AreToldAfter Told core before (map (equation_of Order) (behind k steps))
  behind-turn [] before each = tt
  behind-turn (s ∷ steps) before each =
      by_test (same_atom s.0 k) (all_equal (map (λ t. t.0) steps) k) (behind k steps) (λ ps. AreToldAfter Told core before (map (equation_of Order) ps))
      (λ e. along-turn s.0 steps before (λ view _. ap (resolve view) (same_atom-true s.0 k e) ∙ fixed view) each)
      (λ _. behind-turn steps before (each-later Goes s.0 steps each))

-- of one integer of a core, all of whose equations the core has in every view
abbrev pub IsPart : Core → OrdInt → Type 0
IsPart core a = (view : List Atom) → IsWithin (step_equations (trimmed_int view a).steps) (order_equations (trimmed_core view core))

chain-turn : (core : Core) (a : OrdInt) (before : Equation) → IsPart core a → AreToldAfter Told core before (map (equation_of Order) (chain_pairs a))
chain-turn core a before part =
    map-turn Told core before (equation_of Order) (behind False a.steps) (behind True (reverse a.steps))
    (behind-turn core False (λ _. refl) a.steps before upwards)
    (λ e. behind-turn core True (λ _. refl) (reverse a.steps) e
    (each-reversed (λ x y. Goes core True (λ _. refl) y x) (Goes core True (λ _. refl)) (λ x y h. h) a.steps downwards))
  where
    told : (view : List Atom) → EachNeighbour (AreToldIn view (order_equations (trimmed_core view core))) a.steps
    told view = neighbours-told view (order_equations (trimmed_core view core)) a (part view)

    each-view : (steps : List (Atom × ℕ)) → ((view : List Atom) → EachNeighbour (AreToldIn view (order_equations (trimmed_core view core))) steps) → EachNeighbour (λ x y. (view : List Atom) → AreToldIn view (order_equations (trimmed_core view core)) x y) steps
    each-view [] each = tt
    each-view (s ∷ steps) each = along s.0 steps each
      where
        along : (x : Atom) (steps : List (Atom × ℕ)) → ((view : List Atom) → EachNext (AreToldIn view (order_equations (trimmed_core view core))) x steps) → EachNext (λ x y. (view : List Atom) → AreToldIn view (order_equations (trimmed_core view core)) x y) x steps
        along x [] each = tt
        along x (t ∷ steps) each = ((λ view. (each view).0), along t.0 steps (λ view. (each view).1))

    weaker : (P Q : Atom → Atom → Type 0) → ((x y : Atom) → P x y → Q x y) → (steps : List (Atom × ℕ)) → EachNeighbour P steps → EachNeighbour Q steps
    weaker P Q change [] each = tt
    weaker P Q change (s ∷ steps) each = along s.0 steps each
      where
        along : (x : Atom) (steps : List (Atom × ℕ)) → EachNext P x steps → EachNext Q x steps
        along x [] each = tt
        along x (t ∷ steps) each = (change x t.0 each.0, along t.0 steps each.1)

    upwards : EachNeighbour (Goes core False (λ _. refl)) a.steps
    upwards = weaker (λ x y. (view : List Atom) → AreToldIn view (order_equations (trimmed_core view core)) x y) (Goes core False (λ _. refl)) (λ x y h view. (h view).0) a.steps (each-view a.steps told)

    downwards : EachNeighbour (λ x y. Goes core True (λ _. refl) y x) a.steps
    downwards = weaker (λ x y. (view : List Atom) → AreToldIn view (order_equations (trimmed_core view core)) x y) (λ x y. Goes core True (λ _. refl) y x) (λ x y h view. (h view).1) a.steps (each-view a.steps told)

-- of each integer of a list
abbrev pub AreParts : Core → List OrdInt → Type 0
AreParts core [] = Unit {0}
AreParts core (a ∷ ints) = IsPart core a × AreParts core ints

parts-of : (core : Core) (ints : List OrdInt) → ((view : List Atom) → IsWithin (int_equations (trimmed_ints view ints)) (order_equations (trimmed_core view core))) → AreParts core ints
parts-of core [] within = tt
parts-of core (a ∷ ints) within = (
  (λ view x y e. within view x y (listed-left x y (step_equations (trimmed_int view a).steps) (int_equations (trimmed_ints view ints)) e)),
  parts-of core ints (λ view x y e. within view x y (listed-right x y (step_equations (trimmed_int view a).steps) (int_equations (trimmed_ints view ints)) e)),
)

all-turn : (core : Core) (ints : List OrdInt) (before : Equation) → AreParts core ints → AreToldAfter Told core before (map (equation_of Order) (chains_of ints))
all-turn core [] before parts = tt
all-turn core (a ∷ ints) before parts =
    map-turn Told core before (equation_of Order) (chain_pairs a) (chains_of ints) (chain-turn core a before parts.0) (λ e. all-turn core ints e parts.1)

-- of each integer of a core
core-parts : (core : Core) → AreParts core (ints_of core)
core-parts core =
    parts-of core (ints_of core) (λ view x y e. subst (λ (ps : List (Atom × Atom)). is_listed x y ps ≡ true) (sym (order-trimmed view core)) e)

last-part : (core : Core) (xs : List OrdInt) (a : OrdInt) → AreParts core (xs ++ a ∷ []) → IsPart core a
last-part core [] a parts = parts.0
last-part core (x ∷ xs) a parts = last-part core xs a parts.1

-- the equations along the integers of a core are told, whatever is before them
pub chains-turn : (core : Core) (before : Equation) → AreToldAfter (λ c e. is_stated c e ≡ true) core before (map (equation_of Order) (chains_of (ints_of core)))
chains-turn core before = all-turn core (ints_of core) before (core-parts core)

-- and so are those along its last integer alone
pub last-turn : (core : Core) (xs : List OrdInt) (a : OrdInt) (before : Equation) → ints_of core ≡ xs ++ a ∷ [] → AreToldAfter (λ c e. is_stated c e ≡ true) core before (map (equation_of Order) (chain_pairs a))
last-turn core xs a before is = chain-turn core a before (last-part core xs a (subst (AreParts core) is (core-parts core)))
