-- The variables that equations name keep their labels among themselves, as each is made.
use Rattle.std.proofs.Common.{◌≡◌, ◌⊎◌, inl, inr, ℕ, zero, suc, ◌≤◌, ◌<◌, ◌==◌, Bool, true, false, cond, List, [], ◌∷◌, map, length, get_or, Contains, refl, sym, ap, ◌∙◌, subst, arith, ⊎_elim, Option, Some, None}
use Rattle.std.proofs.lemmas.Bool.{cases_Bool, cases_eq}
use Rattle.std.proofs.lemmas.Bool.Decides.{nat_tests}
use Rattle.std.proofs.lemmas.List.Elements.{Contains-append_right, Contains-append_cases}
use Rattle.order_ints.specs.declared.literal.Lit.{Lit}
use Rattle.order_ints.specs.declared.atom.Atom.{Atom}
use Rattle.order_ints.specs.declared.atom.Atom.TheVariants.{True, False, Of}
use Rattle.order_ints.specs.Truth.{not_atom}
use Rattle.order_ints.specs.View.{label_of, resolve}
use Rattle.order_ints.specs.Label.{variable, IsOwnLabel}
use Rattle.core_forms.specs.Variables.{atom_vars, AreAmong}
use Rattle.core_forms.proofs.VariableLaws.{none_there, own_var}
use Rattle.equation_store.specs.declared.relabel.Change.{Change}
use Rattle.equation_store.specs.Class.{is_of}
use Rattle.equation_store.specs.Merge.{signed, replaced, change_by, change_to, changed_by, losing_by}
use Rattle.equation_store.proofs.Replaced.{label_of-map, replaced-other}

-- whether a list has a number
only-one : (v x : ℕ) → (x ≡ v → ⊥) → Contains (x ∷ []) v → ⊥
only-one v x ne c = at c.0 c.1 c.2
  where
    at : (i : ℕ) → i < 1 → get_or (x ∷ []) i v ≡ v → ⊥
    at zero lt e = ne e
    at (suc i) lt e = omega (arith, lt)

is-behind : (v x : ℕ) (xs : List ℕ) → (x ≡ v) ⊎ (x ≡ v → ⊥) → Contains xs v ⊎ (Contains xs v → ⊥) → Contains (x ∷ xs) v ⊎ (Contains (x ∷ xs) v → ⊥)
is-behind v x xs (inl e) rest = inl (0, omega arith, e)
is-behind v x xs (inr ne) (inl c) = inl (Contains-append_right (x ∷ []) xs v c)
is-behind v x xs (inr ne) (inr none) = inr (λ c. ⊎_elim (only-one v x ne) none (Contains-append_cases (x ∷ []) xs v c))

is-listed : (v : ℕ) (xs : List ℕ) → Contains xs v ⊎ (Contains xs v → ⊥)
is-listed v [] = inr (none_there v)
is-listed v (x ∷ xs) = is-behind v x xs (cases_eq x v) (is-listed v xs)

-- a sign changes no variable
vars-not : (a : Atom) → atom_vars (not_atom a) ≡ atom_vars a
vars-not True = refl
vars-not False = refl
vars-not (Of l) = refl

vars-signed : (p : Bool) (a : Atom) → atom_vars (signed p a) ≡ atom_vars a
vars-signed true a = refl
vars-signed false a = vars-not a

-- what replaces a variable brings no other ones
vars-replaced : (named : List ℕ) (x : ℕ) (by a : Atom) → AreAmong (atom_vars by) named → AreAmong (atom_vars a) named → AreAmong (atom_vars (replaced x by a)) named
vars-replaced named x by True new old = old
vars-replaced named x by False new old = old
vars-replaced named x by (Of l) new old = at (l.var == x)
  where
    at : (t : Bool) → AreAmong (atom_vars (cond t (signed l.positive by) (Of l))) named
    at true = subst (λ (xs : List ℕ). AreAmong xs named) (sym (vars-signed l.positive by)) new
    at false = old

-- a change among listed variables: which one gets which label
pub record IsAmong (named : List ℕ) (c : Change) : Type 0 where
  pub loser : Contains named c.loser
  pub label : AreAmong (atom_vars c.label) named

abbrev pub IsAmongIf : List ℕ → Option Change → Type 0
IsAmongIf named None = Unit {0}
IsAmongIf named (Some c) = IsAmong named c

-- a merge of two atoms is one among their variables
to-among : (named : List ℕ) (l : Lit) (a : Atom) → AreAmong (atom_vars (Of l)) named → AreAmong (atom_vars a) named → IsAmong named (change_to l a)
to-among named l a first second = record {
  loser = first l.var (own_var l.var);
  label = subst (λ (xs : List ℕ). AreAmong xs named) (sym (vars-signed l.positive a)) second;
}

pub change-among : (named : List ℕ) (size : ℕ → ℕ) (a b : Atom) → AreAmong (atom_vars a) named → AreAmong (atom_vars b) named → IsAmongIf named (change_by size a b)
change-among named size (Of l) (Of m) first second = by (l.var == m.var)
  where
    either : (t : Bool) → IsAmong named (cond t (change_to l (Of m)) (change_to m (Of l)))
    either true = to-among named l (Of m) first second
    either false = to-among named m (Of l) second first

    by : (t : Bool) → IsAmongIf named (cond t None (Some (cond (losing_by size l.var m.var == l.var) (change_to l (Of m)) (change_to m (Of l)))))
    by true = tt
    by false = either (losing_by size l.var m.var == l.var)
change-among named size (Of l) True first second = to-among named l True first second
change-among named size (Of l) False first second = to-among named l False first second
change-among named size True (Of m) first second = to-among named m True second first
change-among named size False (Of m) first second = to-among named m False second first
change-among named size True True first second = tt
change-among named size True False first second = tt
change-among named size False True first second = tt
change-among named size False False first second = tt

-- of the variables of a view those that are not named are their own labels, and the labels of the named ones are over the named ones
pub record IsInside (vars named : List ℕ) (view : List Atom) : Type 0 where
  pub still : (v : ℕ) → Contains vars v → (Contains named v → ⊥) → IsOwnLabel view v
  pub inside : (v : ℕ) → Contains named v → AreAmong (atom_vars (label_of view v)) named

module _ (vars named : List ℕ) (view : List Atom) (is : IsInside vars named view) (places : (v : ℕ) → Contains vars v → (1 ≤ v) × (v ≤ length view)) where
  -- what an atom over the variables resolves to is over its own variable or over named ones
  pub resolved-inside : (more : List ℕ) (a : Atom) → AreAmong (atom_vars a) vars → AreAmong named more → AreAmong (atom_vars a) more → AreAmong (atom_vars (resolve view a)) more
  resolved-inside more True own old new = new
  resolved-inside more False own old new = new
  resolved-inside more (Of l) own old new = by (is-listed l.var named)
    where
      signs : AreAmong (atom_vars (label_of view l.var)) more → AreAmong (atom_vars (resolve view (Of l))) more
      signs h = subst (λ (xs : List ℕ). AreAmong xs more) (sym (vars-signed l.positive (label_of view l.var))) h

      by : Contains named l.var ⊎ (Contains named l.var → ⊥) → AreAmong (atom_vars (resolve view (Of l))) more
      by (inl c) = signs (λ v h. old v (is.inside l.var c v h))
      by (inr none) = signs (subst (λ (a : Atom). AreAmong (atom_vars a) more) (sym (is.still l.var (own l.var (own_var l.var)) none)) new)

  -- with more variables named, after a change among these
  module _ (more : List ℕ) (old : AreAmong named more) (own : AreAmong more vars) where
    label-inside : (v : ℕ) → Contains more v → AreAmong (atom_vars (label_of view v)) more
    label-inside v c = resolved-inside more (variable v) (λ w h. own w (only w h)) old only
      where
        only : AreAmong (v ∷ []) more
        only w h = at h.0 h.1 h.2
          where
            at : (i : ℕ) → i < 1 → get_or (v ∷ []) i w ≡ w → Contains more w
            at zero lt e = subst (Contains more) e c
            at (suc i) lt e = absurd (omega (arith, lt))

    pub changed-inside : (o : Option Change) → IsAmongIf more o → IsInside vars more (changed_by o view)
    changed-inside None among = record {
      still = λ v has none. is.still v has (λ c. none (old v c));
      inside = label-inside;
    }
    changed-inside (Some c) among = record { still = still; inside = inside }
      where
        at : (v : ℕ) → Contains vars v → label_of (map (replaced c.loser c.label) view) v ≡ replaced c.loser c.label (label_of view v)
        at v has = label_of-map (replaced c.loser c.label) view v (places v has).0 (places v has).1

        apart : (v : ℕ) → (Contains more v → ⊥) → is_of c.loser (variable v) ≡ false
        apart v none = by (cases_Bool (v == c.loser))
          where
            by : ((v == c.loser) ≡ true) ⊎ ((v == c.loser) ≡ false) → (v == c.loser) ≡ false
            by (inl e) = let same : c.loser ≡ v = grind (arith, nat_tests, e) in absurd (none (subst (Contains more) same among.loser))
            by (inr e) = e

        still : (v : ℕ) → Contains vars v → (Contains more v → ⊥) → IsOwnLabel (map (replaced c.loser c.label) view) v
        still v has none =
            at v has ∙ ap (replaced c.loser c.label) (is.still v has (λ d. none (old v d)))
            ∙ replaced-other c.loser c.label (variable v) (apart v none)

        inside : (v : ℕ) → Contains more v → AreAmong (atom_vars (label_of (map (replaced c.loser c.label) view) v)) more
        inside v d =
            subst (λ (a : Atom). AreAmong (atom_vars a) more) (sym (at v (own v d)))
            (vars-replaced more c.loser c.label (label_of view v) among.label (label-inside v d))
