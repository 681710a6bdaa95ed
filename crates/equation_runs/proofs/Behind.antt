-- Atoms of different variables, some of which were made a constant: in a view that these equations made each one of them is that constant, and each
-- other one is itself. So what is told of a core wherever that holds is told in turn.
use Rattle.std.proofs.Common.{◌≡◌, ℕ, zero, suc, ◌<◌, get_or, Bool, true, false, not, ◌==◌, ◌⊎◌, inl, inr, List, [], ◌∷◌, ◌++◌, map, Contains, refl, sym, ap, subst, ◌∙◌, ⊎_elim, arith}
use Rattle.std.proofs.lemmas.Bool.{false≢true, and_parts, or_cases}
use Rattle.std.proofs.lemmas.Bool.Decides.{Decides-eqb}
use Rattle.std.proofs.lemmas.List.Elements.{Contains-append_cases}
use Rattle.order_ints.specs.declared.literal.Lit.{Lit}
use Rattle.order_ints.specs.declared.atom.Atom.{Atom}
use Rattle.order_ints.specs.declared.atom.Atom.TheVariants.{True, False, Of}
use Rattle.order_ints.specs.Same.{is_true, is_false}
use Rattle.order_ints.specs.View.{resolve}
use Rattle.order_ints.proofs.Labels.{own-stays}
use Rattle.core_forms.specs.declared.equation.Equation.{Equation}
use Rattle.core_forms.specs.declared.equation.Rule.TheVariants.{Form}
use Rattle.core_forms.specs.declared.form.Core.{Core}
use Rattle.core_forms.specs.Each.{EachOf}
use Rattle.core_forms.specs.Variables.{atom_vars, core_vars, AreAmong}
use Rattle.core_forms.proofs.VariableLaws.{none_there, own_var}
use Rattle.rule_base.specs.Stated.{all_equal}
use Rattle.equation_runs.specs.Turns.{IsMadeOrTold, IsBehind, AreMade, AreToldFrom, equations_vars}
use Rattle.equation_runs.specs.RunRows.{equation_of}
use Rattle.equation_runs.proofs.FreeLaws.{has_var, are_apart}
use Rattle.equation_runs.proofs.NextValue.{or-left, or-right}
use Rattle.equation_runs.proofs.Always.{Told}

-- an atom is one of a list
abbrev pub IsIn : Atom → List Atom → Type 0
IsIn x [] = ⊥
IsIn x (a ∷ atoms) = (a ≡ x) ⊎ IsIn x atoms

pub in-left : (x : Atom) (xs ys : List Atom) → IsIn x xs → IsIn x (xs ++ ys)
in-left x [] ys is = absurd is
in-left x (a ∷ xs) ys (inl e) = inl e
in-left x (a ∷ xs) ys (inr is) = inr (in-left x xs ys is)

pub in-right : (x : Atom) (xs ys : List Atom) → IsIn x ys → IsIn x (xs ++ ys)
in-right x [] ys is = is
in-right x (a ∷ xs) ys is = inr (in-right x xs ys is)

-- what holds of each one
pub each-in : (P : Atom → Type 0) (x : Atom) (xs : List Atom) → EachOf P xs → IsIn x xs → P x
each-in P x [] each is = absurd is
each-in P x (a ∷ xs) each (inl e) = subst P e each.0
each-in P x (a ∷ xs) each (inr is) = each-in P x xs each.1 is

pub each-by : (P : Atom → Type 0) (xs : List Atom) → ((x : Atom) → IsIn x xs → P x) → EachOf P xs
each-by P [] by = tt
each-by P (a ∷ xs) by = (by a (inl refl), each-by P xs (λ x is. by x (inr is)))

-- ---- literals of different variables

pub same-var : (m n : ℕ) → (m == n) ≡ true → m ≡ n
same-var m n e = (Decides-eqb m n).0 e

one-var : (m n : ℕ) → m ≡ n → (m == n) ≡ true
one-var m n e = (Decides-eqb m n).1 e

abbrev var_of : Atom → ℕ
var_of True = 0
var_of False = 0
var_of (Of l) = l.var

-- a member has its variable
pub has-member : (l : Lit) (xs : List Atom) → IsIn (Of l) xs → has_var l.var xs ≡ true
has-member l [] is = absurd is
has-member l (True ∷ xs) (inl e) = absurd (false≢true (sym (ap is_true e)))
has-member l (True ∷ xs) (inr is) = has-member l xs is
has-member l (False ∷ xs) (inl e) = absurd (false≢true (sym (ap is_false e)))
has-member l (False ∷ xs) (inr is) = has-member l xs is
has-member l (Of m ∷ xs) (inl e) = or-left (m.var == l.var) (has_var l.var xs) (one-var m.var l.var (ap var_of e))
has-member l (Of m ∷ xs) (inr is) = or-right (m.var == l.var) (has_var l.var xs) (has-member l xs is)

-- and a variable that is had has a member
pub record HasMember (v : ℕ) (xs : List Atom) : Type 0 where
  pub literal : Lit
  pub var : literal.var ≡ v
  pub is_in : IsIn (Of literal) xs

member-of : (v : ℕ) (xs : List Atom) → has_var v xs ≡ true → HasMember v xs
member-of v [] e = absurd (false≢true e)
member-of v (True ∷ xs) e = let m = member-of v xs e in record { literal = m.literal; var = m.var; is_in = inr m.is_in }
member-of v (False ∷ xs) e = let m = member-of v xs e in record { literal = m.literal; var = m.var; is_in = inr m.is_in }
member-of v (Of l ∷ xs) e = ⊎_elim
    (λ (h : (l.var == v) ≡ true). record { literal = l; var = same-var l.var v h; is_in = inl refl })
    (λ (h : has_var v xs ≡ true). let m = member-of v xs h in record { literal = m.literal; var = m.var; is_in = inr m.is_in })
    (or_cases (l.var == v) (has_var v xs) e)

not-true : (t : Bool) → not t ≡ true → t ≡ false
not-true true e = absurd (false≢true e)
not-true false e = refl

pub later-free : (a : Atom) (xs : List Atom) → are_apart (a ∷ xs) ≡ true → are_apart xs ≡ true
later-free True xs free = absurd (false≢true free)
later-free False xs free = absurd (false≢true free)
later-free (Of l) xs free = (and_parts (not (has_var l.var xs)) (are_apart xs) free).1

pub first-alone : (l : Lit) (xs : List Atom) → are_apart (Of l ∷ xs) ≡ true → has_var l.var xs ≡ false
first-alone l xs free = not-true (has_var l.var xs) (and_parts (not (has_var l.var xs)) (are_apart xs) free).0

-- each free atom is a literal
pub record IsLiteral (x : Atom) : Type 0 where
  pub literal : Lit
  pub is : x ≡ Of literal

pub free-literal : (xs : List Atom) → are_apart xs ≡ true → (x : Atom) → IsIn x xs → IsLiteral x
free-literal [] free x is = absurd is
free-literal (True ∷ xs) free x is = absurd (false≢true free)
free-literal (False ∷ xs) free x is = absurd (false≢true free)
free-literal (Of l ∷ xs) free x (inl e) = record { literal = l; is = sym e }
free-literal (Of l ∷ xs) free x (inr is) = free-literal xs (later-free (Of l) xs free) x is

-- two of one variable are one
one-literal : (xs : List Atom) → are_apart xs ≡ true → (l m : Lit) → IsIn (Of l) xs → IsIn (Of m) xs → l.var ≡ m.var → Of l ≡ Of m
one-literal [] free l m first second e = absurd first
one-literal (a ∷ xs) free l m (inl f) (inl g) e = sym f ∙ g
one-literal (a ∷ xs) free l m (inl f) (inr is) e =
    absurd (false≢true (sym (first-alone l xs (subst (λ (y : Atom). are_apart (y ∷ xs) ≡ true) f free)) ∙ ap (λ v. has_var v xs) e ∙ has-member m xs is))
one-literal (a ∷ xs) free l m (inr is) (inl g) e =
    absurd (false≢true (sym (first-alone m xs (subst (λ (y : Atom). are_apart (y ∷ xs) ≡ true) g free)) ∙ ap (λ v. has_var v xs) (sym e) ∙ has-member l xs is))
one-literal (a ∷ xs) free l m (inr is) (inr is') e = one-literal xs (later-free a xs free) l m is is' e

-- those of the first part are none of the second
pub apart-parts : (xs ys : List Atom) → are_apart (xs ++ ys) ≡ true → (x : Atom) → IsIn x xs → IsIn x ys → ⊥
apart-parts [] ys free x is is' = is
apart-parts (a ∷ xs) ys free x (inl e) is' = by (free-literal (a ∷ xs ++ ys) free x (inl e))
  where
    by : IsLiteral x → ⊥
    by one =
        false≢true (sym (first-alone one.literal (xs ++ ys) (subst (λ (y : Atom). are_apart (y ∷ xs ++ ys) ≡ true) (e ∙ one.is) free))
        ∙ has-member one.literal (xs ++ ys) (in-right (Of one.literal) xs ys (subst (λ (y : Atom). IsIn y ys) one.is is')))
apart-parts (a ∷ xs) ys free x (inr is) is' = apart-parts xs ys (later-free a (xs ++ ys) free) x is is'

-- a list has the variable of its first atom, and those of the others
pub var-had : (v : ℕ) (x : Atom) (xs : List Atom) → Contains (atom_vars x) v → has_var v (x ∷ xs) ≡ true
var-had v True xs c = absurd (none_there v c)
var-had v False xs c = absurd (none_there v c)
var-had v (Of l) xs c = or-left (l.var == v) (has_var v xs) (one-var l.var v (sole c))
  where
    sole : Contains (l.var ∷ []) v → l.var ≡ v
    sole c = at c.0 c.1 c.2
      where
        at : (i : ℕ) → i < 1 → get_or (l.var ∷ []) i v ≡ v → l.var ≡ v
        at zero lt e = e
        at (suc i) lt e = absurd (omega (arith, lt))

pub had-later : (v : ℕ) (x : Atom) (xs : List Atom) → has_var v xs ≡ true → has_var v (x ∷ xs) ≡ true
had-later v True xs e = e
had-later v False xs e = e
had-later v (Of l) xs e = or-right (l.var == v) (has_var v xs) e

-- ---- some of them made a constant

-- the equations that make atoms a constant
abbrev pub all_made : Atom → List Atom → List Equation
all_made k xs = map (equation_of Form) (all_equal xs k)

-- an atom is itself in a view, or it is the constant and one of those that were made so
abbrev pub Stays : Atom → List Atom → List Atom → Atom → Type 0
Stays k xs view y = (resolve view y ≡ y) ⊎ ((resolve view y ≡ k) × IsIn y xs)

module _ (core : Core) (k : Atom) (none : atom_vars k ≡ []) (fixed : (view : List Atom) → resolve view k ≡ k) (free : List Atom) (apart : are_apart free ≡ true) (own : EachOf (λ a. AreAmong (atom_vars a) (core_vars core)) free) where
  -- the variables that they name
  named-cases : (P : ℕ → Type 0) (x : Atom) (xs : List Atom) → ((v : ℕ) → Contains (atom_vars x) v → P v) → ((v : ℕ) → Contains (equations_vars (all_made k xs)) v → P v) → (v : ℕ) → Contains (equations_vars (all_made k (x ∷ xs))) v → P v
  named-cases P x xs first rest v c = ⊎_elim
      (λ (h : Contains (atom_vars x ++ atom_vars k) v). ⊎_elim
      (λ (g : Contains (atom_vars x) v). first v g)
      (λ (g : Contains (atom_vars k) v). absurd (none_there v (subst (λ (vs : List ℕ). Contains vs v) none g)))
      (Contains-append_cases (atom_vars x) (atom_vars k) v h))
      (λ (h : Contains (equations_vars (all_made k xs)) v). rest v h)
      (Contains-append_cases (atom_vars x ++ atom_vars k) (equations_vars (all_made k xs)) v c)

  named-among : (xs : List Atom) → EachOf (λ x. IsIn x free) xs → AreAmong (equations_vars (all_made k xs)) (core_vars core)
  named-among [] within v c = absurd (none_there v c)
  named-among (x ∷ xs) within v c =
      named-cases (Contains (core_vars core)) x xs
      (λ v h. each-in (λ a. AreAmong (atom_vars a) (core_vars core)) x free own within.0 v h)
      (λ v h. named-among xs within.1 v h) v c

  named-had : (xs : List Atom) (v : ℕ) → Contains (equations_vars (all_made k xs)) v → has_var v xs ≡ true
  named-had [] v c = absurd (none_there v c)
  named-had (x ∷ xs) v c = named-cases (λ v. has_var v (x ∷ xs) ≡ true) x xs (λ v h. var-had v x xs h) (λ v h. had-later v x xs (named-had xs v h)) v c

  made-in : (view xs : List Atom) → AreMade view (all_made k xs) → (x : Atom) → IsIn x xs → resolve view x ≡ k
  made-in view [] made x is = absurd is
  made-in view (a ∷ xs) made x (inl e) = ap (resolve view) (sym e) ∙ made.0 ∙ fixed view
  made-in view (a ∷ xs) made x (inr is) = made-in view xs made.1 x is

  stays : (view xs : List Atom) → EachOf (λ x. IsIn x free) xs → IsBehind core (all_made k xs) view → (y : Atom) → IsIn y free → Stays k xs view y
  stays view xs within behind y is = by (free-literal free apart y is)
    where
      by : IsLiteral y → Stays k xs view y
      by one = had (has_var one.literal.var xs) refl
        where
          l : Lit
          l = one.literal

          mine : IsIn (Of l) free
          mine = subst (λ (z : Atom). IsIn z free) one.is is

          had : (t : Bool) → has_var l.var xs ≡ t → Stays k xs view y
          had true e = inr (made-in view xs behind.made y there, there)
            where
              m : HasMember l.var xs
              m = member-of l.var xs e

              there : IsIn y xs
              there = subst (λ (z : Atom). IsIn z xs) (one-literal free apart m.literal l (each-in (λ x. IsIn x free) (Of m.literal) xs within m.is_in) mine m.var ∙ sym one.is) m.is_in
          had false e = inl (ap (resolve view) one.is
              ∙ own-stays view l.var l.positive (behind.still (named-among xs within) l.var
              (each-in (λ a. AreAmong (atom_vars a) (core_vars core)) (Of l) free own mine l.var (own_var l.var))
              (λ c. false≢true (sym e ∙ named-had xs l.var c)))
              ∙ sym one.is)

  -- so what is told wherever each of them stays is told in turn, where some of them alone are made
  module _ (some : List Atom) (part : (x : Atom) → IsIn x some → IsIn x free) where
    all-part : (xs : List Atom) → EachOf (λ x. IsIn x some) xs → EachOf (λ x. IsIn x free) xs
    all-part [] each = tt
    all-part (x ∷ xs) each = (part x each.0, all-part xs each.1)

    pub told-behind : (ps : List Atom) (xs : List Atom) → EachOf (λ x. IsIn x some) ps → EachOf (λ x. IsIn x some) xs
        → EachOf (λ x. (view xs : List Atom) → EachOf (λ y. IsIn y some) xs → ((y : Atom) → IsIn y free → Stays k xs view y) → IsMadeOrTold Told core view (equation_of Form (x, k))) ps
        → AreToldFrom Told core (all_made k xs) (all_made k ps)
    told-behind [] xs inside within law = tt
    told-behind (x ∷ ps) xs inside within law =
        ((λ view behind. law.0 view xs within (stays view xs (all-part xs within) behind)), told-behind ps (x ∷ xs) inside.1 (inside.0, within) law.1)
