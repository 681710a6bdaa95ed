-- The variables of a core and of its edge; and cores that have none.
use Rattle.std.proofs.Common.{◌≡◌, ◌≢◌, ℕ, zero, suc, ◌+◌, ◌<◌, Bool, true, false, ◌||◌, List, [], ◌∷◌, ◌++◌, Contains, get_or, ℤ, pos, refl, sym, ap, subst, ◌∙◌, arith}
use Rattle.std.specs.Prelude.{nat_eq}
use Rattle.std.proofs.lemmas.Bool.{true≢false}
use Rattle.std.proofs.lemmas.Bool.Decides.{nat_tests}
use Rattle.std.proofs.lemmas.List.Elements.{Contains-append_right}
use Rattle.order_ints.specs.declared.atom.Atom.{Atom}
use Rattle.order_ints.specs.declared.atom.Atom.TheVariants.{True, False, Of}
use Rattle.order_ints.specs.declared.order_int.OrdInt.{OrdInt}
use Rattle.order_ints.specs.View.{resolve}
use Rattle.core_forms.specs.declared.edges.Edge.TheVariants.{Truth, Last}
use Rattle.core_forms.specs.declared.edges.Known.TheVariants.{ButLast}
use Rattle.core_forms.specs.declared.form.Core.{Core}
use Rattle.core_forms.specs.declared.form.Core.TheVariants.{Ladder, Sum, Lex}
use Rattle.core_forms.specs.Each.{EachStep, EachInt}
use Rattle.core_forms.specs.Edges.{HasOwn, has_var, var_of, last_trimmed, settled_core, listed_vars, restored, InsideBelow, IsKnown}
use Rattle.core_forms.specs.Place.{CoreBelow, IntsBelow}
use Rattle.core_forms.specs.Plain.{IsPlain}
use Rattle.core_forms.specs.Totals.{before_last}
use Rattle.core_forms.specs.Trimmed.{trimmed_int}
use Rattle.core_forms.specs.Variables.{atoms_vars, ints_vars, core_vars}
use Rattle.core_forms.proofs.EachLaws.{EachInt-append, EachInt-left, EachInt-right}
use Rattle.core_forms.proofs.IntLists.{IntsBelow-append}
use Rattle.core_forms.proofs.LastMembers.{last_trimmed-behind}
use Rattle.core_forms.proofs.Places.{each_trimmed}
use Rattle.core_forms.proofs.Stability.{both_steps}
use Rattle.core_forms.proofs.VariableLaws.{none_there, OfVars, each_vars, vars_each, vars_below}

-- ---- a core without an edge

pub no-edge-below : (core : Core) → ((xs : List OrdInt) (k : ℤ) → core ≢ Sum xs k)
    → ((r : Atom) (strict : Bool) (front back : List OrdInt) → core ≢ Lex r strict front back) → (n : ℕ) → InsideBelow n core → CoreBelow n core
no-edge-below (Sum xs k) s l n h = absurd (s xs k refl)
no-edge-below (Lex r strict front back) s l n h = absurd (l r strict front back refl)
no-edge-below core s l n h = h

pub no-edge-settled : (core : Core) → ((xs : List OrdInt) (k : ℤ) → core ≢ Sum xs k)
    → ((r : Atom) (strict : Bool) (front back : List OrdInt) → core ≢ Lex r strict front back) → (view : List Atom) → core ≡ settled_core view core
no-edge-settled (Sum xs k) s l view = absurd (s xs k refl)
no-edge-settled (Lex r strict front back) s l view = absurd (l r strict front back refl)
no-edge-settled core s l view = refl

pub known-plain : (core : Core) → ((xs : List OrdInt) (k : ℤ) → core ≢ Sum xs k) → IsKnown ButLast core → IsPlain core
known-plain (Sum xs k) s h = absurd (s xs k refl)
known-plain core s h = h

pub no-last-restored : (core : Core) → ((xs : List OrdInt) (k : ℤ) → core ≢ Sum xs k) → (a : OrdInt) → core ≡ restored (Last a) core
no-last-restored (Sum xs k) s a = absurd (s xs k refl)
no-last-restored core s a = refl

pub no-truth-restored : (core : Core) → ((r : Atom) (strict : Bool) (front back : List OrdInt) → core ≢ Lex r strict front back)
    → (made : Atom) → core ≡ restored (Truth made) core
no-truth-restored (Lex r strict front back) l made = absurd (l r strict front back refl)
no-truth-restored core l made = refl

-- ---- variables at the edge

single : (x v : ℕ) → Contains (x ∷ []) v → x ≡ v
single x v c = at c.0 c.1 c.2
  where
    at : (k : ℕ) → k < 1 → get_or (x ∷ []) k v ≡ v → x ≡ v
    at zero lt e = e
    at (suc k) lt e = absurd (omega (arith, lt))

or-false : (b c : Bool) → (b || c) ≡ false → (b ≡ false) × (c ≡ false)
or-false true c e = absurd (true≢false e)
or-false false c e = (refl, e)

differs : (x y : ℕ) → nat_eq x y ≡ false → x ≡ y → ⊥
differs x y e is = grind (arith, nat_tests)

-- that it is another variable
abbrev IsOther : ℕ → ℕ → Type 0
IsOther var v = v ≡ var → ⊥

no-var : (var : ℕ) (a : Atom) → (var_of a ≡ var → ⊥) → OfVars (IsOther var) a
no-var var True ne = λ v c. absurd (none_there v c)
no-var var False ne = λ v c. absurd (none_there v c)
no-var var (Of l) ne = λ v c e. ne (single l.var v c ∙ e)

no-step : (var : ℕ) (steps : List (Atom × ℕ)) → has_var var steps ≡ false → EachStep (OfVars (IsOther var)) steps
no-step var [] h = tt
no-step var (s ∷ steps) h =
    let parts = or-false (nat_eq (var_of s.0) var) (has_var var steps) h in
    (no-var var s.0 (differs (var_of s.0) var parts.0), no-step var steps parts.1)

pub far : (n var : ℕ) (core : Core) → CoreBelow (n + 1) core → n < var → Contains (core_vars core) var → ⊥
far n var core below lt c = omega (arith, lt, (vars_below (n + 1) core below var c).1)

others : (n var : ℕ) (xs : List OrdInt) → IntsBelow (n + 1) xs → n < var → EachInt (OfVars (IsOther var)) xs
others n var xs below lt =
    (each_vars (IsOther var) (Sum xs (pos 0)) (λ v c e. far n var (Sum xs (pos 0)) (tt, below) lt (subst (λ (w : ℕ). Contains (core_vars (Sum xs (pos 0))) w) e c))).1

pub sum-far : (xs : List OrdInt) (last : OrdInt) (k : ℤ) (n var : ℕ) → xs ≡ before_last xs ++ last ∷ [] → has_var var last.steps ≡ false
    → IntsBelow (n + 1) (before_last xs) → n < var → Contains (core_vars (Sum xs k)) var → ⊥
sum-far xs last k n var e none below lt c =
    let each : EachInt (OfVars (IsOther var)) xs =
    subst (EachInt (OfVars (IsOther var))) (sym e) (EachInt-append (OfVars (IsOther var)) (before_last xs) (last ∷ []) (others n var (before_last xs) below lt) (no-step var last.steps none, tt)) in
    vars_each (IsOther var) (Sum xs k) (tt, each) var c refl

pub sum-none : (xs : List OrdInt) (k : ℤ) (var : ℕ) → xs ≡ [] → Contains (core_vars (Sum xs k)) var → ⊥
sum-none xs k var e c = none_there var (subst (λ (ys : List OrdInt). Contains (core_vars (Sum ys k)) var) e c)

pub words-far : (r : Atom) (strict : Bool) (front back : List OrdInt) (n var : ℕ) → nat_eq (var_of r) var ≡ false
    → IntsBelow (n + 1) front × IntsBelow (n + 1) back → n < var → Contains (core_vars (Lex r strict front back)) var → ⊥
words-far r strict front back n var none below lt c =
    vars_each (IsOther var) (Lex r strict front back) (
      (no-var var r (differs (var_of r) var none), tt),
      others n var (front ++ back) (IntsBelow-append (n + 1) front back below.0 below.1) lt,
    ) var c refl

-- ---- an edge that has no further variable as a view has it

-- that it is a variable of a sum
abbrev IsIn : List OrdInt → ℤ → ℕ → Type 0
IsIn xs k v = Contains (core_vars (Sum xs k)) v

pub own-last : (view : List Atom) (xs : List OrdInt) (last : OrdInt) (k : ℤ) → xs ≡ before_last xs ++ last ∷ [] → EachStep (HasOwn view) last.steps
    → (v : ℕ) → Contains (ints_vars (last_trimmed view xs)) v → Contains (core_vars (Sum xs k)) v
own-last view xs last k e own v c = vars_each (IsIn xs k) (Sum (last_trimmed view xs) k) (tt, whole) v c
  where
    all : EachInt (OfVars (IsIn xs k)) (before_last xs ++ last ∷ [])
    all = subst (EachInt (OfVars (IsIn xs k))) e (each_vars (IsIn xs k) (Sum xs k) (λ w d. d)).1

    resolved : EachStep (λ a. OfVars (IsIn xs k) (resolve view a)) last.steps
    resolved =
        both_steps (OfVars (IsIn xs k)) (HasOwn view) (λ a. OfVars (IsIn xs k) (resolve view a)) (λ a p q w d. p w (q.own w d)) last.steps
        (EachInt-right (OfVars (IsIn xs k)) (before_last xs) (last ∷ []) all).0 own

    trimmed : EachStep (OfVars (IsIn xs k)) (trimmed_int view last).steps
    trimmed = (each_trimmed (OfVars (IsIn xs k)) (λ w d. absurd (none_there w d)) (λ w d. absurd (none_there w d)) view (Ladder last) (tt, (resolved, tt))).1.0

    whole : EachInt (OfVars (IsIn xs k)) (last_trimmed view xs)
    whole =
        subst (EachInt (OfVars (IsIn xs k))) (sym (ap (last_trimmed view) e ∙ last_trimmed-behind view (before_last xs) last))
        (EachInt-append (OfVars (IsIn xs k)) (before_last xs) (trimmed_int view last ∷ []) (EachInt-left (OfVars (IsIn xs k)) (before_last xs) (last ∷ []) all) (trimmed, tt))

pub own-none : (view : List Atom) (xs : List OrdInt) (k : ℤ) → xs ≡ [] → (v : ℕ) → Contains (ints_vars (last_trimmed view xs)) v → Contains (core_vars (Sum xs k)) v
own-none view xs k e v c = absurd (none_there v (subst (λ (ys : List OrdInt). Contains (ints_vars (last_trimmed view ys)) v) e c))

pub own-other : (core : Core) → ((xs : List OrdInt) (k : ℤ) → core ≢ Sum xs k) → (view : List Atom) (v : ℕ)
    → Contains (listed_vars (settled_core view core)) v → Contains (core_vars core) v
own-other (Sum xs k) s view v c = absurd (s xs k refl)
own-other (Lex r strict front back) s view v c = Contains-append_right (atoms_vars (r ∷ [])) (ints_vars (front ++ back)) v c
own-other core s view v c = c
