-- Variables put among ascending ones: how many there are, which ones, and that they ascend.
use Rattle.std.proofs.Common.{◌≡◌, ◌↔◌, ℕ, zero, suc, ◌+◌, ◌<◌, ◌≤◌, ◌⊎◌, inl, inr, Bool, true, false, not, cond, eqb, ltb, get_or, length, take, drop, List, [], ◌∷◌, ◌++◌, Contains, append_assoc, append-nil, refl, sym, ap, subst, ◌∙◌, arith}
use Rattle.std.specs.Prelude.{Option, None, Some, IfNone, IsTrue, nat_eq, nat_lt}
use Rattle.std.specs.Option.{is_some}
use Rattle.std.specs.List.{prefix_len}
use Rattle.std.specs.List.Sorted.{IsStrictlyIncreasing}
use Rattle.std.proofs.lemmas.Bool.{cases_order, eqb-true, eqb-false, eq-eqb, ne_eqb, ltb-true, ltb-false, lt-ltb, le-ltb, le-leb, lt-leb}
use Rattle.order_ints.proofs.Placing.{Stand, as_one, in_front, behind, PutBy, here, before, after, put_by}
use Rattle.order_ints.specs.declared.atom.Atom.{Atom}
use Rattle.order_ints.specs.declared.order_int.OrdInt.{OrdInt}
use Rattle.core_forms.specs.declared.form.Core.{Core}
use Rattle.core_forms.specs.Variables.{atom_vars, atoms_vars, int_vars, ints_vars, core_vars}
use Rattle.core_forms.specs.OwnVars.{with_var, with_vars, own_vars, if_few}

-- there are no fewer with one more
pub with_var-longer : (v : ℕ) (vars : List ℕ) → length vars ≤ length (with_var v vars)
with_var-longer v [] = omega arith
with_var-longer v (w ∷ vars) = by (eqb v w) (ltb v w) (with_var-longer v vars)
  where
    by : (b c : Bool) → length vars ≤ length (with_var v vars) → length (w ∷ vars) ≤ length (cond b (w ∷ vars) (cond c (v ∷ w ∷ vars) (w ∷ with_var v vars)))
    by true c h = omega arith
    by false true h = omega arith
    by false false h = omega arith

-- where a variable is put
abbrev SameVar : ℕ → ℕ → Type 0
SameVar v w = v ≡ w

abbrev LesserVar : ℕ → ℕ → Type 0
LesserVar v w = v < w

abbrev PutVar : ℕ → ℕ → List ℕ → Type 0
PutVar v w vars = PutBy nat_eq nat_lt SameVar LesserVar v w vars

put_var : (v w : ℕ) (vars : List ℕ) → PutVar v w vars
put_var v w vars = put_by nat_eq nat_lt SameVar LesserVar v w vars (by (cases_order v w))
  where
    by : ((v ≡ w) ⊎ ((v < w) ⊎ (w < v))) → Stand nat_eq nat_lt SameVar LesserVar v w
    by (inl e) = as_one e (eq-eqb v w e)
    by (inr (inl h)) = in_front h (ne_eqb v w (λ e. omega (arith, e, h))) (lt-ltb v w h)
    by (inr (inr h)) = behind h (ne_eqb v w (λ e. omega (arith, e, h))) (le-ltb v w (omega (arith, h)))

-- how many of the first ones are below a variable
abbrev pub below : ℕ → List ℕ → ℕ
below v vars = prefix_len (λ w. nat_lt w v) vars

one_more : (v : ℕ) (vars : List ℕ) → 1 + below v vars ≡ suc (below v vars)
one_more v vars = omega arith

-- it passes the one that is below it
passes : (v w : ℕ) (vars : List ℕ) → w < v → with_var v (w ∷ vars) ≡ w ∷ with_var v vars
passes v w vars h = by (put_var v w vars)
  where
    by : PutVar v w vars → with_var v (w ∷ vars) ≡ w ∷ with_var v vars
    by (here e p) = absurd (omega (arith, e, h))
    by (before l p) = absurd (omega (arith, l, h))
    by (after l p) = p

-- where the first one that is not below a variable is that variable, all stays
pub with_var-there : (v : ℕ) (vars : List ℕ) → below v vars < length vars → get_or vars (below v vars) 0 ≡ v → with_var v vars ≡ vars
with_var-there v [] h e = absurd (omega (arith, h))
with_var-there v (w ∷ vars) h e = by (ltb w v) refl h e (with_var-there v vars)
  where
    by : (b : Bool) → ltb w v ≡ b → cond b (1 + below v vars) 0 < suc (length vars) → get_or (w ∷ vars) (cond b (1 + below v vars) 0) 0 ≡ v
        → (below v vars < length vars → get_or vars (below v vars) 0 ≡ v → with_var v vars ≡ vars) → with_var v (w ∷ vars) ≡ w ∷ vars
    by true t h e r = passes v w vars (ltb-true w v t) ∙ ap (λ xs. w ∷ xs) (r (omega (arith, h)) (subst (λ (i : ℕ). get_or (w ∷ vars) i 0 ≡ v) (one_more v vars) e))
    by false t h e r = at (put_var v w vars)
      where
        at : PutVar v w vars → with_var v (w ∷ vars) ≡ w ∷ vars
        at (here f p) = p
        at (before l p) = absurd (omega (arith, l, e))
        at (after l p) = absurd (omega (arith, l, e))

-- and else it goes behind those that are below it
pub with_var-between : (v : ℕ) (vars : List ℕ) → (below v vars < length vars → get_or vars (below v vars) 0 ≡ v → ⊥)
    → take (below v vars) vars ++ v ∷ drop (below v vars) vars ≡ with_var v vars
with_var-between v [] n = refl
with_var-between v (w ∷ vars) n = by (ltb w v) refl n (with_var-between v vars)
  where
    by : (b : Bool) → ltb w v ≡ b → (cond b (1 + below v vars) 0 < suc (length vars) → get_or (w ∷ vars) (cond b (1 + below v vars) 0) 0 ≡ v → ⊥)
        → ((below v vars < length vars → get_or vars (below v vars) 0 ≡ v → ⊥) → take (below v vars) vars ++ v ∷ drop (below v vars) vars ≡ with_var v vars)
        → take (cond b (1 + below v vars) 0) (w ∷ vars) ++ v ∷ drop (cond b (1 + below v vars) 0) (w ∷ vars) ≡ with_var v (w ∷ vars)
    by true t n r =
        let behind : (below v vars < length vars → get_or vars (below v vars) 0 ≡ v → ⊥) = λ h e. n (omega (arith, h)) (subst (λ (i : ℕ). get_or (w ∷ vars) i 0 ≡ v) (sym (one_more v vars)) e) in
        ap (λ i. take i (w ∷ vars) ++ v ∷ drop i (w ∷ vars)) (one_more v vars) ∙ ap (λ xs. w ∷ xs) (r behind) ∙ sym (passes v w vars (ltb-true w v t))
    by false t n r = at (put_var v w vars)
      where
        at : PutVar v w vars → v ∷ w ∷ vars ≡ with_var v (w ∷ vars)
        at (here f p) = absurd (n (omega arith) (sym f))
        at (before l p) = sym p
        at (after l p) = absurd (omega (arith, l, ltb-false w v t))

pub with_vars-longer : (more vars : List ℕ) → length vars ≤ length (with_vars more vars)
with_vars-longer [] vars = omega arith
with_vars-longer (v ∷ more) vars = omega (arith, with_var-longer v vars, with_vars-longer more (with_var v vars))

-- those of two lists are put one after the other
pub with_vars-append : (xs ys vars : List ℕ) → with_vars (xs ++ ys) vars ≡ with_vars ys (with_vars xs vars)
with_vars-append [] ys vars = refl
with_vars-append (v ∷ xs) ys vars = with_vars-append xs ys (with_var v vars)

-- with the first ones put, the others are left to put
pub others-left : (xs ys vars new whole : List ℕ) → with_vars (xs ++ ys) vars ≡ whole → new ≡ with_vars xs vars → with_vars ys new ≡ whole
others-left xs ys vars new whole e is = ap (with_vars ys) is ∙ sym (with_vars-append xs ys vars) ∙ e

-- where the first ones are too many, all are
pub too-many : (xs ys vars whole : List ℕ) → with_vars (xs ++ ys) vars ≡ whole → 8 < length (with_vars xs vars) → 8 < length whole
too-many xs ys vars whole e h =
    let same : with_vars ys (with_vars xs vars) ≡ whole = sym (with_vars-append xs ys vars) ∙ e in
    omega (arith, with_vars-longer ys (with_vars xs vars), ap length same)

pub few-none : (vars : List ℕ) → 8 < length vars → if_few vars ≡ None
few-none vars h = ap (λ t. cond t (Some vars) None) (lt-leb (length vars) 8 h)

pub few-some : (vars : List ℕ) → length vars ≤ 8 → if_few vars ≡ Some vars
few-some vars h = ap (λ t. cond t (Some vars) None) (le-leb (length vars) 8 h)

-- what holds anyway holds where there is nothing
pub where-none : {X P : Type 0} (o : Option X) → P → IfNone o P
where-none None p = p
where-none (Some x) p = tt

-- where there is nothing, what holds there
pub what-none : {X P : Type 0} (o : Option X) (none : Bool) → is_some o ≡ not none → IsTrue none → IfNone o P → P
what-none None none is h p = p
what-none (Some x) true is h p = absurd (cc)
what-none (Some x) false is h p = absurd (cc)

-- the first member of a list, and a later one
first : (x : ℕ) (xs : List ℕ) → Contains (x ∷ xs) x
first x xs = (0, omega arith, refl)

later : (x z : ℕ) (xs : List ℕ) → Contains xs z → Contains (x ∷ xs) z
later x z xs c = (suc c.0, omega (arith, c.1), c.2)

which : (x z : ℕ) (xs : List ℕ) → Contains (x ∷ xs) z → (z ≡ x) ⊎ Contains xs z
which x z xs c = at c.0 c.1 c.2
  where
    at : (k : ℕ) → k < length (x ∷ xs) → get_or (x ∷ xs) k z ≡ z → (z ≡ x) ⊎ Contains xs z
    at zero h e = inl (sym e)
    at (suc k) h e = inr (k, omega arith, e)

-- among the variables with one more are that one and those before, and no others
pub with_var-members : (v : ℕ) (vars : List ℕ) (z : ℕ) → Contains (with_var v vars) z ↔ ((z ≡ v) ⊎ Contains vars z)
with_var-members v [] z = (which v z [], put)
  where
    put : ((z ≡ v) ⊎ Contains [] z) → Contains (v ∷ []) z
    put (inl e) = rw e (first v [])
    put (inr c) = later v z [] c
with_var-members v (w ∷ vars) z = by (eqb v w) refl (ltb v w) (with_var-members v vars z)
  where
    by : (b : Bool) → eqb v w ≡ b → (c : Bool) → (Contains (with_var v vars) z ↔ ((z ≡ v) ⊎ Contains vars z))
        → Contains (cond b (w ∷ vars) (cond c (v ∷ w ∷ vars) (w ∷ with_var v vars))) z ↔ ((z ≡ v) ⊎ Contains (w ∷ vars) z)
    by true t c k = (inr, put)
      where
        put : ((z ≡ v) ⊎ Contains (w ∷ vars) z) → Contains (w ∷ vars) z
        put (inl e) = rw (e ∙ eqb-true v w t) (first w vars)
        put (inr d) = d
    by false t true k = (which v z (w ∷ vars), put)
      where
        put : ((z ≡ v) ⊎ Contains (w ∷ vars) z) → Contains (v ∷ w ∷ vars) z
        put (inl e) = rw e (first v (w ∷ vars))
        put (inr d) = later v z (w ∷ vars) d
    by false t false k = (λ d. take (which w z (with_var v vars) d), put)
      where
        take : ((z ≡ w) ⊎ Contains (with_var v vars) z) → (z ≡ v) ⊎ Contains (w ∷ vars) z
        take (inl e) = inr (rw e (first w vars))
        take (inr d) = held (k.0 d)
          where
            held : ((z ≡ v) ⊎ Contains vars z) → (z ≡ v) ⊎ Contains (w ∷ vars) z
            held (inl e) = inl e
            held (inr d) = inr (later w z vars d)

        put : ((z ≡ v) ⊎ Contains (w ∷ vars) z) → Contains (w ∷ with_var v vars) z
        put (inl e) = later w z (with_var v vars) (k.1 (inl e))
        put (inr d) = held (which w z vars d)
          where
            held : ((z ≡ w) ⊎ Contains vars z) → Contains (w ∷ with_var v vars) z
            held (inl e) = rw e (first w (with_var v vars))
            held (inr d) = later w z (with_var v vars) (k.1 (inr d))

pub with_vars-members : (more vars : List ℕ) (z : ℕ) → Contains (with_vars more vars) z ↔ (Contains more z ⊎ Contains vars z)
with_vars-members [] vars z = (inr, held)
  where
    held : (Contains [] z ⊎ Contains vars z) → Contains vars z
    held (inl c) = absurd (omega (arith, c.1))
    held (inr c) = c
with_vars-members (v ∷ more) vars z = by (with_vars-members more (with_var v vars) z) (with_var-members v vars z)
  where
    by : (Contains (with_vars more (with_var v vars)) z ↔ (Contains more z ⊎ Contains (with_var v vars) z))
        → (Contains (with_var v vars) z ↔ ((z ≡ v) ⊎ Contains vars z))
        → Contains (with_vars more (with_var v vars)) z ↔ (Contains (v ∷ more) z ⊎ Contains vars z)
    by h k = (λ c. take (h.0 c), put)
      where
        last : ((z ≡ v) ⊎ Contains vars z) → Contains (v ∷ more) z ⊎ Contains vars z
        last (inl e) = inl (rw e (first v more))
        last (inr c) = inr c

        take : (Contains more z ⊎ Contains (with_var v vars) z) → Contains (v ∷ more) z ⊎ Contains vars z
        take (inl c) = inl (later v z more c)
        take (inr c) = last (k.0 c)

        begun : ((z ≡ v) ⊎ Contains more z) → Contains (with_vars more (with_var v vars)) z
        begun (inl e) = h.1 (inr (k.1 (inl e)))
        begun (inr c) = h.1 (inl c)

        put : (Contains (v ∷ more) z ⊎ Contains vars z) → Contains (with_vars more (with_var v vars)) z
        put (inl c) = begun (which v z more c)
        put (inr c) = h.1 (inr (k.1 (inr c)))

-- the own variables of a core are those that occur in it
pub own_vars-exact : (core : Core) (v : ℕ) → Contains (own_vars core) v ↔ Contains (core_vars core) v
own_vars-exact core v = (λ c. held ((with_vars-members (core_vars core) [] v).0 c), λ c. (with_vars-members (core_vars core) [] v).1 (inl c))
  where
    held : (Contains (core_vars core) v ⊎ Contains [] v) → Contains (core_vars core) v
    held (inl c) = c
    held (inr c) = absurd (omega (arith, c.1))

-- each number is above the one before it, and the first one above k
abbrev pub UpFrom : ℕ → List ℕ → Type 0
UpFrom k [] = Unit {0}
UpFrom k (x ∷ xs) = (k < x) × UpFrom x xs

abbrev pub Up : List ℕ → Type 0
Up [] = Unit {0}
Up (x ∷ xs) = UpFrom x xs

up-with_var : (k v : ℕ) (vars : List ℕ) → k < v → UpFrom k vars → UpFrom k (with_var v vars)
up-with_var k v [] h u = (h, tt)
up-with_var k v (w ∷ vars) h u = by (eqb v w) refl (ltb v w) refl (up-with_var w v vars)
  where
    by : (b : Bool) → eqb v w ≡ b → (c : Bool) → ltb v w ≡ c → (w < v → UpFrom w vars → UpFrom w (with_var v vars))
        → UpFrom k (cond b (w ∷ vars) (cond c (v ∷ w ∷ vars) (w ∷ with_var v vars)))
    by true t c s g = u
    by false t true s g = (h, (ltb-true v w s, u.1))
    by false t false s g = (u.0, g (omega (arith, ltb-false v w s, eqb-false v w t)) u.1)

up-first : (v : ℕ) (vars : List ℕ) → Up vars → Up (with_var v vars)
up-first v [] u = tt
up-first v (w ∷ vars) u = by (eqb v w) refl (ltb v w) refl
  where
    by : (b : Bool) → eqb v w ≡ b → (c : Bool) → ltb v w ≡ c → Up (cond b (w ∷ vars) (cond c (v ∷ w ∷ vars) (w ∷ with_var v vars)))
    by true t c s = u
    by false t true s = (ltb-true v w s, u)
    by false t false s = up-with_var w v vars (omega (arith, ltb-false v w s, eqb-false v w t)) u

up-with_vars : (more vars : List ℕ) → Up vars → Up (with_vars more vars)
up-with_vars [] vars u = u
up-with_vars (v ∷ more) vars u = up-with_vars more (with_var v vars) (up-first v vars u)

increasing : (x : ℕ) (xs : List ℕ) → UpFrom x xs → (k : ℕ) → k + 1 < length (x ∷ xs) → get_or (x ∷ xs) k 0 < get_or (x ∷ xs) (k + 1) 0
increasing x [] u k h = absurd (omega arith)
increasing x (y ∷ xs) u zero h = u.0
increasing x (y ∷ xs) u (suc k) h = let e : suc k + 1 ≡ suc (k + 1) = omega arith in rw e (increasing y xs u.1 k (omega arith))

pub own_vars-up : (core : Core) → Up (own_vars core)
own_vars-up core = up-with_vars (core_vars core) [] tt

pub own_vars-ascending : (core : Core) → IsStrictlyIncreasing (own_vars core)
own_vars-ascending core = from (own_vars core) (own_vars-up core)
  where
    from : (xs : List ℕ) → Up xs → IsStrictlyIncreasing xs
    from [] u k h = absurd (omega arith)
    from (x ∷ xs) u k h = increasing x xs u k h

above : (k : ℕ) (xs : List ℕ) (v : ℕ) → UpFrom k xs → Contains xs v → k < v
above k [] v u c = absurd (omega (arith, c.1))
above k (x ∷ xs) v u c = by (which x v xs c) (above x xs v u.1)
  where
    by : ((v ≡ x) ⊎ Contains xs v) → (Contains xs v → x < v) → k < v
    by (inl e) later_one = omega (arith, e, u.0)
    by (inr d) later_one = omega (arith, later_one d, u.0)

up-behind : (k : ℕ) (xs : List ℕ) → UpFrom k xs → Up xs
up-behind k [] u = tt
up-behind k (x ∷ xs) u = u.1

-- ascending variables that lie among others are no more than these
fits : (xs ys : List ℕ) → Up xs → Up ys → ((v : ℕ) → Contains xs v → Contains ys v) → length xs ≤ length ys
fits [] ys u w h = omega arith
fits (x ∷ xs) [] u w h = absurd (omega (arith, (h x (first x xs)).1))
fits (x ∷ xs) (y ∷ ys) u w h = omega (arith, fits xs ys (up-behind x xs u) (up-behind y ys w) (λ v c. left v c (which y v ys (h v (later x v xs c)))))
  where
    least : ((x ≡ y) ⊎ Contains ys x) → y ≤ x
    least (inl e) = omega (arith, e)
    least (inr d) = omega (arith, above y ys x w d)

    left : (v : ℕ) → Contains xs v → ((v ≡ y) ⊎ Contains ys v) → Contains ys v
    left v c (inl e) = absurd (omega (arith, e, above x xs v u c, least (which y x ys (h x (first x xs)))))
    left v c (inr d) = d

-- where the last ones alone are too many, all are
pub too-many-last : (xs ys whole : List ℕ) → xs ++ ys ≡ whole → 8 < length (with_vars ys []) → 8 < length (with_vars whole [])
too-many-last xs ys whole e h =
    let fewer = fits (with_vars ys []) (with_vars ys (with_vars xs [])) (up-with_vars ys [] tt) (up-with_vars ys (with_vars xs []) (up-with_vars xs [] tt)) among in
    let same : with_vars ys (with_vars xs []) ≡ with_vars whole [] = sym (with_vars-append xs ys []) ∙ ap (λ (vs : List ℕ). with_vars vs []) e in
    omega (arith, h, fewer, ap length same)
  where
    among : (v : ℕ) → Contains (with_vars ys []) v → Contains (with_vars ys (with_vars xs [])) v
    among v c = (with_vars-members ys (with_vars xs []) v).1 (held ((with_vars-members ys [] v).0 c))
      where
        held : (Contains ys v ⊎ Contains [] v) → Contains ys v ⊎ Contains (with_vars xs []) v
        held (inl d) = inl d
        held (inr d) = absurd (omega (arith, d.1))

-- the variables of lists one behind another
atoms-behind : (xs ys : List Atom) → atoms_vars (xs ++ ys) ≡ atoms_vars xs ++ atoms_vars ys
atoms-behind [] ys = refl
atoms-behind (a ∷ xs) ys = ap (λ (vs : List ℕ). atom_vars a ++ vs) (atoms-behind xs ys) ∙ sym (append_assoc (atom_vars a) (atoms_vars xs) (atoms_vars ys))

ints-behind : (xs ys : List OrdInt) → ints_vars (xs ++ ys) ≡ ints_vars xs ++ ints_vars ys
ints-behind [] ys = refl
ints-behind (a ∷ xs) ys = ap (λ (vs : List ℕ). int_vars a ++ vs) (ints-behind xs ys) ∙ sym (append_assoc (int_vars a) (ints_vars xs) (ints_vars ys))

pub many-atoms : (xs ys whole : List Atom) → xs ++ ys ≡ whole → 8 < length (with_vars (atoms_vars ys) []) → 8 < length (with_vars (atoms_vars whole) [])
many-atoms xs ys whole e h = too-many-last (atoms_vars xs) (atoms_vars ys) (atoms_vars whole) (sym (atoms-behind xs ys) ∙ ap atoms_vars e) h

pub many-ints : (xs ys whole : List OrdInt) → xs ++ ys ≡ whole → 8 < length (with_vars (ints_vars ys) []) → 8 < length (with_vars (ints_vars whole) [])
many-ints xs ys whole e h = too-many-last (ints_vars xs) (ints_vars ys) (ints_vars whole) (sym (ints-behind xs ys) ∙ ap ints_vars e) h

-- those of a core whose atoms stand in one list
pub many-listed : (xs : List Atom) → 8 < length (with_vars (atoms_vars xs) []) → 8 < length (with_vars (atoms_vars xs ++ []) [])
many-listed xs h = subst (λ (vs : List ℕ). 8 < length (with_vars vs [])) (sym (append-nil (atoms_vars xs))) h

-- those of an atom and of two lists of integers
pub words-vars : (a : Atom) (xs ys : List OrdInt) → atoms_vars (a ∷ []) ++ ints_vars (xs ++ ys) ≡ atom_vars a ++ (ints_vars xs ++ ints_vars ys)
words-vars a xs ys = ap (λ (vs : List ℕ). vs ++ ints_vars (xs ++ ys)) (append-nil (atom_vars a)) ∙ ap (λ (vs : List ℕ). atom_vars a ++ vs) (ints-behind xs ys)
