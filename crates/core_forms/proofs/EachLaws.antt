-- What holds of each atom of a core: from a bound and back, along an implication, and through other atoms and tidying.
use Rattle.std.proofs.Common.{◌≡◌, ℕ, ◌+◌, List, [], ◌∷◌, ◌++◌, map, ℤ, pos, ◌+ℤ◌, refl, sym, ap, subst}
use Rattle.order_ints.specs.declared.atom.Atom.{Atom}
use Rattle.order_ints.specs.declared.atom.Atom.TheVariants.{True, False, Of}
use Rattle.order_ints.specs.declared.order_int.OrdInt.{OrdInt}
use Rattle.order_ints.specs.Place.{AtomBelow, AtomsBelow, StepsBelow}
use Rattle.order_ints.specs.Same.{is_true, is_false, same_atom}
use Rattle.core_forms.specs.declared.form.Core.{Core}
use Rattle.core_forms.specs.declared.form.Core.TheVariants.{Ladder, Clause, Parity, Conj, Comp, LeqR, EqR, Sum3, Count, Sum, Max, AllDiff, Amo, Prod, DivMod, Lex}
use Rattle.core_forms.specs.Contents.{ints_of, atoms_of}
use Rattle.core_forms.specs.Place.{IntsBelow, CoreBelow}
use Rattle.core_forms.specs.Each.{EachOf, EachStep, EachInt, EachAtom}
use Rattle.core_forms.specs.Resolved.{map_steps, map_int, map_ints, map_core}
use Rattle.core_forms.specs.Trimmed.{merged_steps, raised_by, has_true, has_false, without_true, without_false, without_constants, tidied_clause, tidied_members, tidied_int, tidied_ints, tidied_core}
use Rattle.core_forms.proofs.Tidied.{by_test}

-- what holds of each of the first integers and of the others holds of all, and back
module _ (P : Atom → Type 0) where
  pub EachInt-append : (xs ys : List OrdInt) → EachInt P xs → EachInt P ys → EachInt P (xs ++ ys)
  EachInt-append [] ys h k = k
  EachInt-append (a ∷ xs) ys h k = (h.0, EachInt-append xs ys h.1 k)

  pub EachInt-left : (xs ys : List OrdInt) → EachInt P (xs ++ ys) → EachInt P xs
  EachInt-left [] ys h = tt
  EachInt-left (a ∷ xs) ys h = (h.0, EachInt-left xs ys h.1)

  pub EachInt-right : (xs ys : List OrdInt) → EachInt P (xs ++ ys) → EachInt P ys
  EachInt-right [] ys h = h
  EachInt-right (a ∷ xs) ys h = EachInt-right xs ys h.1

map_ints-append : (f : Atom → Atom) (xs ys : List OrdInt) → map_ints f (xs ++ ys) ≡ map_ints f xs ++ map_ints f ys
map_ints-append f [] ys = refl
map_ints-append f (a ∷ xs) ys = ap (λ (zs : List OrdInt). map_int f a ∷ zs) (map_ints-append f xs ys)

tidied_ints-append : (xs ys : List OrdInt) → tidied_ints (xs ++ ys) ≡ tidied_ints xs ++ tidied_ints ys
tidied_ints-append [] ys = refl
tidied_ints-append (a ∷ xs) ys = ap (λ (zs : List OrdInt). tidied_int a ∷ zs) (tidied_ints-append xs ys)

-- the integers and the atoms of a core with other atoms are its own with other atoms
pub ints_of-map : (f : Atom → Atom) (core : Core) → ints_of (map_core f core) ≡ map_ints f (ints_of core)
ints_of-map f (Ladder a) = refl
ints_of-map f (Clause ls) = refl
ints_of-map f (Parity ls odd) = refl
ints_of-map f (Conj r ls) = refl
ints_of-map f (Comp a b hi lo) = refl
ints_of-map f (LeqR r a b) = refl
ints_of-map f (EqR r a b) = refl
ints_of-map f (Sum3 a b c) = refl
ints_of-map f (Count ls c) = refl
ints_of-map f (Sum xs k) = refl
ints_of-map f (Max xs c) = sym (map_ints-append f xs (c ∷ []))
ints_of-map f (AllDiff xs cs) = refl
ints_of-map f (Amo ls) = refl
ints_of-map f (Prod a b c) = refl
ints_of-map f (DivMod a b q r) = refl
ints_of-map f (Lex r strict front back) = sym (map_ints-append f front back)

pub atoms_of-map : (f : Atom → Atom) (core : Core) → atoms_of (map_core f core) ≡ map f (atoms_of core)
atoms_of-map f (Ladder a) = refl
atoms_of-map f (Clause ls) = refl
atoms_of-map f (Parity ls odd) = refl
atoms_of-map f (Conj r ls) = refl
atoms_of-map f (Comp a b hi lo) = refl
atoms_of-map f (LeqR r a b) = refl
atoms_of-map f (EqR r a b) = refl
atoms_of-map f (Sum3 a b c) = refl
atoms_of-map f (Count ls c) = refl
atoms_of-map f (Sum xs k) = refl
atoms_of-map f (Max xs c) = refl
atoms_of-map f (AllDiff xs cs) = refl
atoms_of-map f (Amo ls) = refl
atoms_of-map f (Prod a b c) = refl
atoms_of-map f (DivMod a b q r) = refl
atoms_of-map f (Lex r strict front back) = refl

-- what holds of each atom below n holds of each atom of a core below n
module _ (n : ℕ) (P : Atom → Type 0) (each : (a : Atom) → AtomBelow n a → P a) where
  of_below : (ls : List Atom) → AtomsBelow n ls → EachOf P ls
  of_below [] h = tt
  of_below (a ∷ ls) h = (each a h.0, of_below ls h.1)

  step_below : (steps : List (Atom × ℕ)) → StepsBelow n steps → EachStep P steps
  step_below [] h = tt
  step_below (s ∷ steps) h = (each s.0 h.0, step_below steps h.1)

  int_below : (xs : List OrdInt) → IntsBelow n xs → EachInt P xs
  int_below [] h = tt
  int_below (a ∷ xs) h = (step_below a.steps h.0, int_below xs h.1)

  pub each_below : (core : Core) → CoreBelow n core → EachAtom P core
  each_below core h = (of_below (atoms_of core) h.0, int_below (ints_of core) h.1)

-- and a core is below n where each of its atoms is
module _ (n : ℕ) where
  of_each : (ls : List Atom) → EachOf (AtomBelow n) ls → AtomsBelow n ls
  of_each [] h = tt
  of_each (a ∷ ls) h = (h.0, of_each ls h.1)

  step_each : (steps : List (Atom × ℕ)) → EachStep (AtomBelow n) steps → StepsBelow n steps
  step_each [] h = tt
  step_each (s ∷ steps) h = (h.0, step_each steps h.1)

  int_each : (xs : List OrdInt) → EachInt (AtomBelow n) xs → IntsBelow n xs
  int_each [] h = tt
  int_each (a ∷ xs) h = (step_each a.steps h.0, int_each xs h.1)

  pub below_each : (core : Core) → EachAtom (AtomBelow n) core → CoreBelow n core
  below_each core h = (of_each (atoms_of core) h.0, int_each (ints_of core) h.1)

-- what holds of every atom holds of each atom of a core
module _ (P : Atom → Type 0) (every : (a : Atom) → P a) where
  of_every : (ls : List Atom) → EachOf P ls
  of_every [] = tt
  of_every (a ∷ ls) = (every a, of_every ls)

  step_every : (steps : List (Atom × ℕ)) → EachStep P steps
  step_every [] = tt
  step_every (s ∷ steps) = (every s.0, step_every steps)

  int_every : (xs : List OrdInt) → EachInt P xs
  int_every [] = tt
  int_every (a ∷ xs) = (step_every a.steps, int_every xs)

  pub each_every : (core : Core) → EachAtom P core
  each_every core = (of_every (atoms_of core), int_every (ints_of core))

-- what holds of the atoms that take the place of a core's holds of each atom of what is made
module _ (P : Atom → Type 0) (f : Atom → Atom) where
  of_map : (ls : List Atom) → EachOf (λ a. P (f a)) ls → EachOf P (map f ls)
  of_map [] h = tt
  of_map (a ∷ ls) h = (h.0, of_map ls h.1)

  step_map : (steps : List (Atom × ℕ)) → EachStep (λ a. P (f a)) steps → EachStep P (map_steps f steps)
  step_map [] h = tt
  step_map (s ∷ steps) h = (h.0, step_map steps h.1)

  int_map : (xs : List OrdInt) → EachInt (λ a. P (f a)) xs → EachInt P (map_ints f xs)
  int_map [] h = tt
  int_map (a ∷ xs) h = (step_map a.steps h.0, int_map xs h.1)

  pub each_map : (core : Core) → EachAtom (λ a. P (f a)) core → EachAtom P (map_core f core)
  each_map core h = (
    subst (λ (ls : List Atom). EachOf P ls) (sym (atoms_of-map f core)) (of_map (atoms_of core) h.0),
    subst (λ (xs : List OrdInt). EachInt P xs) (sym (ints_of-map f core)) (int_map (ints_of core) h.1),
  )

-- what holds of True and False and of each atom of a core holds of each atom of the tidied core
module _ (P : Atom → Type 0) (at_true : P True) (at_false : P False) where
  step_merged : (a : Atom) (w : ℕ) (steps : List (Atom × ℕ)) → P a → EachStep P steps → EachStep P (merged_steps a w steps)
  step_merged a w [] p h = by_test (is_false a) [] ((a, w) ∷ []) (EachStep P) (λ _. tt) (λ _. (p, tt))
  step_merged a w (s ∷ steps) p h =
      by_test (same_atom a s.0) (merged_steps a (w + s.1) steps) ((a, w) ∷ merged_steps s.0 s.1 steps) (EachStep P)
      (λ _. step_merged a (w + s.1) steps p h.1) (λ _. (p, step_merged s.0 s.1 steps h.0 h.1))

  step_raised : (base : ℤ) (steps : List (Atom × ℕ)) → EachStep P steps → EachStep P (raised_by base steps).steps
  step_raised base [] h = tt
  step_raised base (s ∷ steps) h =
      by_test (is_true s.0) (raised_by (base +ℤ pos s.1) steps) (record { base = base; steps = merged_steps s.0 s.1 steps }) (λ a. EachStep P a.steps)
      (λ _. step_raised (base +ℤ pos s.1) steps h.1) (λ _. step_merged s.0 s.1 steps h.0 h.1)

  int_tidied : (xs : List OrdInt) → EachInt P xs → EachInt P (tidied_ints xs)
  int_tidied [] h = tt
  int_tidied (a ∷ xs) h = (step_raised a.base a.steps h.0, int_tidied xs h.1)

  of_true : (ls : List Atom) → EachOf P ls → EachOf P (without_true ls)
  of_true [] h = tt
  of_true (a ∷ ls) h = by_test (is_true a) (without_true ls) (a ∷ without_true ls) (EachOf P) (λ _. of_true ls h.1) (λ _. (h.0, of_true ls h.1))

  of_false : (ls : List Atom) → EachOf P ls → EachOf P (without_false ls)
  of_false [] h = tt
  of_false (a ∷ ls) h = by_test (is_false a) (without_false ls) (a ∷ without_false ls) (EachOf P) (λ _. of_false ls h.1) (λ _. (h.0, of_false ls h.1))

  of_constants : (ls : List Atom) → EachOf P ls → EachOf P (without_constants ls)
  of_constants [] h = tt
  of_constants (True ∷ ls) h = of_constants ls h.1
  of_constants (False ∷ ls) h = of_constants ls h.1
  of_constants (Of l ∷ ls) h = (h.0, of_constants ls h.1)

  of_clause : (ls : List Atom) → EachOf P ls → EachOf P (tidied_clause ls)
  of_clause ls h = by_test (has_true ls) (True ∷ []) (without_false ls) (EachOf P) (λ _. (at_true, tt)) (λ _. of_false ls h)

  of_members : (ls : List Atom) → EachOf P ls → EachOf P (tidied_members ls)
  of_members ls h = by_test (has_false ls) (False ∷ []) (without_true ls) (EachOf P) (λ _. (at_false, tt)) (λ _. of_true ls h)

  pub each_tidied : (core : Core) → EachAtom P core → EachAtom P (tidied_core core)
  each_tidied (Ladder a) h = (tt, int_tidied (a ∷ []) h.1)
  each_tidied (Clause ls) h = (of_clause ls h.0, tt)
  each_tidied (Parity ls odd) h = (of_constants ls h.0, tt)
  each_tidied (Conj r ls) h = ((h.0.0, of_members ls h.0.1), tt)
  each_tidied (Comp a b hi lo) h = (h.0, tt)
  each_tidied (LeqR r a b) h = (h.0, int_tidied (a ∷ b ∷ []) h.1)
  each_tidied (EqR r a b) h = (h.0, int_tidied (a ∷ b ∷ []) h.1)
  each_tidied (Sum3 a b c) h = (tt, int_tidied (a ∷ b ∷ c ∷ []) h.1)
  each_tidied (Count ls c) h = (of_constants ls h.0, int_tidied (c ∷ []) h.1)
  each_tidied (Sum xs k) h = (tt, int_tidied xs h.1)
  each_tidied (Max xs c) h =
      (tt, subst (λ (zs : List OrdInt). EachInt P zs) (tidied_ints-append xs (c ∷ [])) (int_tidied (xs ++ c ∷ []) h.1))
  each_tidied (AllDiff xs cs) h = (h.0, int_tidied xs h.1)
  each_tidied (Amo ls) h = (of_false ls h.0, tt)
  each_tidied (Prod a b c) h = (tt, int_tidied (a ∷ b ∷ c ∷ []) h.1)
  each_tidied (DivMod a b q r) h = (tt, int_tidied (a ∷ b ∷ q ∷ r ∷ []) h.1)
  each_tidied (Lex r strict front back) h =
      (h.0, subst (λ (zs : List OrdInt). EachInt P zs) (tidied_ints-append front back) (int_tidied (front ++ back) h.1))

-- what holds of each atom of a core, so does what follows from it
module _ (P Q : Atom → Type 0) (follows : (a : Atom) → P a → Q a) where
  of_weaker : (ls : List Atom) → EachOf P ls → EachOf Q ls
  of_weaker [] h = tt
  of_weaker (a ∷ ls) h = (follows a h.0, of_weaker ls h.1)

  step_weaker : (steps : List (Atom × ℕ)) → EachStep P steps → EachStep Q steps
  step_weaker [] h = tt
  step_weaker (s ∷ steps) h = (follows s.0 h.0, step_weaker steps h.1)

  int_weaker : (xs : List OrdInt) → EachInt P xs → EachInt Q xs
  int_weaker [] h = tt
  int_weaker (a ∷ xs) h = (step_weaker a.steps h.0, int_weaker xs h.1)

  pub each_weaker : (core : Core) → EachAtom P core → EachAtom Q core
  each_weaker core h = (of_weaker (atoms_of core) h.0, int_weaker (ints_of core) h.1)
