-- Trimming keeps a core well formed.
use Rattle.std.proofs.Common.{◌≡◌, ℕ, zero, suc, ◌+◌, ◌<◌, ◌≤◌, ◌^◌, max, ◌⊎◌, inl, inr, length, get_or, List, [], ◌∷◌, map, Contains, ℤ, pos, neg_ℤ, ◌+ℤ◌, ◌≤ℤ◌, refl, sym, ap, subst, ◌∙◌, arith}
use Rattle.std.specs.Prelude.{unsigned_abs}
use Rattle.std.proofs.lemmas.Int.{ints}
use Rattle.order_ints.specs.declared.atom.Atom.{Atom}
use Rattle.order_ints.specs.declared.atom.Atom.TheVariants.{True, False, Of}
use Rattle.order_ints.specs.declared.order_int.OrdInt.{OrdInt}
use Rattle.order_ints.specs.OrderRange.{weights, low_of, high_of, IsBounded, AreRising}
use Rattle.order_ints.specs.OrderLevels.{levels, values_of}
use Rattle.order_ints.specs.OrderChange.{shifted_of}
use Rattle.order_ints.specs.View.{resolve}
use Rattle.order_ints.specs.Same.{is_true, is_false, same_atom}
use Rattle.core_forms.specs.declared.form.Core.{Core}
use Rattle.core_forms.specs.declared.form.Core.TheVariants.{Ladder, Clause, Parity, Conj, Comp, LeqR, EqR, Sum3, Count, Sum, Max, AllDiff, Amo, Prod, DivMod, Lex}
use Rattle.core_forms.specs.WellFormed.{IsSound, AreSound, greatest_abs, abs_total, IsWellFormed}
use Rattle.core_forms.specs.Resolved.{map_steps, map_int, map_ints, map_core}
use Rattle.core_forms.specs.Trimmed.{merged_steps, raised_by, without_constants, constant_trues, tidied_int, tidied_ints, tidied_core, trimmed_core}
use Rattle.core_forms.proofs.Tidied.{by_test, weights-map_steps, low-raised_by, high-raised_by, IsBounded-trimmed}

-- a value is reached from a base along steps
abbrev pub IsReached : ℤ → ℤ → List (Atom × ℕ) → Type 0
IsReached v base [] = base ≡ v
IsReached v base (s ∷ steps) = (base ≡ v) ⊎ IsReached v (base +ℤ pos s.1) steps

Contains-further : (xs : List ℤ) (v y : ℤ) → Contains xs v → Contains (y ∷ xs) v
Contains-further xs v y c = (suc c.0, omega (arith, c.1), c.2)

Contains-first : (xs : List ℤ) (v y : ℤ) → y ≡ v → Contains (y ∷ xs) v
Contains-first xs v y e = (0, omega arith, e)

Contains-rest : (xs : List ℤ) (v y : ℤ) → Contains (y ∷ xs) v → (y ≡ v) ⊎ Contains xs v
Contains-rest xs v y c = at c.0 c.1 c.2
  where
    at : (k : ℕ) → k < length (y ∷ xs) → get_or (y ∷ xs) k v ≡ v → (y ≡ v) ⊎ Contains xs v
    at zero h e = inl e
    at (suc k) h e = inr (k, omega (arith, h), e)

pub IsReached-from : (v base : ℤ) (x : Atom) (steps : List (Atom × ℕ)) → Contains (map (λ level. level.0) (levels base x steps)) v → IsReached v base steps
IsReached-from v base x [] c = by (Contains-rest [] v base c)
  where
    by : ((base ≡ v) ⊎ Contains [] v) → base ≡ v
    by (inl e) = e
    by (inr d) = absurd (omega (arith, d.1))
IsReached-from v base x (s ∷ steps) c = by (IsReached-from v (base +ℤ pos s.1) s.0 steps) (Contains-rest _ v base c)
  where
    by : (Contains (map (λ level. level.0) (levels (base +ℤ pos s.1) s.0 steps)) v → IsReached v (base +ℤ pos s.1) steps) → ((base ≡ v) ⊎ Contains (map (λ level. level.0) (levels (base +ℤ pos s.1) s.0 steps)) v) → (base ≡ v) ⊎ IsReached v (base +ℤ pos s.1) steps
    by more (inl e) = inl e
    by more (inr d) = inr (more d)

IsReached-gives : (v base : ℤ) (x : Atom) (steps : List (Atom × ℕ)) → IsReached v base steps → Contains (map (λ level. level.0) (levels base x steps)) v
IsReached-gives v base x [] r = Contains-first [] v base r
IsReached-gives v base x (s ∷ steps) (inl e) = Contains-first _ v base e
IsReached-gives v base x (s ∷ steps) (inr r) = Contains-further _ v base (IsReached-gives v (base +ℤ pos s.1) s.0 steps r)

-- no new value is reached where atoms are replaced or neighbours joined
IsReached-map : (f : Atom → Atom) (v base : ℤ) (steps : List (Atom × ℕ)) → IsReached v base (map_steps f steps) → IsReached v base steps
IsReached-map f v base [] r = r
IsReached-map f v base (s ∷ steps) (inl e) = inl e
IsReached-map f v base (s ∷ steps) (inr r) = inr (IsReached-map f v (base +ℤ pos s.1) steps r)

IsReached-merged : (v base : ℤ) (a : Atom) (w : ℕ) (steps : List (Atom × ℕ)) → IsReached v base (merged_steps a w steps) → (base ≡ v) ⊎ IsReached v (base +ℤ pos w) steps
IsReached-merged v base a w [] r' =
    by_test (is_false a) [] ((a, w) ∷ []) (λ xs. IsReached v base xs → (base ≡ v) ⊎ (base +ℤ pos w ≡ v)) (λ _ r. inl r) (λ _ r. r) r'
IsReached-merged v base a w (s ∷ steps) r' =
    by_test (same_atom a s.0) (merged_steps a (w + s.1) steps) ((a, w) ∷ merged_steps s.0 s.1 steps) (λ xs. IsReached v base xs → (base ≡ v) ⊎ ((base +ℤ pos w ≡ v) ⊎ IsReached v (base +ℤ pos w +ℤ pos s.1) steps))
    (λ _ r. joined (IsReached-merged v base a (w + s.1) steps r)) (λ _ r. apart (IsReached-merged v (base +ℤ pos w) s.0 s.1 steps) r) r'
  where
    joined : ((base ≡ v) ⊎ IsReached v (base +ℤ pos (w + s.1)) steps) → (base ≡ v) ⊎ ((base +ℤ pos w ≡ v) ⊎ IsReached v (base +ℤ pos w +ℤ pos s.1) steps)
    joined (inl e) = inl e
    joined (inr r) = let e : base +ℤ pos (w + s.1) ≡ base +ℤ pos w +ℤ pos s.1 = omega (arith, ints) in inr (inr (subst (λ (z : ℤ). IsReached v z steps) e r))

    apart : (IsReached v (base +ℤ pos w) (merged_steps s.0 s.1 steps) → (base +ℤ pos w ≡ v) ⊎ IsReached v (base +ℤ pos w +ℤ pos s.1) steps) → ((base ≡ v) ⊎ IsReached v (base +ℤ pos w) (merged_steps s.0 s.1 steps)) → (base ≡ v) ⊎ ((base +ℤ pos w ≡ v) ⊎ IsReached v (base +ℤ pos w +ℤ pos s.1) steps)
    apart more (inl e) = inl e
    apart more (inr r) = inr (more r)

IsReached-raised : (v base : ℤ) (steps : List (Atom × ℕ)) → IsReached v (raised_by base steps).base (raised_by base steps).steps → IsReached v base steps
IsReached-raised v base [] r = r
IsReached-raised v base (s ∷ steps) r' =
    by_test (is_true s.0) (raised_by (base +ℤ pos s.1) steps) (record { base = base; steps = merged_steps s.0 s.1 steps }) (λ a. IsReached v a.base a.steps → (base ≡ v) ⊎ IsReached v (base +ℤ pos s.1) steps)
    (λ _ r. inr (IsReached-raised v (base +ℤ pos s.1) steps r)) (λ _ r. IsReached-merged v base s.0 s.1 steps r) r'

module _ (f : Atom → Atom) where
  -- an integer and lists of them, with other atoms and tidied
  abbrev pub one : OrdInt → OrdInt
  one a = tidied_int (map_int f a)

  abbrev pub all : List OrdInt → List OrdInt
  all xs = tidied_ints (map_ints f xs)

  -- a value of the trimmed integer is one of the integer's
  values-kept : (a : OrdInt) (v : ℤ) → Contains (values_of (one a)) v → Contains (values_of a) v
  values-kept a v c =
      IsReached-gives v a.base True a.steps (IsReached-map f v a.base a.steps (IsReached-raised v a.base (map_steps f a.steps) (IsReached-from v (one a).base True (one a).steps c)))

  rising-map : (steps : List (Atom × ℕ)) → AreRising steps → AreRising (map_steps f steps)
  rising-map [] h = tt
  rising-map (s ∷ steps) h = (h.0, rising-map steps h.1)

  rising-merged : (a : Atom) (w : ℕ) (steps : List (Atom × ℕ)) → 1 ≤ w → AreRising steps → AreRising (merged_steps a w steps)
  rising-merged a w [] p h = by_test (is_false a) [] ((a, w) ∷ []) AreRising (λ _. tt) (λ _. (p, tt))
  rising-merged a w (s ∷ steps) p h =
      by_test (same_atom a s.0) (merged_steps a (w + s.1) steps) ((a, w) ∷ merged_steps s.0 s.1 steps) AreRising
      (λ _. rising-merged a (w + s.1) steps (omega (arith, p)) h.1) (λ _. (p, rising-merged s.0 s.1 steps h.0 h.1))

  rising-raised : (base : ℤ) (steps : List (Atom × ℕ)) → AreRising steps → AreRising (raised_by base steps).steps
  rising-raised base [] h = tt
  rising-raised base (s ∷ steps) h =
      by_test (is_true s.0) (raised_by (base +ℤ pos s.1) steps) (record { base = base; steps = merged_steps s.0 s.1 steps }) (λ a. AreRising a.steps)
      (λ _. rising-raised (base +ℤ pos s.1) steps h.1) (λ _. rising-merged s.0 s.1 steps h.0 h.1)

  pub sound-kept : (a : OrdInt) → IsSound a → IsSound (one a)
  sound-kept a h = (IsBounded-trimmed f a h.0, rising-raised a.base (map_steps f a.steps) (rising-map a.steps h.1))

  pub all_sound-kept : (xs : List OrdInt) → AreSound xs → AreSound (all xs)
  all_sound-kept [] h = tt
  all_sound-kept (a ∷ xs) h = (sound-kept a h.0, all_sound-kept xs h.1)

  low-kept : (a : OrdInt) → low_of a ≤ℤ low_of (one a)
  low-kept a = low-raised_by a.base (map_steps f a.steps)

  high-kept : (a : OrdInt) → high_of (one a) ≤ℤ high_of a
  high-kept a = subst (λ n. high_of (one a) ≤ℤ (a.base +ℤ pos n)) (weights-map_steps f a.steps) (high-raised_by a.base (map_steps f a.steps))

  -- values between others are at most the greater of these in absolute value
  between-abs : (l h l' h' : ℤ) → l ≤ℤ l' → l' ≤ℤ h' → h' ≤ℤ h → max (unsigned_abs l') (unsigned_abs h') ≤ max (unsigned_abs l) (unsigned_abs h)
  between-abs l h l' h' p q r = omega (arith, ints, p, q, r)

  abs-kept : (a : OrdInt) → greatest_abs (one a) ≤ greatest_abs a
  abs-kept a =
      let up : low_of (one a) ≤ℤ high_of (one a) = omega (arith, ints) in
      between-abs (low_of a) (high_of a) (low_of (one a)) (high_of (one a)) (low-kept a) up (high-kept a)

  abs_total-kept : (xs : List OrdInt) → abs_total (all xs) ≤ abs_total xs
  abs_total-kept [] = omega arith
  abs_total-kept (a ∷ xs) = omega (arith, abs-kept a, abs_total-kept xs)

  length-atoms : (ls : List Atom) → length (map f ls) ≡ length ls
  length-atoms [] = refl
  length-atoms (a ∷ ls) = ap suc (length-atoms ls)

  length-all : (xs : List OrdInt) → length (all xs) ≡ length xs
  length-all [] = refl
  length-all (a ∷ xs) = ap suc (length-all xs)

  length-constants : (ls : List Atom) → length (without_constants ls) + constant_trues ls ≤ length ls
  length-constants [] = omega arith
  length-constants (True ∷ ls) = omega (arith, length-constants ls)
  length-constants (False ∷ ls) = omega (arith, length-constants ls)
  length-constants (Of l ∷ ls) = omega (arith, length-constants ls)

  -- a shift down raises the absolute values by at most so much
  shifted-abs : (l h : ℤ) (k : ℕ) → max (unsigned_abs (l +ℤ neg_ℤ (pos k))) (unsigned_abs (h +ℤ neg_ℤ (pos k))) ≤ max (unsigned_abs l) (unsigned_abs h) + k
  shifted-abs l h k = omega (arith, ints)

  lowered-abs : (a : OrdInt) (k : ℕ) → greatest_abs (shifted_of a (neg_ℤ (pos k))) ≤ greatest_abs a + k
  lowered-abs a k =
      let e : a.base +ℤ neg_ℤ (pos k) +ℤ pos (weights a.steps) ≡ a.base +ℤ pos (weights a.steps) +ℤ neg_ℤ (pos k) = omega (arith, ints) in
      subst (λ (z : ℤ). max (unsigned_abs (a.base +ℤ neg_ℤ (pos k))) (unsigned_abs z) ≤ greatest_abs a + k) (sym e) (shifted-abs a.base (high_of a) k)

  bounded-from : (a : OrdInt) → greatest_abs a < 2 ^ 100 → IsBounded a
  bounded-from a h = (omega (arith, h), omega (arith, h))

  lowered-kept : (ls : List Atom) (c : OrdInt) → IsSound c → length ls + greatest_abs c < 2 ^ 100 → IsSound (shifted_of (one c) (neg_ℤ (pos (constant_trues (map f ls))))) × (length (without_constants (map f ls)) + greatest_abs (shifted_of (one c) (neg_ℤ (pos (constant_trues (map f ls))))) < 2 ^ 100)
  lowered-kept ls c sound small =
      let k = constant_trues (map f ls) in
      let count = length-constants (map f ls) in
      let same : length (map f ls) ≡ length ls = length-atoms ls in
      let low = lowered-abs (one c) k in
      let kept = abs-kept c in
      let least : length (without_constants (map f ls)) + greatest_abs (shifted_of (one c) (neg_ℤ (pos k))) < 2 ^ 100 = omega (arith, count, same, low, kept, small) in
      ((bounded-from (shifted_of (one c) (neg_ℤ (pos k))) (omega (arith, least)), (sound-kept c sound).1), least)

  pub well_formed-kept : (core : Core) → IsWellFormed core → IsWellFormed (tidied_core (map_core f core))
  well_formed-kept (Ladder a) h = sound-kept a h
  well_formed-kept (Clause ls) h = tt
  well_formed-kept (Parity ls odd) h = tt
  well_formed-kept (Conj r ls) h = tt
  well_formed-kept (Comp a b hi lo) h = tt
  well_formed-kept (LeqR r a b) h = (sound-kept a h.0, sound-kept b h.1)
  well_formed-kept (EqR r a b) h = (sound-kept a h.0, sound-kept b h.1)
  well_formed-kept (Sum3 a b c) h =
      (sound-kept a h.0, sound-kept b h.1, sound-kept c h.2, (let p = abs-kept a in let q = abs-kept b in omega (arith, p, q, h.3)))
  well_formed-kept (Count ls c) h = lowered-kept ls c h.0 h.1
  well_formed-kept (Sum xs k) h = (all_sound-kept xs h.0, (let p = abs_total-kept xs in omega (arith, p, h.1)))
  well_formed-kept (Max xs c) h = (all_sound-kept xs h.0, sound-kept c h.1, (let p = length-all xs in omega (arith, p, h.2)))
  well_formed-kept (AllDiff xs cs) h = (all_sound-kept xs h.0, length-all xs ∙ h.1 ∙ sym (length-atoms cs))
  well_formed-kept (Amo ls) h = tt
  well_formed-kept (Prod a b c) h =
      (sound-kept a h.0, sound-kept b h.1, sound-kept c h.2, λ v w cv cw. h.3 v w (values-kept a v cv) (values-kept b w cw))
  well_formed-kept (DivMod a b q r) h = (
    sound-kept a h.0,
    sound-kept b h.1,
    sound-kept q h.2,
    sound-kept r h.3,
    (let p = low-kept a in omega (arith, ints, p, h.4)),
    (let p = low-kept b in omega (arith, ints, p, h.5)),
    λ v w t cv cw ct. h.6 v w t (values-kept b v cv) (values-kept q w cw) (values-kept r t ct),
  )
  well_formed-kept (Lex r strict front back) h =
      (all_sound-kept front h.0, all_sound-kept back h.1, length-all front ∙ h.2 ∙ sym (length-all back))

-- a trimmed core is well formed where the core is
pub IsWellFormed-trimmed : (view : List Atom) (core : Core) → IsWellFormed core → IsWellFormed (trimmed_core view core)
IsWellFormed-trimmed view core h = well_formed-kept (resolve view) core h
