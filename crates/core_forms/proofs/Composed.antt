-- Trimming twice is trimming once.
use Rattle.std.proofs.Common.{◌≡◌, ℕ, zero, suc, ◌+◌, ◌-◌, ◌<◌, Bool, true, false, not, cond, length, get_or, List, [], ◌∷◌, map, ℤ, pos, neg_ℤ, ◌+ℤ◌, refl, sym, ap, ◌∙◌, arith}
use Rattle.std.proofs.lemmas.Int.{ints}
use Rattle.order_ints.specs.declared.atom.Atom.{Atom}
use Rattle.order_ints.specs.declared.atom.Atom.TheVariants.{True, False, Of}
use Rattle.order_ints.specs.declared.order_int.OrdInt.{OrdInt}
use Rattle.order_ints.specs.Truth.{not_atom}
use Rattle.order_ints.specs.Place.{AtomBelow}
use Rattle.order_ints.specs.OrderChange.{shifted_of}
use Rattle.order_ints.specs.View.{label_of, resolve}
use Rattle.order_ints.specs.Label.{IsLabelled}
use Rattle.order_ints.proofs.TruthLaws.{resolve-nil}
use Rattle.order_ints.specs.Equality.{same_atom-true, same_atom-refl, is_true-True, is_false-False}
use Rattle.order_ints.specs.Same.{is_true, is_false, same_atom}
use Rattle.order_ints.proofs.Labels.{resolves_once, resolves_negation}
use Rattle.core_forms.specs.declared.form.Core.{Core}
use Rattle.core_forms.specs.declared.form.Core.TheVariants.{Ladder, Clause, Parity, Conj, Comp, LeqR, EqR, Sum3, Count, Sum, Max, AllDiff, Amo, Prod, DivMod, Lex}
use Rattle.core_forms.specs.Place.{CoreBelow}
use Rattle.core_forms.specs.Each.{EachOf, EachStep, EachInt, EachAtom}
use Rattle.core_forms.specs.Resolved.{map_steps, map_int, map_ints, map_core, resolved_core}
use Rattle.core_forms.specs.Trimmed.{merged_steps, raised_by, has_true, has_false, without_true, without_false, without_constants, constant_trues, turned, tidied_clause, tidied_members, tidied_int, tidied_ints, tidied_core, trimmed_core, IsTrimmed, composed_view}
use Rattle.core_forms.proofs.Tidied.{by_test}
use Rattle.core_forms.proofs.EachLaws.{EachInt-left, EachInt-right, each_below, each_every}

-- two maps after another are one
module _ (f g h : Atom → Atom) where
  abbrev pub Joins : Atom → Type 0
  Joins a = g (f a) ≡ h a

  of_joined : (ls : List Atom) → EachOf Joins ls → map g (map f ls) ≡ map h ls
  of_joined [] e = refl
  of_joined (a ∷ ls) e = let p = e.0 in let r = of_joined ls e.1 in cc

  step_joined : (steps : List (Atom × ℕ)) → EachStep Joins steps → map_steps g (map_steps f steps) ≡ map_steps h steps
  step_joined [] e = refl
  step_joined (s ∷ steps) e = ap (λ (a : Atom). (a, s.1) ∷ map_steps g (map_steps f steps)) e.0 ∙ ap (λ (xs : List (Atom × ℕ)). (h s.0, s.1) ∷ xs) (step_joined steps e.1)

  one_joined : (a : OrdInt) → EachStep Joins a.steps → map_int g (map_int f a) ≡ map_int h a
  one_joined a e = ap (λ (xs : List (Atom × ℕ)). record { base = a.base; steps = xs }) (step_joined a.steps e)

  int_joined : (xs : List OrdInt) → EachInt Joins xs → map_ints g (map_ints f xs) ≡ map_ints h xs
  int_joined [] e = refl
  int_joined (a ∷ xs) e = let p = one_joined a e.0 in let r = int_joined xs e.1 in cc

  pub core_joined : (core : Core) → EachAtom Joins core → map_core g (map_core f core) ≡ map_core h core
  core_joined (Ladder a) e = let p = one_joined a e.1.0 in cc
  core_joined (Clause ls) e = let p = of_joined ls e.0 in cc
  core_joined (Parity ls odd) e = let p = of_joined ls e.0 in cc
  core_joined (Conj r ls) e = let p = e.0.0 in let q = of_joined ls e.0.1 in cc
  core_joined (Comp a b hi lo) e = let p = e.0.0 in let q = e.0.1.0 in let s = e.0.1.1.0 in let t = e.0.1.1.1.0 in cc
  core_joined (LeqR r a b) e = let p = e.0.0 in let q = one_joined a e.1.0 in let s = one_joined b e.1.1.0 in cc
  core_joined (EqR r a b) e = let p = e.0.0 in let q = one_joined a e.1.0 in let s = one_joined b e.1.1.0 in cc
  core_joined (Sum3 a b c) e = let p = one_joined a e.1.0 in let q = one_joined b e.1.1.0 in let s = one_joined c e.1.1.1.0 in cc
  core_joined (Count ls c) e = let p = of_joined ls e.0 in let q = one_joined c e.1.0 in cc
  core_joined (Sum xs k) e = let p = int_joined xs e.1 in cc
  core_joined (Max xs c) e =
      let p = int_joined xs (EachInt-left Joins xs (c ∷ []) e.1) in let q = one_joined c (EachInt-right Joins xs (c ∷ []) e.1).0 in cc
  core_joined (AllDiff xs cs) e = let p = int_joined xs e.1 in let q = of_joined cs e.0 in cc
  core_joined (Amo ls) e = let p = of_joined ls e.0 in cc
  core_joined (Prod a b c) e = let p = one_joined a e.1.0 in let q = one_joined b e.1.1.0 in let s = one_joined c e.1.1.1.0 in cc
  core_joined (DivMod a b q r) e =
      let p = one_joined a e.1.0 in let s = one_joined b e.1.1.0 in let t = one_joined q e.1.1.1.0 in let u = one_joined r e.1.1.1.1.0 in cc
  core_joined (Lex r strict front back) e =
      let p = e.0.0 in let q = int_joined front (EachInt-left Joins front back e.1) in let s = int_joined back (EachInt-right Joins front back e.1) in cc

-- a map that leaves the constants, after tidying and tidied again, is as if it were not tidied before
module _ (f : Atom → Atom) (keeps_true : f True ≡ True) (keeps_false : f False ≡ False) where
  -- two neighbours of one atom are one step
  merged-joined : (b : Atom) (u : ℕ) (x : Atom) (w v : ℕ) (ys : List (Atom × ℕ)) → merged_steps b u ((x, w) ∷ (x, v) ∷ ys) ≡ merged_steps b u ((x, w + v) ∷ ys)
  merged-joined b u x w v ys =
      elim (same_atom b x) as (λ t. cond t (cond t (merged_steps b (u + w + v) ys) ((b, u + w) ∷ merged_steps x v ys)) ((b, u) ∷ merged_steps x w ((x, v) ∷ ys)) ≡ cond t (merged_steps b (u + (w + v)) ys) ((b, u) ∷ merged_steps x (w + v) ys)) [
        | true ↦ let e : u + w + v ≡ u + (w + v) = omega arith in ap (λ n. merged_steps b n ys) e
        | false ↦ ap (λ t. (b, u) ∷ cond t (merged_steps x (w + v) ys) ((x, w) ∷ merged_steps x v ys)) (same_atom-refl x)
      ]

  false_gone : (b : Atom) (u w : ℕ) → merged_steps b u [] ≡ merged_steps b u ((False, w) ∷ [])
  false_gone True u w = refl
  false_gone False u w = refl
  false_gone (Of l) u w = refl

  merged-again : (b : Atom) (u : ℕ) (a : Atom) (w : ℕ) (steps : List (Atom × ℕ)) → merged_steps b u (map_steps f (merged_steps a w steps)) ≡ merged_steps b u ((f a, w) ∷ map_steps f steps)
  merged-again b u a w [] =
      by_test (is_false a) [] ((a, w) ∷ []) (λ xs. merged_steps b u (map_steps f xs) ≡ merged_steps b u ((f a, w) ∷ []))
      (λ e. false_gone b u w ∙ ap (λ (x : Atom). merged_steps b u ((x, w) ∷ [])) (sym (ap f (is_false-False a e) ∙ keeps_false))) (λ _. refl)
  merged-again b u a w (s ∷ steps) =
      by_test (same_atom a s.0) (merged_steps a (w + s.1) steps) ((a, w) ∷ merged_steps s.0 s.1 steps) (λ xs. merged_steps b u (map_steps f xs) ≡ merged_steps b u ((f a, w) ∷ (f s.0, s.1) ∷ map_steps f steps))
      (λ e. merged-again b u a (w + s.1) steps ∙ sym (merged-joined b u (f a) w s.1 (map_steps f steps)) ∙ ap (λ (x : Atom). merged_steps b u ((f a, w) ∷ (x, s.1) ∷ map_steps f steps)) (ap f (same_atom-true a s.0 e)))
      (λ _. apart (same_atom b (f a)) (merged-again b (u + w) s.0 s.1 steps) (merged-again (f a) w s.0 s.1 steps))
    where
      apart : (t : Bool) {o o' n n' : List (Atom × ℕ)} → o ≡ o' → n ≡ n' → cond t o ((b, u) ∷ n) ≡ cond t o' ((b, u) ∷ n')
      apart true eo en = eo
      apart false eo en = ap (λ (xs : List (Atom × ℕ)). (b, u) ∷ xs) en

  raised-joined : (base : ℤ) (x : Atom) (w v : ℕ) (ys : List (Atom × ℕ)) → raised_by base ((x, w + v) ∷ ys) ≡ raised_by base ((x, w) ∷ (x, v) ∷ ys)
  raised-joined base x w v ys =
      elim (is_true x) as (λ t. cond t (raised_by (base +ℤ pos (w + v)) ys) (record { base = base; steps = merged_steps x (w + v) ys }) ≡ cond t (cond t (raised_by (base +ℤ pos w +ℤ pos v) ys) (record { base = base +ℤ pos w; steps = merged_steps x v ys })) (record { base = base; steps = merged_steps x w ((x, v) ∷ ys) })) [
        | true ↦ let e : base +ℤ pos (w + v) ≡ base +ℤ pos w +ℤ pos v = omega (arith, ints) in ap (λ n. raised_by n ys) e
        | false ↦ ap (λ t. record { base = base; steps = cond t (merged_steps x (w + v) ys) ((x, w) ∷ merged_steps x v ys) }) (sym (same_atom-refl x))
      ]

  raised-merged : (base : ℤ) (a : Atom) (w : ℕ) (steps : List (Atom × ℕ)) → raised_by base (map_steps f (merged_steps a w steps)) ≡ raised_by base ((f a, w) ∷ map_steps f steps)
  raised-merged base a w [] =
      by_test (is_false a) [] ((a, w) ∷ []) (λ xs. raised_by base (map_steps f xs) ≡ raised_by base ((f a, w) ∷ []))
      (λ e. ap (λ (x : Atom). raised_by base ((x, w) ∷ [])) (sym (ap f (is_false-False a e) ∙ keeps_false))) (λ _. refl)
  raised-merged base a w (s ∷ steps) =
      by_test (same_atom a s.0) (merged_steps a (w + s.1) steps) ((a, w) ∷ merged_steps s.0 s.1 steps) (λ xs. raised_by base (map_steps f xs) ≡ raised_by base ((f a, w) ∷ (f s.0, s.1) ∷ map_steps f steps))
      (λ e. raised-merged base a (w + s.1) steps ∙ raised-joined base (f a) w s.1 (map_steps f steps) ∙ ap (λ (x : Atom). raised_by base ((f a, w) ∷ (x, s.1) ∷ map_steps f steps)) (ap f (same_atom-true a s.0 e)))
      (λ _. apart (is_true (f a)) (raised-merged (base +ℤ pos w) s.0 s.1 steps) (merged-again (f a) w s.0 s.1 steps))
    where
      apart : (t : Bool) {o o' : OrdInt} {n n' : List (Atom × ℕ)} → o ≡ o' → n ≡ n' → cond t o (record { base = base; steps = n }) ≡ cond t o' (record { base = base; steps = n' })
      apart true eo en = eo
      apart false eo en = ap (λ (xs : List (Atom × ℕ)). record { base = base; steps = xs }) en

  raised-again : (base : ℤ) (steps : List (Atom × ℕ)) → tidied_int (map_int f (raised_by base steps)) ≡ raised_by base (map_steps f steps)
  raised-again base [] = refl
  raised-again base (s ∷ steps) =
      by_test (is_true s.0) (raised_by (base +ℤ pos s.1) steps) (record { base = base; steps = merged_steps s.0 s.1 steps }) (λ a. tidied_int (map_int f a) ≡ raised_by base ((f s.0, s.1) ∷ map_steps f steps))
      (λ e. raised-again (base +ℤ pos s.1) steps ∙ ap (λ (x : Atom). raised_by base ((x, s.1) ∷ map_steps f steps)) (sym (ap f (is_true-True s.0 e) ∙ keeps_true)))
      (λ _. raised-merged base s.0 s.1 steps)

  one_again : (a : OrdInt) → tidied_int (map_int f (tidied_int a)) ≡ tidied_int (map_int f a)
  one_again a = raised-again a.base a.steps

  int_again : (xs : List OrdInt) → tidied_ints (map_ints f (tidied_ints xs)) ≡ tidied_ints (map_ints f xs)
  int_again [] = refl
  int_again (a ∷ xs) = let e = one_again a in let r = int_again xs in cc

  -- a shift may come before or after
  raised-shifted : (base by : ℤ) (steps : List (Atom × ℕ)) → raised_by (base +ℤ by) steps ≡ shifted_of (raised_by base steps) by
  raised-shifted base by [] = refl
  raised-shifted base by (s ∷ steps) =
      elim (is_true s.0) as (λ t. cond t (raised_by (base +ℤ by +ℤ pos s.1) steps) (record { base = base +ℤ by; steps = merged_steps s.0 s.1 steps }) ≡ shifted_of (cond t (raised_by (base +ℤ pos s.1) steps) (record { base = base; steps = merged_steps s.0 s.1 steps })) by) [
        | true ↦ let e : base +ℤ by +ℤ pos s.1 ≡ base +ℤ pos s.1 +ℤ by = omega (arith, ints) in ap (λ n. raised_by n steps) e ∙ raised-shifted (base +ℤ pos s.1) by steps
        | false ↦ refl
      ]

  shifted_twice : (a : OrdInt) (j k : ℕ) → shifted_of (shifted_of a (neg_ℤ (pos j))) (neg_ℤ (pos k)) ≡ shifted_of a (neg_ℤ (pos (j + k)))
  shifted_twice a j k = let e : a.base +ℤ neg_ℤ (pos j) +ℤ neg_ℤ (pos k) ≡ a.base +ℤ neg_ℤ (pos (j + k)) = omega (arith, ints) in ap (λ (z : ℤ). record { base = z; steps = a.steps }) e

  shifted_again : (c : OrdInt) (by : ℤ) → tidied_int (map_int f (shifted_of (tidied_int c) by)) ≡ shifted_of (tidied_int (map_int f c)) by
  shifted_again c by = raised-shifted (tidied_int c).base by (map_steps f (tidied_int c).steps) ∙ ap (λ (a : OrdInt). shifted_of a by) (one_again c)

  -- the lists
  has_true-kept : (ls : List Atom) → has_true ls ≡ true → has_true (map f ls) ≡ true
  has_true-kept [] h = absurd (cc)
  has_true-kept (True ∷ ls) h = ap (λ (x : Atom). cond (is_true x) true (has_true (map f ls))) keeps_true
  has_true-kept (False ∷ ls) h = first (is_true (f False)) (has_true-kept ls h)
    where
      first : (t : Bool) → has_true (map f ls) ≡ true → cond t true (has_true (map f ls)) ≡ true
      first true e = refl
      first false e = e
  has_true-kept (Of l ∷ ls) h = first (is_true (f (Of l))) (has_true-kept ls h)
    where
      first : (t : Bool) → has_true (map f ls) ≡ true → cond t true (has_true (map f ls)) ≡ true
      first true e = refl
      first false e = e

  has_false-kept : (ls : List Atom) → has_false ls ≡ true → has_false (map f ls) ≡ true
  has_false-kept [] h = absurd (cc)
  has_false-kept (False ∷ ls) h = ap (λ (x : Atom). cond (is_false x) true (has_false (map f ls))) keeps_false
  has_false-kept (True ∷ ls) h = first (is_false (f True)) (has_false-kept ls h)
    where
      first : (t : Bool) → has_false (map f ls) ≡ true → cond t true (has_false (map f ls)) ≡ true
      first true e = refl
      first false e = e
  has_false-kept (Of l ∷ ls) h = first (is_false (f (Of l))) (has_false-kept ls h)
    where
      first : (t : Bool) → has_false (map f ls) ≡ true → cond t true (has_false (map f ls)) ≡ true
      first true e = refl
      first false e = e

  has_true-without : (ls : List Atom) → has_true (map f (without_false ls)) ≡ has_true (map f ls)
  has_true-without [] = refl
  has_true-without (True ∷ ls) = ap (λ b. cond (is_true (f True)) true b) (has_true-without ls)
  has_true-without (False ∷ ls) = has_true-without ls ∙ ap (λ (x : Atom). cond (is_true x) true (has_true (map f ls))) (sym keeps_false)
  has_true-without (Of l ∷ ls) = ap (λ b. cond (is_true (f (Of l))) true b) (has_true-without ls)

  has_false-without : (ls : List Atom) → has_false (map f (without_true ls)) ≡ has_false (map f ls)
  has_false-without [] = refl
  has_false-without (False ∷ ls) = ap (λ b. cond (is_false (f False)) true b) (has_false-without ls)
  has_false-without (True ∷ ls) = has_false-without ls ∙ ap (λ (x : Atom). cond (is_false x) true (has_false (map f ls))) (sym keeps_true)
  has_false-without (Of l ∷ ls) = ap (λ b. cond (is_false (f (Of l))) true b) (has_false-without ls)

  without_false-again : (ls : List Atom) → without_false (map f (without_false ls)) ≡ without_false (map f ls)
  without_false-again [] = refl
  without_false-again (True ∷ ls) = ap (λ (xs : List Atom). cond (is_false (f True)) xs (f True ∷ xs)) (without_false-again ls)
  without_false-again (False ∷ ls) = without_false-again ls ∙ ap (λ (x : Atom). cond (is_false x) (without_false (map f ls)) (x ∷ without_false (map f ls))) (sym keeps_false)
  without_false-again (Of l ∷ ls) = ap (λ (xs : List Atom). cond (is_false (f (Of l))) xs (f (Of l) ∷ xs)) (without_false-again ls)

  without_true-again : (ls : List Atom) → without_true (map f (without_true ls)) ≡ without_true (map f ls)
  without_true-again [] = refl
  without_true-again (False ∷ ls) = ap (λ (xs : List Atom). cond (is_true (f False)) xs (f False ∷ xs)) (without_true-again ls)
  without_true-again (True ∷ ls) = without_true-again ls ∙ ap (λ (x : Atom). cond (is_true x) (without_true (map f ls)) (x ∷ without_true (map f ls))) (sym keeps_true)
  without_true-again (Of l ∷ ls) = ap (λ (xs : List Atom). cond (is_true (f (Of l))) xs (f (Of l) ∷ xs)) (without_true-again ls)

  clause_again : (ls : List Atom) → tidied_clause (map f (tidied_clause ls)) ≡ tidied_clause (map f ls)
  clause_again ls =
      by_test (has_true ls) (True ∷ []) (without_false ls) (λ xs. tidied_clause (map f xs) ≡ tidied_clause (map f ls))
      (λ e. ap (λ (x : Atom). tidied_clause (x ∷ [])) keeps_true ∙ sym (ap (λ b. cond b (True ∷ []) (without_false (map f ls))) (has_true-kept ls e)))
      (λ _. let p = has_true-without ls in let q = without_false-again ls in cc)

  members_again : (ls : List Atom) → tidied_members (map f (tidied_members ls)) ≡ tidied_members (map f ls)
  members_again ls =
      by_test (has_false ls) (False ∷ []) (without_true ls) (λ xs. tidied_members (map f xs) ≡ tidied_members (map f ls))
      (λ e. ap (λ (x : Atom). tidied_members (x ∷ [])) keeps_false ∙ sym (ap (λ b. cond b (False ∷ []) (without_true (map f ls))) (has_false-kept ls e)))
      (λ _. let p = has_false-without ls in let q = without_true-again ls in cc)

  abbrev pub with_first : Atom → List Atom → List Atom
  with_first True ls = ls
  with_first False ls = ls
  with_first (Of l) ls = Of l ∷ ls

  without-first : (x : Atom) (ls : List Atom) → without_constants (x ∷ ls) ≡ with_first x (without_constants ls)
  without-first True ls = refl
  without-first False ls = refl
  without-first (Of l) ls = refl

  constants_again : (ls : List Atom) → without_constants (map f (without_constants ls)) ≡ without_constants (map f ls)
  constants_again [] = refl
  constants_again (True ∷ ls) = constants_again ls ∙ ap (λ (x : Atom). without_constants (x ∷ map f ls)) (sym keeps_true)
  constants_again (False ∷ ls) = constants_again ls ∙ ap (λ (x : Atom). without_constants (x ∷ map f ls)) (sym keeps_false)
  constants_again (Of l ∷ ls) =
      without-first (f (Of l)) (map f (without_constants ls)) ∙ ap (with_first (f (Of l))) (constants_again ls) ∙ sym (without-first (f (Of l)) (map f ls))

  trues_again : (ls : List Atom) → constant_trues ls + constant_trues (map f (without_constants ls)) ≡ constant_trues (map f ls)
  trues_again [] = refl
  trues_again (True ∷ ls) =
      let e : suc (constant_trues ls) + constant_trues (map f (without_constants ls)) ≡ suc (constant_trues (map f ls)) = omega (arith, trues_again ls) in
      e ∙ ap (λ (x : Atom). cond (is_true x) (suc (constant_trues (map f ls))) (constant_trues (map f ls))) (sym keeps_true)
  trues_again (False ∷ ls) = trues_again ls ∙ ap (λ (x : Atom). cond (is_true x) (suc (constant_trues (map f ls))) (constant_trues (map f ls))) (sym keeps_false)
  trues_again (Of l ∷ ls) = by (is_true (f (Of l))) (constant_trues (map f (without_constants ls))) (constant_trues (map f ls)) (trues_again ls)
    where
      by : (t : Bool) (m n : ℕ) → constant_trues ls + m ≡ n → constant_trues ls + cond t (suc m) m ≡ cond t (suc n) n
      by true m n e = omega (arith, e)
      by false m n e = e

  turned_twice : (k j : ℕ) (odd : Bool) → turned k (turned j odd) ≡ turned (j + k) odd
  turned_twice zero j odd = let e : j ≡ j + 0 = omega arith in ap (λ n. turned n odd) e
  turned_twice (suc k) j odd = let e : suc (j + k) ≡ j + suc k = omega arith in ap not (turned_twice k j odd) ∙ ap (λ n. turned n odd) e

  turned_again : (ls : List Atom) (odd : Bool) → turned (constant_trues (map f (without_constants ls))) (turned (constant_trues ls) odd) ≡ turned (constant_trues (map f ls)) odd
  turned_again ls odd = turned_twice (constant_trues (map f (without_constants ls))) (constant_trues ls) odd ∙ ap (λ n. turned n odd) (trues_again ls)

  lowered_again : (ls : List Atom) (c : OrdInt) → shifted_of (tidied_int (map_int f (shifted_of (tidied_int c) (neg_ℤ (pos (constant_trues ls)))))) (neg_ℤ (pos (constant_trues (map f (without_constants ls))))) ≡ shifted_of (tidied_int (map_int f c)) (neg_ℤ (pos (constant_trues (map f ls))))
  lowered_again ls c =
      ap (λ (a : OrdInt). shifted_of a (neg_ℤ (pos (constant_trues (map f (without_constants ls)))))) (shifted_again c (neg_ℤ (pos (constant_trues ls))))
      ∙ shifted_twice (tidied_int (map_int f c)) (constant_trues ls) (constant_trues (map f (without_constants ls)))
      ∙ ap (λ n. shifted_of (tidied_int (map_int f c)) (neg_ℤ (pos n))) (trues_again ls)

  pub tidied_again : (core : Core) → tidied_core (map_core f (tidied_core core)) ≡ tidied_core (map_core f core)
  tidied_again (Ladder a) = let e00 = one_again a in cc
  tidied_again (Clause ls) = let e00 = clause_again ls in cc
  tidied_again (Parity ls odd) = let e = constants_again ls in let q = turned_again ls odd in cc
  tidied_again (Conj r ls) = let e10 = members_again ls in cc
  tidied_again (Comp a b hi lo) = refl
  tidied_again (LeqR r a b) = let e10 = one_again a in let e20 = one_again b in cc
  tidied_again (EqR r a b) = let e10 = one_again a in let e20 = one_again b in cc
  tidied_again (Sum3 a b c) = let e00 = one_again a in let e10 = one_again b in let e20 = one_again c in cc
  tidied_again (Count ls c) = let e = constants_again ls in let q = lowered_again ls c in cc
  tidied_again (Sum xs k) = let e00 = int_again xs in cc
  tidied_again (Max xs c) = let e00 = int_again xs in let e10 = one_again c in cc
  tidied_again (AllDiff xs cs) = let e00 = int_again xs in cc
  tidied_again (Amo ls) = let e00 = without_false-again ls in cc
  tidied_again (Prod a b c) = let e00 = one_again a in let e10 = one_again b in let e20 = one_again c in cc
  tidied_again (DivMod a b q r) = let e00 = one_again a in let e10 = one_again b in let e20 = one_again q in let e30 = one_again r in cc
  tidied_again (Lex r strict front back) = let e10 = int_again front in let e20 = int_again back in cc

-- a label of a composed view
get_or-within : (f : Atom → Atom) (xs : List Atom) (i : ℕ) (d e : Atom) → i < length xs → f (get_or xs i d) ≡ get_or (map f xs) i e
get_or-within f [] i d e h = absurd (omega (arith, h))
get_or-within f (x ∷ xs) zero d e h = refl
get_or-within f (x ∷ xs) (suc i) d e h = get_or-within f xs i d e (omega (arith, h))

resolve-composed : (first next : List Atom) (a : Atom) → AtomBelow (length first + 1) a → resolve next (resolve first a) ≡ resolve (composed_view first next) a
resolve-composed first next True h = refl
resolve-composed first next False h = refl
resolve-composed first next (Of l) h = by l.positive
  where
    label : resolve next (label_of first l.var) ≡ label_of (composed_view first next) l.var
    label = get_or-within (resolve next) first (l.var - 1) _ _ (omega (arith, h.0, h.1))

    by : (p : Bool) → resolve next (cond p (label_of first l.var) (not_atom (label_of first l.var))) ≡ cond p (label_of (composed_view first next) l.var) (not_atom (label_of (composed_view first next) l.var))
    by true = label
    by false = resolves_negation next (label_of first l.var) ∙ ap not_atom label

-- trimming twice is trimming once by the composed view
pub trimmed_twice : (first next : List Atom) (core : Core) → CoreBelow (length first + 1) core → trimmed_core next (trimmed_core first core) ≡ trimmed_core (composed_view first next) core
trimmed_twice first next core below =
    tidied_again (resolve next) refl refl (resolved_core first core)
    ∙ ap tidied_core (core_joined (resolve first) (resolve next) (resolve (composed_view first next)) core
    (each_below (length first + 1) (Joins (resolve first) (resolve next) (resolve (composed_view first next))) (resolve-composed first next) core below))

-- trimming twice is trimming by the second view where that has for the atoms' labels what it has for the atoms
pub trimmed_joined : (first next : List Atom) (core : Core) → EachAtom (Joins (resolve first) (resolve next) (resolve next)) core → trimmed_core next (trimmed_core first core) ≡ trimmed_core next core
trimmed_joined first next core joins =
    tidied_again (resolve next) refl refl (resolved_core first core)
    ∙ ap tidied_core (core_joined (resolve first) (resolve next) (resolve next) core joins)

-- trimming is idempotent where labels label themselves
pub trimmed_again : (view : List Atom) (core : Core) → IsLabelled view → trimmed_core view (trimmed_core view core) ≡ trimmed_core view core
trimmed_again view core labelled =
    trimmed_joined view view core (each_every (Joins (resolve view) (resolve view) (resolve view)) (λ a. resolves_once view a labelled) core)

-- what trimming gives is trimmed
pub IsTrimmed-trimmed : (view : List Atom) (core : Core) → IsTrimmed (trimmed_core view core)
IsTrimmed-trimmed view core =
    tidied_again (resolve []) refl refl (resolved_core view core)
    ∙ ap tidied_core (core_joined (resolve view) (resolve []) (resolve view) core (each_every (Joins (resolve view) (resolve []) (resolve view)) (λ a. resolve-nil (resolve view a)) core))
