-- The variables of a run have a place where the core's variables have.
use Rattle.std.proofs.Common.{◌≡◌, ℕ, ◌==◌, Bool, true, false, length, List, [], ◌∷◌, ◌++◌, map, reverse, ℤ, pos, ◌+ℤ◌, ◌-ℤ◌, sym, subst}
use Rattle.std.specs.Prelude.{if◌then◌else◌}
use Rattle.std.specs.Ordering.{int_eq}
use Rattle.std.proofs.lemmas.Grind.{reverse_onto}
use Rattle.order_ints.specs.declared.atom.Atom.{Atom}
use Rattle.order_ints.specs.declared.atom.Atom.TheVariants.{True, False, Of}
use Rattle.order_ints.specs.declared.order_int.OrdInt.{OrdInt}
use Rattle.order_ints.specs.OrderRange.{low_of, high_of}
use Rattle.order_ints.specs.OrderLevels.{values_of, at_of}
use Rattle.order_ints.specs.Place.{AtomBelow}
use Rattle.order_ints.specs.Same.{is_true, same_atom}
use Rattle.order_ints.proofs.PlaceLaws.{AtomBelow-not_atom}
use Rattle.core_forms.specs.declared.equation.Equation.{Equation}
use Rattle.core_forms.specs.declared.equation.Rule.{Rule}
use Rattle.core_forms.specs.declared.equation.Rule.TheVariants.{Order, Form}
use Rattle.core_forms.specs.declared.form.Core.{Core}
use Rattle.core_forms.specs.declared.form.Core.TheVariants.{Ladder, Clause, Parity, Conj, Comp, LeqR, EqR, Sum3, Count, Sum, Max, AllDiff, Amo, Prod, DivMod, Lex}
use Rattle.core_forms.specs.Contents.{ints_of}
use Rattle.core_forms.specs.Place.{CoreBelow}
use Rattle.core_forms.specs.Each.{EachOf, EachStep, EachInt, EachAtom}
use Rattle.core_forms.proofs.EachLaws.{each_below, EachInt-left}
use Rattle.core_forms.proofs.Tidied.{by_test}
use Rattle.rule_base.specs.Pairs.{only_if, EachOfPairs, IsClosed}
use Rattle.rule_base.specs.Stated.{all_equal}
use Rattle.rule_base.specs.Constant.{is_constant}
use Rattle.rule_base.proofs.PairLaws.{EachOfPairs-append, EachOfPairs-only_if, EachOfPairs-map}
use Rattle.rule_base.proofs.StatedLaws.{each-at_of, each-all_equal}
use Rattle.equi_rules.proofs.EachRows.{each-equations as each-equi}
use Rattle.arith_rules.specs.Links.{linked, linked_back}
use Rattle.arith_rules.specs.SumRows.{lows_of, highs_of, raised_equations, sum3_ranges, sum3_constants}
use Rattle.arith_rules.specs.MaxRows.{member_ranges, top_equations, unreached_equations, leader_equations}
use Rattle.arith_rules.specs.ProductRows.{scaled_equations, prod_ranges, prod_equations}
use Rattle.arith_rules.proofs.EachRows.{each-equations as each-arith}
use Rattle.equation_runs.specs.Turns.{EquationsBelow}
use Rattle.equation_runs.proofs.DifferentBelow.{each-different, each-twins}
use Rattle.equation_runs.specs.FreeAtoms.{are_free, step_atoms, int_atoms}
use Rattle.equation_runs.specs.BoundRows.{literals, lower_atoms, upper_atoms, above_atoms, free_bound, ints_bound, members_bound, bound_pairs}
use Rattle.equation_runs.specs.RunRows.{equation_of, behind, chain_pairs, chains_of, prod_constants, link_pairs, run_of}

-- what holds of the constants, of negations, and of each atom of a core holds of each atom of its run
module _ (P : Atom → Type 0) (closed : IsClosed P) where
  steps-append : (xs ys : List (Atom × ℕ)) → EachStep P xs → EachStep P ys → EachStep P (xs ++ ys)
  steps-append [] ys first second = second
  steps-append (s ∷ xs) ys first second = (first.0, steps-append xs ys first.1 second)

  steps-reverse : (steps : List (Atom × ℕ)) → EachStep P steps → EachStep P (reverse steps)
  steps-reverse [] each = tt
  steps-reverse (s ∷ steps) each =
      subst (λ (xs : List (Atom × ℕ)). EachStep P xs) (sym (reverse_onto steps s []))
      (steps-append (reverse steps) (s ∷ []) (steps-reverse steps each.1) (each.0, tt))

  steps-atoms : (steps : List (Atom × ℕ)) → EachStep P steps → EachOf P (map (λ t. t.0) steps)
  steps-atoms [] each = tt
  steps-atoms (s ∷ steps) each = (each.0, steps-atoms steps each.1)

  each-behind : (constant : Atom) (steps : List (Atom × ℕ)) → P constant → EachStep P steps → EachOfPairs P (behind constant steps)
  each-behind constant [] one each = tt
  each-behind constant (s ∷ steps) one each =
      by_test (same_atom s.0 constant) (all_equal (map (λ t. t.0) steps) constant) (behind constant steps) (EachOfPairs P)
      (λ _. each-all_equal P closed (map (λ t. t.0) steps) constant (steps-atoms steps each.1) one)
      (λ _. each-behind constant steps one each.1)

  each-chain : (a : OrdInt) → EachStep P a.steps → EachOfPairs P (chain_pairs a)
  each-chain a each =
      EachOfPairs-append P (behind False a.steps) (behind True (reverse a.steps))
      (each-behind False a.steps closed.falsehood each)
      (each-behind True (reverse a.steps) closed.truth (steps-reverse a.steps each))

  each-chains : (xs : List OrdInt) → EachInt P xs → EachOfPairs P (chains_of xs)
  each-chains [] each = tt
  each-chains (a ∷ xs) each = EachOfPairs-append P (chain_pairs a) (chains_of xs) (each-chain a each.0) (each-chains xs each.1)

  last-steps : (xs : List OrdInt) (a : OrdInt) → EachInt P (xs ++ a ∷ []) → EachStep P a.steps
  last-steps [] a each = each.0
  last-steps (x ∷ xs) a each = last-steps xs a each.1

  -- the links of two integers
  module _ (a b : OrdInt) (ea : EachStep P a.steps) (eb : EachStep P b.steps) where
    each-linked : (link : ℤ → ℤ) → EachOfPairs P (linked link a b)
    each-linked link =
        EachOfPairs-map P (λ v. (at_of a v, at_of b (link v))) (values_of a) (λ v. (each-at_of P closed a v ea, each-at_of P closed b (link v) eb))

    each-linked_back : (link : ℤ → ℤ) → EachOfPairs P (linked_back link a b)
    each-linked_back link =
        EachOfPairs-map P (λ v. (at_of b (link v), at_of a v)) (values_of a) (λ v. (each-at_of P closed b (link v) eb, each-at_of P closed a v ea))

  each-raised : (k : ℤ) (b c : OrdInt) → EachStep P b.steps → EachStep P c.steps → EachOfPairs P (raised_equations k b c)
  each-raised k b c eb ec =
      EachOfPairs-append P (linked (λ v. v +ℤ k) b c) (linked_back (λ w. w -ℤ k) c b) (each-linked b c eb ec (λ v. v +ℤ k)) (each-linked_back c b ec eb (λ w. w -ℤ k))

  -- a part of what the rules list
  front-of : (ps qs : List (Atom × Atom)) → EachOfPairs P (ps ++ qs) → EachOfPairs P ps
  front-of [] qs each = tt
  front-of (p ∷ ps) qs each = (each.0, front-of ps qs each.1)

  back-of : (ps qs : List (Atom × Atom)) → EachOfPairs P (ps ++ qs) → EachOfPairs P qs
  back-of [] qs each = each
  back-of (p ∷ ps) qs each = back-of ps qs each.1

  each-product : (a b c : OrdInt) → EachOfPairs P (prod_equations a b c) → EachOfPairs P (prod_constants a b c)
  each-product a b c each =
      let first = only_if (is_constant a) (scaled_equations (low_of a) b c) in
      let second = only_if (is_constant b) (scaled_equations (low_of b) a c) in
      EachOfPairs-append P first second
      (back-of (prod_ranges a b c) first (front-of (prod_ranges a b c ++ first) second each)) (back-of (prod_ranges a b c ++ first) second each)

  each-links : (core : Core) → EachAtom P core → EachOfPairs P (link_pairs core)
  each-links (Ladder a) each = tt
  each-links (Clause ls) each = tt
  each-links (Parity ls odd) each = tt
  each-links (Conj r ls) each = tt
  each-links (Comp a b hi lo) each = tt
  each-links (LeqR r a b) each = tt
  each-links (EqR r a b) each =
      EachOfPairs-only_if P (is_true r) (raised_equations (pos 0) a b) (each-raised (pos 0) a b each.1.0 each.1.1.0)
  each-links (Sum3 a b c) each = back-of (sum3_ranges a b c) (sum3_constants a b c) (each-arith P closed (Sum3 a b c) each Form)
  each-links (Count ls c) each = tt
  each-links (Sum xs k) each = tt
  each-links (Max xs c) each =
      back-of (member_ranges c xs ++ top_equations c xs ++ unreached_equations c xs) (leader_equations c xs xs) (each-arith P closed (Max xs c) each Form)
  each-links (AllDiff xs cs) each = each-different P closed xs cs each.0 each.1
  each-links (Amo ls) each = each-equi P closed (Amo ls) each Form
  each-links (Prod a b c) each = each-product a b c (each-arith P closed (Prod a b c) each Form)
  each-links (DivMod a b q r) each = tt
  each-links (Lex r strict front back) each = tt

  -- what is told once those before it are made
  each-literals : (xs : List Atom) → EachOf P xs → EachOf P (literals xs)
  each-literals [] each = tt
  each-literals (True ∷ xs) each = each-literals xs each.1
  each-literals (False ∷ xs) each = each-literals xs each.1
  each-literals (Of l ∷ xs) each = (each.0, each-literals xs each.1)

  each-value : (value : OrdInt → ℤ) (xs : List OrdInt) → EachInt P xs → EachOf P (map (λ a. at_of a (value a)) xs)
  each-value value [] each = tt
  each-value value (a ∷ xs) each = (each-at_of P closed a (value a) each.0, each-value value xs each.1)

  each-free_bound : (xs : List OrdInt) (atoms : List Atom) (constant : Atom) → P constant → EachOf P atoms → EachOfPairs P (free_bound xs atoms constant)
  each-free_bound xs atoms constant one each = EachOfPairs-only_if P (are_free (int_atoms xs)) (all_equal atoms constant) (each-all_equal P closed atoms constant each one)

  each-members : (ls : List Atom) (c : OrdInt) (constant : Atom) → P constant → EachOf P ls → EachOfPairs P (members_bound ls c constant)
  each-members ls c constant one each = EachOfPairs-only_if P (are_free (ls ++ step_atoms c.steps)) (all_equal ls constant) (each-all_equal P closed ls constant each one)

  each-either : (t : Bool) (ps qs : List (Atom × Atom)) → EachOfPairs P ps → EachOfPairs P qs → EachOfPairs P (if t then ps else qs)
  each-either true ps qs first second = first
  each-either false ps qs first second = second

  each-ints_bound : (xs : List OrdInt) (atoms : List Atom) (constant : Atom) → P constant → EachOf P atoms → EachOfPairs P (ints_bound xs atoms constant)
  each-ints_bound xs atoms constant one each = each-either (length atoms == 0) [] (free_bound xs atoms constant) tt (each-free_bound xs atoms constant one each)

  each-bounds : (core : Core) → EachAtom P core → EachOfPairs P (bound_pairs core)
  each-bounds (Ladder a) each = tt
  each-bounds (Clause ls) each = tt
  each-bounds (Parity ls odd) each = tt
  each-bounds (Conj r ls) each =
      EachOfPairs-only_if P (is_true r) (only_if (are_free ls) (all_equal ls True))
      (EachOfPairs-only_if P (are_free ls) (all_equal ls True) (each-all_equal P closed ls True each.0.1 closed.truth))
  each-bounds (Comp a b hi lo) each = tt
  each-bounds (LeqR r a b) each = tt
  each-bounds (EqR r a b) each = tt
  each-bounds (Sum3 a b c) each = tt
  each-bounds (Count ls c) each =
      each-either (int_eq (low_of c) (pos (length ls))) (members_bound ls c True) (only_if (int_eq (high_of c) (pos 0)) (members_bound ls c False))
      (each-members ls c True closed.truth each.0)
      (EachOfPairs-only_if P (int_eq (high_of c) (pos 0)) (members_bound ls c False) (each-members ls c False closed.falsehood each.0))
  each-bounds (Sum xs k) each =
      let lower = lower_atoms k (highs_of xs) xs in
      let upper = upper_atoms k (lows_of xs) xs in
      each-either (length (literals lower) == 0) (ints_bound xs (literals upper) False) (free_bound xs (literals lower) True)
      (each-ints_bound xs (literals upper) False closed.falsehood (each-literals upper (each-value (λ a. k -ℤ (lows_of xs -ℤ low_of a) +ℤ pos 1) xs each.1)))
      (each-free_bound xs (literals lower) True closed.truth (each-literals lower (each-value (λ a. k -ℤ (highs_of xs -ℤ high_of a)) xs each.1)))
  each-bounds (Max xs c) each =
      each-ints_bound (c ∷ xs) (literals (above_atoms c xs)) False closed.falsehood
      (each-literals (above_atoms c xs) (each-value (λ a. high_of c +ℤ pos 1) xs (EachInt-left P xs (c ∷ []) each.1)))
  each-bounds (AllDiff xs cs) each = each-twins P closed xs cs each.1
  each-bounds (Amo ls) each = tt
  each-bounds (Prod a b c) each = tt
  each-bounds (DivMod a b q r) each = tt
  each-bounds (Lex r strict front back) each = tt

module _ (n : ℕ) where
  closed : IsClosed (AtomBelow n)
  closed = record { truth = tt; falsehood = tt; negation = AtomBelow-not_atom n }

  equations-append : (es fs : List Equation) → EquationsBelow n es → EquationsBelow n fs → EquationsBelow n (es ++ fs)
  equations-append [] fs first second = second
  equations-append (e ∷ es) fs first second = (first.0, equations-append es fs first.1 second)

  pairs-below : (rule : Rule) (ps : List (Atom × Atom)) → EachOfPairs (AtomBelow n) ps → EquationsBelow n (map (equation_of rule) ps)
  pairs-below rule [] each = tt
  pairs-below rule (p ∷ ps) each = (each.0, pairs-below rule ps each.1)

  pub run-below : (core : Core) → CoreBelow n core → EquationsBelow n (run_of core)
  run-below core below =
      let each : EachAtom (AtomBelow n) core = each_below n (AtomBelow n) (λ a h. h) core below in
      equations-append (map (equation_of Form) (bound_pairs core) ++ map (equation_of Order) (chains_of (ints_of core))) (map (equation_of Form) (link_pairs core))
      (equations-append (map (equation_of Form) (bound_pairs core)) (map (equation_of Order) (chains_of (ints_of core)))
      (pairs-below Form (bound_pairs core) (each-bounds (AtomBelow n) closed core each))
      (pairs-below Order (chains_of (ints_of core)) (each-chains (AtomBelow n) closed (ints_of core) each.1)))
      (pairs-below Form (link_pairs core) (each-links (AtomBelow n) closed core each))

  -- but for those along its integers
  pub form-below : (core : Core) → CoreBelow n core → EquationsBelow n (map (equation_of Form) (bound_pairs core) ++ map (equation_of Form) (link_pairs core))
  form-below core below =
      let each : EachAtom (AtomBelow n) core = each_below n (AtomBelow n) (λ a h. h) core below in
      equations-append (map (equation_of Form) (bound_pairs core)) (map (equation_of Form) (link_pairs core))
      (pairs-below Form (bound_pairs core) (each-bounds (AtomBelow n) closed core each))
      (pairs-below Form (link_pairs core) (each-links (AtomBelow n) closed core each))

  -- the equations along its last integer alone
  pub last-below : (core : Core) (xs : List OrdInt) (a : OrdInt) → ints_of core ≡ xs ++ a ∷ [] → CoreBelow n core → EquationsBelow n (map (equation_of Order) (chain_pairs a))
  last-below core xs a is below =
      let each : EachAtom (AtomBelow n) core = each_below n (AtomBelow n) (λ b h. h) core below in
      pairs-below Order (chain_pairs a)
      (each-chain (AtomBelow n) closed a (last-steps (AtomBelow n) closed xs a (subst (EachInt (AtomBelow n)) is each.1)))
