-- The parts of different members stand for them: their meaning, their limits and their costs.
use Rattle.std.proofs.Common.{◌≡◌, ℕ, ◌+◌, ◌*◌, ◌≤◌, zero, suc, Bool, true, false, not, ◌&&◌, ◌||◌, cond, List, [], ◌∷◌, ◌++◌, map, length, ◌⊎◌, inl, inr, ℤ, pos, ◌+ℤ◌, ◌≤ℤ◌, ◌<ℤ◌, refl, sym, ap, ◌∙◌, subst, arith}
use Rattle.std.specs.Prelude.{IsTrue, int_le, nat_le, ◌==◌}
use Rattle.std.specs.Ordering.{int_eq}
use Rattle.std.proofs.lemmas.Int.{ints}
use Rattle.std.proofs.lemmas.Bool.{eqb-true}
use Rattle.std.proofs.lemmas.Bool.Decides.{nat_tests}
use Rattle.std.proofs.lemmas.List.{length-append}
use Rattle.order_ints.specs.declared.atom.Atom.{Atom}
use Rattle.order_ints.specs.declared.atom.Atom.TheVariants.{True, False, Of}
use Rattle.order_ints.specs.declared.order_int.OrdInt.{OrdInt}
use Rattle.order_ints.specs.Truth.{Valuation, Agree, atom_truth, not_atom}
use Rattle.order_ints.specs.Place.{AtomBelow, AtomsBelow}
use Rattle.order_ints.specs.AtomClauses.{atom_clause_truth}
use Rattle.order_ints.specs.OrderRange.{IntBelow}
use Rattle.order_ints.specs.OrderValue.{value_of, in_order, IsOrdered}
use Rattle.order_ints.specs.OrderLevels.{values_of, at_of}
use Rattle.order_ints.specs.OrderMade.{AscendFrom, AreAscending}
use Rattle.order_ints.proofs.Comparisons.{int_le-true, int_le-false}
use Rattle.order_ints.proofs.Truths.{atom_truth-not_atom, atom_truth-agree, AtomBelow-not_atom}
use Rattle.order_ints.proofs.Gains.{value_of-agree}
use Rattle.order_ints.proofs.Reaching.{atom_truth-at_of, AtomBelow-at_of, Contains-value_of}
use Rattle.core_cost.specs.Arithmetic.{cost_of_all_diff}
use Rattle.core_cost.proofs.Bounds.{amo-bound}
use Rattle.core_forms.specs.declared.form.Core.{Core}
use Rattle.core_forms.specs.declared.form.Core.TheVariants.{Ladder, Clause, AllDiff, Amo}
use Rattle.core_forms.specs.Truths.{true_count, truths}
use Rattle.core_forms.specs.Values.{all_ordered, values, all_differ}
use Rattle.core_forms.specs.Meaning.{Meets}
use Rattle.core_forms.specs.Place.{IntsBelow, CoreBelow}
use Rattle.core_forms.specs.WellFormed.{AreSound, IsWellFormed}
use Rattle.core_forms.specs.Shapes.{numbers_of_steps}
use Rattle.core_forms.specs.Sums.{ascending}
use Rattle.core_forms.specs.Cost.{cost_of}
use Rattle.core_forms.specs.Cores.{cores_truth, MeetsAll, CoresBelow, AreWellFormed, costs_of}
use Rattle.core_forms.proofs.Mapped.{core_truth-agree}
use Rattle.core_forms.proofs.Places.{CoreBelow-more}
use Rattle.core_forms.proofs.CoreLists.{MeetsAll-first, MeetsAll-append, CoresBelow-append, AreWellFormed-append, costs_of-append}
use Rattle.core_forms.proofs.Ascending.{cases_int, Among, Among-from, Among-ascending, AreAscending-ascending}
use Rattle.part_base.specs.PartsFor.{DoFit, ArePartsFor}
use Rattle.part_base.specs.FreshTruths.{with_fresh}
use Rattle.part_base.proofs.FreshLaws.{with_fresh-Agree, truth-with_fresh}
use Rattle.part_base.proofs.PartLaws.{parts-made}
use Rattle.decompose.specs.DifferingParts.{all_values, marks_from, marked, mark_core, mark_cores, all_mark_cores, are_true, reached_cores, differing_cores, differing_parts}
use Rattle.decompose.proofs.Tests.{and_first, and_second, and_made, beq_tells, beq_made, int_eq_made, int_eq-false}
use Rattle.decompose.proofs.Marks.{by_equal, ascend-rest, count_at, HaveMarks, AllHaveMarks, count-marks, marked-below, length-values_of, length-marks}
use Rattle.decompose.proofs.Differ.{differ-tells, differ-made, AllTrue, each-counts}

-- ---- one mark

-- the atoms at v and above it tell whether the value is v
between : (v x : ℤ) (t : Bool) → (int_le v x && (not (int_le (v +ℤ pos 1) x) && (t && true))) ≡ (int_eq v x && t)
between v x t = by (cases_int v x)
  where
    end : (t : Bool) → (t && true) ≡ t
    end true = refl
    end false = refl

    put : (p q r : Bool) (p' q' r' : Bool) → p ≡ p' → q ≡ q' → r ≡ r' → (p' && (not q' && (t && true))) ≡ (r' && t) → (p && (not q && (t && true))) ≡ (r && t)
    put p q r p' q' r' e f g h = rw (e, f, g) h

    by : ((v ≡ x) ⊎ ((v <ℤ x) ⊎ (x <ℤ v))) → (int_le v x && (not (int_le (v +ℤ pos 1) x) && (t && true))) ≡ (int_eq v x && t)
    by (inl e) =
        put _ _ _ true false true (int_le-true v x (omega (arith, ints, e))) (int_le-false (v +ℤ pos 1) x (omega (arith, ints, e))) (int_eq_made v x e) (end t)
    by (inr (inl h)) =
        put _ _ _ true true false (int_le-true v x (omega (arith, ints, h))) (int_le-true (v +ℤ pos 1) x (omega (arith, ints, h))) (int_eq-false v x (λ e. omega (arith, ints, e, h))) refl
    by (inr (inr h)) =
        put _ _ _ false false false (int_le-false v x h) (int_le-false (v +ℤ pos 1) x (omega (arith, ints, h))) (int_eq-false v x (λ e. omega (arith, ints, e, h))) refl

module _ (τ : Valuation) where
  members-truth : (a : OrdInt) (c : Atom) (v : ℤ) → IsOrdered τ a
      → (atom_truth τ (at_of a v) && (atom_truth τ (not_atom (at_of a (v +ℤ pos 1))) && (atom_truth τ c && true))) ≡ (int_eq v (value_of τ a) && atom_truth τ c)
  members-truth a c v ordered =
      let low = atom_truth-at_of τ a v ordered in
      let high = atom_truth-not_atom τ (at_of a (v +ℤ pos 1)) ∙ ap not (atom_truth-at_of τ a (v +ℤ pos 1) ordered) in
      ap (λ t. t && (atom_truth τ (not_atom (at_of a (v +ℤ pos 1))) && (atom_truth τ c && true))) low
      ∙ ap (λ t. int_le v (value_of τ a) && (t && (atom_truth τ c && true))) high
      ∙ between v (value_of τ a) (atom_truth τ c)

  marks_tell : (var : ℕ) (a : OrdInt) (c : Atom) (vs : List ℤ) → IsOrdered τ a → MeetsAll τ (mark_cores var a c vs) → HaveMarks τ var a c vs
  marks_tell var a c [] ordered h = tt
  marks_tell var a c (v ∷ vs) ordered h =
      let s = (MeetsAll-first τ (mark_core var a c v) (mark_cores (var + 1) a c vs)).0 h in (
        beq_tells (τ var) (atom_truth τ (at_of a v) && (atom_truth τ (not_atom (at_of a (v +ℤ pos 1))) && (atom_truth τ c && true))) s.0 ∙ members-truth a c v ordered,
        marks_tell (var + 1) a c vs ordered s.1,
      )

  marks_made : (var : ℕ) (a : OrdInt) (c : Atom) (vs : List ℤ) → IsOrdered τ a → HaveMarks τ var a c vs → MeetsAll τ (mark_cores var a c vs)
  marks_made var a c [] ordered h = refl
  marks_made var a c (v ∷ vs) ordered h =
      (MeetsAll-first τ (mark_core var a c v) (mark_cores (var + 1) a c vs)).1 (
        beq_made (τ var) (atom_truth τ (at_of a v) && (atom_truth τ (not_atom (at_of a (v +ℤ pos 1))) && (atom_truth τ c && true))) (h.0 ∙ sym (members-truth a c v ordered)),
        marks_made (var + 1) a c vs ordered h.1,
      )

  all_marks_tell : (var : ℕ) (xs : List OrdInt) (cs : List Atom) → IsTrue (all_ordered τ xs) → MeetsAll τ (all_mark_cores var xs cs) → AllHaveMarks τ var xs cs
  all_marks_tell var [] cs ordered h = tt
  all_marks_tell var (a ∷ xs) [] ordered h = tt
  all_marks_tell var (a ∷ xs) (c ∷ cs) ordered h =
      let s = (MeetsAll-append τ (mark_cores var a c (values_of a)) (all_mark_cores (var + length (values_of a)) xs cs)).0 h in (
        marks_tell var a c (values_of a) (and_first (in_order τ a.steps) (all_ordered τ xs) ordered) s.0,
        all_marks_tell (var + length (values_of a)) xs cs (and_second (in_order τ a.steps) (all_ordered τ xs) ordered) s.1,
      )

  all_marks_made : (var : ℕ) (xs : List OrdInt) (cs : List Atom) → IsTrue (all_ordered τ xs) → AllHaveMarks τ var xs cs → MeetsAll τ (all_mark_cores var xs cs)
  all_marks_made var [] cs ordered h = refl
  all_marks_made var (a ∷ xs) [] ordered h = refl
  all_marks_made var (a ∷ xs) (c ∷ cs) ordered h =
      (MeetsAll-append τ (mark_cores var a c (values_of a)) (all_mark_cores (var + length (values_of a)) xs cs)).1 (
        marks_made var a c (values_of a) (and_first (in_order τ a.steps) (all_ordered τ xs) ordered) h.0,
        all_marks_made (var + length (values_of a)) xs cs (and_second (in_order τ a.steps) (all_ordered τ xs) ordered) h.1,
      )

  ladders-truth : (xs : List OrdInt) → cores_truth τ (map (λ a. Ladder a) xs) ≡ all_ordered τ xs
  ladders-truth [] = refl
  ladders-truth (a ∷ xs) = ap (λ t. in_order τ a.steps && t) (ladders-truth xs)

  -- one core for each value
  each_tells : (f : ℤ → Core) (vs : List ℤ) → MeetsAll τ (map f vs) → (w : ℤ) → Among w vs → Meets τ (f w)
  each_tells f [] h w m = absurd m
  each_tells f (v ∷ vs) h w (inl e) = subst (λ x. Meets τ (f x)) e ((MeetsAll-first τ (f v) (map f vs)).0 h).0
  each_tells f (v ∷ vs) h w (inr m) = each_tells f vs ((MeetsAll-first τ (f v) (map f vs)).0 h).1 w m

  each_made : (f : ℤ → Core) (vs : List ℤ) → ((w : ℤ) → Among w vs → Meets τ (f w)) → MeetsAll τ (map f vs)
  each_made f [] h = refl
  each_made f (v ∷ vs) h = (MeetsAll-first τ (f v) (map f vs)).1 (h v (inl refl), each_made f vs (λ w m. h w (inr m)))

  some-true : (ls : List Atom) → 1 ≤ true_count τ ls → atom_clause_truth τ ls ≡ true
  some-true [] h = absurd (omega arith)
  some-true (a ∷ ls) h =
      elim (atom_truth τ a) as (λ t. 1 ≤ cond t (suc (true_count τ ls)) (true_count τ ls) → (t || atom_clause_truth τ ls) ≡ true)
      [ true ↦ λ k. refl | false ↦ λ k. some-true ls k ] h

few-tells : (n : ℕ) → nat_le n 1 ≡ true → n ≤ 1
few-tells n h = grind (arith, nat_tests)

few-made : (n : ℕ) → n ≤ 1 → nat_le n 1 ≡ true
few-made n h = grind (arith, nat_tests)

-- ---- the values of all members

Among-left : (u : ℤ) (vs ws : List ℤ) → Among u vs → Among u (vs ++ ws)
Among-left u [] ws m = absurd m
Among-left u (v ∷ vs) ws (inl e) = inl e
Among-left u (v ∷ vs) ws (inr m) = inr (Among-left u vs ws m)

Among-right : (u : ℤ) (vs ws : List ℤ) → Among u ws → Among u (vs ++ ws)
Among-right u [] ws m = m
Among-right u (v ∷ vs) ws m = inr (Among-right u vs ws m)

values-listed : (τ : Valuation) (xs : List OrdInt) → IsTrue (all_ordered τ xs) → (u : ℤ) → Among u (values τ xs) → Among u (all_values xs)
values-listed τ [] ordered u m = absurd m
values-listed τ (a ∷ xs) ordered u (inl e) =
    let o = and_first (in_order τ a.steps) (all_ordered τ xs) ordered in
    Among-left u (values_of a) (all_values xs) (subst (λ x. Among x (values_of a)) e (Among-from (value_of τ a) (values_of a) (Contains-value_of τ a o)))
values-listed τ (a ∷ xs) ordered u (inr m) =
    Among-right u (values_of a) (all_values xs) (values-listed τ xs (and_second (in_order τ a.steps) (all_ordered τ xs) ordered) u m)

length-values : (τ : Valuation) (xs : List OrdInt) → length (values τ xs) ≡ length xs
length-values τ [] = refl
length-values τ (a ∷ xs) = ap suc (length-values τ xs)

length-truths : (τ : Valuation) (cs : List Atom) → length (truths τ cs) ≡ length cs
length-truths τ [] = refl
length-truths τ (c ∷ cs) = ap suc (length-truths τ cs)

trues : (τ : Valuation) (cs : List Atom) → are_true cs ≡ true → AllTrue (truths τ cs)
trues τ [] h = tt
trues τ (True ∷ cs) h = (refl, trues τ cs h)
trues τ (False ∷ cs) h = absurd (cc)
trues τ (Of l ∷ cs) h = absurd (cc)

-- ---- the core's meaning, by the parts

module _ (next : ℕ) (xs : List OrdInt) (cs : List Atom) where
  abbrev core : Core
  core = AllDiff xs cs

  abbrev different : List ℤ
  different = ascending (all_values xs)

  abbrev all_marks : List (ℤ × Atom)
  all_marks = marks_from next (all_values xs)

  abbrev ladders : List Core
  ladders = map (λ a. Ladder a) xs

  abbrev mark_list : List Core
  mark_list = all_mark_cores next xs cs

  abbrev amos : List Core
  amos = map (λ v. Amo (marked v all_marks)) different

  abbrev reached : List Core
  reached = reached_cores xs cs different all_marks

  differing_implies : IsWellFormed core → (τ : Valuation) → MeetsAll τ (differing_cores xs cs next different all_marks) → Meets τ core
  differing_implies well τ h =
      let s = (MeetsAll-append τ ladders (mark_list ++ (amos ++ reached))).0 h in
      let t = (MeetsAll-append τ mark_list (amos ++ reached)).0 s.1 in
      let u = (MeetsAll-append τ amos reached).0 t.1 in
      let ordered : IsTrue (all_ordered τ xs) = sym (ladders-truth τ xs) ∙ s.0 in
      let have = all_marks_tell τ next xs cs ordered t.0 in
      let few : (w : ℤ) → Among w (values τ xs) → count_at w (values τ xs) (truths τ cs) ≤ 1 =
      λ w m. subst (λ (n : ℕ). n ≤ 1) (count-marks τ w next xs cs well.0 ordered well.1 have)
      (few-tells _ (each_tells τ (λ v. Amo (marked v all_marks)) different u.0 w (Among-ascending w (all_values xs) (values-listed τ xs ordered w m)))) in
      and_made (all_ordered τ xs) (all_differ (values τ xs) (truths τ cs)) ordered (differ-made (values τ xs) (truths τ cs) few)

  -- each value is reached where it must be
  reached_made : IsWellFormed core → (τ : Valuation) → IsTrue (all_ordered τ xs) → all_differ (values τ xs) (truths τ cs) ≡ true → AllHaveMarks τ next xs cs
      → MeetsAll τ reached
  reached_made well τ ordered differ have =
      elim (are_true cs && (length different == length xs)) as (λ t. (are_true cs && (length different == length xs)) ≡ t → MeetsAll τ (cond t (map (λ v. Clause (marked v all_marks)) different) []))
      [ true ↦ λ e. all e | false ↦ λ e. refl ] refl
    where
      all : (are_true cs && (length different == length xs)) ≡ true → MeetsAll τ (map (λ v. Clause (marked v all_marks)) different)
      all e =
          let allowed = trues τ cs (and_first (are_true cs) (length different == length xs) e) in
          let many : length different ≡ length xs = eqb-true (length different) (length xs) (and_second (are_true cs) (length different == length xs) e) in
          each_made τ (λ v. Clause (marked v all_marks)) different (λ w m. some-true τ (marked w all_marks)
          (subst (λ (n : ℕ). 1 ≤ n) (sym (count-marks τ w next xs cs well.0 ordered well.1 have))
          (each-counts (values τ xs) different (truths τ cs) allowed (omega (arith, length-values τ xs, length-truths τ cs, well.1)) differ
          (λ u k. Among-ascending u (all_values xs) (values-listed τ xs ordered u k)) (omega (arith, length-values τ xs, many)) w m)))

  differing_made : IsWellFormed core → (τ : Valuation) → Meets τ core → AllHaveMarks τ next xs cs → MeetsAll τ (differing_cores xs cs next different all_marks)
  differing_made well τ met have =
      let ordered = and_first (all_ordered τ xs) (all_differ (values τ xs) (truths τ cs)) met in
      let differ = and_second (all_ordered τ xs) (all_differ (values τ xs) (truths τ cs)) met in
      let one : MeetsAll τ ladders = ladders-truth τ xs ∙ ordered in
      let two = all_marks_made τ next xs cs ordered have in
      let three : MeetsAll τ amos = each_made τ (λ v. Amo (marked v all_marks)) different (λ w m. few-made (true_count τ (marked w all_marks))
      (subst (λ (n : ℕ). n ≤ 1) (sym (count-marks τ w next xs cs well.0 ordered well.1 have)) (differ-tells w (values τ xs) (truths τ cs) differ))) in
      let four = reached_made well τ ordered differ have in
      (MeetsAll-append τ ladders (mark_list ++ (amos ++ reached))).1 (one, (MeetsAll-append τ mark_list (amos ++ reached)).1 (two, (MeetsAll-append τ amos reached).1 (three, four)))

-- ---- fresh truth values

-- the truth of each mark
abbrev mark_truths : Valuation → List OrdInt → List Atom → List Bool
mark_truths σ [] cs = []
mark_truths σ (a ∷ xs) [] = []
mark_truths σ (a ∷ xs) (c ∷ cs) = map (λ v. int_eq v (value_of σ a) && atom_truth σ c) (values_of a) ++ mark_truths σ xs cs

abbrev truth_at : List Bool → ℕ → Bool
truth_at [] i = false
truth_at (b ∷ bs) zero = b
truth_at (b ∷ bs) (suc i) = truth_at bs i

-- the variables from one on have the listed truth values
abbrev AreListed : Valuation → ℕ → List Bool → Type 0
AreListed τ var [] = Unit {0}
AreListed τ var (b ∷ bs) = (τ var ≡ b) × AreListed τ (var + 1) bs

listed-at : (τ : Valuation) (var : ℕ) (bs : List Bool) → ((i : ℕ) → τ (var + i) ≡ truth_at bs i) → AreListed τ var bs
listed-at τ var [] h = tt
listed-at τ var (b ∷ bs) h =
    let e : var + 0 ≡ var = omega arith in (
      subst (λ (n : ℕ). τ n ≡ b) e (h 0),
      listed-at τ (var + 1) bs (λ i. let f : var + suc i ≡ var + 1 + i = omega arith in subst (λ (n : ℕ). τ n ≡ truth_at bs i) f (h (suc i))),
    )

listed-marks : (σ τ : Valuation) (var : ℕ) (a : OrdInt) (c : Atom) (vs : List ℤ) (more : List Bool) → value_of σ a ≡ value_of τ a → atom_truth σ c ≡ atom_truth τ c
    → AreListed τ var (map (λ v. int_eq v (value_of σ a) && atom_truth σ c) vs ++ more) → HaveMarks τ var a c vs × AreListed τ (var + length vs) more
listed-marks σ τ var a c [] more e f h = (tt, (let g : var ≡ var + 0 = omega arith in subst (λ (n : ℕ). AreListed τ n more) g h))
listed-marks σ τ var a c (v ∷ vs) more e f h =
    let r = listed-marks σ τ (var + 1) a c vs more e f h.1 in
    let g : var + 1 + length vs ≡ var + suc (length vs) = omega arith in
    ((h.0 ∙ ap (λ x. int_eq v x && atom_truth σ c) e ∙ ap (λ t. int_eq v (value_of τ a) && t) f, r.0), subst (λ (n : ℕ). AreListed τ n more) g r.1)

listed-all : (n : ℕ) (σ τ : Valuation) (var : ℕ) (xs : List OrdInt) (cs : List Atom) → Agree n σ τ → IntsBelow n xs → AtomsBelow n cs
    → AreListed τ var (mark_truths σ xs cs) → AllHaveMarks τ var xs cs
listed-all n σ τ var [] cs same ints below h = tt
listed-all n σ τ var (a ∷ xs) [] same ints below h = tt
listed-all n σ τ var (a ∷ xs) (c ∷ cs) same ints below h =
    let r = listed-marks σ τ var a c (values_of a) (mark_truths σ xs cs) (value_of-agree n σ τ a same ints.0) (atom_truth-agree n σ τ c same below.0) h in
    (r.0, listed-all n σ τ (var + length (values_of a)) xs cs same ints.1 below.1 r.1)

differing_extends : (next : ℕ) (xs : List OrdInt) (cs : List Atom) → IsWellFormed (AllDiff xs cs) → CoreBelow next (AllDiff xs cs) → (σ : Valuation) → Meets σ (AllDiff xs cs)
    → (τ : Valuation) × Agree next σ τ × MeetsAll τ (differing_parts next xs cs).cores
differing_extends next xs cs well below σ met =
    let fresh = truth_at (mark_truths σ xs cs) in
    let τ : Valuation = with_fresh next σ fresh in
    let same = with_fresh-Agree next σ fresh in
    let have = listed-all next σ τ next xs cs same below.1 below.0 (listed-at τ next (mark_truths σ xs cs) (λ i. truth-with_fresh next σ fresh i)) in
    let here : Meets τ (AllDiff xs cs) = sym (core_truth-agree next σ τ (AllDiff xs cs) below same) ∙ met in
    (τ, same, differing_made next xs cs well τ here have)

-- ---- limits

module _ (n : ℕ) where
  ladders-formed : (xs : List OrdInt) → AreSound xs → AreWellFormed (map (λ a. Ladder a) xs)
  ladders-formed [] h = tt
  ladders-formed (a ∷ xs) h = (h.0, ladders-formed xs h.1)

  ladders-below : (xs : List OrdInt) → IntsBelow n xs → CoresBelow n (map (λ a. Ladder a) xs)
  ladders-below [] h = tt
  ladders-below (a ∷ xs) h = ((tt, (h.0, tt)), ladders-below xs h.1)

  marks-formed : (var : ℕ) (a : OrdInt) (c : Atom) (vs : List ℤ) → AreWellFormed (mark_cores var a c vs)
  marks-formed var a c [] = tt
  marks-formed var a c (v ∷ vs) = (tt, marks-formed (var + 1) a c vs)

  all_marks-formed : (var : ℕ) (xs : List OrdInt) (cs : List Atom) → AreWellFormed (all_mark_cores var xs cs)
  all_marks-formed var [] cs = tt
  all_marks-formed var (a ∷ xs) [] = tt
  all_marks-formed var (a ∷ xs) (c ∷ cs) =
      AreWellFormed-append (mark_cores var a c (values_of a)) (all_mark_cores (var + length (values_of a)) xs cs) (marks-formed var a c (values_of a)) (all_marks-formed (var + length (values_of a)) xs cs)

  marks-below : (var : ℕ) (a : OrdInt) (c : Atom) (vs : List ℤ) → 1 ≤ var → var + length vs ≤ n → IntBelow n a → AtomBelow n c → CoresBelow n (mark_cores var a c vs)
  marks-below var a c [] some few ints below = tt
  marks-below var a c (v ∷ vs) some few ints below = (
    (((some, omega arith), (AtomBelow-at_of n a v ints, (AtomBelow-not_atom n (at_of a (v +ℤ pos 1)) (AtomBelow-at_of n a (v +ℤ pos 1) ints), (below, tt)))), tt),
    marks-below (var + 1) a c vs (omega arith) (omega arith) ints below,
  )

  all_marks-below : (var : ℕ) (xs : List OrdInt) (cs : List Atom) → 1 ≤ var → var + length (all_values xs) ≤ n → IntsBelow n xs → AtomsBelow n cs → CoresBelow n (all_mark_cores var xs cs)
  all_marks-below var [] cs some few ints below = tt
  all_marks-below var (a ∷ xs) [] some few ints below = tt
  all_marks-below var (a ∷ xs) (c ∷ cs) some few ints below =
      let l = length-append (values_of a) (all_values xs) in
      CoresBelow-append n (mark_cores var a c (values_of a)) (all_mark_cores (var + length (values_of a)) xs cs)
      (marks-below var a c (values_of a) some (omega arith) ints.0 below.0) (all_marks-below (var + length (values_of a)) xs cs (omega arith) (omega arith) ints.1 below.1)

  each-formed : (f : ℤ → Core) → ((v : ℤ) → IsWellFormed (f v)) → (vs : List ℤ) → AreWellFormed (map f vs)
  each-formed f h [] = tt
  each-formed f h (v ∷ vs) = (h v, each-formed f h vs)

  each-below : (f : ℤ → Core) → ((v : ℤ) → CoreBelow n (f v)) → (vs : List ℤ) → CoresBelow n (map f vs)
  each-below f h [] = tt
  each-below f h (v ∷ vs) = (h v, each-below f h vs)

differing_fits : (next : ℕ) (xs : List OrdInt) (cs : List Atom) → 1 ≤ next → IsWellFormed (AllDiff xs cs) → CoreBelow next (AllDiff xs cs) → DoFit next (differing_parts next xs cs)
differing_fits next xs cs some well below =
    let n = next + length (all_values xs) in
    let vs = ascending (all_values xs) in
    let marks = marks_from next (all_values xs) in
    let up = CoreBelow-more next n (AllDiff xs cs) (omega arith) below in
    let place : (v : ℤ) → AtomsBelow n (marked v marks) = λ v. marked-below n v next (all_values xs) some (omega arith) in
    let ladders = map (λ a. Ladder a) xs in
    let mark_list = all_mark_cores next xs cs in
    let amos = map (λ v. Amo (marked v marks)) vs in
    let reached = reached_cores xs cs vs marks in
    record {
      formed = AreWellFormed-append ladders (mark_list ++ (amos ++ reached)) (ladders-formed n xs well.0)
          (AreWellFormed-append mark_list (amos ++ reached) (all_marks-formed n next xs cs)
          (AreWellFormed-append amos reached (each-formed n (λ v. Amo (marked v marks)) (λ v. tt) vs)
          (either AreWellFormed (are_true cs && (length vs == length xs)) (map (λ v. Clause (marked v marks)) vs) (each-formed n (λ v. Clause (marked v marks)) (λ v. tt) vs) tt)));
      below = CoresBelow-append n ladders (mark_list ++ (amos ++ reached)) (ladders-below n xs up.1)
          (CoresBelow-append n mark_list (amos ++ reached) (all_marks-below n next xs cs some (omega arith) up.1 up.0)
          (CoresBelow-append n amos reached (each-below n (λ v. Amo (marked v marks)) (λ v. (place v, tt)) vs)
          (either (CoresBelow n) (are_true cs && (length vs == length xs)) (map (λ v. Clause (marked v marks)) vs) (each-below n (λ v. Clause (marked v marks)) (λ v. (place v, tt)) vs) tt)));
    }
  where
    either : (P : List Core → Type 0) (t : Bool) (ds : List Core) → P ds → P [] → P (cond t ds [])
    either P true ds h k = h
    either P false ds h k = k

-- ---- costs

-- how often a number is listed, and the lengths of the lists of marks of listed values
abbrev times : ℤ → List ℤ → ℕ
times x [] = 0
times x (v ∷ vs) = cond (int_eq v x) 1 0 + times x vs

abbrev lengths : List (ℤ × Atom) → List ℤ → ℕ
lengths marks [] = 0
lengths marks (v ∷ vs) = length (marked v marks) + lengths marks vs

never-above : (x k : ℤ) (vs : List ℤ) → AscendFrom k vs → x ≤ℤ k → times x vs ≡ 0
never-above x k [] up h = refl
never-above x k (v ∷ vs) up h =
    let e : ◌≡◌ {A = ℕ} (cond (int_eq v x) 1 0) 0 = ap (λ t. cond t 1 0) (int_eq-false v x (λ e. omega (arith, ints, e, h, up.0))) in
    omega (arith, e, never-above x v vs up.1 (omega (arith, ints, h, up.0)))

once : (x : ℤ) (vs : List ℤ) → AreAscending vs → times x vs ≤ 1
once x [] up = omega arith
once x (v ∷ vs) up =
    by_equal v x (λ t. cond t 1 0 + times x vs ≤ 1) (λ e. let r = never-above x v vs up (omega (arith, ints, e)) in omega arith) (λ n. let r = once x vs (ascend-rest v vs up) in omega arith)

lengths-none : (vs : List ℤ) → lengths [] vs ≡ 0
lengths-none [] = refl
lengths-none (v ∷ vs) = omega (arith, lengths-none vs)

lengths-more : (m : ℤ × Atom) (marks : List (ℤ × Atom)) (vs : List ℤ) → lengths (m ∷ marks) vs ≡ times m.0 vs + lengths marks vs
lengths-more m marks [] = omega arith
lengths-more m marks (v ∷ vs) =
    let e : length (cond (int_eq v m.0) (m.1 ∷ marked v marks) (marked v marks)) ≡ cond (int_eq v m.0) 1 0 + length (marked v marks) = one (int_eq v m.0) in
    omega (arith, e, lengths-more m marks vs)
  where
    one : (t : Bool) → length (cond t (m.1 ∷ marked v marks) (marked v marks)) ≡ cond t 1 0 + length (marked v marks)
    one true = omega arith
    one false = omega arith

lengths-few : (marks : List (ℤ × Atom)) (vs : List ℤ) → AreAscending vs → lengths marks vs ≤ length marks
lengths-few [] vs up = omega (arith, lengths-none vs)
lengths-few (m ∷ marks) vs up = omega (arith, lengths-more m marks vs, once m.0 vs up, lengths-few marks vs up)

amos-cost : (marks : List (ℤ × Atom)) (vs : List ℤ) → 2 * costs_of (map (λ v. Amo (marked v marks)) vs) ≤ 13 * lengths marks vs
amos-cost marks [] = omega arith
amos-cost marks (v ∷ vs) = omega (arith, amo-bound (length (marked v marks)), amos-cost marks vs)

clauses-cost : (marks : List (ℤ × Atom)) (vs : List ℤ) → costs_of (map (λ v. Clause (marked v marks)) vs) ≡ lengths marks vs
clauses-cost marks [] = refl
clauses-cost marks (v ∷ vs) = omega (arith, clauses-cost marks vs)

marks-cost : (var : ℕ) (a : OrdInt) (c : Atom) (vs : List ℤ) → costs_of (mark_cores var a c vs) ≡ 10 * length vs
marks-cost var a c [] = refl
marks-cost var a c (v ∷ vs) = omega (arith, marks-cost (var + 1) a c vs)

-- the marks, the ladders and the marks' cores together
plain-cost : (var : ℕ) (xs : List OrdInt) (cs : List Atom)
    → 19 * length (all_values xs) + costs_of (map (λ a. Ladder a) xs) ≡ cost_of_all_diff (numbers_of_steps xs)
plain-cost var [] cs = refl
plain-cost var (a ∷ xs) cs =
    let l = length-append (values_of a) (all_values xs) in
    omega (arith, l, length-values_of a, plain-cost var xs cs)

all_marks-cost : (var : ℕ) (xs : List OrdInt) (cs : List Atom) → costs_of (all_mark_cores var xs cs) ≤ 10 * length (all_values xs)
all_marks-cost var [] cs = omega arith
all_marks-cost var (a ∷ xs) [] = omega arith
all_marks-cost var (a ∷ xs) (c ∷ cs) =
    let l = length-append (values_of a) (all_values xs) in
    let m = costs_of-append (mark_cores var a c (values_of a)) (all_mark_cores (var + length (values_of a)) xs cs) in
    omega (arith, l, m, marks-cost var a c (values_of a), all_marks-cost (var + length (values_of a)) xs cs)

-- the fresh variables and the costs of the parts are at most the cost of the core
pub differing_costs : (next : ℕ) (xs : List OrdInt) (cs : List Atom) → length (all_values xs) + costs_of (differing_parts next xs cs).cores ≤ cost_of (AllDiff xs cs)
differing_costs next xs cs =
    let n = length (all_values xs) in
    let vs = ascending (all_values xs) in
    let marks = marks_from next (all_values xs) in
    let ladders = map (λ a. Ladder a) xs in
    let mark_list = all_mark_cores next xs cs in
    let amos = map (λ v. Amo (marked v marks)) vs in
    let reached = reached_cores xs cs vs marks in
    let few : lengths marks vs ≤ n = omega (arith, lengths-few marks vs (AreAscending-ascending (all_values xs)), length-marks next (all_values xs)) in
    let last : costs_of reached ≤ lengths marks vs = either (are_true cs && (length vs == length xs)) (map (λ v. Clause (marked v marks)) vs) (lengths marks vs) (omega (arith, clauses-cost marks vs)) in
    sums n (costs_of ladders) (costs_of mark_list) (costs_of amos) (costs_of reached) (lengths marks vs) (costs_of (mark_list ++ (amos ++ reached))) (costs_of (amos ++ reached)) (costs_of (ladders ++ (mark_list ++ (amos ++ reached)))) (cost_of_all_diff (numbers_of_steps xs))
    (costs_of-append ladders (mark_list ++ (amos ++ reached))) (costs_of-append mark_list (amos ++ reached)) (costs_of-append amos reached)
    (plain-cost next xs cs) (all_marks-cost next xs cs) (amos-cost marks vs) last few
  where
    either : (t : Bool) (ds : List Core) (m : ℕ) → costs_of ds ≤ m → costs_of (cond t ds []) ≤ m
    either true ds m h = h
    either false ds m h = omega arith

    sums : (n l m a r k mar ar all cost : ℕ) → all ≡ l + mar → mar ≡ m + ar → ar ≡ a + r → 19 * n + l ≡ cost → m ≤ 10 * n → 2 * a ≤ 13 * k → r ≤ k → k ≤ n → n + all ≤ cost
    sums n l m a r k mar ar all cost e f g h i j o p = omega (arith, e, f, g, h, i, j, o, p)

-- ---- the parts of different members

pub differing-parts : (next : ℕ) (xs : List OrdInt) (cs : List Atom) → 1 ≤ next → IsWellFormed (AllDiff xs cs) → CoreBelow next (AllDiff xs cs)
    → ArePartsFor (AllDiff xs cs) next (differing_parts next xs cs)
differing-parts next xs cs some well below =
    parts-made (AllDiff xs cs) next (differing_parts next xs cs) below (differing_fits next xs cs some well below) (differing_costs next xs cs)
    (differing_implies next xs cs well) (differing_extends next xs cs well below)
