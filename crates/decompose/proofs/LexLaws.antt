-- The parts of an order of words stand for it: their meaning, their limits and their costs.
use Rattle.std.proofs.Common.{◌≡◌, ℕ, ◌+◌, ◌≤◌, zero, suc, Bool, true, false, not, ◌&&◌, ◌||◌, cond, ℤ, List, [], ◌∷◌, length, refl, sym, ap, ◌∙◌, subst, arith}
use Rattle.std.specs.Prelude.{int_le, int_lt, IsTrue}
use Rattle.std.specs.Bool.{beq}
use Rattle.std.specs.Ordering.{int_eq}
use Rattle.order_ints.specs.Label.{variable}
use Rattle.order_ints.specs.declared.atom.Atom.{Atom}
use Rattle.order_ints.specs.declared.order_int.OrdInt.{OrdInt}
use Rattle.order_ints.specs.Truth.{Valuation, Agree, atom_truth, not_atom}
use Rattle.order_ints.specs.Place.{AtomBelow}
use Rattle.order_ints.specs.OrderValue.{value_of, in_order}
use Rattle.order_ints.proofs.Truths.{atom_truth-not_atom, AtomBelow-not_atom}
use Rattle.order_ints.proofs.Gains.{value_of-agree}
use Rattle.core_forms.specs.declared.form.Core.{Core}
use Rattle.core_forms.specs.declared.form.Core.TheVariants.{Conj, LeqR, Lex}
use Rattle.core_forms.specs.Values.{all_ordered, values, is_before}
use Rattle.core_forms.specs.Meaning.{core_truth, Meets}
use Rattle.core_forms.specs.Place.{IntsBelow, CoreBelow}
use Rattle.core_forms.specs.WellFormed.{IsWellFormed}
use Rattle.core_forms.specs.Cost.{cost_of}
use Rattle.core_forms.specs.Cores.{MeetsAll, costs_of}
use Rattle.core_forms.proofs.Mapped.{core_truth-agree}
use Rattle.core_forms.proofs.IntLists.{IntsBelow-append, IntsBelow-left, IntsBelow-right}
use Rattle.core_forms.proofs.Places.{CoreBelow-more}
use Rattle.core_forms.proofs.CoreLists.{MeetsAll-first}
use Rattle.part_base.specs.PartsFor.{DoFit, ArePartsFor}
use Rattle.part_base.specs.FreshTruths.{with_fresh}
use Rattle.part_base.proofs.FreshLaws.{with_fresh-Agree, truth-with_fresh}
use Rattle.part_base.proofs.PartLaws.{parts-made}
use Rattle.decompose.specs.LexParts.{empty_order, last_order, split_order, lex_parts}
use Rattle.decompose.proofs.Tests.{and_first, and_second, and_made, beq_tells, beq_made, not_not, by_order}
use Rattle.decompose.proofs.PartLaws.{alone-made}

-- ---- the first pair decides, or the rests do

-- what the conjunctions say of the fresh atoms makes r the truth of the order
decides : (l g t u r x : Bool) (v w : ℤ) → l ≡ int_le v w → g ≡ int_le w v → t ≡ x → not u ≡ (g && (not t && true)) → r ≡ (l && (u && true))
    → r ≡ cond (int_eq v w) x (int_lt v w)
decides l g t u r x v w el eg et eu er =
    by_order v w (λ le ge eq lt. l ≡ le → g ≡ ge → r ≡ cond eq x lt)
    (λ dl dg. less dl dg) (λ lt dl dg. equal dl dg) (λ dl dg. greater dl) el eg
  where
    flip : (b c : Bool) → not b ≡ c → b ≡ not c
    flip b c e = sym (not_not b) ∙ ap not e

    less : l ≡ true → g ≡ false → r ≡ true
    less dl dg =
        let u-is : u ≡ true = flip u false (eu ∙ ap (λ b. b && (not t && true)) dg) in
        er ∙ ap (λ b. b && (u && true)) dl ∙ ap (λ b. b && true) u-is

    equal : l ≡ true → g ≡ true → r ≡ x
    equal dl dg =
        let not-u : not u ≡ (not t && true) = eu ∙ ap (λ b. b && (not t && true)) dg in
        er ∙ ap (λ b. b && (u && true)) dl ∙ both t u not-u ∙ et
      where
        both : (t u : Bool) → not u ≡ (not t && true) → (u && true) ≡ t
        both true true e = refl
        both true false e = absurd (cc)
        both false true e = absurd (cc)
        both false false e = refl

    greater : l ≡ false → r ≡ false
    greater dl = er ∙ ap (λ b. b && (u && true)) dl

-- ---- what comparisons and orders say

module _ (τ : Valuation) where
  pub leq_tells : (x : Atom) (a b : OrdInt) → Meets τ (LeqR x a b)
      → IsTrue (in_order τ a.steps) × IsTrue (in_order τ b.steps) × (atom_truth τ x ≡ int_le (value_of τ a) (value_of τ b))
  leq_tells x a b h =
      let both = and_first (in_order τ a.steps && in_order τ b.steps) (beq (atom_truth τ x) (int_le (value_of τ a) (value_of τ b))) h in
      let same = and_second (in_order τ a.steps && in_order τ b.steps) (beq (atom_truth τ x) (int_le (value_of τ a) (value_of τ b))) h in
      (and_first (in_order τ a.steps) (in_order τ b.steps) both, and_second (in_order τ a.steps) (in_order τ b.steps) both, beq_tells (atom_truth τ x) (int_le (value_of τ a) (value_of τ b)) same)

  pub leq_made : (x : Atom) (a b : OrdInt) → IsTrue (in_order τ a.steps) → IsTrue (in_order τ b.steps)
      → atom_truth τ x ≡ int_le (value_of τ a) (value_of τ b) → Meets τ (LeqR x a b)
  leq_made x a b first second same =
      and_made (in_order τ a.steps && in_order τ b.steps) (beq (atom_truth τ x) (int_le (value_of τ a) (value_of τ b)))
      (and_made (in_order τ a.steps) (in_order τ b.steps) first second) (beq_made (atom_truth τ x) (int_le (value_of τ a) (value_of τ b)) same)

  pub lex_tells : (x : Atom) (strict : Bool) (front back : List OrdInt) → Meets τ (Lex x strict front back)
      → IsTrue (all_ordered τ front) × IsTrue (all_ordered τ back) × (atom_truth τ x ≡ is_before strict (values τ front) (values τ back))
  lex_tells x strict front back h =
      let both = and_first (all_ordered τ front && all_ordered τ back) (beq (atom_truth τ x) (is_before strict (values τ front) (values τ back))) h in
      let same = and_second (all_ordered τ front && all_ordered τ back) (beq (atom_truth τ x) (is_before strict (values τ front) (values τ back))) h in
      (and_first (all_ordered τ front) (all_ordered τ back) both, and_second (all_ordered τ front) (all_ordered τ back) both, beq_tells (atom_truth τ x) (is_before strict (values τ front) (values τ back)) same)

  pub lex_made : (x : Atom) (strict : Bool) (front back : List OrdInt) → IsTrue (all_ordered τ front) → IsTrue (all_ordered τ back)
      → atom_truth τ x ≡ is_before strict (values τ front) (values τ back) → Meets τ (Lex x strict front back)
  lex_made x strict front back first second same =
      and_made (all_ordered τ front && all_ordered τ back) (beq (atom_truth τ x) (is_before strict (values τ front) (values τ back)))
      (and_made (all_ordered τ front) (all_ordered τ back) first second) (beq_made (atom_truth τ x) (is_before strict (values τ front) (values τ back)) same)

values-agree : (n : ℕ) (σ τ : Valuation) (xs : List OrdInt) → Agree n σ τ → IntsBelow n xs → values σ xs ≡ values τ xs
values-agree n σ τ [] same below = refl
values-agree n σ τ (c ∷ xs) same below =
    let e = value_of-agree n σ τ c same below.0 in let f = values-agree n σ τ xs same below.1 in cc

-- ---- more pairs than one

module _ (next : ℕ) (r : Atom) (strict : Bool) (a b : OrdInt) (front back : List OrdInt) where
  -- what the parts say
  record Splits (τ : Valuation) : Type 0 where
    pub first : IsTrue (in_order τ a.steps)
    pub second : IsTrue (in_order τ b.steps)
    pub fronts : IsTrue (all_ordered τ front)
    pub backs : IsTrue (all_ordered τ back)
    pub less : τ next ≡ int_le (value_of τ a) (value_of τ b)
    pub greater : τ (next + 1) ≡ int_le (value_of τ b) (value_of τ a)
    pub rest : τ (next + 2) ≡ is_before strict (values τ front) (values τ back)
    pub undecided : not (τ (next + 3)) ≡ (τ (next + 1) && (not (τ (next + 2)) && true))
    pub order : atom_truth τ r ≡ (τ next && (τ (next + 3) && true))

  abbrev one : Core
  one = LeqR (variable next) a b

  abbrev two : Core
  two = LeqR (variable (next + 1)) b a

  abbrev three : Core
  three = Lex (variable (next + 2)) strict front back

  abbrev four : Core
  four = Conj (not_atom (variable (next + 3))) (variable (next + 1) ∷ not_atom (variable (next + 2)) ∷ [])

  abbrev five : Core
  five = Conj r (variable next ∷ variable (next + 3) ∷ [])

  split_tells : (τ : Valuation) → MeetsAll τ (split_order next r strict a b front back) → Splits τ
  split_tells τ h =
      let s = (MeetsAll-first τ one (two ∷ three ∷ four ∷ five ∷ [])).0 h in
      let t = (MeetsAll-first τ two (three ∷ four ∷ five ∷ [])).0 s.1 in
      let u = (MeetsAll-first τ three (four ∷ five ∷ [])).0 t.1 in
      let v = (MeetsAll-first τ four (five ∷ [])).0 u.1 in
      let w = (MeetsAll-first τ five []).0 v.1 in
      let here = leq_tells τ (variable next) a b s.0 in
      let there = leq_tells τ (variable (next + 1)) b a t.0 in
      let rests = lex_tells τ (variable (next + 2)) strict front back u.0 in
      record {
        first = here.0;
        second = here.1;
        fronts = rests.0;
        backs = rests.1;
        less = here.2;
        greater = there.2;
        rest = rests.2;
        undecided = beq_tells (not (τ (next + 3))) (τ (next + 1) && (not (τ (next + 2)) && true)) v.0;
        order = beq_tells (atom_truth τ r) (τ next && (τ (next + 3) && true)) w.0;
      }

  split_made : (τ : Valuation) → Splits τ → MeetsAll τ (split_order next r strict a b front back)
  split_made τ s =
      (MeetsAll-first τ one (two ∷ three ∷ four ∷ five ∷ [])).1 (
        leq_made τ (variable next) a b s.first s.second s.less,
        (MeetsAll-first τ two (three ∷ four ∷ five ∷ [])).1 (
          leq_made τ (variable (next + 1)) b a s.second s.first s.greater,
          (MeetsAll-first τ three (four ∷ five ∷ [])).1 (
            lex_made τ (variable (next + 2)) strict front back s.fronts s.backs s.rest,
            (MeetsAll-first τ four (five ∷ [])).1 (
              beq_made (not (τ (next + 3))) (τ (next + 1) && (not (τ (next + 2)) && true)) s.undecided,
              (MeetsAll-first τ five []).1 (beq_made (atom_truth τ r) (τ next && (τ (next + 3) && true)) s.order, refl),
            ),
          ),
        ),
      )

  decided : (τ : Valuation) → Splits τ → atom_truth τ r ≡ is_before strict (value_of τ a ∷ values τ front) (value_of τ b ∷ values τ back)
  decided τ s =
      decides (τ next) (τ (next + 1)) (τ (next + 2)) (τ (next + 3)) (atom_truth τ r) (is_before strict (values τ front) (values τ back)) (value_of τ a) (value_of τ b)
      s.less s.greater s.rest s.undecided s.order

  split_implies : (τ : Valuation) → MeetsAll τ (split_order next r strict a b front back) → Meets τ (Lex r strict (a ∷ front) (b ∷ back))
  split_implies τ h =
      let s = split_tells τ h in
      lex_made τ r strict (a ∷ front) (b ∷ back) (and_made (in_order τ a.steps) (all_ordered τ front) s.first s.fronts)
      (and_made (in_order τ b.steps) (all_ordered τ back) s.second s.backs) (decided τ s)

  -- fresh truth values
  abbrev four_of : Bool → Bool → Bool → Bool → ℕ → Bool
  four_of w x y z zero = w
  four_of w x y z (suc zero) = x
  four_of w x y z (suc (suc zero)) = y
  four_of w x y z (suc (suc (suc n))) = z

  split_extended : (σ τ : Valuation) → CoreBelow next (Lex r strict (a ∷ front) (b ∷ back)) → Meets σ (Lex r strict (a ∷ front) (b ∷ back)) → Agree next σ τ
      → τ next ≡ int_le (value_of σ a) (value_of σ b) → τ (next + 1) ≡ int_le (value_of σ b) (value_of σ a)
      → τ (next + 2) ≡ is_before strict (values σ front) (values σ back)
      → τ (next + 3) ≡ not (int_le (value_of σ b) (value_of σ a) && (not (is_before strict (values σ front) (values σ back)) && true))
      → MeetsAll τ (split_order next r strict a b front back)
  split_extended σ τ below met same less greater rest undecided =
      let all = IntsBelow-left next (a ∷ front) (b ∷ back) below.1 in
      let others = IntsBelow-right next (a ∷ front) (b ∷ back) below.1 in
      let va = value_of-agree next σ τ a same all.0 in
      let vb = value_of-agree next σ τ b same others.0 in
      let vf = values-agree next σ τ front same all.1 in
      let vs = values-agree next σ τ back same others.1 in
      let here : Meets τ (Lex r strict (a ∷ front) (b ∷ back)) = sym (core_truth-agree next σ τ (Lex r strict (a ∷ front) (b ∷ back)) below same) ∙ met in
      let told = lex_tells τ r strict (a ∷ front) (b ∷ back) here in
      let l : τ next ≡ int_le (value_of τ a) (value_of τ b) = rw (← va, ← vb) less in
      let g : τ (next + 1) ≡ int_le (value_of τ b) (value_of τ a) = rw (← va, ← vb) greater in
      let t : τ (next + 2) ≡ is_before strict (values τ front) (values τ back) = rw (← vf, ← vs) rest in
      let u : not (τ (next + 3)) ≡ (τ (next + 1) && (not (τ (next + 2)) && true)) =
      ap not undecided ∙ not_not (int_le (value_of σ b) (value_of σ a) && (not (is_before strict (values σ front) (values σ back)) && true))
      ∙ sym (rw (greater, rest) refl) in
      split_made τ (record {
        first = and_first (in_order τ a.steps) (all_ordered τ front) told.0;
        second = and_first (in_order τ b.steps) (all_ordered τ back) told.1;
        fronts = and_second (in_order τ a.steps) (all_ordered τ front) told.0;
        backs = and_second (in_order τ b.steps) (all_ordered τ back) told.1;
        less = l;
        greater = g;
        rest = t;
        undecided = u;
        order = told.2 ∙ sym (decides (τ next) (τ (next + 1)) (τ (next + 2)) (τ (next + 3)) (τ next && (τ (next + 3) && true)) (is_before strict (values τ front) (values τ back)) (value_of τ a) (value_of τ b) l g t u refl);
      })

  split_extends : CoreBelow next (Lex r strict (a ∷ front) (b ∷ back)) → (σ : Valuation) → Meets σ (Lex r strict (a ∷ front) (b ∷ back))
      → (τ : Valuation) × Agree next σ τ × MeetsAll τ (split_order next r strict a b front back)
  split_extends below σ met =
      let before = is_before strict (values σ front) (values σ back) in
      let ge = int_le (value_of σ b) (value_of σ a) in
      let fresh = four_of (int_le (value_of σ a) (value_of σ b)) ge before (not (ge && (not before && true))) in
      let τ : Valuation = with_fresh next σ fresh in
      let same = with_fresh-Agree next σ fresh in
      let e : next + 0 ≡ next = omega arith in (
        τ,
        same,
        split_extended σ τ below met same
            (subst (λ (v : ℕ). τ v ≡ int_le (value_of σ a) (value_of σ b)) e (truth-with_fresh next σ fresh 0))
            (truth-with_fresh next σ fresh 1) (truth-with_fresh next σ fresh 2) (truth-with_fresh next σ fresh 3),
      )

-- what the parts may have, and what they cost
split_fits : (next : ℕ) (r : Atom) (strict : Bool) (a b : OrdInt) (front back : List OrdInt) → 1 ≤ next
    → IsWellFormed (Lex r strict (a ∷ front) (b ∷ back)) → CoreBelow next (Lex r strict (a ∷ front) (b ∷ back))
    → DoFit next (record { cores = split_order next r strict a b front back; fresh = 4 })
split_fits next r strict a b front back some well below =
    let up = CoreBelow-more next (next + 4) (Lex r strict (a ∷ front) (b ∷ back)) (omega arith) below in
    let all = IntsBelow-left (next + 4) (a ∷ front) (b ∷ back) up.1 in
    let others = IntsBelow-right (next + 4) (a ∷ front) (b ∷ back) up.1 in
    let l : AtomBelow (next + 4) (variable next) = (omega arith, omega arith) in
    let g : AtomBelow (next + 4) (variable (next + 1)) = (omega arith, omega arith) in
    let t : AtomBelow (next + 4) (variable (next + 2)) = (omega arith, omega arith) in
    let u : AtomBelow (next + 4) (variable (next + 3)) = (omega arith, omega arith) in
    record {
      formed = ((well.0.0, well.1.0), ((well.1.0, well.0.0), ((well.0.1, well.1.1, omega (arith, well.2)), (tt, (tt, tt)))));
      below = (
        ((l, tt), (all.0, (others.0, tt))),
        (
          ((g, tt), (others.0, (all.0, tt))),
          (
            ((t, tt), IntsBelow-append (next + 4) front back all.1 others.1),
            (((u, (g, (t, tt))), tt), (((up.0.0, (l, (u, tt))), tt), tt)),
          ),
        ),
      );
    }

split_costs : (next : ℕ) (r : Atom) (strict : Bool) (a b c : OrdInt) (front back : List OrdInt) → length (a ∷ c ∷ front) ≡ length (b ∷ back)
    → 4 + costs_of (split_order next r strict a b (c ∷ front) back) ≤ cost_of (Lex r strict (a ∷ c ∷ front) (b ∷ back))
split_costs next r strict a b c front [] same = absurd (omega arith)
split_costs next r strict a b c front (d ∷ back) same = omega arith

-- ---- one pair, and none

last-strict : (oa ob r y : Bool) → ((ob && oa) && beq (not r) y) ≡ (((oa && true) && (ob && true)) && beq r (not y))
last-strict true true true true = refl
last-strict true true true false = refl
last-strict true true false true = refl
last-strict true true false false = refl
last-strict true false r y = refl
last-strict false true r y = refl
last-strict false false r y = refl

last-loose : (oa ob x : Bool) → ((oa && ob) && x) ≡ (((oa && true) && (ob && true)) && x)
last-loose true true x = refl
last-loose true false x = refl
last-loose false true x = refl
last-loose false false x = refl

below-last : (v w : ℤ) → not (int_le w v) ≡ cond (int_eq v w) false (int_lt v w)
below-last v w = by_order v w (λ le ge eq lt. not ge ≡ cond eq false lt) refl (λ lt. refl) refl

at_most-last : (v w : ℤ) → int_le v w ≡ cond (int_eq v w) true (int_lt v w)
at_most-last v w = by_order v w (λ le ge eq lt. le ≡ cond eq true lt) refl (λ lt. refl) refl

last-same : (σ : Valuation) (r : Atom) (strict : Bool) (a b : OrdInt)
    → core_truth σ (last_order r strict a b) ≡ core_truth σ (Lex r strict (a ∷ []) (b ∷ []))
last-same σ r true a b =
    ap (λ t. (in_order σ b.steps && in_order σ a.steps) && beq t (int_le (value_of σ b) (value_of σ a))) (atom_truth-not_atom σ r)
    ∙ last-strict (in_order σ a.steps) (in_order σ b.steps) (atom_truth σ r) (int_le (value_of σ b) (value_of σ a))
    ∙ ap (λ t. ((in_order σ a.steps && true) && (in_order σ b.steps && true)) && beq (atom_truth σ r) t) (below-last (value_of σ a) (value_of σ b))
last-same σ r false a b =
    last-loose (in_order σ a.steps) (in_order σ b.steps) (beq (atom_truth σ r) (int_le (value_of σ a) (value_of σ b)))
    ∙ ap (λ t. ((in_order σ a.steps && true) && (in_order σ b.steps && true)) && beq (atom_truth σ r) t) (at_most-last (value_of σ a) (value_of σ b))

empty-same : (σ : Valuation) (r : Atom) (strict : Bool) → core_truth σ (empty_order r strict) ≡ core_truth σ (Lex r strict [] [])
empty-same σ r true = ap (λ t. t || false) (atom_truth-not_atom σ r) ∙ elim (atom_truth σ r) as (λ t. (not t || false) ≡ beq t false) [ true ↦ refl | false ↦ refl ]
empty-same σ r false = elim (atom_truth σ r) as (λ t. (t || false) ≡ beq t true) [ true ↦ refl | false ↦ refl ]

-- ---- the parts of an order of words

pub lex-parts : (next : ℕ) (r : Atom) (strict : Bool) (front back : List OrdInt) → 1 ≤ next → IsWellFormed (Lex r strict front back) → CoreBelow next (Lex r strict front back)
    → ArePartsFor (Lex r strict front back) next (lex_parts next r strict front back)
lex-parts next r strict [] [] some well below =
    alone-made (Lex r strict [] []) (empty_order r strict) next below (empty-formed strict) (empty-below strict) (empty-costs strict) (λ σ. empty-same σ r strict)
  where
    empty-formed : (s : Bool) → IsWellFormed (empty_order r s)
    empty-formed s = tt

    empty-below : (s : Bool) → CoreBelow next (empty_order r s)
    empty-below true = ((AtomBelow-not_atom next r below.0.0, tt), tt)
    empty-below false = ((below.0.0, tt), tt)

    empty-costs : (s : Bool) → cost_of (empty_order r s) ≤ cost_of (Lex r s [] [])
    empty-costs s = omega arith
lex-parts next r strict [] (b ∷ back) some well below = absurd (omega (arith, well.2))
lex-parts next r strict (a ∷ front) [] some well below = absurd (omega (arith, well.2))
lex-parts next r strict (a ∷ []) (b ∷ []) some well below =
    alone-made (Lex r strict (a ∷ []) (b ∷ [])) (last_order r strict a b) next below (last-formed strict) (last-below strict) (last-costs strict) (λ σ. last-same σ r strict a b)
  where
    last-formed : (s : Bool) → IsWellFormed (last_order r s a b)
    last-formed true = (well.1.0, well.0.0)
    last-formed false = (well.0.0, well.1.0)

    last-below : (s : Bool) → CoreBelow next (last_order r s a b)
    last-below true = ((AtomBelow-not_atom next r below.0.0, tt), (below.1.1.0, (below.1.0, tt)))
    last-below false = ((below.0.0, tt), (below.1.0, (below.1.1.0, tt)))

    last-costs : (s : Bool) → cost_of (last_order r s a b) ≤ cost_of (Lex r s (a ∷ []) (b ∷ []))
    last-costs true = omega arith
    last-costs false = omega arith
lex-parts next r strict (a ∷ []) (b ∷ d ∷ back) some well below = absurd (omega (arith, well.2))
lex-parts next r strict (a ∷ c ∷ front) (b ∷ back) some well below =
    parts-made (Lex r strict (a ∷ c ∷ front) (b ∷ back)) next (record { cores = split_order next r strict a b (c ∷ front) back; fresh = 4 }) below
    (split_fits next r strict a b (c ∷ front) back some well below) (split_costs next r strict a b c front back well.2)
    (split_implies next r strict a b (c ∷ front) back) (split_extends next r strict a b (c ∷ front) back below)
