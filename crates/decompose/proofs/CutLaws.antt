-- The cuts of sums and of orders of words make their parts, and leave what is stable stable.
use Rattle.std.proofs.Common.{◌≡◌, ℕ, zero, suc, ◌+◌, ◌-◌, ◌<◌, ◌≤◌, Bool, true, false, ◌&&◌, ◌⊎◌, inl, inr, List, [], ◌∷◌, ◌++◌, map, length, get_or, Contains, ℤ, pos, refl, sym, ap, subst, arith}
use Rattle.std.specs.Prelude.{IfOk, IfSome}
use Rattle.std.specs.Bool.{beq}
use Rattle.std.specs.declared.result.Result.{Result}
use Rattle.std.specs.declared.option.Option.{Option}
use Rattle.std.proofs.lemmas.Bool.{ne_eqb}
use Rattle.std.proofs.lemmas.Result.{IfOk-weaker}
use Rattle.order_ints.specs.Label.{variable, own_labels}
use Rattle.order_ints.specs.declared.atom.Atom.{Atom}
use Rattle.order_ints.specs.declared.atom.Atom.TheVariants.{False}
use Rattle.order_ints.specs.declared.order_int.OrdInt.{OrdInt}
use Rattle.order_ints.specs.Truth.{not_atom}
use Rattle.order_ints.specs.Same.{same_atom}
use Rattle.order_ints.specs.View.{resolve}
use Rattle.order_ints.proofs.Fresh.{atoms-integer_of_values}
use Rattle.order_ints.proofs.Labels.{label_of-past}
use Rattle.core_forms.specs.declared.form.Core.{Core}
use Rattle.core_forms.specs.declared.form.Core.TheVariants.{Sum, Lex}
use Rattle.core_forms.specs.Each.{EachStep, EachInt, EachAtom}
use Rattle.core_forms.specs.Plain.{ArePlainBehind, ArePlainInts}
use Rattle.core_forms.specs.Stable.{IsStableCore}
use Rattle.core_forms.specs.Sums.{sums_of}
use Rattle.core_forms.specs.Edges.{listed_vars}
use Rattle.core_forms.specs.Variables.{core_vars}
use Rattle.core_forms.proofs.EachLaws.{EachInt-append, EachInt-left, EachInt-right}
use Rattle.core_forms.proofs.VariableLaws.{OfVars, each_vars, vars_each}
use Rattle.part_base.specs.declared.cut.Cut.{Cut}
use Rattle.part_base.specs.Cuts.{by_sum, by_words, IsCut}
use Rattle.decompose.specs.CutsOf.{added_cut, compared_cut, cut_of}
use Rattle.decompose.specs.LexParts.{lex_parts}
use Rattle.decompose.specs.PartsOf.{parts_of}
use Rattle.decompose.specs.SumParts.{fresh_of, sum_parts}

-- ---- a fresh variable, and steps over those from one on

-- a fresh variable is one from next on
fresh_var : (next count v : ℕ) (P : ℕ → Type 0) → next ≤ v → v < next + count
    → OfVars (λ w. P w ⊎ ((next ≤ w) × (w < next + count))) (variable v)
fresh_var next count v P low high w c = at c.0 c.1 c.2
  where
    at : (k : ℕ) → k < 1 → get_or (v ∷ []) k w ≡ w → P w ⊎ ((next ≤ w) × (w < next + count))
    at zero lt e = inr (omega (arith, e, low), omega (arith, e, high))
    at (suc k) lt e = absurd (omega (arith, lt))

-- a variable past the view's end has itself as its label
own : (view : List Atom) (v : ℕ) → length view + 1 ≤ v → resolve view (variable v) ≡ variable v
own view v past = label_of-past view v (omega (arith, past))

-- what holds of each such variable holds of each step
each_own : (P : Atom → Type 0) (first count : ℕ) (steps : List (Atom × ℕ)) → map (λ (s : Atom × ℕ). s.0) steps ≡ own_labels first count
    → ((v : ℕ) → first ≤ v → v < first + count → P (variable v)) → EachStep P steps
each_own P first count [] e h = tt
each_own P first zero (s ∷ steps) e h = absurd (cc)
each_own P first (suc count) (s ∷ steps) e h =
    let atom : s.0 ≡ variable first = cc in
    let others : map (λ (s : Atom × ℕ). s.0) steps ≡ own_labels (first + 1) count = cc in
    (subst P (sym atom) (h first (omega arith) (omega arith)), each_own P (first + 1) count steps others (λ v low high. h v (omega (arith, low)) (omega (arith, high))))

-- an atom of a variable, and that of the next one
next_apart : (v : ℕ) → same_atom (variable v) (variable (v + 1)) ≡ false
next_apart v = ap (λ t. t && beq true true) (ne_eqb v (v + 1) (λ e. omega (arith, e)))

not_before : (v : ℕ) → same_atom (variable (v + 1)) (not_atom (variable v)) ≡ false
not_before v = ap (λ t. t && beq true false) (ne_eqb (v + 1) v (λ e. omega (arith, e)))

-- such steps are plain behind an atom that is neither that of the first one nor its negation
plain_own : (before : Atom) (first count : ℕ) (steps : List (Atom × ℕ)) → map (λ (s : Atom × ℕ). s.0) steps ≡ own_labels first count
    → same_atom before (variable first) ≡ false → same_atom (variable first) (not_atom before) ≡ false → ArePlainBehind before steps
plain_own before first count [] e h k = tt
plain_own before first zero (s ∷ steps) e h k = absurd (cc)
plain_own before first (suc count) (s ∷ steps) e h k =
    let atom : s.0 ≡ variable first = cc in
    let others : map (λ (s : Atom × ℕ). s.0) steps ≡ own_labels (first + 1) count = cc in
    subst (λ (a : Atom). ArePlainBehind before ((a, s.1) ∷ steps)) (sym atom)
    (h, k, tt, plain_own (variable first) (first + 1) count steps others (next_apart first) (not_before first))

ArePlainInts-append : (xs ys : List OrdInt) → ArePlainInts xs → ArePlainInts ys → ArePlainInts (xs ++ ys)
ArePlainInts-append [] ys h k = k
ArePlainInts-append (a ∷ xs) ys h k = (h.0, ArePlainInts-append xs ys h.1 k)

-- ---- sums

module _ (next : ℕ) (a b c d : OrdInt) (rest : List OrdInt) (k : ℤ) where
  abbrev z : OrdInt
  z = fresh_of next a b

  abbrev long_sum : Core
  long_sum = Sum (a ∷ b ∷ c ∷ d ∷ rest) k

  abbrev less_sum : Core
  less_sum = Sum (c ∷ d ∷ rest ++ z ∷ []) k

  abbrev IsSumVar : ℕ → Type 0
  IsSumVar v = Contains (core_vars long_sum) v ⊎ ((next ≤ v) × (v < next + (length (sums_of a b) - 1)))

  fresh_steps : map (λ (s : Atom × ℕ). s.0) z.steps ≡ own_labels next (length (sums_of a b) - 1)
  fresh_steps = atoms-integer_of_values (sums_of a b) next

  sum_vars : (v : ℕ) → Contains (core_vars less_sum) v → IsSumVar v
  sum_vars =
      let old : EachAtom (OfVars IsSumVar) long_sum = each_vars IsSumVar long_sum (λ v c. inl c) in
      let new : EachStep (OfVars IsSumVar) z.steps =
      each_own (OfVars IsSumVar) next (length (sums_of a b) - 1) z.steps fresh_steps
      (λ v low high. fresh_var next (length (sums_of a b) - 1) v (λ w. Contains (core_vars long_sum) w) low high) in
      vars_each IsSumVar less_sum (tt, EachInt-append (OfVars IsSumVar) (c ∷ d ∷ rest) (z ∷ []) old.1.1.1 (new, tt))

  sum_stable : (view : List Atom) → next ≡ length view + 1 → IsStableCore view long_sum → IsStableCore view less_sum
  sum_stable view e h = record {
    plain =
        ArePlainInts-append (c ∷ d ∷ rest) (z ∷ []) h.plain.1.1 (plain_own False next (length (sums_of a b) - 1) z.steps fresh_steps refl refl, tt);
    each = (
      tt,
      EachInt-append (λ x. resolve view x ≡ x) (c ∷ d ∷ rest) (z ∷ []) h.each.1.1.1 (
        each_own (λ x. resolve view x ≡ x) next (length (sums_of a b) - 1) z.steps fresh_steps (λ v low high. own view v (omega (arith, e, low))),
        tt,
      ),
    );
  }

  pub sum-cut : IsCut next long_sum (sum_parts next (a ∷ b ∷ c ∷ d ∷ rest) k) (added_cut next a b)
  sum-cut = record {
    cores = refl;
    fresh = refl;
    comes = by_sum z (a ∷ b ∷ c ∷ d ∷ rest) k refl refl;
    vars = sum_vars;
    stable = sum_stable;
  }

-- ---- orders of words

module _ (next : ℕ) (r : Atom) (strict : Bool) (a b c : OrdInt) (front back : List OrdInt) where
  abbrev long_order : Core
  long_order = Lex r strict (a ∷ c ∷ front) (b ∷ back)

  abbrev less_order : Core
  less_order = Lex (variable (next + 2)) strict (c ∷ front) back

  abbrev IsOrderVar : ℕ → Type 0
  IsOrderVar v = Contains (listed_vars long_order) v ⊎ ((next ≤ v) × (v < next + 4))

  order_vars : (v : ℕ) → Contains (core_vars less_order) v → IsOrderVar v
  order_vars =
      let letters : List OrdInt = (a ∷ c ∷ front) ++ b ∷ back in
      let old : EachAtom (OfVars IsOrderVar) (Sum letters (pos 0)) = each_vars IsOrderVar (Sum letters (pos 0)) (λ v c. inl c) in
      let fronts : EachInt (OfVars IsOrderVar) (a ∷ c ∷ front) = EachInt-left (OfVars IsOrderVar) (a ∷ c ∷ front) (b ∷ back) old.1 in
      let backs : EachInt (OfVars IsOrderVar) (b ∷ back) = EachInt-right (OfVars IsOrderVar) (a ∷ c ∷ front) (b ∷ back) old.1 in
      vars_each IsOrderVar less_order (
        (fresh_var next 4 (next + 2) (λ w. Contains (listed_vars long_order) w) (omega arith) (omega arith), tt),
        EachInt-append (OfVars IsOrderVar) (c ∷ front) back fronts.1 backs.1,
      )

  order_stable : (view : List Atom) → next ≡ length view + 1 → IsStableCore view long_order → IsStableCore view less_order
  order_stable view e h =
      let fronts : EachInt (λ x. resolve view x ≡ x) (a ∷ c ∷ front) = EachInt-left (λ x. resolve view x ≡ x) (a ∷ c ∷ front) (b ∷ back) h.each.1 in
      let backs : EachInt (λ x. resolve view x ≡ x) (b ∷ back) = EachInt-right (λ x. resolve view x ≡ x) (a ∷ c ∷ front) (b ∷ back) h.each.1 in
      record {
        plain = (h.plain.0.1, h.plain.1.1);
        each = ((own view (next + 2) (omega (arith, e)), tt), EachInt-append (λ x. resolve view x ≡ x) (c ∷ front) back fronts.1 backs.1);
      }

  pub order-cut : IsCut next long_order (lex_parts next r strict (a ∷ c ∷ front) (b ∷ back)) (compared_cut next r a b)
  order-cut = record {
    cores = refl;
    fresh = refl;
    comes = by_words r strict (a ∷ c ∷ front) (b ∷ back) refl;
    vars = order_vars;
    stable = order_stable;
  }

-- ---- the cut of a core

pub form-cut : (core : Core) (next : ℕ) → IfSome (cut_of core next) (λ cut. IsCut next core (parts_of core next) cut)
form-cut (Sum (a ∷ b ∷ c ∷ d ∷ rest) k) next = sum-cut next a b c d rest k
form-cut (Lex r strict (a ∷ c ∷ front) (b ∷ back)) next = order-cut next r strict a b c front back
form-cut core next = tt

pub cut_ok : {E : Type 0} (r : Result (Option Cut) E) (core : Core) (next : ℕ)
    → IfOk r (λ made. made ≡ cut_of core next) → IfOk r (λ made. IfSome made (λ cut. IsCut next core (parts_of core next) cut))
cut_ok r core next h =
    IfOk-weaker r (λ made. made ≡ cut_of core next) (λ made. IfSome made (λ cut. IsCut next core (parts_of core next) cut))
    (λ made e. subst (λ (o : Option Cut). IfSome o (λ cut. IsCut next core (parts_of core next) cut)) (sym e) (form-cut core next)) h
