-- Statements on sums: their cores stand for them.
use Rattle.std.proofs.Common.{◌≡◌, ℕ, ◌+◌, ◌-◌, ◌≤◌, ℤ, pos, ◌+ℤ◌, true, List, [], ◌∷◌, length, map, IsTrue, refl, sym, ap, ◌∙◌, arith}
use Rattle.std.specs.Ordering.{int_eq}
use Rattle.std.proofs.lemmas.Int.{ints}
use Rattle.std.proofs.lemmas.List.{length-map}
use Rattle.order_ints.specs.declared.order_int.OrdInt.{OrdInt}
use Rattle.order_ints.specs.declared.order_int.MapValue.{MapValue}
use Rattle.order_ints.specs.Truth.{Valuation}
use Rattle.order_ints.specs.OrderMade.{integer_of_atom}
use Rattle.order_ints.specs.Numbers as numbers
use Rattle.core_forms.specs.Values as forms
use Rattle.core_forms.specs.Place.{IntsBelow}
use Rattle.model_meaning.specs.declared.model.Decl.{Decl}
use Rattle.model_meaning.specs.declared.what.IntTerm.{IntTerm}
use Rattle.model_meaning.specs.declared.what.BoolTerm.{BoolTerm}
use Rattle.model_meaning.specs.declared.statement.Relation.{Relation}
use Rattle.model_meaning.specs.declared.statement.Relation.TheVariants as relation
use Rattle.model_meaning.specs.declared.statement.Aggregate.TheVariants as aggregate
use Rattle.model_meaning.specs.Terms.{number_of, truths_of, numbers_of, as_number}
use Rattle.model_meaning.specs.Integers.{relates, total, weight_of_true, linear_sum, is_aggregate}
use Rattle.model_meaning.specs.Limits.{AllInLimit, TermInLimit, TermsInLimit}
use Rattle.model_meaning.specs.WellTyped.{NumberFits, NumbersFit, TruthsFit}
use Rattle.statement_lower.specs.Terms.{atom_of, atoms_of, integer_of, integers_of}
use Rattle.name_map.specs.Fits.{EntriesFit}
use Rattle.statement_lower.specs.Entries.{AreOrdered}
use Rattle.statement_lower.specs.declared.made.MadeCores.{MadeCores}
use Rattle.statement_lower.specs.Linear.{scaled_each, with_steps, constant_of_members, linear_members, equal_sum, compared_sum, linear_made, AreSummands}
use Rattle.statement_lower.specs.Lines.{scaled_truths, scaled_integers}
use Rattle.statement_lower.specs.Lowers.{Lowers}
use Rattle.statement_lower.proofs.MeaningLaws.{same_meanings}
use Rattle.statement_lower.proofs.EntryLaws.{atoms_of-truths, atoms_of-below, integer_of-small, integer_of-value, integers_of-values, integers_of-small, below-small, IsOrdered-integer_of, ordered-integers_of}
use Rattle.statement_lower.proofs.OrderedEntries.{AreOrdered-depends}
use Rattle.statement_lower.proofs.Comparisons.{equal-turned}
use Rattle.statement_lower.proofs.WordLines.{small-bits, ordered-bits, values-bits}
use Rattle.statement_lower.proofs.LinearLaws.{total-parts, total-last, ordered-parts, ordered-last, below-last, below-steps, sound-steps, summands-last, last-total, small-each, summands-small, summands-scaled, below-scaled, length-scaled, scaled-total, scaled-ordered, bits-linear, equal-sum-truth, equal-sum-below, equal-sum-well_formed}
use Rattle.statement_lower.proofs.LowersLaws.{lowers-one, lowers-same}
use Rattle.statement_lower.proofs.Queues.{relates-difference, queue-lowers}

module _ (vars n : ℕ) (ds : List Decl) (entries : List MapValue) (h : EntriesFit (vars + 1) ds entries) where
  abbrev C : Valuation → Type 0
  C σ = AreOrdered σ entries

  abbrev env : Valuation → List ℤ
  env σ = numbers.numbers_of σ entries

  -- integers whose sum is known, and a right side
  sum-stands : (members : List OrdInt) (i : IntTerm) (sum : Valuation → ℤ) → IntsBelow (vars + 1) members → AreSummands members → length members ≤ 16777216
      → NumberFits ds n i → TermInLimit i
      → ((σ : Valuation) → C σ → forms.all_ordered σ members ≡ true) → ((σ : Valuation) → forms.total (forms.values σ members) ≡ sum σ)
      → Lowers vars vars C (equal_sum members (integer_of entries i) ∷ []) (λ σ. IsTrue (int_eq (sum σ) (number_of (env σ) i)))
  sum-stands members i sum below summands few fi li order e =
      let a = integer_of-small (vars + 1) n ds entries h i fi li in
      lowers-one vars C (equal_sum members (integer_of entries i)) (λ σ. int_eq (sum σ) (number_of (env σ) i))
      (equal-sum-below (vars + 1) members (integer_of entries i) below a.below) (equal-sum-well_formed members (integer_of entries i) summands (a.sound, a.small) few)
      (λ σ c.
      equal-sum-truth σ members (integer_of entries i) (order σ c) (IsOrdered-integer_of σ entries i c)
      ∙ rw (e σ, integer_of-value (vars + 1) n ds entries h σ i fi) refl)

  -- the same, compared otherwise than by equality
  compared-stands : (rel : Relation) (members : List OrdInt) (i : IntTerm) (sum : Valuation → ℤ) → IntsBelow (vars + 1) members → AreSummands members → length members ≤ 16777216
      → NumberFits ds n i → TermInLimit i
      → ((σ : Valuation) → C σ → forms.all_ordered σ members ≡ true) → ((σ : Valuation) → forms.total (forms.values σ members) ≡ sum σ)
      → Lowers vars (compared_sum vars rel (linear_members members (integer_of entries i))).vars C (compared_sum vars rel (linear_members members (integer_of entries i))).cores
      (λ σ. IsTrue (relates rel (sum σ) (number_of (env σ) i)))
  compared-stands rel members i sum below summands few fi li order e =
      let a : OrdInt = integer_of entries i in
      let small = integer_of-small (vars + 1) n ds entries h i fi li in
      let all : List OrdInt = linear_members members a in
      let k : ℤ = constant_of_members all in
      let made : MadeCores = compared_sum vars rel all in
      lowers-same vars made.vars C made.cores (λ σ. IsTrue (relates rel (forms.total (forms.values σ (with_steps all)) +ℤ k) (pos 0))) (λ σ. IsTrue (relates rel (sum σ) (number_of (env σ) i)))
      (λ σ c.
      let same = relates-difference rel (forms.total (forms.values σ (with_steps all)) +ℤ k) (pos 0) (sum σ) (number_of (env σ) i)
      (omega (arith, ints, total-parts σ all, total-last σ members a, e σ, integer_of-value (vars + 1) n ds entries h σ i fi)) in
      (λ p. sym same ∙ p, λ p. same ∙ p))
      (queue-lowers (length (with_steps all) - 2) vars rel k C (with_steps all)
      (record {
        below = below-steps (vars + 1) all (below-last (vars + 1) members a below small.below);
        sound = sound-steps all (summands-last members a summands (small.sound, small.small));
        limit = omega (arith, ints, last-total members a summands (small.sound, small.small) few);
        ordered = λ σ c. ordered-parts σ all (ordered-last σ members a (order σ c) (IsOrdered-integer_of σ entries i c));
      })
      (AreOrdered-depends (vars + 1) ds entries h) (omega arith))

  linear-stands : (rel : Relation) (members : List OrdInt) (i : IntTerm) (sum : Valuation → ℤ)
      → IntsBelow (vars + 1) members → AreSummands members → length members ≤ 16777216
      → NumberFits ds n i → TermInLimit i
      → ((σ : Valuation) → C σ → forms.all_ordered σ members ≡ true) → ((σ : Valuation) → forms.total (forms.values σ members) ≡ sum σ)
      → Lowers vars (linear_made vars rel members (integer_of entries i)).vars C (linear_made vars rel members (integer_of entries i)).cores (λ σ. IsTrue (relates rel (sum σ) (number_of (env σ) i)))
  linear-stands relation.Leq members i sum below summands few fi li order e = compared-stands relation.Leq members i sum below summands few fi li order e
  linear-stands relation.Geq members i sum below summands few fi li order e = compared-stands relation.Geq members i sum below summands few fi li order e
  linear-stands relation.Eq members i sum below summands few fi li order e = sum-stands members i sum below summands few fi li order e
  linear-stands relation.Lt members i sum below summands few fi li order e = compared-stands relation.Lt members i sum below summands few fi li order e
  linear-stands relation.Gt members i sum below summands few fi li order e = compared-stands relation.Gt members i sum below summands few fi li order e
  linear-stands relation.Neq members i sum below summands few fi li order e = compared-stands relation.Neq members i sum below summands few fi li order e

  -- a linear sum of Booleans
  pub truths-stand : (rel : Relation) (cs : List ℤ) (xs : List BoolTerm) (i : IntTerm)
      → AllInLimit cs → TruthsFit ds n xs → length xs ≤ 16777216 → NumberFits ds n i → TermInLimit i
      → Lowers vars (linear_made vars rel (scaled_truths entries cs xs) (integer_of entries i)).vars C (linear_made vars rel (scaled_truths entries cs xs) (integer_of entries i)).cores
      (λ σ. IsTrue (relates rel (weight_of_true cs (truths_of (env σ) xs)) (number_of (env σ) i)))
  truths-stand rel cs xs i ks fs few fi li =
      let bits : List OrdInt = map integer_of_atom (atoms_of entries xs) in
      let small = small-bits (vars + 1) (atoms_of entries xs) (atoms_of-below (vars + 1) n ds entries xs h fs) in
      linear-stands rel (scaled_each cs bits) i (λ σ. weight_of_true cs (truths_of (env σ) xs))
      (below-scaled (vars + 1) cs bits (below-small (vars + 1) bits small)) (summands-scaled cs bits ks (small-each (vars + 1) bits small))
      (omega (arith, length-scaled cs bits, length-map (atoms_of entries xs) integer_of_atom, length-map xs (atom_of entries), few))
      fi li
      (λ σ c. scaled-ordered σ cs bits (ordered-bits σ (atoms_of entries xs)))
      (λ σ. scaled-total σ cs bits ∙ (ap (linear_sum cs) (values-bits σ (atoms_of entries xs) ∙ ap (map as_number) (atoms_of-truths σ (vars + 1) n ds entries xs h fs)) ∙ bits-linear cs (truths_of (env σ) xs)))

  -- `int_array_sum_REL`, `int_array_plus`
  pub sums-stand : (rel : Relation) (is : List IntTerm) (i : IntTerm)
      → NumbersFit ds n is → TermsInLimit is → length is ≤ 16777216 → NumberFits ds n i → TermInLimit i
      → Lowers vars (linear_made vars rel (integers_of entries is) (integer_of entries i)).vars C (linear_made vars rel (integers_of entries is) (integer_of entries i)).cores
      (λ σ. IsTrue (relates rel (total (numbers_of (env σ) is)) (number_of (env σ) i)))
  sums-stand rel is i fs ls few fi li =
      let small = integers_of-small (vars + 1) n ds entries is h fs ls in
      linear-stands rel (integers_of entries is) i (λ σ. total (numbers_of (env σ) is))
      (below-small (vars + 1) (integers_of entries is) small) (summands-small (integers_of entries is) (small-each (vars + 1) (integers_of entries is) small))
      (omega (arith, length-map is (integer_of entries), few))
      fi li
      (λ σ c. ordered-integers_of σ entries is c)
      (λ σ. ap forms.total (integers_of-values (vars + 1) n ds entries h σ is fs) ∙ sym (same_meanings.total (numbers_of (env σ) is)))

  -- a linear sum of integers
  pub multiples-stand : (rel : Relation) (cs : List ℤ) (is : List IntTerm) (i : IntTerm)
      → AllInLimit cs → NumbersFit ds n is → TermsInLimit is → length is ≤ 16777216 → NumberFits ds n i → TermInLimit i
      → Lowers vars (linear_made vars rel (scaled_integers entries cs is) (integer_of entries i)).vars C (linear_made vars rel (scaled_integers entries cs is) (integer_of entries i)).cores
      (λ σ. IsTrue (relates rel (linear_sum cs (numbers_of (env σ) is)) (number_of (env σ) i)))
  multiples-stand rel cs is i ks fs ls few fi li =
      let members : List OrdInt = integers_of entries is in
      let small = integers_of-small (vars + 1) n ds entries is h fs ls in
      linear-stands rel (scaled_each cs members) i (λ σ. linear_sum cs (numbers_of (env σ) is))
      (below-scaled (vars + 1) cs members (below-small (vars + 1) members small)) (summands-scaled cs members ks (small-each (vars + 1) members small))
      (omega (arith, length-scaled cs members, length-map is (integer_of entries), few))
      fi li
      (λ σ c. scaled-ordered σ cs members (ordered-integers_of σ entries is c))
      (λ σ. scaled-total σ cs members ∙ ap (linear_sum cs) (integers_of-values (vars + 1) n ds entries h σ is fs))

  -- the sum
  pub aggregate-sum-stands : (is : List IntTerm) (i : IntTerm)
      → NumbersFit ds n is → TermsInLimit is → length is ≤ 16777216 → NumberFits ds n i → TermInLimit i
      → Lowers vars (linear_made vars relation.Eq (integers_of entries is) (integer_of entries i)).vars C (linear_made vars relation.Eq (integers_of entries is) (integer_of entries i)).cores
      (λ σ. IsTrue (is_aggregate aggregate.Plus (numbers_of (env σ) is) (number_of (env σ) i)))
  aggregate-sum-stands is i fs ls few fi li =
      lowers-same vars vars C (equal_sum (integers_of entries is) (integer_of entries i) ∷ [])
      (λ σ. IsTrue (int_eq (total (numbers_of (env σ) is)) (number_of (env σ) i))) (λ σ. IsTrue (is_aggregate aggregate.Plus (numbers_of (env σ) is) (number_of (env σ) i)))
      (λ σ c.
      let e = equal-turned (total (numbers_of (env σ) is)) (number_of (env σ) i) in
      (λ p. sym e ∙ p, λ p. e ∙ p))
      (sums-stand relation.Eq is i fs ls few fi li)
