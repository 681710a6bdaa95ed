-- Where every variable has a value and no live clause is false, the values satisfy the CNF.
use Rattle.std.proofs.Common.{◌≡◌, ℕ, ◌+◌, Bool, true, false, not, List, [], ◌∷◌, Option, Some, None, refl, ap, sym, ◌∙◌, subst, arith, ⊎_elim}
use Rattle.std.specs.Prelude.{Contains, option_map, if◌then◌else◌}
use Rattle.std.proofs.lemmas.Bool.{cases_Bool, or_parts, and_from}
use Rattle.std.proofs.lemmas.List.Sorted.{Contains-permutation, IsPermutation-sym}
use Rattle.order_ints.specs.declared.literal.Lit.{Lit}
use Rattle.order_ints.specs.declared.cnf.Cnf.{Cnf}
use Rattle.order_ints.specs.Place.{LitBelow}
use Rattle.order_ints.specs.Truth.{Valuation, valuation_of, lit_truth}
use Rattle.order_ints.specs.Satisfies.{clause_truth, clauses_truth}
use Rattle.literal_trail.specs.declared.entry.Entry.{Entry}
use Rattle.literal_trail.specs.Trail.{Trail, value_in, truth_in}
use Rattle.literal_trail.proofs.Entries.{by_entry, entry_of-found, truth_in-none}
use Rattle.clause_arena.specs.Clauses.{Clause, lits_of}
use Rattle.clause_rings.specs.Clauses.{IsDb, IsComplete}
use Rattle.proof_check.specs.Named.{Named, numbered, Lives}
use Rattle.learning_solver.specs.Kept.{IsKept}
use Rattle.learning_solver.specs.Order.{AllGiven}
use Rattle.learning_solver.specs.Outcome.{Holds}
use Rattle.learning_solver.specs.Deciding.{AreValues, IsTrueIn}
use Rattle.learning_solver.proofs.NamedLaws.{at-first, at-others, numbered-range}
use Rattle.learning_solver.proofs.ReasonLaws.{member-cases}

-- each clause of a list is true where each named one is
each-true : (σ : Valuation) (n : ℕ) (cs : List (List Lit)) → ((d : Named) → Lives (numbered n cs) d → clause_truth σ d.lits ≡ true) → clauses_truth σ cs ≡ true
each-true σ n [] each = refl
each-true σ n (c ∷ cs) each =
    let first : Named = record { id = n; lits = c } in
    and_from (clause_truth σ c) (clauses_truth σ cs) (each first (at-first first (numbered (n + 1) cs) n refl))
    (each-true σ (n + 1) cs (λ d lives.
    let range = numbered-range (n + 1) cs d.id d.lits lives in
    each d (at-others first (numbered (n + 1) cs) d.id (λ e. omega (arith, range.0, e)) ∙ lives)))

-- a clause that isn't true has no true literal
none-true : (σ : Valuation) (ls : List Lit) → clause_truth σ ls ≡ false → (l : Lit) → Contains ls l → lit_truth σ l ≡ false
none-true σ [] e l has = absurd (omega (arith, has.1))
none-true σ (m ∷ ls) e l has =
    let both = or_parts (lit_truth σ m) (clause_truth σ ls) e in
    ⊎_elim
    (λ (same : m ≡ l). ap (λ (x : Lit). lit_truth σ x) (sym same) ∙ both.0)
    (λ (there : Contains ls l). none-true σ ls both.1 l there)
    (member-cases m ls l has)

module _ (t : Trail) (cs : List Clause) (is : IsDb cs t) (complete : IsComplete t.entries cs) (given : AllGiven t) (values : List Bool) (are : AreValues t values) where
  -- a literal that is not true under the values is false on the trail
  false-there : (l : Lit) → LitBelow (t.vars + 1) l → lit_truth (valuation_of values) l ≡ false → truth_in t.entries l ≡ Some false
  false-there l range fails =
      by_entry t.entries l.var
      (λ none. absurd (given l.var range.0 (omega (arith, range.1)) none))
      (λ e found.
      let b = e.lit.positive in
      let value : value_in t.entries l.var ≡ Some b = ap (λ (o : Option Entry). option_map (λ (x : Entry). x.lit.positive) o) found in
      let same = are.each l.var b range.0 (omega (arith, range.1)) value in
      let here : lit_truth (valuation_of values) l ≡ (if l.positive then b else not b) = ap (λ (x : Bool). if l.positive then x else not x) same in
      ap (λ (o : Option Bool). option_map (λ (x : Bool). if l.positive then x else not x) o) value ∙ ap (λ (x : Bool). Some x) (sym here ∙ fails))

  stored-true : (live : List Named) → IsKept live cs → (d : Named) → Lives live d → clause_truth (valuation_of values) d.lits ≡ true
  stored-true live kept d lives =
      ⊎_elim
      (λ (holds : clause_truth (valuation_of values) d.lits ≡ true). holds)
      (λ (fails : clause_truth (valuation_of values) d.lits ≡ false).
      let st = kept.stored d lives in
      let ls = lits_of cs st.0 in
      absurd ((complete st.0 st.1.live).not_false (λ l has.
      false-there l (is.in_range st.0 st.1.live l has)
      (none-true (valuation_of values) d.lits fails l (Contains-permutation ls d.lits l (IsPermutation-sym d.lits ls st.1.lits) has)))))
      (cases_Bool (clause_truth (valuation_of values) d.lits))

  pub satisfied : (cnf : Cnf) (live : List Named) → IsKept live cs → ((d : Named) → Lives (numbered 1 cnf.clauses) d → Lives live d) → clauses_truth (valuation_of values) cnf.clauses ≡ true
  satisfied cnf live kept lives = each-true (valuation_of values) 1 cnf.clauses (λ d there. stored-true live kept d (lives d there))

  pub holds-there : (a : Option Lit) → IsTrueIn t a → Holds (valuation_of values) a
  holds-there None true_in = tt
  holds-there (Some l) true_in =
      by_entry t.entries l.var
      (λ none. let e : None ≡ Some true = sym (truth_in-none t.entries l none) ∙ true_in in cc)
      (λ e found.
      let f = entry_of-found t.entries l.var e found in
      let P : Entry → Type 0 = λ x. LitBelow (t.vars + 1) x.lit in
      let range = subst P f.is (is.trail.inside f.place f.below) in
      let b = e.lit.positive in
      let value : value_in t.entries l.var ≡ Some b = ap (λ (o : Option Entry). option_map (λ (x : Entry). x.lit.positive) o) found in
      let same = are.each l.var b (omega (arith, range.0, f.var)) (omega (arith, range.1, f.var)) value in
      let here : Some (if l.positive then b else not b) ≡ Some true
      = sym (ap (λ (o : Option Bool). option_map (λ (x : Bool). if l.positive then x else not x) o) value) ∙ true_in in
      let inner : (if l.positive then b else not b) ≡ true = cc in
      ap (λ (x : Bool). if l.positive then x else not x) same ∙ inner)
