-- Clauses that are shown are implied, and more clauses show them, too.
use Rattle.std.proofs.Common.{◌≡◌, Bool, true, false, not, ◌||◌, List, [], ◌∷◌, refl, sym, ap, ◌∙◌, ⊎_elim}
use Rattle.std.specs.Prelude.{Contains, ◌≢◌, if◌then◌else◌}
use Rattle.std.proofs.lemmas.Bool.{or_parts, and_parts, false≢true, cases_Bool}
use Rattle.order_ints.specs.declared.literal.Lit.{Lit}
use Rattle.order_ints.specs.Truth.{Valuation, lit_truth, not_lit}
use Rattle.order_ints.specs.Satisfies.{clause_truth, clauses_truth}
use Rattle.drup_check.specs.Rup.{Derived, denied, unit, Rup, falsified, opposed}
use Rattle.drup_check.specs.Laws.{ShownIsImplied, NoneWhereEmptyIsShown, ShownByMore}
use Rattle.drup_check.proofs.Members.{member-cases, member-first, member-more, no-member, lit-cases}

-- a clause that isn't true has no true literal
none-true : (σ : Valuation) (ls : List Lit) → clause_truth σ ls ≡ false → (l : Lit) → Contains ls l → lit_truth σ l ≡ false
none-true σ [] e l has = absurd (no-member l has)
none-true σ (m ∷ ls) e l has =
    let both = or_parts (lit_truth σ m) (clause_truth σ ls) e in
    ⊎_elim
    (λ (same : m ≡ l). ap (λ (x : Lit). lit_truth σ x) (sym same) ∙ both.0)
    (λ (there : Contains ls l). none-true σ ls both.1 l there)
    (member-cases m ls l has)

-- a clause is true where it has a true literal, and each literal is false or not
true-or-none : (σ : Valuation) (ls : List Lit) → clause_truth σ ls ≡ true → ((l : Lit) → Contains ls l → lit_truth σ l ≡ false) → ⊥
true-or-none σ [] e all = false≢true e
true-or-none σ (m ∷ ls) e all =
    true-or-none σ ls (ap (λ b. b || clause_truth σ ls) (sym (all m (member-first m ls))) ∙ e) (λ l has. all l (member-more m ls l has))

each-clause : (σ : Valuation) (cs : List (List Lit)) → clauses_truth σ cs ≡ true → (d : List Lit) → Contains cs d → clause_truth σ d ≡ true
each-clause σ [] e d has = absurd (no-member d has)
each-clause σ (c ∷ cs) e d has =
    let both = and_parts (clause_truth σ c) (clauses_truth σ cs) e in
    ⊎_elim
    (λ (same : c ≡ d). ap (λ (x : List Lit). clause_truth σ x) (sym same) ∙ both.0)
    (λ (there : Contains cs d). each-clause σ cs both.1 d there)
    (member-cases c cs d has)

by-sign : (b p : Bool) → (if p then b else not b) ≡ false → (if not p then b else not b) ≡ true
by-sign true true e = absurd (false≢true (sym e))
by-sign true false e = refl
by-sign false true e = refl
by-sign false false e = absurd (false≢true (sym e))

back-sign : (b p : Bool) → (if not p then b else not b) ≡ true → (if p then b else not b) ≡ false
back-sign true true e = absurd (false≢true e)
back-sign true false e = refl
back-sign false true e = refl
back-sign false false e = absurd (false≢true e)

negation-true : (σ : Valuation) (l : Lit) → lit_truth σ l ≡ false → lit_truth σ (not_lit l) ≡ true
negation-true σ l e = by-sign (σ l.var) l.positive e

negated-false : (σ : Valuation) (l : Lit) → lit_truth σ (not_lit l) ≡ true → lit_truth σ l ≡ false
negated-false σ l e = back-sign (σ l.var) l.positive e

-- a literal of a true clause is true where the others are false
last-true : (σ : Valuation) (d : List Lit) (m : Lit) → clause_truth σ d ≡ true → ((k : Lit) → Contains d k → k ≢ m → lit_truth σ k ≡ false) → lit_truth σ m ≡ true
last-true σ d m holds each =
    ⊎_elim
    (λ (is_so : lit_truth σ m ≡ true). is_so)
    (λ (not_so : lit_truth σ m ≡ false). absurd (true-or-none σ d holds (λ k has.
    ⊎_elim
    (λ (same : k ≡ m). ap (λ (x : Lit). lit_truth σ x) same ∙ not_so)
    (λ (other : k ≢ m). each k has other)
    (lit-cases k m))))
    (cases_Bool (lit_truth σ m))

module _ (σ : Valuation) (cs : List (List Lit)) (c : List Lit) (all : clauses_truth σ cs ≡ true) (fails : clause_truth σ c ≡ false) where
  derived-true : (l : Lit) → Derived cs c l → lit_truth σ l ≡ true
  derived-true l (denied k has) = negation-true σ k (none-true σ c fails k has)
  derived-true l (unit d m in_cs in_d rest) =
      let each : (k : Lit) → Contains d k → k ≢ m → lit_truth σ k ≡ false = λ k has other. negated-false σ k (derived-true (not_lit k) (rest k has other)) in
      last-true σ d m (each-clause σ cs all d in_cs) each

  shown-fails : Rup cs c → ⊥
  shown-fails (falsified d in_cs rest) = true-or-none σ d (each-clause σ cs all d in_cs) (λ k has. negated-false σ k (derived-true (not_lit k) (rest k has)))
  shown-fails (opposed l one other) = false≢true (sym (negated-false σ l (derived-true (not_lit l) other)) ∙ derived-true l one)

pub shown_is_implied : ShownIsImplied
shown_is_implied cs c shown σ all =
    ⊎_elim
    (λ (holds : clause_truth σ c ≡ true). holds)
    (λ (fails : clause_truth σ c ≡ false). absurd (shown-fails σ cs c all fails shown))
    (cases_Bool (clause_truth σ c))

pub none_where_empty : NoneWhereEmptyIsShown
none_where_empty cs shown σ all = false≢true (shown_is_implied cs [] shown σ all)

module _ (cs ds : List (List Lit)) (c d : List Lit) (more : (x : List Lit) → Contains cs x → Contains ds x) (wider : (l : Lit) → Contains c l → Contains d l) where
  derived-more : (l : Lit) → Derived cs c l → Derived ds d l
  derived-more l (denied k has) = denied k (wider k has)
  derived-more l (unit x m in_cs in_x rest) = unit x m (more x in_cs) in_x (λ k has other. derived-more (not_lit k) (rest k has other))

  rup-more : Rup cs c → Rup ds d
  rup-more (falsified x in_cs rest) = falsified x (more x in_cs) (λ k has. derived-more (not_lit k) (rest k has))
  rup-more (opposed l one other) = opposed l (derived-more l one) (derived-more (not_lit l) other)

pub shown_by_more : ShownByMore
shown_by_more cs ds c d more wider shown = rup-more cs ds c d more wider shown
