-- Clauses put in order are as true as they were, keep their variables' bound, and ascend by variable.
use Rattle.std.proofs.Common.{◌≡◌, ℕ, Bool, true, false, not, ◌||◌, ◌&&◌, cond, List, [], ◌∷◌, ◌⊎◌, inl, inr, Option, None, Some, filter, filter_map, refl, sym, ap, ◌∙◌, subst}
use Rattle.std.specs.List.{cons_option, list_any}
use Rattle.std.specs.Option.{option_and_then}
use Rattle.std.proofs.lemmas.Bool.{cases_Bool, eq-eqb, or_cases, or_from, or_parts, or_left, or_right, true≢false}
use Rattle.order_ints.specs.declared.literal.Lit.{Lit}
use Rattle.order_ints.specs.declared.atom.Atom.{Atom}
use Rattle.order_ints.specs.declared.atom.Atom.TheVariants.{True, False, Of}
use Rattle.order_ints.specs.Truth.{Valuation, lit_truth, atom_truth, not_lit}
use Rattle.order_ints.specs.Satisfies.{clause_truth, clauses_truth}
use Rattle.order_ints.specs.AtomClauses.{atom_clause_truth, atom_clauses_truth}
use Rattle.order_ints.specs.Place.{LitBelow, AtomBelow, ClauseBelow, ClausesBelow, AtomsBelow, AtomClausesBelow}
use Rattle.order_ints.specs.View.{resolve, MeetsView}
use Rattle.order_ints.specs.OrderedClauses.{same_lit, has_lit, has_opposites, place_lit, by_variable, with_atom, resolved_lits, unless_opposites, ordered_clause, same_clause, distinct, ordered_clauses, VarsAscend, ClausesAscend, ClausesDiffer}
use Rattle.order_ints.proofs.Placing.{here, before, after}
use Rattle.order_ints.proofs.LitOrder.{Put, put, key, same_lit-true, same_lit_key, LitsAscend-by_variable}
use Rattle.order_ints.proofs.Opposites.{VarsAscend-from_opposites}
use Rattle.order_ints.proofs.ClauseSteps.{same_clause-decides, is_other}
use Rattle.order_ints.proofs.TruthLaws.{lit_truth-not_lit, atom_truth-resolve}
use Rattle.order_ints.proofs.PlaceLaws.{AtomBelow-resolve}

-- a clause of which a true literal is one is true
clause_truth-has_lit : (σ : Valuation) (l : Lit) (ls : List Lit) → has_lit l ls ≡ true → lit_truth σ l ≡ true → clause_truth σ ls ≡ true
clause_truth-has_lit σ l [] h t = absurd (true≢false (sym h))
clause_truth-has_lit σ l (m ∷ ms) h t = by (or_cases (same_lit l m) (has_lit l ms) h) (λ k. clause_truth-has_lit σ l ms k t)
  where
    by : ((same_lit l m ≡ true) ⊎ (has_lit l ms ≡ true)) → (has_lit l ms ≡ true → clause_truth σ ms ≡ true) → (lit_truth σ m || clause_truth σ ms) ≡ true
    by (inl e) rest = or_left (lit_truth σ m) (clause_truth σ ms) (ap (lit_truth σ) (sym (same_lit-true l m e)) ∙ t)
    by (inr k) rest = or_right (lit_truth σ m) (clause_truth σ ms) (rest k)

-- a clause with a literal and its negation is true
pub clause_truth-opposites : (σ : Valuation) (ls : List Lit) → has_opposites ls ≡ true → clause_truth σ ls ≡ true
clause_truth-opposites σ [] h = absurd (true≢false (sym h))
clause_truth-opposites σ (l ∷ ls) h = by (or_cases (has_lit (not_lit l) ls) (has_opposites ls) h) (cases_Bool (lit_truth σ l)) (clause_truth-opposites σ ls)
  where
    by : ((has_lit (not_lit l) ls ≡ true) ⊎ (has_opposites ls ≡ true)) → ((lit_truth σ l ≡ true) ⊎ (lit_truth σ l ≡ false)) → (has_opposites ls ≡ true → clause_truth σ ls ≡ true) → (lit_truth σ l || clause_truth σ ls) ≡ true
    by k (inl t) rest = or_left (lit_truth σ l) (clause_truth σ ls) t
    by (inr k) (inr f) rest = or_right (lit_truth σ l) (clause_truth σ ls) (rest k)
    by (inl k) (inr f) rest = or_right (lit_truth σ l) (clause_truth σ ls) (clause_truth-has_lit σ (not_lit l) ls k (lit_truth-not_lit σ l ∙ ap not f))

clause_truth-place_lit : (σ : Valuation) (l : Lit) (ms : List Lit) → clause_truth σ (place_lit l ms) ≡ (lit_truth σ l || clause_truth σ ms)
clause_truth-place_lit σ l [] = refl
clause_truth-place_lit σ l (m ∷ ms) = by (put l m ms) (clause_truth-place_lit σ l ms)
  where
    twice : (a b c : Bool) → b ≡ a → (b || c) ≡ (a || (b || c))
    twice true true c e = refl
    twice false false c e = refl
    twice true false c e = absurd (true≢false (sym e))
    twice false true c e = refl

    swap : (a b c : Bool) → (b || (a || c)) ≡ (a || (b || c))
    swap true true c = refl
    swap true false c = refl
    swap false true c = refl
    swap false false c = refl

    by : Put l m ms → clause_truth σ (place_lit l ms) ≡ (lit_truth σ l || clause_truth σ ms) → clause_truth σ (place_lit l (m ∷ ms)) ≡ (lit_truth σ l || clause_truth σ (m ∷ ms))
    by (here e p) r = ap (clause_truth σ) p ∙ twice (lit_truth σ l) (lit_truth σ m) (clause_truth σ ms) (ap (lit_truth σ) (sym (same_lit-true l m (same_lit_key l m ∙ eq-eqb (key l) (key m) e))))
    by (before e p) r = ap (clause_truth σ) p
    by (after e p) r = ap (clause_truth σ) p ∙ ap (λ b. lit_truth σ m || b) r ∙ swap (lit_truth σ l) (lit_truth σ m) (clause_truth σ ms)

pub clause_truth-by_variable : (σ : Valuation) (ls : List Lit) → clause_truth σ (by_variable ls) ≡ clause_truth σ ls
clause_truth-by_variable σ [] = refl
clause_truth-by_variable σ (l ∷ ls) = clause_truth-place_lit σ l (by_variable ls) ∙ ap (λ b. lit_truth σ l || b) (clause_truth-by_variable σ ls)

-- what is left out is true
abbrev pub kept_truth : Valuation → Option (List Lit) → Bool
kept_truth σ None = true
kept_truth σ (Some c) = clause_truth σ c

kept_truth-with_atom : (σ : Valuation) (a : Atom) (o : Option (List Lit)) → kept_truth σ (with_atom a o) ≡ (atom_truth σ a || kept_truth σ o)
kept_truth-with_atom σ True o = refl
kept_truth-with_atom σ False o = refl
kept_truth-with_atom σ (Of l) (Some ls) = refl
kept_truth-with_atom σ (Of l) None = by (lit_truth σ l)
  where
    by : (b : Bool) → true ≡ (b || true)
    by true = refl
    by false = refl

kept_truth-unless_opposites : (σ : Valuation) (ls : List Lit) → kept_truth σ (unless_opposites ls) ≡ clause_truth σ ls
kept_truth-unless_opposites σ ls = by (has_opposites ls) refl
  where
    by : (b : Bool) → has_opposites ls ≡ b → kept_truth σ (cond b None (Some ls)) ≡ clause_truth σ ls
    by true e = sym (clause_truth-opposites σ ls e)
    by false e = refl

kept_truth-ordered : (σ : Valuation) (o : Option (List Lit)) → kept_truth σ (option_and_then (λ ls. unless_opposites (by_variable ls)) o) ≡ kept_truth σ o
kept_truth-ordered σ None = refl
kept_truth-ordered σ (Some ls) = kept_truth-unless_opposites σ (by_variable ls) ∙ clause_truth-by_variable σ ls

clauses_truth-cons_option : (σ : Valuation) (o : Option (List Lit)) (cs : List (List Lit)) → clauses_truth σ (cons_option o cs) ≡ (kept_truth σ o && clauses_truth σ cs)
clauses_truth-cons_option σ None cs = refl
clauses_truth-cons_option σ (Some c) cs = refl

-- a true clause may be left out
clauses_truth-other : (σ : Valuation) (c : List Lit) (ds : List (List Lit)) → clause_truth σ c ≡ true → clauses_truth σ (filter (is_other c) ds) ≡ clauses_truth σ ds
clauses_truth-other σ c [] t = refl
clauses_truth-other σ c (d ∷ ds) t = by (same_clause d c) refl (clauses_truth-other σ c ds t)
  where
    by : (b : Bool) → same_clause d c ≡ b → clauses_truth σ (filter (is_other c) ds) ≡ clauses_truth σ ds → clauses_truth σ (cond (not b) (d ∷ filter (is_other c) ds) (filter (is_other c) ds)) ≡ (clause_truth σ d && clauses_truth σ ds)
    by false e r = ap (λ b. clause_truth σ d && b) r
    by true e r = r ∙ sym (ap (λ b. b && clauses_truth σ ds) (ap (clause_truth σ) ((same_clause-decides d c).0 e) ∙ t))

pub clauses_truth-distinct : (σ : Valuation) (cs : List (List Lit)) → clauses_truth σ (distinct cs) ≡ clauses_truth σ cs
clauses_truth-distinct σ [] = refl
clauses_truth-distinct σ (c ∷ cs) = by (clause_truth σ c) refl (clauses_truth-distinct σ cs)
  where
    by : (b : Bool) → clause_truth σ c ≡ b → clauses_truth σ (distinct cs) ≡ clauses_truth σ cs → (b && clauses_truth σ (filter (is_other c) (distinct cs))) ≡ (b && clauses_truth σ cs)
    by true e r = clauses_truth-other σ c (distinct cs) e ∙ r
    by false e r = refl

module _ (σ : Valuation) (view : List Atom) (n : ℕ) (meets : MeetsView σ view) where
  kept_truth-resolved_lits : (c : List Atom) → AtomsBelow n c → kept_truth σ (resolved_lits view c) ≡ atom_clause_truth σ c
  kept_truth-resolved_lits [] h = refl
  kept_truth-resolved_lits (a ∷ atoms) h =
      kept_truth-with_atom σ (resolve view a) (resolved_lits view atoms) ∙ ap (λ b. b || kept_truth σ (resolved_lits view atoms)) (atom_truth-resolve σ view n meets a h.0) ∙ ap (λ b. atom_truth σ a || b) (kept_truth-resolved_lits atoms h.1)

  -- a clause put in order is as true as it was, and true where it is left out
  pub kept_truth-ordered_clause : (c : List Atom) → AtomsBelow n c → kept_truth σ (ordered_clause view c) ≡ atom_clause_truth σ c
  kept_truth-ordered_clause c h = kept_truth-ordered σ (resolved_lits view c) ∙ kept_truth-resolved_lits c h

  clauses_truth-filter_map : (cs : List (List Atom)) → AtomClausesBelow n cs → clauses_truth σ (filter_map (ordered_clause view) cs) ≡ atom_clauses_truth σ cs
  clauses_truth-filter_map [] h = refl
  clauses_truth-filter_map (c ∷ cs) h =
      clauses_truth-cons_option σ (ordered_clause view c) (filter_map (ordered_clause view) cs) ∙ ap (λ b. b && clauses_truth σ (filter_map (ordered_clause view) cs)) (kept_truth-ordered_clause c h.0) ∙ ap (λ b. atom_clause_truth σ c && b) (clauses_truth-filter_map cs h.1)

  -- clauses put in order are as true as they were
  pub clauses_truth-ordered_clauses : (cs : List (List Atom)) → AtomClausesBelow n cs → clauses_truth σ (ordered_clauses view cs) ≡ atom_clauses_truth σ cs
  clauses_truth-ordered_clauses cs h = clauses_truth-distinct σ (filter_map (ordered_clause view) cs) ∙ clauses_truth-filter_map cs h

-- what holds of a clause that is kept
abbrev pub IfKept : Option (List Lit) → (List Lit → Type 0) → Type 0
IfKept None P = Unit {0}
IfKept (Some c) P = P c

module _ (n : ℕ) where
  ClauseBelow-place_lit : (l : Lit) (ms : List Lit) → LitBelow n l → ClauseBelow n ms → ClauseBelow n (place_lit l ms)
  ClauseBelow-place_lit l [] h k = (h, tt)
  ClauseBelow-place_lit l (m ∷ ms) h k = by (put l m ms) (ClauseBelow-place_lit l ms h k.1)
    where
      by : Put l m ms → ClauseBelow n (place_lit l ms) → ClauseBelow n (place_lit l (m ∷ ms))
      by (here e p) r = subst (ClauseBelow n) (sym p) k
      by (before e p) r = subst (ClauseBelow n) (sym p) (h, k)
      by (after e p) r = subst (ClauseBelow n) (sym p) (k.0, r)

  ClauseBelow-by_variable : (ls : List Lit) → ClauseBelow n ls → ClauseBelow n (by_variable ls)
  ClauseBelow-by_variable [] h = tt
  ClauseBelow-by_variable (l ∷ ls) h = ClauseBelow-place_lit l (by_variable ls) h.0 (ClauseBelow-by_variable ls h.1)

  kept_below-with_atom : (a : Atom) (o : Option (List Lit)) → AtomBelow n a → IfKept o (ClauseBelow n) → IfKept (with_atom a o) (ClauseBelow n)
  kept_below-with_atom True o h k = tt
  kept_below-with_atom False o h k = k
  kept_below-with_atom (Of l) None h k = tt
  kept_below-with_atom (Of l) (Some ls) h k = (h, k)

  kept_below-ordered : (o : Option (List Lit)) → IfKept o (ClauseBelow n) → IfKept (option_and_then (λ ls. unless_opposites (by_variable ls)) o) (ClauseBelow n)
  kept_below-ordered None k = tt
  kept_below-ordered (Some ls) k = by (has_opposites (by_variable ls))
    where
      by : (b : Bool) → IfKept (cond b None (Some (by_variable ls))) (ClauseBelow n)
      by true = tt
      by false = ClauseBelow-by_variable ls k

  kept_below-resolved_lits : (view : List Atom) → AtomsBelow n view → (c : List Atom) → AtomsBelow n c → IfKept (resolved_lits view c) (ClauseBelow n)
  kept_below-resolved_lits view v [] h = tt
  kept_below-resolved_lits view v (a ∷ atoms) h = kept_below-with_atom (resolve view a) (resolved_lits view atoms) (AtomBelow-resolve n view v a h.0) (kept_below-resolved_lits view v atoms h.1)

  ClausesBelow-cons_option : (o : Option (List Lit)) (cs : List (List Lit)) → IfKept o (ClauseBelow n) → ClausesBelow n cs → ClausesBelow n (cons_option o cs)
  ClausesBelow-cons_option None cs h k = k
  ClausesBelow-cons_option (Some c) cs h k = (h, k)

  ClausesBelow-filter : (p : List Lit → Bool) (cs : List (List Lit)) → ClausesBelow n cs → ClausesBelow n (filter p cs)
  ClausesBelow-filter p [] h = tt
  ClausesBelow-filter p (c ∷ cs) h = by (p c) (ClausesBelow-filter p cs h.1)
    where
      by : (b : Bool) → ClausesBelow n (filter p cs) → ClausesBelow n (cond b (c ∷ filter p cs) (filter p cs))
      by true r = (h.0, r)
      by false r = r

  pub ClausesBelow-distinct : (cs : List (List Lit)) → ClausesBelow n cs → ClausesBelow n (distinct cs)
  ClausesBelow-distinct [] h = tt
  ClausesBelow-distinct (c ∷ cs) h = (h.0, ClausesBelow-filter (is_other c) (distinct cs) (ClausesBelow-distinct cs h.1))

  ClausesBelow-filter_map : (view : List Atom) → AtomsBelow n view → (cs : List (List Atom)) → AtomClausesBelow n cs → ClausesBelow n (filter_map (ordered_clause view) cs)
  ClausesBelow-filter_map view v [] h = tt
  ClausesBelow-filter_map view v (c ∷ cs) h =
      ClausesBelow-cons_option (ordered_clause view c) (filter_map (ordered_clause view) cs) (kept_below-ordered (resolved_lits view c) (kept_below-resolved_lits view v c h.0)) (ClausesBelow-filter_map view v cs h.1)

  -- where the atoms of the view and of the clauses are below n, the clauses put in order are
  pub ClausesBelow-ordered_clauses : (view : List Atom) → AtomsBelow n view → (cs : List (List Atom)) → AtomClausesBelow n cs → ClausesBelow n (ordered_clauses view cs)
  ClausesBelow-ordered_clauses view v cs h = ClausesBelow-distinct (filter_map (ordered_clause view) cs) (ClausesBelow-filter_map view v cs h)

kept_ascends : (o : Option (List Lit)) → IfKept (option_and_then (λ ls. unless_opposites (by_variable ls)) o) VarsAscend
kept_ascends None = tt
kept_ascends (Some ls) = by (has_opposites (by_variable ls)) refl
  where
    by : (b : Bool) → has_opposites (by_variable ls) ≡ b → IfKept (cond b None (Some (by_variable ls))) VarsAscend
    by true e = tt
    by false e = VarsAscend-from_opposites (by_variable ls) (LitsAscend-by_variable ls) e

ClausesAscend-cons_option : (o : Option (List Lit)) (cs : List (List Lit)) → IfKept o VarsAscend → ClausesAscend cs → ClausesAscend (cons_option o cs)
ClausesAscend-cons_option None cs h k = k
ClausesAscend-cons_option (Some c) cs h k = (h, k)

ClausesAscend-filter : (p : List Lit → Bool) (cs : List (List Lit)) → ClausesAscend cs → ClausesAscend (filter p cs)
ClausesAscend-filter p [] h = tt
ClausesAscend-filter p (c ∷ cs) h = by (p c) (ClausesAscend-filter p cs h.1)
  where
    by : (b : Bool) → ClausesAscend (filter p cs) → ClausesAscend (cond b (c ∷ filter p cs) (filter p cs))
    by true r = (h.0, r)
    by false r = r

ClausesAscend-distinct : (cs : List (List Lit)) → ClausesAscend cs → ClausesAscend (distinct cs)
ClausesAscend-distinct [] h = tt
ClausesAscend-distinct (c ∷ cs) h = (h.0, ClausesAscend-filter (is_other c) (distinct cs) (ClausesAscend-distinct cs h.1))

ClausesAscend-filter_map : (view : List Atom) (cs : List (List Atom)) → ClausesAscend (filter_map (ordered_clause view) cs)
ClausesAscend-filter_map view [] = tt
ClausesAscend-filter_map view (c ∷ cs) =
    ClausesAscend-cons_option (ordered_clause view c) (filter_map (ordered_clause view) cs) (kept_ascends (resolved_lits view c)) (ClausesAscend-filter_map view cs)

-- the literals of each clause put in order ascend by variable
pub ClausesAscend-ordered_clauses : (view : List Atom) (cs : List (List Atom)) → ClausesAscend (ordered_clauses view cs)
ClausesAscend-ordered_clauses view cs = ClausesAscend-distinct (filter_map (ordered_clause view) cs) (ClausesAscend-filter_map view cs)

-- what was left out of a list is not in it
none_same : (c : List Lit) (ds : List (List Lit)) → list_any (λ d. same_clause d c) (filter (is_other c) ds) ≡ false
none_same c [] = refl
none_same c (d ∷ ds) = by (same_clause d c) refl (none_same c ds)
  where
    by : (b : Bool) → same_clause d c ≡ b → list_any (λ x. same_clause x c) (filter (is_other c) ds) ≡ false → list_any (λ x. same_clause x c) (cond (not b) (d ∷ filter (is_other c) ds) (filter (is_other c) ds)) ≡ false
    by true e r = r
    by false e r = or_from (same_clause d c) (list_any (λ x. same_clause x c) (filter (is_other c) ds)) e r

none_same-filter : (c : List Lit) (p : List Lit → Bool) (ds : List (List Lit)) → list_any (λ d. same_clause d c) ds ≡ false → list_any (λ d. same_clause d c) (filter p ds) ≡ false
none_same-filter c p [] h = refl
none_same-filter c p (d ∷ ds) h = by (p d) (none_same-filter c p ds (or_parts (same_clause d c) (list_any (λ x. same_clause x c) ds) h).1)
  where
    by : (b : Bool) → list_any (λ x. same_clause x c) (filter p ds) ≡ false → list_any (λ x. same_clause x c) (cond b (d ∷ filter p ds) (filter p ds)) ≡ false
    by true r = or_from (same_clause d c) (list_any (λ x. same_clause x c) (filter p ds)) (or_parts (same_clause d c) (list_any (λ x. same_clause x c) ds) h).0 r
    by false r = r

ClausesDiffer-filter : (p : List Lit → Bool) (cs : List (List Lit)) → ClausesDiffer cs → ClausesDiffer (filter p cs)
ClausesDiffer-filter p [] h = tt
ClausesDiffer-filter p (c ∷ cs) h = by (p c) (ClausesDiffer-filter p cs h.1)
  where
    by : (b : Bool) → ClausesDiffer (filter p cs) → ClausesDiffer (cond b (c ∷ filter p cs) (filter p cs))
    by true r = (none_same-filter c p cs h.0, r)
    by false r = r

ClausesDiffer-distinct : (cs : List (List Lit)) → ClausesDiffer (distinct cs)
ClausesDiffer-distinct [] = tt
ClausesDiffer-distinct (c ∷ cs) = (none_same c (distinct cs), ClausesDiffer-filter (is_other c) (distinct cs) (ClausesDiffer-distinct cs))

-- no two clauses put in order are the same
pub ClausesDiffer-ordered_clauses : (view : List Atom) (cs : List (List Atom)) → ClausesDiffer (ordered_clauses view cs)
ClausesDiffer-ordered_clauses view cs = ClausesDiffer-distinct (filter_map (ordered_clause view) cs)
