-- Where a search stops early, no clause of the CNF or of the log refutes.
use Rattle.std.proofs.Common.{◌≡◌, ◌≢◌, ℕ, ◌≤◌, ◌<◌, Bool, true, false, not, List, [], ◌∷◌, ◌++◌, length, Option, Some, None, refl, ap, sym, ◌∙◌, subst, arith, ⊎_elim, inl, inr}
use Rattle.std.specs.Prelude.{Contains, option_map, if◌then◌else◌, ◌||◌, IfSome}
use Rattle.std.specs.List.{list_any}
use Rattle.std.proofs.lemmas.Bool.{cases_Bool, cases_lt, and_parts}
use Rattle.std.proofs.lemmas.List.Sorted.{IsPermutation-sym}
use Rattle.order_ints.specs.declared.literal.Lit.{Lit}
use Rattle.order_ints.specs.declared.cnf.Cnf.{Cnf}
use Rattle.order_ints.specs.Truth.{not_lit}
use Rattle.literal_trail.specs.declared.entry.Entry.{Entry}
use Rattle.literal_trail.specs.Trail.{Trail, truth_in, value_in, up_to}
use Rattle.literal_trail.specs.Standing.{IsFalse, IsQuiet}
use Rattle.literal_trail.proofs.Entries.{truth_in-stays}
use Rattle.literal_trail.proofs.Levels.{up_to-kept, up_to-cut}
use Rattle.clause_arena.specs.Clauses.{Clause, IsLive, lits_of}
use Rattle.clause_rings.specs.Clauses.{IsDb, IsApart, IsComplete}
use Rattle.proof_check.specs.declared.line.ProofLine.{ProofLine}
use Rattle.proof_check.specs.Named.{Named, clause_at}
use Rattle.proof_check.specs.New.{lies_within}
use Rattle.proof_check.specs.Known.{same_literals, all_clauses, known}
use Rattle.proof_check.specs.Lines.{Each}
use Rattle.learning_solver.specs.Log.{proof_behind, StaysKnown, IsLog}
use Rattle.learning_solver.specs.Kept.{IsKept}
use Rattle.learning_solver.specs.Outcome.{Refutes, NoneRefutes}
use Rattle.learning_solver.specs.Ending.{last_lits, NoneStands, IsDenied, IsNamedBy, IsRefuting}
use Rattle.learning_solver.specs.Searching.{IsAssumed}
use Rattle.learning_solver.proofs.EndLaws.{no-member, perm-last, within-one, one-at-most}
use Rattle.learning_solver.proofs.ReasonLaws.{member-first, member-cases}

-- no live clause refutes, by its two cases
pub none-stands : (cs : List Clause) (assumption : Option Lit) → ((c : ℕ) → IsLive cs c → lits_of cs c ≢ []) → ((a : Lit) → assumption ≡ Some a → (c : ℕ) → IsLive cs c → lits_of cs c ≢ not_lit a ∷ []) → NoneStands cs assumption
none-stands cs assumption empty denied None refutes c live = empty c live
none-stands cs None empty denied (Some l) refutes c live = cc
none-stands cs (Some a) empty denied (Some l) refutes c live =
    ⊎_elim
    (λ (e : l ∷ [] ≡ []). cc)
    (λ (e : l ∷ [] ≡ not_lit a ∷ []). λ same. denied a refl c live (same ∙ e))
    refutes

-- the clause of the negated assumption alone
pub refuting-denied : (cs : List Clause) (assumption : Option Lit) (a m : Lit) → assumption ≡ Some a → m.var ≡ a.var → m.positive ≡ not a.positive → (found : Option ℕ) → IfSome found (IsNamedBy cs (last_lits (Some m))) → IfSome found (IsRefuting cs assumption)
refuting-denied cs assumption a m is vars phases None named = tt
refuting-denied cs assumption a m is vars phases (Some id) named =
    let same : m ≡ not_lit a = λ i. record { var = vars i; positive = phases i } in
    let P : Option Lit → Type 0 = λ o. Refutes o (m ∷ []) in
    let one : m ∷ [] ≡ not_lit a ∷ [] = ap (λ (l : Lit). l ∷ []) same in
    let here : Refutes (Some a) (m ∷ []) = inr one in
    record { last = Some m; refutes = subst P (sym is) here; named = named }

-- a clause of the same literals, no variable twice, is the last one itself
empty-same : (x : List Lit) → lies_within x [] ≡ true → x ≡ []
empty-same [] e = refl
empty-same (l ∷ x) e = cc

same-last : (last : Option Lit) (x : List Lit) → IsApart x → same_literals (last_lits last) x ≡ true → x ≡ last_lits last
same-last None x apart e = empty-same x (and_parts (lies_within [] x) (lies_within x []) e).1
same-last (Some l) x apart e =
    let both = and_parts (lies_within (l ∷ []) x) (lies_within x (l ∷ [])) e in
    ⊎_elim
    (λ (empty : x ≡ []). let fails : lies_within (l ∷ []) [] ≡ true = sym (ap (λ (y : List Lit). lies_within (l ∷ []) y) empty) ∙ both.0 in absurd (never fails))
    (λ (one : x ≡ l ∷ []). one)
    (one-at-most l x (within-one l x both.1) apart)
  where
    never : false ≡ true → ⊥
    never e = cc

short-last : (last : Option Lit) → length (last_lits last) ≤ 1
short-last None = omega arith
short-last (Some l) = omega arith

either : (a b : Bool) → a ≡ false → b ≡ false → (a || b) ≡ false
either a b first second = ap (λ (t : Bool). t || b) first ∙ second

none-any : (live : List Named) (last : Option Lit) → ((id : ℕ) → clause_at live id ≢ Some (last_lits last)) → (xs : List (List Lit)) → Each (StaysKnown live) xs → list_any (same_literals (last_lits last)) xs ≡ false
none-any live last none [] each = refl
none-any live last none (x ∷ xs) each =
    either (same_literals (last_lits last) x) (list_any (same_literals (last_lits last)) xs)
    (⊎_elim
    (λ (holds : same_literals (last_lits last) x ≡ true).
    let is = same-last last x each.0.apart holds in
    let few : length x ≤ 1 = omega (arith, short-last last, ap (λ (l : List Lit). length l) is) in
    let w = each.0.lives few in
    absurd (none w.0 (w.1 ∙ ap (λ (l : List Lit). Some l) is)))
    (λ (fails : same_literals (last_lits last) x ≡ false). fails)
    (cases_Bool (same_literals (last_lits last) x)))
    (none-any live last none xs each.1)

module _ (cnf : Cnf) (log : List ProofLine) (cs : List Clause) (is : IsLog cnf log) (kept : IsKept (proof_behind cnf log).live cs) where
  none-lives : (last : Option Lit) → ((c : ℕ) → IsLive cs c → lits_of cs c ≢ last_lits last) → (id : ℕ) → clause_at (proof_behind cnf log).live id ≢ Some (last_lits last)
  none-lives last none id there =
      let d : Named = record { id = id; lits = last_lits last } in
      let st = kept.stored d there in
      none st.0 st.1.live (perm-last last (lits_of cs st.0) (IsPermutation-sym (last_lits last) (lits_of cs st.0) st.1.lits))

  none-known : (last : Option Lit) → ((c : ℕ) → IsLive cs c → lits_of cs c ≢ last_lits last) → known (proof_behind cnf log) (last_lits last) ≡ false
  none-known last none = none-any (proof_behind cnf log).live last (none-lives last none) (all_clauses (proof_behind cnf log)) is.short

  known-none : (lits : List Lit) (last : Option Lit) → lits ≡ last_lits last → known (proof_behind cnf log) (last_lits last) ≡ false → known (proof_behind cnf log) lits ≡ false
  known-none lits last same none = ap (λ (l : List Lit). known (proof_behind cnf log) l) same ∙ none

  pub none-refutes : (assumption : Option Lit) → NoneStands cs assumption → NoneRefutes cnf log assumption
  none-refutes None none lits refutes = known-none lits None refutes (none-known None (none None refl))
  none-refutes (Some a) none lits refutes =
      ⊎_elim
      (λ (empty : lits ≡ []). known-none lits None empty (none-known None (none None (inl refl))))
      (λ (one : lits ≡ not_lit a ∷ []). known-none lits (Some (not_lit a)) one (none-known (Some (not_lit a)) (none (Some (not_lit a)) (inr refl))))
      refutes

-- a clause that isn't false is not empty
quiet-some : (es : List Entry) (ls : List Lit) → IsQuiet es ls → ls ≢ []
quiet-some es ls quiet e =
    let P : List Lit → Type 0 = IsFalse es in
    quiet.not_false (subst P (sym e) (λ x has. absurd (no-member x has)))

-- where the negated assumption is true at level 0, and no clause is false or unit
pub none-denied : (cs : List Clause) (t : Trail) (assumption : Option Lit) (denied : Lit) (reason : ℕ) → IsDenied t assumption denied reason → IsComplete t.entries cs → ((c : ℕ) → IsLive cs c → lits_of cs c ≢ denied ∷ []) → NoneStands cs assumption
none-denied cs t assumption denied reason is complete none =
    none-stands cs assumption
    (λ c live. quiet-some t.entries (lits_of cs c) (complete c live))
    (λ a asked c live same.
    let e : Some is.lit ≡ Some a = sym is.is ∙ asked in
    let lit : is.lit ≡ a = cc in
    none c live (same ∙ ap (λ (l : Lit). l ∷ []) (sym (is.negated ∙ ap not_lit lit))))

-- a longer prefix is a shorter one and more
prefix-more : (j k : ℕ) (es : List Entry) → j ≤ k → (rest : List Entry) × (up_to k es ≡ up_to j es ++ rest)
prefix-more j k [] low = let none : List Entry = [] in (none, refl)
prefix-more j k (e ∷ es) low =
    ⊎_elim
    (λ (cut : j < e.level). (up_to k (e ∷ es), sym (ap (λ (l : List Entry). l ++ up_to k (e ∷ es)) (up_to-cut j e es cut))))
    (λ (kept : e.level ≤ j).
    let w = prefix-more j k es low in
    (w.0, up_to-kept k e es (omega (arith, kept, low)) ∙ ap (λ (l : List Entry). e ∷ l) w.1 ∙ sym (ap (λ (l : List Entry). l ++ w.0) (up_to-kept j e es kept))))
    (cases_lt j e.level)

-- a literal and its negation are not both true
opposite : (v : Option Bool) (p : Bool) → option_map (λ b. if p then b else not b) v ≡ Some true → option_map (λ b. if not p then b else not b) v ≡ Some true → ⊥
opposite None p first second = cc
opposite (Some true) true first second = cc
opposite (Some false) true first second = cc
opposite (Some true) false first second = cc
opposite (Some false) false first second = cc

-- the clause of one literal that is neither false nor unit is true
quiet-one : (es : List Entry) (l : Lit) (o : Option Bool) → truth_in es l ≡ o → IsQuiet es (l ∷ []) → truth_in es l ≡ Some true
quiet-one es l None is quiet =
    absurd (quiet.not_unit l (record {
      is_in = member-first l [];
      free = is;
      others = λ m has ne.
          ⊎_elim
          (λ (same : l ≡ m). absurd (ne (sym same)))
          (λ (there : Contains [] m). absurd (no-member m there))
          (member-cases l [] m has);
    }))
quiet-one es l (Some true) is quiet = is
quiet-one es l (Some false) is quiet =
    absurd (quiet.not_false (λ m has.
    ⊎_elim
    (λ (same : l ≡ m). ap (λ (x : Lit). truth_in es x) (sym same) ∙ is)
    (λ (there : Contains [] m). absurd (no-member m there))
    (member-cases l [] m has)))

-- above level 0, where the assumption is true
pub none-above-bottom : (cs : List Clause) (t : Trail) → IsDb cs t → 1 ≤ t.level → (assumption : Option Lit) → IsAssumed t assumption → NoneStands cs assumption
none-above-bottom cs t is above assumption assumed =
    none-stands cs assumption
    (λ c live. quiet-some (up_to 0 t.entries) (lits_of cs c) (is.below 0 (omega (arith, above)) c live))
    (λ a asked c live same.
    let P : Option Lit → Type 0 = IsAssumed t in
    let Q : List Lit → Type 0 = IsQuiet (up_to 0 t.entries) in
    let holds : truth_in (up_to 1 t.entries) a ≡ Some true = subst P asked assumed in
    let quiet = subst Q same (is.below 0 (omega (arith, above)) c live) in
    let denied = quiet-one (up_to 0 t.entries) (not_lit a) (truth_in (up_to 0 t.entries) (not_lit a)) refl quiet in
    let w = prefix-more 0 1 t.entries (omega arith) in
    let R : List Entry → Type 0 = λ es. truth_in es (not_lit a) ≡ Some true in
    opposite (value_in (up_to 1 t.entries) a.var) a.positive holds (subst R (sym w.1) (truth_in-stays (up_to 0 t.entries) w.0 (not_lit a) true denied)))
