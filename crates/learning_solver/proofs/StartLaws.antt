-- A search at its start: the CNF's clauses live, and are stored.
use Rattle.std.proofs.Common.{◌≡◌, ℕ, zero, suc, ◌+◌, ◌<◌, true, false, List, [], ◌∷◌, ◌++◌, length, get_or, Some, refl, ap, sym, ◌∙◌, subst, arith, ⊎_elim}
use Rattle.std.specs.Prelude.{IsPermutation}
use Rattle.std.proofs.lemmas.Bool.{cases_eq}
use Rattle.std.proofs.lemmas.List.{append-nil}
use Rattle.std.proofs.lemmas.List.Sorted.{IsPermutation-refl}
use Rattle.order_ints.specs.declared.literal.Lit.{Lit}
use Rattle.order_ints.specs.declared.cnf.Cnf.{Cnf}
use Rattle.clause_arena.specs.Clauses.{Clause, clause_at as stored_at, live_clause}
use Rattle.clause_rings.specs.Clauses.{IsApart, AreApartIn, HoldsCnf}
use Rattle.proof_check.specs.declared.line.ProofLine.{ProofLine}
use Rattle.proof_check.specs.Named.{Named, numbered, clause_at}
use Rattle.proof_check.specs.Lines.{Each}
use Rattle.learning_solver.specs.Log.{proof_behind, StaysKnown, IsLog}
use Rattle.learning_solver.specs.Kept.{IsStored, IsKept}
use Rattle.learning_solver.proofs.NamedLaws.{at-first, at-others, numbered-range}

-- the clause of a number, by its place
record IsAt (n : ℕ) (cs : List (List Lit)) (id : ℕ) (lits : List Lit) : Type 0 where
  place : ℕ
  below : place < length cs
  is : id ≡ n + place
  same : get_or cs place [] ≡ lits

numbered-at : (n : ℕ) (cs : List (List Lit)) (id : ℕ) (lits : List Lit) → clause_at (numbered n cs) id ≡ Some lits → IsAt n cs id lits
numbered-at n [] id lits e = cc
numbered-at n (c ∷ cs) id lits e =
    let first : Named = record { id = n; lits = c } in
    ⊎_elim
    (λ (same : n ≡ id).
    let told : Some c ≡ Some lits = sym (at-first first (numbered (n + 1) cs) id same) ∙ e in
    record { place = 0; below = omega arith; is = omega (arith, same); same = cc })
    (λ (other : n ≡ id → ⊥).
    let inner = numbered-at (n + 1) cs id lits (sym (at-others first (numbered (n + 1) cs) id other) ∙ e) in
    record { place = suc inner.place; below = omega (arith, inner.below); is = omega (arith, inner.is); same = inner.same })
    (cases_eq n id)

numbered-of : (n : ℕ) (cs : List (List Lit)) (k : ℕ) → k < length cs → clause_at (numbered n cs) (n + k) ≡ Some (get_or cs k [])
numbered-of n [] k low = absurd (omega arith)
numbered-of n (c ∷ cs) zero low = at-first (record { id = n; lits = c }) (numbered (n + 1) cs) (n + 0) (omega arith)
numbered-of n (c ∷ cs) (suc k) low =
    let first : Named = record { id = n; lits = c } in
    let e : n + suc k ≡ n + 1 + k = omega arith in
    at-others first (numbered (n + 1) cs) (n + suc k) (λ same. omega arith)
    ∙ ap (λ (i : ℕ). clause_at (numbered (n + 1) cs) i) e
    ∙ numbered-of (n + 1) cs k (omega arith)

-- what holds of each member by its place
each-place : (P : List Lit → Type 0) (cs : List (List Lit)) → ((k : ℕ) → k < length cs → P (get_or cs k [])) → Each P cs
each-place P [] holds = tt
each-place P (c ∷ cs) holds = (holds 0 (omega arith), each-place P cs (λ k low. holds (suc k) (omega (arith, low))))

-- the clauses of the CNF live
known-start : (cnf : Cnf) → AreApartIn cnf → Each (StaysKnown (numbered 1 cnf.clauses)) (cnf.clauses ++ [])
known-start cnf apart =
    let P : List (List Lit) → Type 0 = Each (StaysKnown (numbered 1 cnf.clauses)) in
    subst P (sym (append-nil cnf.clauses))
    (each-place (StaysKnown (numbered 1 cnf.clauses)) cnf.clauses (λ k low. record { apart = apart k low; lives = λ few. (1 + k, numbered-of 1 cnf.clauses k low) }))

-- the log without a line
pub log-start : (cnf : Cnf) → AreApartIn cnf → IsLog cnf []
log-start cnf apart = record {
  accepted = refl;
  fresh = tt;
  readable = tt;
  last = omega arith;
  cnf_lives = λ d lives. lives;
  known = λ d lives. ap (λ (cs : List Named). clause_at cs d.id) (append-nil (numbered 1 cnf.clauses)) ∙ lives;
  differ = λ d lives.
      let at = numbered-at 1 cnf.clauses d.id d.lits lives in
      let P : List Lit → Type 0 = IsApart in
      subst P at.same (apart at.place at.below);
  low = λ d lives.
      let range = numbered-range 1 cnf.clauses d.id d.lits (sym (ap (λ (cs : List Named). clause_at cs d.id) (append-nil (numbered 1 cnf.clauses))) ∙ lives) in
      omega (arith, range.1);
  apart = λ id has. absurd (nothing has);
  short = known-start cnf apart;
}
  where
    nothing : false ≡ true → ⊥
    nothing e = cc

-- the CNF's clauses are stored
pub kept-start : (cnf : Cnf) (cs : List Clause) → HoldsCnf cnf cs → IsKept (numbered 1 cnf.clauses) cs
kept-start cnf cs holds = record {
  stored = λ d lives.
      let at = numbered-at 1 cnf.clauses d.id d.lits lives in
      let w = holds.stored at.place at.below in
      (w.0, stored-as d w.0 at.place (omega (arith, at.is)) at.same w.1);
  named = λ c there.
      let w = holds.alone c there in
      let d : Named = record { id = 1 + w.0; lits = get_or cnf.clauses w.0 [] } in
      (d, numbered-of 1 cnf.clauses w.0 w.1, stored-as d c w.0 (omega arith) refl w.2);
}
  where
    stored-as : (d : Named) (c k : ℕ) → d.id ≡ k + 1 → get_or cnf.clauses k [] ≡ d.lits → stored_at cs c ≡ live_clause (k + 1) (get_or cnf.clauses k []) → IsStored cs c d
    stored-as d c k ids lits e = record {
      live = ap (λ (x : Clause). x.live) e;
      id = ap (λ (x : Clause). x.id) e ∙ sym ids;
      lits =
          let P : List Lit → Type 0 = IsPermutation d.lits in
          subst P (sym (ap (λ (x : Clause). x.lits) e ∙ lits)) (IsPermutation-refl d.lits);
    }

-- without a line
pub log-of-none : (cnf : Cnf) (lines : List ProofLine) → lines ≡ [] → AreApartIn cnf → IsLog cnf lines
log-of-none cnf lines e apart = let P : List ProofLine → Type 0 = IsLog cnf in subst P (sym e) (log-start cnf apart)

pub kept-of-none : (cnf : Cnf) (lines : List ProofLine) (cs : List Clause) → lines ≡ [] → HoldsCnf cnf cs → IsKept (proof_behind cnf lines).live cs
kept-of-none cnf lines cs e holds = let P : List ProofLine → Type 0 = λ ls. IsKept (proof_behind cnf ls).live cs in subst P (sym e) (kept-start cnf cs holds)
