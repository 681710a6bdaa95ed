-- A learned clause that goes, from store and log, and what no reference shares: a learned id.
use Rattle.std.proofs.Common.{◌≡◌, ◌≢◌, ℕ, suc, ◌<◌, ◌≤◌, ◌^◌, true, false, List, [], ◌∷◌, ◌++◌, length, take, drop, Option, Some, None, is_some, ap, sym, ◌∙◌, subst, arith, ⊎_elim}
use Rattle.std.specs.Prelude.{slice_set, IsTrue}
use Rattle.std.specs.Option.{option_and_then}
use Rattle.std.proofs.lemmas.Bool.{cases_eq, cond-true}
use Rattle.std.proofs.lemmas.List.{get_or-set_other, get_or-set_same, get_or_default}
use Rattle.std.proofs.lemmas.List.Sorted.{length_permutation}
use Rattle.std.proofs.Math.ListN.{replicate}
use Rattle.order_ints.specs.declared.literal.Lit.{Lit}
use Rattle.order_ints.specs.declared.cnf.Cnf.{Cnf}
use Rattle.literal_trail.specs.declared.entry.Entry.{Entry}
use Rattle.literal_trail.specs.Trail.{Trail, entry_at, entry_of, reason_in}
use Rattle.literal_trail.proofs.Entries.{entry_of-at}
use Rattle.clause_arena.specs.Clauses.{Clause, clause_at as stored_at, IsLive, lits_of, lit_in, no_lit, live_clause, no_clause}
use Rattle.clause_rings.specs.Clauses.{IsDb, SameClauses, HoldsCnf, IsUnused}
use Rattle.proof_check.specs.declared.fault.ProofFault.TheVariants.{Absent}
use Rattle.proof_check.specs.declared.line.ProofLine.{ProofLine}
use Rattle.proof_check.specs.declared.line.ProofLine.TheVariants.{Delete}
use Rattle.proof_check.specs.Named.{Named, numbered, clause_at, has_id, without, Lives}
use Rattle.proof_check.specs.Lrat.{Proof, proof_of, after_line}
use Rattle.proof_check.specs.Faults.{deletion_fault}
use Rattle.learning_solver.specs.Log.{additions, proof_behind, IsLog}
use Rattle.learning_solver.specs.Kept.{IsKept, AreOnce}
use Rattle.learning_solver.proofs.NamedLaws.{cases-at, at-back, at-without, lives-without, numbered-range}
use Rattle.learning_solver.proofs.LogLaws.{after-more, additions-delete, log-deleted}
use Rattle.learning_solver.proofs.LitLaws.{cnf-behind}
use Rattle.learning_solver.proofs.KeptLaws.{live-before, stored-alike, live-inside}
use Rattle.clause_rings.proofs.Widened.{wider-at}
use Rattle.learning_solver.proofs.ReasonLaws.{at-place}

-- the same ids under the same references
pub once-told : (base : ℕ) (old new : List Clause) → AreOnce base old → ((c : ℕ) → IsLive new c → IsLive old c × ((stored_at new c).id ≡ (stored_at old c).id)) → AreOnce base new
once-told base old new is same = record {
  alone = λ c d here there learned ids.
      let one = same c here in
      let other = same d there in
      is.alone c d one.0 other.0 (omega (arith, learned, one.1)) (sym one.1 ∙ ids ∙ other.1);
}

pub once-alike : (base : ℕ) (old new : List Clause) → AreOnce base old → ((c : ℕ) → stored_at new c ≡ stored_at old c) → AreOnce base new
once-alike base old new is same = once-told base old new is (λ c here. (live-before old new c (same c) here, ap (λ (x : Clause). x.id) (same c)))

pub once-more : (base : ℕ) (old new : List Clause) (more : ℕ) → AreOnce base old → new ≡ old ++ replicate more no_clause → AreOnce base new
once-more base old new more is e = once-alike base old new is (λ c. ap (λ (l : List Clause). stored_at l c) e ∙ wider-at old more c)

pub once-same : (base : ℕ) (old new : List Clause) → AreOnce base old → SameClauses old new → AreOnce base new
once-same base old new is same = once-told base old new is (λ c here. (sym (same.each c).live ∙ here, (same.each c).id))

-- at the start no id is above those of the CNF
pub once-start : (cnf : Cnf) (cs : List Clause) (base : ℕ) → base ≡ length cnf.clauses → HoldsCnf cnf cs → AreOnce base cs
once-start cnf cs base is holds = record {
  alone = λ c d here there learned ids.
      let w = holds.alone c here in
      absurd (omega (arith, learned, is, w.1, ap (λ (x : Clause). x.id) w.2));
}

-- a clause comes whose id no clause has that lives
pub once-added : (live : List Named) (cs : List Clause) (base c id : ℕ) (lits : List Lit) → IsKept live cs → AreOnce base cs → c < length cs → clause_at live id ≡ None → AreOnce base (slice_set cs c (live_clause id lits))
once-added live cs base c id lits kept is inside none = record { alone = each }
  where
    elsewhere : (x : ℕ) → (x ≡ c → ⊥) → stored_at (slice_set cs c (live_clause id lits)) x ≡ stored_at cs x
    elsewhere x ne = get_or-set_other cs c x (live_clause id lits) no_clause ne

    own-id : (x : ℕ) → x ≡ c → (stored_at (slice_set cs c (live_clause id lits)) x).id ≡ id
    own-id x same = ap (λ (y : ℕ). (stored_at (slice_set cs c (live_clause id lits)) y).id) same ∙ ap (λ (y : Clause). y.id) (get_or-set_same cs c (live_clause id lits) no_clause inside)

    other-id : (x : ℕ) → (x ≡ c → ⊥) → IsLive (slice_set cs c (live_clause id lits)) x → (stored_at (slice_set cs c (live_clause id lits)) x).id ≡ id → ⊥
    other-id x ne there same =
        let w = kept.named x (live-before cs (slice_set cs c (live_clause id lits)) x (elsewhere x ne) there) in
        let told : clause_at live id ≡ Some w.0.lits
        = ap (λ (i : ℕ). clause_at live i) (sym same ∙ ap (λ (y : Clause). y.id) (elsewhere x ne) ∙ w.2.id) ∙ w.1 in
        let fails : None ≡ Some w.0.lits = sym none ∙ told in
        cc

    each : (d e : ℕ) → IsLive (slice_set cs c (live_clause id lits)) d → IsLive (slice_set cs c (live_clause id lits)) e → base < (stored_at (slice_set cs c (live_clause id lits)) d).id → (stored_at (slice_set cs c (live_clause id lits)) d).id ≡ (stored_at (slice_set cs c (live_clause id lits)) e).id → d ≡ e
    each d e here there learned ids =
        ⊎_elim
        (λ (d-new : d ≡ c).
        ⊎_elim
        (λ (e-new : e ≡ c). d-new ∙ sym e-new)
        (λ (e-old : e ≡ c → ⊥). absurd (other-id e e-old there (sym ids ∙ own-id d d-new)))
        (cases_eq e c))
        (λ (d-old : d ≡ c → ⊥).
        ⊎_elim
        (λ (e-new : e ≡ c). absurd (other-id d d-old here (ids ∙ own-id e e-new)))
        (λ (e-old : e ≡ c → ⊥).
        is.alone d e (live-before cs (slice_set cs c (live_clause id lits)) d (elsewhere d d-old) here) (live-before cs (slice_set cs c (live_clause id lits)) e (elsewhere e e-old) there)
        (omega (arith, learned, ap (λ (x : Clause). x.id) (elsewhere d d-old)))
        (sym (ap (λ (x : Clause). x.id) (elsewhere d d-old)) ∙ ids ∙ ap (λ (x : Clause). x.id) (elsewhere e e-old)))
        (cases_eq e c))
        (cases_eq d c)

-- a learned clause goes
module _ (live : List Named) (cs : List Clause) (base c : ℕ) (is : IsKept live cs) (once : AreOnce base cs) (here : IsLive cs c) (learned : base < (stored_at cs c).id) where
  elsewhere : (e : ℕ) → (e ≡ c → ⊥) → stored_at (slice_set cs c no_clause) e ≡ stored_at cs e
  elsewhere e ne = get_or-set_other cs c e no_clause no_clause ne

  apart : (e : ℕ) → IsLive (slice_set cs c no_clause) e → e ≡ c → ⊥
  apart e there same =
      let P : ℕ → Type 0 = IsLive (slice_set cs c no_clause) in
      let now : (stored_at (slice_set cs c no_clause) c).live ≡ true = subst P same there in
      let fails : false ≡ true = sym (ap (λ (x : Clause). x.live) (get_or-set_same cs c no_clause no_clause (live-inside cs c here))) ∙ now in
      cc

  pub kept-gone : IsKept (without (stored_at cs c).id live) (slice_set cs c no_clause)
  kept-gone = record {
    stored = λ d lives.
        let both = lives-without (stored_at cs c).id live d lives in
        let w = is.stored d both.1 in
        let ne : w.0 ≡ c → ⊥ = λ same. both.0 (sym (ap (λ (e : ℕ). (stored_at cs e).id) same) ∙ w.1.id) in
        (w.0, stored-alike cs (slice_set cs c no_clause) w.0 (elsewhere w.0 ne) d w.1);
    named = λ e there.
        let ne = apart e there in
        let before = live-before cs (slice_set cs c no_clause) e (elsewhere e ne) there in
        let w = is.named e before in
        let other : (stored_at cs c).id ≡ w.0.id → ⊥ = λ same. ne (sym (once.alone c e here before learned (same ∙ sym w.2.id))) in
        (w.0, at-without (stored_at cs c).id live w.0.id other ∙ w.1, stored-alike cs (slice_set cs c no_clause) e (elsewhere e ne) w.0 w.2);
  }

  pub once-gone : AreOnce base (slice_set cs c no_clause)
  once-gone = once-told base cs (slice_set cs c no_clause) once (λ e there.
      let same = elsewhere e (apart e there) in
      (live-before cs (slice_set cs c no_clause) e same there, ap (λ (x : Clause). x.id) same))

-- with a line in the log
module _ (cnf : Cnf) (log : List ProofLine) (is : IsLog cnf log) (cs : List Clause) (kept : IsKept (proof_behind cnf log).live cs) (c : ℕ) (here : IsLive cs c) (learned : length cnf.clauses < (stored_at cs c).id) (long : 2 ≤ length (lits_of cs c)) (narrow : (stored_at cs c).id < 2 ^ 64) (at : ℕ) (mark : at ≡ (proof_behind cnf log).last) (small : at < 2 ^ 64) (items : List ProofLine) (goes : items ≡ log ++ Delete at ((stored_at cs c).id ∷ []) ∷ []) where
  lives-there : (d : Named) × Lives (proof_behind cnf log).live d × ((stored_at cs c).id ≡ d.id)
  lives-there = let w = kept.named c here in (w.0, w.1, w.2.id)

  no-fault : deletion_fault (proof_behind cnf log).live ((stored_at cs c).id ∷ []) ≡ None
  no-fault =
      let id = (stored_at cs c).id in
      let live = (proof_behind cnf log).live in
      let w = lives-there in
      let has : has_id live id ≡ true = ap (λ (o : Option (List Lit)). is_some o) (ap (λ (i : ℕ). clause_at live i) w.2 ∙ w.1) in
      cond-true (has_id live id) None (Some (Absent id)) has

  was-added : IsTrue (has_id (proof_behind cnf log).added (stored_at cs c).id)
  was-added =
      let p = proof_behind cnf log in
      let w = lives-there in
      let d = w.0 in
      let known = is.known d w.1 in
      ⊎_elim
      (λ (none : clause_at (numbered 1 p.cnf.clauses) d.id ≡ None).
      ap (λ (o : Option (List Lit)). is_some o) (ap (λ (i : ℕ). clause_at p.added i) w.2 ∙ sym (at-back (numbered 1 p.cnf.clauses) p.added d.id none) ∙ known))
      (λ (some : (lits : List Lit) × (clause_at (numbered 1 p.cnf.clauses) d.id ≡ Some lits)).
      let range = numbered-range 1 p.cnf.clauses d.id some.0 some.1 in
      absurd (omega (arith, range.1, learned, w.2, ap (λ (x : Cnf). length x.clauses) (cnf-behind (proof_of cnf) log))))
      (cases-at (numbered 1 p.cnf.clauses) d.id)

  were-long : (lits : List Lit) → clause_at (proof_behind cnf log).live (stored_at cs c).id ≡ Some lits → 2 ≤ length lits
  were-long lits there =
      let w = kept.named c here in
      let e : Some w.0.lits ≡ Some lits = sym w.1 ∙ sym (ap (λ (i : ℕ). clause_at (proof_behind cnf log).live i) w.2.id) ∙ there in
      let same : w.0.lits ≡ lits = cc in
      omega (arith, long, length_permutation w.0.lits (lits_of cs c) w.2.lits, ap (λ (l : List Lit). length l) same)

  pub log-gone : IsLog cnf items
  log-gone =
      let P : List ProofLine → Type 0 = IsLog cnf in
      subst P (sym goes) (log-deleted cnf log is at (stored_at cs c).id (small, ((omega (arith, learned), narrow), tt)) mark no-fault (was-added, tt) were-long)

  pub additions-gone : additions items ≡ additions log
  additions-gone = ap additions goes ∙ additions-delete log at ((stored_at cs c).id ∷ [])

  pub kept-without : (base : ℕ) (now : List Clause) → AreOnce base cs → base < (stored_at cs c).id → now ≡ slice_set cs c no_clause → IsKept (proof_behind cnf items).live now
  kept-without base now once above made =
      let line = Delete at ((stored_at cs c).id ∷ []) in
      let behind-it : proof_behind cnf items ≡ after_line (proof_behind cnf log) line = ap (proof_behind cnf) goes ∙ after-more (proof_of cnf) log line in
      let P : List Clause → Type 0 = IsKept (without (stored_at cs c).id (proof_behind cnf log).live) in
      let Q : Proof → Type 0 = λ p. IsKept p.live now in
      subst Q (sym behind-it) (subst P (sym made) (kept-gone (proof_behind cnf log).live cs base c kept once here above))
