-- What is learned from stored clauses is accepted with its hints.
use Rattle.std.proofs.Common.{◌≡◌, ℕ, ◌+◌, true, false, not, Bool, List, [], ◌∷◌, map, pos, Option, Some, None, refl, ap, sym, ◌∙◌, subst, arith}
use Rattle.std.specs.Prelude.{Contains, ◌==◌, ◌&&◌, ◌||◌, nat_lt, nat_le}
use Rattle.std.proofs.lemmas.Bool.{cond-true, ne_eqb, and_from, lt-ltb, le-leb}
use Rattle.std.proofs.lemmas.List.Sorted.{Contains-permutation, IsPermutation-sym}
use Rattle.order_ints.specs.declared.literal.Lit.{Lit}
use Rattle.order_ints.specs.declared.cnf.Cnf.{Cnf}
use Rattle.order_ints.specs.Place.{LitBelow}
use Rattle.literal_trail.specs.declared.entry.Entry.{Entry}
use Rattle.literal_trail.specs.Trail.{Trail, entry_at}
use Rattle.literal_trail.proofs.Entries.{entry_of-found}
use Rattle.clause_arena.specs.Clauses.{Clause, IsLive, lits_of}
use Rattle.clause_rings.specs.Clauses.{IsDb, IsApart}
use Rattle.proof_check.specs.declared.fault.ProofFault.{ProofFault}
use Rattle.proof_check.specs.declared.fault.ProofFault.TheVariants as fault
use Rattle.proof_check.specs.declared.line.ProofLine.{ProofLine}
use Rattle.proof_check.specs.Named.{Named, clause_at, Lives}
use Rattle.proof_check.specs.Values.{has_var, VarsDiffer}
use Rattle.proof_check.specs.Faults.{or_else, id_fault, fits, lits_fault, hints_fault, against}
use Rattle.proof_check.specs.Lrat.{proof_of, addition_fault}
use Rattle.conflict_analysis.specs.Learned.{Step, hints_of, IsLearned}
use Rattle.conflict_analysis.specs.Laws.{LivesAs}
use Rattle.conflict_analysis.proofs.Accepted.{has-var-false, learned-accepted}
use Rattle.learning_solver.specs.Sight.{named_in}
use Rattle.learning_solver.specs.Log.{proof_behind, IsLog}
use Rattle.learning_solver.specs.Kept.{IsKept}
use Rattle.learning_solver.proofs.LitLaws.{cnf-behind}
use Rattle.learning_solver.proofs.ReasonLaws.{member-first, member-more, reasons-there}

-- literals in range, no variable twice
lits-accepted : (vars : ℕ) (earlier lits : List Lit) (place : ℕ) → ((l : Lit) → Contains lits l → LitBelow (vars + 1) l) → VarsDiffer lits → ((l : Lit) → Contains lits l → has_var l.var earlier ≡ false) → lits_fault vars earlier lits place ≡ None
lits-accepted vars earlier [] place range differ apart = refl
lits-accepted vars earlier (l ∷ ls) place range differ apart =
    let here = range l (member-first l ls) in
    let low : nat_lt 0 l.var ≡ true = lt-ltb 0 l.var (omega (arith, here.0)) in
    let high : nat_le l.var vars ≡ true = le-leb l.var vars (omega (arith, here.1)) in
    let new : not (has_var l.var earlier) ≡ true = ap (λ (b : Bool). not b) (apart l (member-first l ls)) in
    let fit : fits vars earlier l ≡ true = and_from (nat_lt 0 l.var && nat_le l.var vars) (not (has_var l.var earlier)) (and_from (nat_lt 0 l.var) (nat_le l.var vars) low high) new in
    cond-true (fits vars earlier l) (lits_fault vars (l ∷ earlier) ls (place + 1)) (Some (fault.Lit place)) fit
    ∙ lits-accepted vars (l ∷ earlier) ls (place + 1) (λ m has. range m (member-more l ls m has)) differ.1
    (λ m has.
    let other : (m.var == l.var) ≡ false = ne_eqb m.var l.var (λ e. has-var-false l.var m ls differ.0 has (sym e)) in
    ap (λ (b : Bool). b || has_var m.var earlier) other ∙ apart m (member-more l ls m has))

-- a clause of the store lives
pub stored-lives : (live : List Named) (cs : List Clause) → IsKept live cs → ((d : Named) → Lives live d → IsApart d.lits) → (c : ℕ) → IsLive cs c → LivesAs live (named_in cs c)
stored-lives live cs kept differ c there =
    let w = kept.named c there in
    let d = w.0 in
    record {
      lits = d.lits;
      lives = ap (λ (i : ℕ). clause_at live i) w.2.id ∙ w.1;
      here = λ l has. Contains-permutation d.lits (lits_of cs c) l w.2.lits has;
      there = λ l has. Contains-permutation (lits_of cs c) d.lits l (IsPermutation-sym d.lits (lits_of cs c) w.2.lits) has;
      apart = differ d w.1;
    }

-- what is learned has no fault, with the next id
pub addition-accepted : (cnf : Cnf) (log : List ProofLine) (cs : List Clause) (t : Trail) (c : ℕ) (steps : List Step) (learned : List Lit) → IsLog cnf log → IsKept (proof_behind cnf log).live cs → IsDb cs t → IsLive cs c → IsLearned t.entries (named_in cs) (named_in cs c) steps learned → ((l : Lit) → Contains learned l → LitBelow (cnf.vars + 1) l) → addition_fault (proof_behind cnf log) ((proof_behind cnf log).last + 1) learned (map pos (hints_of steps (named_in cs c))) ≡ None
addition-accepted cnf log cs t c steps learned is kept db there of range =
    let p = proof_behind cnf log in
    let live = p.live in
    let conflict = named_in cs c in
    let above : id_fault p.last (p.last + 1) ≡ None = cond-true (nat_lt p.last (p.last + 1)) None (Some fault.Id) (lt-ltb p.last (p.last + 1) (omega arith)) in
    let count : p.cnf.vars ≡ cnf.vars = ap (λ (x : Cnf). x.vars) (cnf-behind (proof_of cnf) log) in
    let lits : lits_fault p.cnf.vars [] learned 1 ≡ None = ap (λ (n : ℕ). lits_fault n [] learned 1) count ∙ lits-accepted cnf.vars [] learned 1 range of.differ (λ l has. refl) in
    let step-lives : (s : Step) → Contains steps s → LivesAs live s.reason
    = λ s has.
    let st = of.of_trail s has in
    let f = entry_of-found t.entries s.lit.var st.entry st.found in
    let reasons = reasons-there cs t.entries db.reasons in
    let because : (entry_at t.entries f.place).reason ≡ Some st.reference = ap (λ (e : Entry). e.reason) f.is ∙ st.because in
    let P : Named → Type 0 = LivesAs live in
    subst P st.names (stored-lives live cs kept is.differ st.reference (reasons.live f.place st.reference f.below because)) in
    let hints : hints_fault live (against learned) (map pos (hints_of steps conflict)) 1 ≡ None
    = learned-accepted live t.entries (named_in cs) conflict steps learned of (stored-lives live cs kept is.differ c there) step-lives in
    ap (λ (o : Option ProofFault). or_else o (or_else (lits_fault p.cnf.vars [] learned 1) (hints_fault live (against learned) (map pos (hints_of steps conflict)) 1))) above
    ∙ ap (λ (o : Option ProofFault). or_else o (hints_fault live (against learned) (map pos (hints_of steps conflict)) 1)) lits
    ∙ hints
