-- What was found of a CNF, as it is told.
use Rattle.std.proofs.Common.{◌≡◌, ℕ, ◌≤◌, ◌<◌, inl, inr, true, false, List, [], ◌∷◌, refl, sym, ap, subst, ◌∙◌, arith}
use Rattle.std.specs.Prelude.{Bool, length, Option, None, Some, Ok, IsOk, IsTrue}
use Rattle.std.proofs.lemmas.Bool.{false≢true}
use Rattle.order_ints.specs.declared.literal.Lit.{Lit}
use Rattle.order_ints.specs.declared.cnf.Cnf.{Cnf}
use Rattle.order_ints.specs.Truth.{Valuation, valuation_of}
use Rattle.order_ints.specs.Satisfies.{clauses_truth}
use Rattle.proof_check.specs.declared.line.ProofLine.{ProofLine}
use Rattle.proof_check.specs.declared.fault.ProofFault.{ProofFault}
use Rattle.proof_check.specs.Lrat.{Proof, proof_of, line_fault, after_line, unless_fault, behind, take_lines, Lrat}
use Rattle.proof_check.specs.Known.{known}
use Rattle.proof_check.specs.Lines.{Each, IsReadable}
use Rattle.proof_check.proofs.Implied.{start-implied, lines-implied, known-implied}
use Rattle.learning_solver.specs.Log.{additions, after_lines, proof_behind, IsFreshLog}
use Rattle.learning_solver.specs.Outcome.{Logged, Answers, IsSolution, IsRefutation, NoneRefutes, most_learned}
use Rattle.learning_solver.specs.declared.found.Found.{Found}
use Rattle.learning_solver.specs.declared.found.Found.TheVariants.{Sat, Spent}
use Rattle.text_modes.specs.declared.ends.Outcome.{Outcome}
use Rattle.text_modes.specs.declared.ends.Outcome.TheVariants.{Done, Refused, Unknown}
use Rattle.learning_solver.proofs.KnownLaws.{known-named}
use Rattle.search_options.specs.declared.options.SearchOptions.{SearchOptions}
use Rattle.sat_mode.specs.Texts.{values_text, refutation_text, unknown_text}
use Rattle.sat_mode.specs.Found.{IsProof, Tells}

-- the empty clause is known where it stands under an id

pub empty-known : (cnf : Cnf) (log : List ProofLine) (id : ℕ) → IsRefutation cnf log None id → known (proof_behind cnf log) [] ≡ true
empty-known cnf log id r = known-named (proof_behind cnf log) id [] (r.stands ∙ ap (λ (ls : List Lit). Some ls) r.refutes)

-- the proof behind lines that are accepted

accepted : (p : Proof) (lines : List ProofLine) → IsOk (take_lines p lines) → take_lines p lines ≡ Ok (after_lines p lines)
accepted p [] h = refl
accepted p (line ∷ lines) h = by (line_fault p line) h (λ k. accepted (after_line p line) lines k)
  where
    by : (o : Option ProofFault) → IsOk (behind (unless_fault o (after_line p line)) (λ q. take_lines q lines))
        → (IsOk (take_lines (after_line p line) lines) → take_lines (after_line p line) lines ≡ Ok (after_lines (after_line p line) lines))
        → behind (unless_fault o (after_line p line)) (λ q. take_lines q lines) ≡ Ok (after_lines (after_line p line) lines)
    by None k rest = rest k
    by (Some x) k rest = absurd (false≢true k)

pub no-values : (cnf : Cnf) (log : List ProofLine) → Lrat cnf log → known (proof_behind cnf log) [] ≡ true → (σ : Valuation) → IsTrue (clauses_truth σ cnf.clauses) → ⊥
no-values cnf log proof empty σ sat =
    let p = proof_behind cnf log in
    let h = lines-implied (proof_of cnf) log p (accepted (proof_of cnf) log proof) (start-implied cnf) in
    false≢true (known-implied p [] h.0 empty σ (subst (λ (x : Cnf). IsTrue (clauses_truth σ x.clauses)) (sym h.1) sat))

-- what is told of the CNF's clauses is told of clauses that are as true

pub tells-same : (options : SearchOptions) (cnf : Cnf) (cs ds : List (List Lit)) (outcome : Outcome) (written : List ℕ) → ((σ : Valuation) → clauses_truth σ cs ≡ clauses_truth σ ds)
    → Tells options cnf cs outcome written → Tells options cnf ds outcome written
tells-same options cnf cs ds Done written same (inl h) =
    inl (record { values = h.values; count = h.count; satisfies = sym (same (valuation_of h.values)) ∙ h.satisfies; writes = h.writes })
tells-same options cnf cs ds Done written same (inr h) =
    inr (record { log = h.log; proof = h.proof; empty = h.empty; within = h.within; most = h.most; none = λ σ sat. h.none σ (same σ ∙ sat); writes = h.writes })
tells-same options cnf cs ds (Unknown count) written same h = h
tells-same options cnf cs ds (Refused line) written same h = h

-- what a search found, as it is told

proof-of : (cnf : Cnf) (s : Logged) → s.cnf ≡ cnf → Lrat s.cnf s.log → IsFreshLog s.cnf s.log → Each IsReadable s.log → IsProof cnf s.log
proof-of cnf s e accepted fresh readable = subst (λ (x : Cnf). IsProof x s.log) e (record { accepted = accepted; fresh = fresh; readable = readable })

pub found-refutation : (options : SearchOptions) (cnf : Cnf) (s : Logged) (id : ℕ) (written : List ℕ) → s.cnf ≡ cnf → Lrat s.cnf s.log → IsFreshLog s.cnf s.log → Each IsReadable s.log → IsRefutation s.cnf s.log None id
    → additions s.log ≤ options.budget → additions s.log ≤ most_learned options.restart cnf.vars → written ≡ refutation_text s.log → Tells options cnf cnf.clauses Done written
found-refutation options cnf s id written e accepted fresh readable refuted within most w =
    let proof = proof-of cnf s e accepted fresh readable in
    let empty = empty-known cnf s.log id (subst (λ (x : Cnf). IsRefutation x s.log None id) e refuted) in
    inr (record { log = s.log; proof = proof; empty = empty; within = within; most = most; none = no-values cnf s.log proof.accepted empty; writes = w })

pub found-values : (options : SearchOptions) (cnf : Cnf) (s : Logged) (found : Found) (values : List Bool) (written : List ℕ) → s.cnf ≡ cnf → found ≡ Sat values → Answers s None found
    → written ≡ values_text values → Tells options cnf cnf.clauses Done written
found-values options cnf s found values written e is answers w =
    let P : Found → Type 0 = Answers s None in
    let Q : Cnf → Type 0 = λ x. IsSolution x None values in
    let solves = subst Q e (subst P is answers) in
    inl (record { values = values; count = solves.count; satisfies = solves.satisfies; writes = w })

-- how many values were found
pub found-count : (s : Logged) (found : Found) (values : List Bool) → found ≡ Sat values → Answers s None found → length values ≡ s.cnf.vars
found-count s found values is answers = let P : Found → Type 0 = Answers s None in let solves : IsSolution s.cnf None values = subst P is answers in solves.count

none-known : (s : Logged) (found : Found) → found ≡ Spent → Answers s None found → known (proof_behind s.cnf s.log) [] ≡ false
none-known s found is answers = let P : Found → Type 0 = Answers s None in let none : NoneRefutes s.cnf s.log None = subst P is answers in none [] refl

pub found-unknown : (options : SearchOptions) (cnf : Cnf) (s : Logged) (found : Found) (written : List ℕ) → s.cnf ≡ cnf → found ≡ Spent → Lrat s.cnf s.log → IsFreshLog s.cnf s.log → Each IsReadable s.log → Answers s None found
    → additions s.log ≡ options.budget → additions s.log < most_learned options.restart cnf.vars → written ≡ unknown_text s.log → Tells options cnf cnf.clauses (Unknown options.budget) written
found-unknown options cnf s found written e is accepted fresh readable answers spent early w = record {
  log = s.log;
  proof = proof-of cnf s e accepted fresh readable;
  budget = refl;
  spent = spent;
  early = omega (arith, spent, early);
  not_empty = subst (λ (x : Cnf). known (proof_behind x s.log) [] ≡ false) e (none-known s found is answers);
  writes = w;
}
