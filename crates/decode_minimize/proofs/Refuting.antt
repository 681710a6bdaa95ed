-- What the answer of a solver shows.
use Rattle.std.proofs.Common.{◌≡◌, ℕ, Bool, true, false, not, List, [], ◌∷◌, Option, Some, None, Result, Ok, Err, refl, sym, ap, ◌∙◌, inl, inr, ⊎_elim}
use Rattle.std.specs.Prelude.{IsOk}
use Rattle.std.proofs.lemmas.Bool.{true≢false}
use Rattle.order_ints.specs.declared.atom.Atom.TheVariants.{False, Of}
use Rattle.order_ints.specs.declared.cnf.Cnf.{Cnf}
use Rattle.order_ints.specs.declared.literal.Lit.{Lit}
use Rattle.order_ints.specs.Truth.{valuation_of, lit_truth, not_lit}
use Rattle.order_ints.proofs.Truths.{lit_truth-not_lit, not_lit-not_lit}
use Rattle.proof_check.specs.declared.fault.ProofFault.{ProofFault}
use Rattle.proof_check.specs.declared.line.ProofLine.{ProofLine}
use Rattle.proof_check.specs.Known.{known}
use Rattle.proof_check.specs.Lrat.{Proof, proof_of, line_fault, after_line, unless_fault, behind, take_lines, Lrat}
use Rattle.learning_solver.specs.Log.{after_lines, proof_behind}
use Rattle.learning_solver.specs.Outcome.{Logged, IsRefutation}
use Rattle.learning_solver.proofs.KnownLaws.{known-named}
use Rattle.answer_document.specs.Valid.{IsShown}
use Rattle.decode_minimize.specs.declared.asking.Ended.TheVariants.{Shown, Spent}
use Rattle.decode_minimize.specs.declared.asking.Round.{Round}
use Rattle.decode_minimize.specs.declared.asking.Round.TheVariants.{Better, Last}
use Rattle.decode_minimize.specs.Rounds.{IsAsked, IsRound}

-- what a solver answered to an assumption, as the round of a bound
refuted-none : (cnf : Cnf) (log : List ProofLine) → (id : ℕ) × IsRefutation cnf log None id → IsShown (proof_behind cnf log) False
refuted-none cnf log r =
    known-named (proof_behind cnf log) r.0 [] (r.1.stands ∙ ap (λ (ls : List Lit). Some ls) r.1.refutes)

refuted-some : (cnf : Cnf) (log : List ProofLine) (l a : Lit) → not_lit a ≡ l → (id : ℕ) × IsRefutation cnf log (Some a) id → IsShown (proof_behind cnf log) (Of l)
refuted-some cnf log l a e r =
    ⊎_elim
    (λ (none : r.1.lits ≡ []). inl (known-named (proof_behind cnf log) r.0 [] (r.1.stands ∙ ap (λ (ls : List Lit). Some ls) none)))
    (λ (one : r.1.lits ≡ not_lit a ∷ []). inr (known-named (proof_behind cnf log) r.0 (l ∷ []) (r.1.stands ∙ ap (λ (ls : List Lit). Some ls) (one ∙ ap (λ (m : Lit). m ∷ []) e))))
    r.1.refutes

pub round-none : (s : Logged) (r : Round) → IsAsked s None r → IsRound s False r
round-none s (Better values) h = (record { count = h.count; satisfies = h.satisfies }, refl)
round-none s (Last Shown) h = refuted-none s.cnf s.log h
round-none s (Last Spent) h = λ shown. true≢false (sym shown ∙ h [] refl)

pub round-some : (s : Logged) (l a : Lit) (r : Round) → a ≡ not_lit l → IsAsked s (Some a) r → IsRound s (Of l) r
round-some s l a (Better values) e h = (
  record { count = h.count; satisfies = h.satisfies },
  denied (lit_truth (valuation_of values) l) (sym (lit_truth-not_lit (valuation_of values) l) ∙ ap (lit_truth (valuation_of values)) (sym e) ∙ h.holds),
)
  where
    denied : (b : Bool) → not b ≡ true → b ≡ false
    denied true e = absurd (cc)
    denied false e = refl
round-some s l a (Last Shown) e h = refuted-some s.cnf s.log l a (ap not_lit e ∙ not_lit-not_lit l) h
round-some s l a (Last Spent) e h = λ shown. ⊎_elim
    (λ (none : known (proof_behind s.cnf s.log) [] ≡ true). true≢false (sym none ∙ h [] (inl refl)))
    (λ (one : known (proof_behind s.cnf s.log) (l ∷ []) ≡ true). true≢false (sym one ∙ h (l ∷ []) (inr (ap (λ (m : Lit). m ∷ []) (sym (ap not_lit e ∙ not_lit-not_lit l))))))
    shown

-- Lines that are taken lead to the proof behind them, which adds as many clauses as they have additions.

pub taken-behind : (p : Proof) (lines : List ProofLine) (q : Proof) → take_lines p lines ≡ Ok q → q ≡ after_lines p lines
taken-behind p [] q e = cc
taken-behind p (line ∷ lines) q e = by (line_fault p line) e (taken-behind (after_line p line) lines q)
  where
    by : (o : Option ProofFault) → behind (unless_fault o (after_line p line)) (λ r. take_lines r lines) ≡ Ok q
        → (take_lines (after_line p line) lines ≡ Ok q → q ≡ after_lines (after_line p line) lines) → q ≡ after_lines (after_line p line) lines
    by None e more = more e
    by (Some f) e more = absurd (cc)

no-error : (f : ProofFault) → IsOk {T = Proof} (Err f) → ⊥
no-error f h = cc

pub accepted-behind : (cnf : Cnf) (lines : List ProofLine) → Lrat cnf lines → take_lines (proof_of cnf) lines ≡ Ok (proof_behind cnf lines)
accepted-behind cnf lines h = by (take_lines (proof_of cnf) lines) refl h
  where
    by : (r : Result Proof ProofFault) → take_lines (proof_of cnf) lines ≡ r → IsOk r → take_lines (proof_of cnf) lines ≡ Ok (proof_behind cnf lines)
    by (Ok q) e h = e ∙ ap (λ (p : Proof). Ok p) (taken-behind (proof_of cnf) lines q e)
    by (Err f) e h = absurd (no-error f h)
