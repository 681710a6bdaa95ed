-- Behind the answer: the ledger and the derivations, one line after another, and what they show at the end.
use Rattle.std.proofs.Common.{◌≡◌, ◌⊎◌, ℕ, ◌+◌, Bool, true, false, List, [], ◌∷◌, ◌++◌, codes, append_assoc, None, Some, Ok, refl, sym, ap, ◌∙◌, subst, arith, inl, inr}
use Rattle.std.specs.Prelude.{IsTrue, ◌||◌, ◌==◌}
use Rattle.order_ints.specs.declared.atom.Atom.{Atom}
use Rattle.order_ints.specs.declared.atom.Atom.TheVariants.{True, False, Of}
use Rattle.model_meaning.specs.declared.model.Model.{Model}
use Rattle.ledger_text.specs.declared.line.Line.{Line}
use Rattle.ledger_text.specs.Steps.{step_text, IsReadableStep}
use Rattle.step_kernel.specs.Kernel.{Kernel}
use Rattle.step_kernel.specs.Steps.{step}
use Rattle.step_kernel.specs.CnfOf.{cnf_of}
use Rattle.proof_check.specs.declared.line.ProofLine.{ProofLine}
use Rattle.proof_check.specs.Lines.{line_bytes, IsReadable}
use Rattle.proof_check.specs.Lrat.{Proof, proof_of}
use Rattle.proof_check.specs.Known.{known}
use Rattle.answer_document.specs.declared.verdict.Bounds.{Bounds}
use Rattle.answer_document.specs.declared.verdict.Verdict.{Verdict}
use Rattle.answer_document.specs.declared.verdict.Verdict.TheVariants.{Unsatisfiable, Unknown}
use Rattle.answer_document.specs.Verdicts.{is_certified}
use Rattle.answer_document.specs.Valid.{start_of, stated, IsShown, AnswerHolds, FitValues}
use Rattle.ledger_check.specs.declared.part.Part.TheVariants as part
use Rattle.ledger_check.specs.Items.{Standing, may_have_second}
use Rattle.ledger_check.specs.Tests.{is_shown, is_first_shown, line_taken, fixed_cnf, values_fault}
use Rattle.ledger_check.specs.Fronts.{head_lines, ledger_lines, proof_lines, more_lines, answer_of, IsFresh, IsFitting, IsAnswered, AtBest, AtUnanswered, AtValues, AtLedger, AtProof, AtSecond}
use Rattle.ledger_check.proofs.Answers.{answered}
use Rattle.ledger_check.proofs.Stepping.{replayed-more, lines-more, steps-more, readable-more, ledger-longer, proof-longer, more-longer}

pub one-more : (ls ms : List (List ℕ)) (l m : List ℕ) → ls ≡ ms → l ≡ m → ls ++ l ∷ [] ≡ ms ++ m ∷ []
one-more ls ms l m e f = ap (λ x. x ++ l ∷ []) e ∙ ap (λ x. ms ++ x ∷ []) f

pub shown-is : (p : Proof) (a : Atom) → is_shown p a ≡ true → IsShown p a
shown-is p True e = tt
shown-is p False e = e
shown-is p (Of l) e = either (known p []) (known p (l ∷ [])) e
  where
    either : (a b : Bool) → (a || b) ≡ true → IsTrue a ⊎ IsTrue b
    either true b e = inl refl
    either false b e = inr e

pub equal-count : (a b : ℕ) → (a == b) ≡ true → a ≡ b
equal-count a b e = grind (arith)

module _ (model : Model) (s : Standing) (lines : List (List ℕ)) (line : List ℕ) where
  abbrev all : List (List ℕ)
  all = lines ++ line ∷ []

  -- the ledger begins
  ledger-begun : IsAnswered model s.verdict s.values → IsFresh model s → lines ≡ head_lines model s.verdict s.values → line ≡ codes "ledger"
      → AtLedger model all (record s { part = part.Ledger })
  ledger-begun answer fresh before is = record {
    answered = answer;
    entries = fresh.entries;
    ledger = [];
    readable = tt;
    leads = ap (λ k. Ok k) (sym fresh.kernel);
    first = fresh.first;
    second = fresh.second;
    read = one-more lines (head_lines model s.verdict s.values) line (codes "ledger") before is;
  }

  pub ledger-behind-values : AtValues model lines s → is_certified s.verdict ≡ true → values_fault model s ≡ None → line ≡ codes "ledger" → AtLedger model all (record s { part = part.Ledger })
  ledger-behind-values at certified fault is = ledger-begun (answered model s at.answer at.fitting at.values fault certified) at.fresh at.read is

  -- without an assignment
  bare : (v : Verdict) → answer_of v s.values ≡ None → AnswerHolds model v None → IsFitting model v → is_certified v ≡ true → s.values ≡ [] → IsAnswered model v s.values
  bare v none holds fitting certified empty = record {
    fitting = fitting;
    holds = subst (AnswerHolds model v) (sym none) holds;
    fit = subst FitValues (sym empty) tt;
    none = λ e. empty;
    certified = certified;
  }

  pub ledger-behind-count : AtBest model lines s → line ≡ codes "ledger" → AtLedger model all (record s { part = part.Ledger })
  ledger-behind-count at is =
      let fitting = subst (IsFitting model) at.verdict at.fitting in
      ledger-begun (subst (λ v. IsAnswered model v s.values) (sym at.verdict) (bare (Unknown at.count None) refl tt fitting refl at.values)) at.fresh at.read is

  pub ledger-behind-none : AtUnanswered model lines s → line ≡ codes "ledger" → AtLedger model all (record s { part = part.Ledger })
  ledger-behind-none at is =
      ledger-begun (subst (λ v. IsAnswered model v s.values) (sym at.verdict) (bare Unsatisfiable refl tt (record { fits = tt; numbers = tt }) refl at.values)) at.fresh at.read is

  -- a step of the ledger
  pub step-read : AtLedger model lines s → (l : Line) (k : Kernel) → IsReadableStep l → line ≡ step_text l → step s.kernel l ≡ Ok k → AtLedger model all (record s { kernel = k })
  step-read at l k form is made = record {
    answered = at.answered;
    entries = at.entries;
    ledger = at.ledger ++ l ∷ [];
    readable = steps-more at.ledger l at.readable form;
    leads = replayed-more (Ok (start_of model)) at.ledger l s.kernel at.leads ∙ made;
    first = at.first;
    second = at.second;
    read = one-more lines (head_lines model s.verdict s.values ++ ledger_lines at.ledger) line (step_text l) at.read is ∙ ledger-longer (head_lines model s.verdict s.values) at.ledger l;
  }

  -- the derivation begins, and goes on
  pub proof-begun : AtLedger model lines s → line ≡ codes "proof" → AtProof model all (record s { part = part.Proof; first = Some (proof_of (cnf_of s.kernel)) })
  proof-begun at is = record {
    answered = at.answered;
    entries = at.entries;
    ledger = at.ledger;
    readable = at.readable;
    leads = at.leads;
    proof = [];
    readable_proof = tt;
    reached = proof_of (cnf_of s.kernel);
    first = refl;
    accepted = refl;
    second = at.second;
    read = one-more lines (head_lines model s.verdict s.values ++ ledger_lines at.ledger) line (codes "proof") at.read is
        ∙ append_assoc (head_lines model s.verdict s.values) (ledger_lines at.ledger) (codes "proof" ∷ []);
  }

  pub line-read : AtProof model lines s → (l : ProofLine) (q : Proof) → IsReadable l → line ≡ line_bytes l → line_taken s.first l ≡ Ok q → AtProof model all (record s { first = Some q })
  line-read at l q form is made = record {
    answered = at.answered;
    entries = at.entries;
    ledger = at.ledger;
    readable = at.readable;
    leads = at.leads;
    proof = at.proof ++ l ∷ [];
    readable_proof = readable-more at.proof l at.readable_proof form;
    reached = q;
    first = refl;
    accepted = lines-more (proof_of (cnf_of s.kernel)) at.proof l at.reached at.accepted ∙ sym (ap (λ o. line_taken o l) at.first) ∙ made;
    second = at.second;
    read = one-more lines (head_lines model s.verdict s.values ++ (ledger_lines at.ledger ++ proof_lines at.proof)) line (line_bytes l) at.read is
        ∙ proof-longer (head_lines model s.verdict s.values) (ledger_lines at.ledger) at.proof l;
  }

  -- the second derivation begins, and goes on
  pub second-begun : AtProof model lines s → (b : Bounds) → stated s.verdict ≡ Some b → may_have_second s.verdict ≡ true → is_first_shown model s s.first b.first ≡ true → line ≡ codes "second"
      → AtSecond model all (record s { part = part.Second; second = Some (proof_of (fixed_cnf model s b.first)) })
  second-begun at b told two shown is = record {
    answered = at.answered;
    entries = at.entries;
    ledger = at.ledger;
    readable = at.readable;
    leads = at.leads;
    proof = at.proof;
    readable_proof = at.readable_proof;
    reached = at.reached;
    first = at.first;
    accepted = at.accepted;
    bounds = b;
    stated = told;
    two = two;
    shown = shown;
    more = [];
    readable_more = tt;
    furthest = proof_of (fixed_cnf model s b.first);
    second = refl;
    accepted_more = refl;
    read = one-more lines (head_lines model s.verdict s.values ++ (ledger_lines at.ledger ++ proof_lines at.proof)) line (codes "second") at.read is
        ∙ append_assoc (head_lines model s.verdict s.values) (ledger_lines at.ledger ++ proof_lines at.proof) (codes "second" ∷ [])
        ∙ ap (λ x. head_lines model s.verdict s.values ++ x) (append_assoc (ledger_lines at.ledger) (proof_lines at.proof) (codes "second" ∷ []));
  }

  pub more-read : AtSecond model lines s → (l : ProofLine) (q : Proof) → IsReadable l → line ≡ line_bytes l → line_taken s.second l ≡ Ok q → AtSecond model all (record s { second = Some q })
  more-read at l q form is made = record {
    answered = at.answered;
    entries = at.entries;
    ledger = at.ledger;
    readable = at.readable;
    leads = at.leads;
    proof = at.proof;
    readable_proof = at.readable_proof;
    reached = at.reached;
    first = at.first;
    accepted = at.accepted;
    bounds = at.bounds;
    stated = at.stated;
    two = at.two;
    shown = at.shown;
    more = at.more ++ l ∷ [];
    readable_more = readable-more at.more l at.readable_more form;
    furthest = q;
    second = refl;
    accepted_more = lines-more (proof_of (fixed_cnf model s at.bounds.first)) at.more l at.furthest at.accepted_more ∙ sym (ap (λ o. line_taken o l) at.second) ∙ made;
    read = one-more lines (head_lines model s.verdict s.values ++ (ledger_lines at.ledger ++ (proof_lines at.proof ++ more_lines at.more))) line (line_bytes l) at.read is
        ∙ more-longer (head_lines model s.verdict s.values) (ledger_lines at.ledger) (proof_lines at.proof) at.more l;
  }
