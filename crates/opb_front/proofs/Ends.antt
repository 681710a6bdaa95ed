-- A text says one thing, or has one first fault.
use Rattle.std.proofs.Common.{◌≡◌, ◌⊎◌, inl, inr, ℕ, List, [], ◌∷◌, length, refl, sym, ap, subst, ◌∙◌}
use Rattle.std.specs.Prelude.{Result, Ok, Err, IfOk, IfErr}
use Rattle.opb_front.specs.declared.items.Opb.{Opb}
use Rattle.opb_front.specs.declared.items.Term.{Term}
use Rattle.opb_front.specs.declared.places.Place.{Place}
use Rattle.opb_front.specs.declared.places.Place.TheVariants.{First, Objectives, ObjectiveNumber, Terms, TermNumber, Bound, End}
use Rattle.opb_front.specs.declared.fault.Misfit.{Misfit}
use Rattle.opb_front.specs.declared.fault.Misfit.TheVariants as misfit
use Rattle.opb_front.specs.declared.fault.OpbFault.{OpbFault}
use Rattle.opb_front.specs.declared.fault.OpbFault.TheVariants.{Syntax, Number, Memory}
use Rattle.opb_front.specs.Words.{text_lines}
use Rattle.opb_front.specs.Tokens.{text_tokens}
use Rattle.opb_front.specs.Grammar.{IsOpbText}
use Rattle.opb_front.specs.Steps.{Draft, nothing_read, run_lines, IsRest, IsEnded}
use Rattle.opb_front.specs.Faults.{FirstAt, EndsEarly, OpbFails, OpbFaultOf, IsFaultOf, IsReadAs, FailsAs}
use Rattle.opb_front.specs.Outcomes.{opb_of, StopsEarly, IsOutcome}
use Rattle.opb_front.specs.Laws.{EachTextEnds, OneEnd}
use Rattle.opb_front.proofs.Faulty.{run_taken, taken_run}
use Rattle.opb_front.proofs.ByLines.{stop_same, taken_lines, lines_taken, first_of_run, run_of_first}
use Rattle.opb_front.proofs.Whole.{Said, said_run, run_said}

abbrev Lines : Type 0
Lines = Result Draft (Misfit × ℕ)

ok-err : (s : Draft) (m : Misfit × ℕ) → (let r : Lines = Ok s in r ≡ Err m) → ⊥
ok-err s m e = cc

ok-ok : (s u : Draft) → (let r : Lines = Ok s in r ≡ Ok u) → s ≡ u
ok-ok s u e = cc

-- a text that ends too early

pub early_of : (text : List ℕ) (n : ℕ) → StopsEarly text n → EndsEarly text n
early_of text n h = record {
  number_is = h.3;
  fine = taken_run (text_tokens text) h.0 (taken_lines 1 nothing_read (text_lines text) h.0 h.1);
  early = λ opb is. let said = said_run text opb is in
      h.2 (subst IsEnded (ok-ok said.stands h.0 (sym said.run_is ∙ h.1)) said.ended);
}

pub of_early : (text : List ℕ) (n : ℕ) → EndsEarly text n → StopsEarly text n
of_early text n h =
    let taken = run_taken (text_tokens text) h.fine in
    let run = lines_taken 1 nothing_read (text_lines text) taken.0 taken.1 in
    (taken.0, run, (λ ended. h.early (opb_of taken.0) (run_said text taken.0 run ended)), h.number_is)

-- the outcome of a text

abbrev Comes : List ℕ → Misfit → ℕ → Type 0
Comes text misfit.Syntax n = (run_lines 1 nothing_read (text_lines text) ≡ Err (misfit.Syntax, n)) ⊎ StopsEarly text n
Comes text misfit.Number n = run_lines 1 nothing_read (text_lines text) ≡ Err (misfit.Number, n)

fails-of : (text : List ℕ) (m : Misfit) (n : ℕ) → Comes text m n → OpbFails text m n
fails-of text misfit.Syntax n (inl e) = inl (first_of_run text misfit.Syntax n e)
fails-of text misfit.Syntax n (inr h) = inr (early_of text n h)
fails-of text misfit.Number n e = first_of_run text misfit.Number n e

of-fails : (text : List ℕ) (m : Misfit) (n : ℕ) → OpbFails text m n → Comes text m n
of-fails text misfit.Syntax n (inl h) = inl (run_of_first text misfit.Syntax n h)
of-fails text misfit.Syntax n (inr h) = inr (of_early text n h)
of-fails text misfit.Number n h = run_of_first text misfit.Number n h

said-comes : (text : List ℕ) (opb : Opb) (m : Misfit) (n : ℕ) → Said text opb → Comes text m n → ⊥
said-comes text opb misfit.Syntax n h (inl e) = ok-err h.stands (misfit.Syntax, n) (sym h.run_is ∙ e)
said-comes text opb misfit.Syntax n h (inr k) = k.2 (subst IsEnded (ok-ok h.stands k.0 (sym h.run_is ∙ k.1)) h.ended)
said-comes text opb misfit.Number n h e = ok-err h.stands (misfit.Number, n) (sym h.run_is ∙ e)

comes-same : (text : List ℕ) (l m : Misfit) (j k : ℕ) → Comes text l j → Comes text m k → (l ≡ m) × (j ≡ k)
comes-same text misfit.Syntax misfit.Syntax j k (inl e) (inl f) = (refl, ap (λ p. p.1) (stop_same _ _ (sym e ∙ f)))
comes-same text misfit.Syntax misfit.Syntax j k (inl e) (inr h) = absurd (ok-err h.0 _ (sym h.1 ∙ e))
comes-same text misfit.Syntax misfit.Syntax j k (inr h) (inl e) = absurd (ok-err h.0 _ (sym h.1 ∙ e))
comes-same text misfit.Syntax misfit.Syntax j k (inr g) (inr h) = (refl, g.3 ∙ sym h.3)
comes-same text misfit.Syntax misfit.Number j k (inl e) f = (ap (λ p. p.0) (stop_same _ _ (sym e ∙ f)), ap (λ p. p.1) (stop_same _ _ (sym e ∙ f)))
comes-same text misfit.Syntax misfit.Number j k (inr h) f = absurd (ok-err h.0 _ (sym h.1 ∙ f))
comes-same text misfit.Number misfit.Syntax j k e (inl f) = (ap (λ p. p.0) (stop_same _ _ (sym e ∙ f)), ap (λ p. p.1) (stop_same _ _ (sym e ∙ f)))
comes-same text misfit.Number misfit.Syntax j k e (inr h) = absurd (ok-err h.0 _ (sym h.1 ∙ e))
comes-same text misfit.Number misfit.Number j k e f = (refl, ap (λ p. p.1) (stop_same _ _ (sym e ∙ f)))

pub said_same : (text : List ℕ) (a b : Opb) → IsOpbText text a → IsOpbText text b → a ≡ b
said_same text a b p q =
    let x = said_run text a p in
    let y = said_run text b q in
    x.opb_is ∙ ap opb_of (ok-ok x.stands y.stands (sym x.run_is ∙ y.run_is)) ∙ sym y.opb_is

pub said_fails : (text : List ℕ) (opb : Opb) (m : Misfit) (n : ℕ) → IsOpbText text opb → OpbFails text m n → ⊥
said_fails text opb m n p q = said-comes text opb m n (said_run text opb p) (of-fails text m n q)

pub fails_same : (text : List ℕ) (l m : Misfit) (j k : ℕ) → OpbFails text l j → OpbFails text m k → (l ≡ m) × (j ≡ k)
fails_same text l m j k p q = comes-same text l m j k (of-fails text l j p) (of-fails text m k q)

-- the laws

decided : (s : Draft) → IsEnded s ⊎ (IsEnded s → ⊥)
decided s = by s.place s.terms
  where
    by : (p : Place) (terms : List Term) → (IsRest p × (terms ≡ [])) ⊎ (IsRest p × (terms ≡ []) → ⊥)
    by First [] = inl (tt, refl)
    by Terms [] = inl (tt, refl)
    by First (t ∷ ts) = inr (λ h. let e : t ∷ ts ≡ [] = h.1 in cc)
    by Terms (t ∷ ts) = inr (λ h. let e : t ∷ ts ≡ [] = h.1 in cc)
    by Objectives terms = inr (λ h. h.0)
    by (ObjectiveNumber z) terms = inr (λ h. h.0)
    by (TermNumber z) terms = inr (λ h. h.0)
    by (Bound c) terms = inr (λ h. h.0)
    by (End c z) terms = inr (λ h. h.0)

pub each_text : EachTextEnds
each_text text = by (run_lines 1 nothing_read (text_lines text)) refl
  where
    stops : (m : Misfit) (n : ℕ) → run_lines 1 nothing_read (text_lines text) ≡ Err (m, n) → Comes text m n
    stops misfit.Syntax n e = inl e
    stops misfit.Number n e = e

    ends : (s : Draft) → run_lines 1 nothing_read (text_lines text) ≡ Ok s → IsEnded s ⊎ (IsEnded s → ⊥)
        → ((opb : Opb) × IsOpbText text opb) ⊎ ((m : Misfit) × ((line : ℕ) × OpbFails text m line))
    ends s e (inl h) = inl (opb_of s, run_said text s e h)
    ends s e (inr h) = inr (misfit.Syntax, (length (text_lines text), inr (early_of text (length (text_lines text)) (s, e, h, refl))))

    by : (r : Lines) → run_lines 1 nothing_read (text_lines text) ≡ r → ((opb : Opb) × IsOpbText text opb) ⊎ ((m : Misfit) × ((line : ℕ) × OpbFails text m line))
    by (Ok s) e = ends s e (decided s)
    by (Err p) e = inr (p.0, (p.1, fails-of text p.0 p.1 (stops p.0 p.1 e)))

pub one_end : OneEnd
one_end text = (said_same text, said_fails text, fails_same text)

-- what the reader answers

module _ (text : List ℕ) where
  pub outcome_read : (r : Result Opb OpbFault) → IsOutcome text r → IfOk r (IsOpbText text)
  outcome_read (Ok opb) h = subst (IsOpbText text) (sym h.3) (run_said text h.0 h.1 h.2)
  outcome_read (Err e) h = tt

  pub outcome_fault : (r : Result Opb OpbFault) → IsOutcome text r → IfErr r (OpbFaultOf text)
  outcome_fault (Ok opb) h = tt
  outcome_fault (Err (Syntax n)) h = fails-of text misfit.Syntax n h
  outcome_fault (Err (Number n)) h = fails-of text misfit.Number n h
  outcome_fault (Err Memory) h = tt

  pub read_complete : (r : Result Opb OpbFault) → IfOk r (IsOpbText text) → IfErr r (OpbFaultOf text) → (opb : Opb) → IsOpbText text opb → IsReadAs r opb
  read_complete (Ok x) ok err opb h = said_same text x opb ok h
  read_complete (Err (Syntax n)) ok err opb h = said_fails text opb misfit.Syntax n h err
  read_complete (Err (Number n)) ok err opb h = said_fails text opb misfit.Number n h err
  read_complete (Err Memory) ok err opb h = tt

  pub read_exact : (r : Result Opb OpbFault) → IfOk r (IsOpbText text) → IfErr r (OpbFaultOf text) → (fault : OpbFault) → IsFaultOf text fault → FailsAs r fault
  read_exact (Ok x) ok err (Syntax k) h = said_fails text x misfit.Syntax k ok h
  read_exact (Ok x) ok err (Number k) h = said_fails text x misfit.Number k ok h
  read_exact (Ok x) ok err Memory h = h
  read_exact (Err (Syntax n)) ok err (Syntax k) h = ap Syntax ((fails_same text misfit.Syntax misfit.Syntax n k err h).1)
  read_exact (Err (Syntax n)) ok err (Number k) h = let e : misfit.Syntax ≡ misfit.Number = (fails_same text misfit.Syntax misfit.Number n k err h).0 in absurd (cc)
  read_exact (Err (Syntax n)) ok err Memory h = absurd h
  read_exact (Err (Number n)) ok err (Number k) h = ap Number ((fails_same text misfit.Number misfit.Number n k err h).1)
  read_exact (Err (Number n)) ok err (Syntax k) h = let e : misfit.Number ≡ misfit.Syntax = (fails_same text misfit.Number misfit.Syntax n k err h).0 in absurd (cc)
  read_exact (Err (Number n)) ok err Memory h = absurd h
  read_exact (Err Memory) ok err fault h = tt
