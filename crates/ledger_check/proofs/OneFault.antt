-- A line says one thing where it stands, so a text has one first line that fails.
use Rattle.std.proofs.Common.{◌≡◌, ◌⊎◌, ℕ, zero, suc, ◌+◌, ◌<◌, ◌≤◌, Bool, true, false, List, [], ◌∷◌, ◌++◌, get_or, codes, length, Some, Result, Ok, refl, sym, ap, ◌∙◌, subst, ⊎_elim, arith}
use Rattle.std.specs.Prelude.{slice_get, if◌then◌else◌}
use Rattle.std.proofs.lemmas.Bool.{true≢false}
use Rattle.std.proofs.lemmas.List.{append_cancel_left}
use Rattle.model_meaning.specs.declared.model.Decl.{Decl}
use Rattle.model_meaning.specs.declared.model.Model.{Model}
use Rattle.ledger_text.specs.declared.line.Line.{Line}
use Rattle.ledger_text.specs.Steps.{step_text}
use Rattle.proof_check.specs.declared.line.ProofLine.{ProofLine}
use Rattle.proof_check.specs.Lines.{line_bytes, IsReadable}
use Rattle.answer_document.specs.Goals.{has_second}
use Rattle.answer_document.specs.declared.verdict.Bounds.{Bounds}
use Rattle.answer_document.specs.declared.verdict.Verdict.{Verdict}
use Rattle.answer_document.specs.declared.verdict.Verdict.TheVariants.{Satisfiable, Unsatisfiable, Optimum, Unknown}
use Rattle.answer_document.specs.Verdicts.{verdict_text}
use Rattle.answer_document.specs.DocumentText.{best_line}
use Rattle.answer_document.specs.Valid.{stated, FitNumbers}
use Rattle.answer_document.specs.Told.{FitsCount}
use Rattle.answer_document.proofs.LinesTell.{best-tells, verdict_told, verdict-tells, step-tells, step-begins}
use Rattle.answer_document.proofs.ProofLinesTell.{line-tells, line-begins}
use Rattle.line_texts.specs.LineByLine.{FirstMisfit}
use Rattle.line_texts.proofs.Fronts.{misfit_same, misfit_first, missing_first}
use Rattle.ledger_check.specs.declared.part.Part.{Part}
use Rattle.ledger_check.specs.declared.part.Part.TheVariants as part
use Rattle.ledger_check.specs.declared.fault.Why.{Why}
use Rattle.ledger_check.specs.declared.told.Told.{Told}
use Rattle.ledger_check.specs.Items.{Item, Version, Answer, Best, Value, LedgerBegins, Step, ProofBegins, Derived, SecondBegins, End, Standing, told_word, told_line, item_line, IsVerdictLine, IsToldValue, MayStandIn, Says}
use Rattle.ledger_check.specs.Tests.{start_standing, taken}
use Rattle.ledger_check.specs.Reading.{IsNext, IsBecause, IsEnd}
use Rattle.ledger_check.specs.Checked.{IsFirstFault}
use Rattle.ledger_check.proofs.WordLaws.{other, first_byte, told-tells}

-- Versions and verdicts.

version-tells : (a b : Bool) → (if a then codes "bee 2" else codes "bee 1") ≡ (if b then codes "bee 2" else codes "bee 1") → a ≡ b
version-tells true true e = refl
version-tells false false e = refl
version-tells true false e = other 49 50 (omega arith) (sym (ap (λ line. get_or line 4 0) e))
version-tells false true e = other 49 50 (omega arith) (ap (λ line. get_or line 4 0) e)

verdict-numbers : (two : Bool) (v : Verdict) → IsVerdictLine two v → FitNumbers (stated v) × FitsCount v × (verdict_told v ≡ v)
verdict-numbers two Satisfiable h = (tt, tt, refl)
verdict-numbers two Unsatisfiable h = (tt, tt, refl)
verdict-numbers two (Optimum b) h = ((h.0, h.1), tt, refl)
verdict-numbers two (Unknown n best) h = (subst FitNumbers (sym h.1) tt, h.0, ap (Unknown n) (sym h.1))

verdict-line-tells : (two : Bool) (v w : Verdict) → IsVerdictLine two v → IsVerdictLine two w → verdict_text v ≡ verdict_text w → v ≡ w
verdict-line-tells two v w p q e =
    let a = verdict-numbers two v p in
    let b = verdict-numbers two w q in
    sym a.2 ∙ verdict-tells v w a.0 b.0 a.1 b.1 e ∙ b.2

-- Values.

-- a name is left, so there is one whose turn it is
turn : (ds : List Decl) (n : ℕ) → n < length ds → (d : Decl) × (slice_get ds n ≡ Some d)
turn [] n h = absurd (omega (arith, h))
turn (d ∷ ds) zero h = (d, refl)
turn (d ∷ ds) (suc n) h = turn ds n (omega (arith, h))

value-tells : (ds : List Decl) (n : ℕ) (t u : Told) → n < length ds → IsToldValue t → IsToldValue u → told_line (slice_get ds n) t ≡ told_line (slice_get ds n) u → t ≡ u
value-tells ds n t u left p q e =
    let d = turn ds n left in
    let named : told_line (Some d.0) t ≡ told_line (Some d.0) u = sym (ap (λ o. told_line o t) d.1) ∙ e ∙ ap (λ o. told_line o u) d.1 in
    told-tells t u p q (append_cancel_left (codes " = ") (told_word t) (told_word u) (append_cancel_left d.0.name (codes " = " ++ told_word t) (codes " = " ++ told_word u) named))

-- Lines of which one begins with a letter, and the other doesn't.

best-no-ledger : (b : Bounds) → best_line b ≡ codes "ledger" → ⊥
best-no-ledger b e = other 98 108 (omega arith) (ap first_byte e)

step-no-proof : (l : Line) → step_text l ≡ codes "proof" → ⊥
step-no-proof l e = step-begins l (ap first_byte e)

line-no-word : (l : ProofLine) (w : List ℕ) → IsReadable l → 58 ≤ first_byte w → line_bytes l ≡ w → ⊥
line-no-word l w h letter e = let same : first_byte (line_bytes l) ≡ first_byte w = ap first_byte e in omega (arith, same, letter, line-begins l h)

-- What two lines say that are one.

module _ (model : Model) (s : Standing) where
  items-tell : (p : Part) (i j : Item) → MayStandIn model s p i → MayStandIn model s p j → item_line model s i ≡ item_line model s j → i ≡ j
  items-tell part.Version (Version a) (Version b) h k e = ap Version (version-tells a b e)
  items-tell part.Verdict (Answer v) (Answer w) h k e = ap Answer (verdict-line-tells (has_second model.goal) v w h k e)
  items-tell part.Best (Best b) (Best c) h k e = ap Best (best-tells b c (h.0, h.1) (k.0, k.1) e)
  items-tell part.Best (Best b) LedgerBegins h k e = absurd (best-no-ledger b e)
  items-tell part.Best LedgerBegins (Best c) h k e = absurd (best-no-ledger c (sym e))
  items-tell part.Best LedgerBegins LedgerBegins h k e = refl
  items-tell part.Values (Value t) (Value u) h k e = ap Value (value-tells model.decls (length s.values) t u h.0 h.1 k.1 e)
  items-tell part.Values (Value t) LedgerBegins h k e = absurd (k.0 h.0)
  items-tell part.Values (Value t) End h k e = absurd (k.0 h.0)
  items-tell part.Values LedgerBegins (Value u) h k e = absurd (h.0 k.0)
  items-tell part.Values End (Value u) h k e = absurd (h.0 k.0)
  items-tell part.Values LedgerBegins LedgerBegins h k e = refl
  items-tell part.Values LedgerBegins End h k e = absurd (true≢false (sym h.1 ∙ k.1))
  items-tell part.Values End LedgerBegins h k e = absurd (true≢false (sym k.1 ∙ h.1))
  items-tell part.Values End End h k e = refl
  items-tell part.Unanswered LedgerBegins LedgerBegins h k e = refl
  items-tell part.Ledger (Step l) (Step m) h k e = ap Step (step-tells l m h k e)
  items-tell part.Ledger (Step l) ProofBegins h k e = absurd (step-no-proof l e)
  items-tell part.Ledger ProofBegins (Step m) h k e = absurd (step-no-proof m (sym e))
  items-tell part.Ledger ProofBegins ProofBegins h k e = refl
  items-tell part.Proof (Derived l) (Derived m) h k e = ap Derived (line-tells l m h k e)
  items-tell part.Proof (Derived l) SecondBegins h k e = absurd (line-no-word l (codes "second") h (omega arith) e)
  items-tell part.Proof (Derived l) End h k e = absurd (line-no-word l (codes "end") h (omega arith) e)
  items-tell part.Proof SecondBegins (Derived m) h k e = absurd (line-no-word m (codes "second") k (omega arith) (sym e))
  items-tell part.Proof SecondBegins SecondBegins h k e = refl
  items-tell part.Proof SecondBegins End h k e = other 101 115 (omega arith) (sym (ap first_byte e))
  items-tell part.Proof End (Derived m) h k e = absurd (line-no-word m (codes "end") k (omega arith) (sym e))
  items-tell part.Proof End SecondBegins h k e = other 101 115 (omega arith) (ap first_byte e)
  items-tell part.Proof End End h k e = refl
  items-tell part.Second (Derived l) (Derived m) h k e = ap Derived (line-tells l m h k e)
  items-tell part.Second (Derived l) End h k e = absurd (line-no-word l (codes "end") h (omega arith) e)
  items-tell part.Second End (Derived m) h k e = absurd (line-no-word m (codes "end") k (omega arith) (sym e))
  items-tell part.Second End End h k e = refl
  items-tell part.Version (Version a) j h k e = elim k [ ]
  items-tell part.Verdict (Answer v) j h k e = elim k [ ]
  items-tell part.Best (Best b) j h k e = elim k [ ]
  items-tell part.Best LedgerBegins j h k e = elim k [ ]
  items-tell part.Values (Value t) j h k e = elim k [ ]
  items-tell part.Values LedgerBegins j h k e = elim k [ ]
  items-tell part.Values End j h k e = elim k [ ]
  items-tell part.Unanswered LedgerBegins j h k e = elim k [ ]
  items-tell part.Ledger (Step l) j h k e = elim k [ ]
  items-tell part.Ledger ProofBegins j h k e = elim k [ ]
  items-tell part.Proof (Derived l) j h k e = elim k [ ]
  items-tell part.Proof SecondBegins j h k e = elim k [ ]
  items-tell part.Proof End j h k e = elim k [ ]
  items-tell part.Second (Derived l) j h k e = elim k [ ]
  items-tell part.Second End j h k e = elim k [ ]
  items-tell p i j h k e = elim h [ ]

-- a line says one thing where it stands
pub one_item : (model : Model) (s : Standing) (line : List ℕ) (i j : Item) → Says model s line i → Says model s line j → i ≡ j
one_item model s line i j p q = items-tell model s s.part i j p.0 q.0 (sym p.1 ∙ q.1)

-- so it leads to one standing
pub one_next : (model : Model) (s t u : Standing) (line : List ℕ) → IsNext model s line t → IsNext model s line u → t ≡ u
one_next model s t u line p q =
    same (taken model s p.item) t u p.taken (ap (taken model s) (one_item model s line p.item q.item p.says q.says) ∙ q.taken)
  where
    same : (r : Result Standing Why) (t u : Standing) → r ≡ Ok t → r ≡ Ok u → t ≡ u
    same r t u p q = cc

abbrev Any : Standing → Type 0
Any s = Unit {0}

first-misfit : (model : Model) (text : List ℕ) (n : ℕ) (why : Why) → IsFirstFault model text n why → FirstMisfit (IsNext model) IsEnd (start_standing model) text n
first-misfit model text n why h =
    ⊎_elim (misfit_first (IsNext model) IsEnd (start_standing model) text n (IsBecause model) why) (λ m. missing_first (IsNext model) IsEnd (start_standing model) text n m.0) h

-- and a text has one first line that fails
pub one_first_fault : (model : Model) (text : List ℕ) (m n : ℕ) (why cause : Why) → IsFirstFault model text m why → IsFirstFault model text n cause → m ≡ n
one_first_fault model text m n why cause p q =
    misfit_same (IsNext model) Any (λ s t line good next. tt) (λ s t u line good p q. one_next model s t u line p q) IsEnd (start_standing model) tt _ text m n refl (first-misfit model text m why p) (first-misfit model text n cause q)
