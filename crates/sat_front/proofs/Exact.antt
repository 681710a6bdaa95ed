-- A text lists one CNF, or has one line that fails first.
use Rattle.std.proofs.Common.{◌≡◌, ℕ, List, Result, Ok, Err, IfOk, IfErr, refl, sym, ap, ◌∙◌}
use Rattle.std.specs.Prelude.{Some}
use Rattle.bee_text.specs.Lines.{unfinished}
use Rattle.order_ints.specs.declared.cnf.Cnf.{Cnf}
use Rattle.line_texts.proofs.Leads.{whole_same, whole_fits}
use Rattle.line_texts.proofs.Fronts.{misfit_same}
use Rattle.sat_front.specs.declared.fault.CnfFault.{CnfFault}
use Rattle.sat_front.specs.declared.fault.CnfFault.TheVariants.{Form, Memory}
use Rattle.sat_front.specs.Closed.{closed}
use Rattle.sat_front.specs.CnfLines.{nothing_read, NextLine, IsComplete, in_order, IsCnfText, CnfFails}
use Rattle.sat_front.specs.Faults.{CnfFaultOf, IsReadAs, FailsAt}
use Rattle.sat_front.proofs.DraftSame.{FitsDraft, next_same, next_few}

some_same : (a b : ℕ) → Some a ≡ Some b → a ≡ b
some_same a b e = cc

cnf_same : (a b : Cnf) → a.vars ≡ b.vars → a.clauses ≡ b.clauses → a ≡ b
cnf_same a b p q = λ i. record { vars = p i; clauses = q i }

module _ (text : List ℕ) where
  pub text_same : (x y : Cnf) → IsCnfText text x → IsCnfText text y → x ≡ y
  text_same x y p q =
      let same : p.draft ≡ q.draft = whole_same NextLine FitsDraft next_few next_same IsComplete nothing_read tt (closed text) p.draft q.draft p.whole q.whole in
      cnf_same x y
      (some_same x.vars y.vars (sym p.vars ∙ ap (λ d. d.vars) same ∙ q.vars))
      (p.clauses ∙ ap (λ d. in_order d.listed.clauses) same ∙ sym q.clauses)

  pub text_fits : (cnf : Cnf) (line : ℕ) → IsCnfText text cnf → CnfFails text line → ⊥
  text_fits cnf line p m =
      whole_fits NextLine FitsDraft next_few next_same IsComplete nothing_read tt (closed text) p.draft m.stands m.before m.left p.whole m.parts m.lead m.misfit

  pub line_same : (m n : ℕ) → CnfFails text m → CnfFails text n → m ≡ n
  line_same m n p q = misfit_same NextLine FitsDraft next_few next_same IsComplete nothing_read tt (unfinished (closed text)) (closed text) m n refl p q

  pub text_complete : (r : Result Cnf CnfFault) → IfOk r (λ x. IsCnfText text x) → IfErr r (CnfFaultOf text) → (cnf : Cnf) → IsCnfText text cnf → IsReadAs r cnf
  text_complete (Ok x) ok err cnf h = text_same x cnf ok h
  text_complete (Err (Form line)) ok err cnf h = text_fits cnf line h err
  text_complete (Err Memory) ok err cnf h = tt

  pub text_exact : (r : Result Cnf CnfFault) → IfOk r (λ x. IsCnfText text x) → IfErr r (CnfFaultOf text) → (line : ℕ) → CnfFails text line → FailsAt r line
  text_exact (Ok x) ok err line m = text_fits x line ok m
  text_exact (Err (Form n)) ok err line m = line_same n line err m
  text_exact (Err Memory) ok err line m = tt
