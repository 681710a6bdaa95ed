-- A text is in form, or has one line that fails first.
use Rattle.std.proofs.Common.{◌≡◌, ℕ, ◌+◌, ◌^◌, ◌<◌, inl, inr, Bool, false, List, [], ◌∷◌, length, Result, Ok, Err, IfOk, IfErr, refl, sym, ap, subst, ◌∙◌, arith}
use Rattle.std.proofs.lemmas.List.{length-replicate}
use Rattle.bee_text.specs.Lines.{unfinished}
use Rattle.order_ints.specs.declared.cnf.Cnf.{Cnf}
use Rattle.dimacs_read.specs.declared.fault.CompiledTextFault.{CompiledTextFault}
use Rattle.dimacs_read.specs.declared.fault.CompiledTextFault.TheVariants.{Form, Memory}
use Rattle.dimacs_read.specs.declared.fault.ValuesTextFault.{ValuesTextFault}
use Rattle.dimacs_read.specs.declared.fault.ValuesTextFault.TheVariants as values_fault
use Rattle.dimacs_out.specs.declared.text.CnfText.{CnfText}
use Rattle.dimacs_read.specs.Values.{NextValues, AreTold, nothing_told, IsValues, ValuesFail}
use Rattle.dimacs_read.specs.TextLines.{first_above, IsTextOf}
use Rattle.dimacs_read.specs.TextSteps.{Draft, nothing_read, held, NextLine, IsComplete, IsAbove, FaultAt, FaultLine, TextFails}
use Rattle.dimacs_read.specs.Faults.{ValuesFault, TextFaultOf, IsReadAs, FailsAt, AreReadAs, FailAt}
use Rattle.line_texts.proofs.Leads.{whole_same, whole_fits}
use Rattle.line_texts.proofs.Fronts.{front_same, misfit_same}
use Rattle.dimacs_read.proofs.ValuesTell.{FitsTold, next_same, next_fits}
use Rattle.dimacs_read.proofs.ValuesRead.{some_same}
use Rattle.dimacs_read.proofs.TextSame.{FitsDraft, next_line_same, next_line_fits, numbers_tell}
use Rattle.dimacs_read.proofs.TextLeads.{draft_of, text_whole}

-- values

start_fits : (cnf : Cnf) → cnf.vars < 2 ^ 32 → FitsTold (nothing_told cnf.vars)
start_fits cnf small = omega (arith, small, length-replicate cnf.vars false)

module _ (cnf : Cnf) (small : cnf.vars < 2 ^ 32) (text : List ℕ) where
  values_same : (v w : List Bool) → IsValues cnf text v → IsValues cnf text w → v ≡ w
  values_same v w p q =
      let same : p.told ≡ q.told = whole_same (NextValues cnf) FitsTold (next_fits cnf) (next_same cnf) AreTold (nothing_told cnf.vars) (start_fits cnf small) text p.told q.told p.whole q.whole in
      sym p.values_are ∙ ap (λ t. t.known.values) same ∙ q.values_are

  pub values_fit : (v : List Bool) (line : ℕ) → IsValues cnf text v → ValuesFail cnf text line → ⊥
  values_fit v line p m =
      whole_fits (NextValues cnf) FitsTold (next_fits cnf) (next_same cnf) AreTold (nothing_told cnf.vars) (start_fits cnf small) text p.told m.stands m.before m.left p.whole m.parts m.lead m.misfit

  pub line_same : (m n : ℕ) → ValuesFail cnf text m → ValuesFail cnf text n → m ≡ n
  line_same m n p q = misfit_same (NextValues cnf) FitsTold (next_fits cnf) (next_same cnf) AreTold (nothing_told cnf.vars) (start_fits cnf small) (unfinished text) text m n refl p q

  module _ {X : Type 0} (view : X → List Bool) where
    pub values_complete : (r : Result X ValuesTextFault) → IfOk r (λ x. IsValues cnf text (view x)) → IfErr r (ValuesFault cnf text) → (v : List Bool) → IsValues cnf text v → AreReadAs view r v
    values_complete (Ok x) ok err v h = values_same (view x) v ok h
    values_complete (Err (values_fault.Misfit line)) ok err v h = values_fit v line h err
    values_complete (Err (values_fault.Missing line)) ok err v h = values_fit v line h err
    values_complete (Err values_fault.Memory) ok err v h = tt

    pub values_exact : (r : Result X ValuesTextFault) → IfOk r (λ x. IsValues cnf text (view x)) → IfErr r (ValuesFault cnf text) → (line : ℕ) → ValuesFail cnf text line → FailAt r line
    values_exact (Ok x) ok err line m = values_fit (view x) line ok m
    values_exact (Err (values_fault.Misfit n)) ok err line m = line_same n line err m
    values_exact (Err (values_fault.Missing n)) ok err line m = line_same n line err m
    values_exact (Err values_fault.Memory) ok err line m = tt

-- compiled texts

pub text_same : (text : List ℕ) (x y : CnfText) → IsTextOf x text → IsTextOf y text → x ≡ y
text_same text x y p q =
    let same : draft_of x ≡ draft_of y = whole_same NextLine FitsDraft next_line_fits next_line_same IsComplete nothing_read tt text (draft_of x) (draft_of y) (text_whole x text p) (text_whole y text q) in
    ap held same

pub text_fits : (text : List ℕ) (x : CnfText) (line : ℕ) → IsTextOf x text → TextFails text line → ⊥
text_fits text x line p m =
    whole_fits NextLine FitsDraft next_line_fits next_line_same IsComplete nothing_read tt text (draft_of x) m.stands m.before m.left (text_whole x text p) m.parts m.lead m.misfit

above_same : (s : Draft) (line : List ℕ) (m n : ℕ) → IsAbove s line m → IsAbove s line n → m ≡ n
above_same s line m n p q =
    let same = numbers_tell line p.vars q.vars p.count q.count p.numbers q.numbers in
    some_same m n (sym p.above ∙ ap (λ v. first_above v s.entries s.ledger) same.vars_same ∙ q.above)

fault_at_same : (s : Draft) (line : List ℕ) (here m n : ℕ) → FaultAt s line here m → FaultAt s line here n → m ≡ n
fault_at_same s line here m n (inl p) (inl q) = above_same s line m n p q
fault_at_same s line here m n (inl p) (inr q) = absurd (q.0 m p)
fault_at_same s line here m n (inr p) (inl q) = absurd (p.0 n q)
fault_at_same s line here m n (inr p) (inr q) = p.1 ∙ sym q.1

fault_line_same : (s : Draft) (left : List (List ℕ)) (here m n : ℕ) → FaultLine s left here m → FaultLine s left here n → m ≡ n
fault_line_same s [] here m n p q = p ∙ sym q
fault_line_same s (line ∷ left) here m n p q = fault_at_same s line here m n p q

pub text_line_same : (text : List ℕ) (m n : ℕ) → TextFails text m → TextFails text n → m ≡ n
text_line_same text m n p q =
    let same = front_same NextLine FitsDraft next_line_fits next_line_same IsComplete nothing_read tt (unfinished text) p.before p.left q.before q.left p.stands q.stands (sym p.parts ∙ q.parts) p.lead p.misfit q.lead q.misfit in
    let P : Draft → Type 0 = λ s. FaultLine s q.left (length q.before + 1) n in
    let Q : List (List ℕ) → Type 0 = λ ls. FaultLine p.stands ls (length q.before + 1) n in
    let R : List (List ℕ) → Type 0 = λ ls. FaultLine p.stands p.left (length ls + 1) n in
    fault_line_same p.stands p.left (length p.before + 1) m n p.fault (subst R (sym same.fronts) (subst Q (sym same.lefts) (subst P (sym same.stands) q.fault)))

pub text_complete : (text : List ℕ) (r : Result CnfText CompiledTextFault) → IfOk r (λ x. IsTextOf x text) → IfErr r (TextFaultOf text) → (x : CnfText) → IsTextOf x text → IsReadAs (λ y. y) r x
text_complete text (Ok y) ok err x h = text_same text y x ok h
text_complete text (Err (Form line)) ok err x h = text_fits text x line h err
text_complete text (Err Memory) ok err x h = tt

pub text_exact : (text : List ℕ) (r : Result CnfText CompiledTextFault) → IfOk r (λ x. IsTextOf x text) → IfErr r (TextFaultOf text) → (line : ℕ) → TextFails text line → FailsAt r line
text_exact text (Ok x) ok err line m = text_fits text x line ok m
text_exact text (Err (Form n)) ok err line m = text_line_same text n line err m
text_exact text (Err Memory) ok err line m = tt
