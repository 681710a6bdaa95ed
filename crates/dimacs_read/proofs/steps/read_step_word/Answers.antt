use Rattle.std.proofs.Common.{◌≡◌, ◌+◌, ◌∷◌, ◌++◌, ◌-◌, Some, take, drop, length, sym, ap, ◌∙◌, arith}
use Rattle.bee_text.proofs.SearchLemmas.{separator_cut}
use Rattle.ledger_text.specs.Words.{atom_word}
use Rattle.dimacs_read.proofs.ValuesRead.{some_same, none_some}
use Rattle.dimacs_read.proofs.StepsRead.{step_cut, step_has_colon}
use Rattle.dimacs_read.proofs.steps.read_step_word.Goals as goal

pub returns-in_err-colon-clause-complete : goal.returns-in_err-colon-clause-complete
returns-in_err-colon-clause-complete c = λ s h e. absurd (step_has_colon c.args.word.now s e (sym c.find_colon.ensures ∙ c.in_err-colon.was))

pub returns-in_err-atom-clause-complete : goal.returns-in_err-atom-clause-complete
returns-in_err-atom-clause-complete c = λ s h e.
    let cut = step_cut c.args.word.now c.in_ok-colon.colon s h e (sym c.find_colon.ensures ∙ c.in_ok-colon.was) in
    absurd (none_some c.read_atom.result s.0 c.in_err-atom.was (c.read_atom.ensures.complete s.0 h.0 cut.front))

pub returns-in_err-weight-clause-complete : goal.returns-in_err-weight-clause-complete
returns-in_err-weight-clause-complete c = λ s h e.
    let cut = step_cut c.args.word.now c.in_ok-colon.colon s h e (sym c.find_colon.ensures ∙ c.in_ok-colon.was) in
    absurd (none_some c.read_number.result s.1 c.in_err-weight.was (c.read_number.ensures.complete s.1 (omega (arith, h.2)) cut.back))

pub returns-then-weight-eq0-clause-complete : goal.returns-then-weight-eq0-clause-complete
returns-then-weight-eq0-clause-complete c = λ s h e.
    let cut = step_cut c.args.word.now c.in_ok-colon.colon s h e (sym c.find_colon.ensures ∙ c.in_ok-colon.was) in
    let same : s.1 ≡ c.in_ok-weight.weight = some_same s.1 c.in_ok-weight.weight (sym (c.read_number.ensures.complete s.1 (omega (arith, h.2)) cut.back) ∙ c.in_ok-weight.was) in
    absurd (omega (arith, same, h.1, c.if-weight-eq0.true))

pub returns-clause-read : goal.returns-clause-read
returns-clause-read c =
    let cut = separator_cut 58 c.args.word.now c.in_ok-colon.colon (sym c.find_colon.ensures ∙ c.in_ok-colon.was) in
    let atom = c.in_ok-atom.ensures.read in
    let weight = c.in_ok-weight.ensures.read in (
      (atom.0, omega (arith, c.if-weight-eq0.false), omega (arith, weight.0)),
      cut.1 ∙ ap (λ xs. xs ++ 58 ∷ take (length c.args.word.now - (c.in_ok-colon.colon + 1)) (drop (c.in_ok-colon.colon + 1) c.args.word.now)) atom.1 ∙ ap (λ xs. atom_word c.in_ok-atom.atom ++ 58 ∷ xs) weight.1,
    )

pub returns-clause-complete : goal.returns-clause-complete
returns-clause-complete c = λ s h e.
    let cut = step_cut c.args.word.now c.in_ok-colon.colon s h e (sym c.find_colon.ensures ∙ c.in_ok-colon.was) in
    let atom = some_same s.0 c.in_ok-atom.atom (sym (c.read_atom.ensures.complete s.0 h.0 cut.front) ∙ c.in_ok-atom.was) in
    let weight : s.1 ≡ c.in_ok-weight.weight = some_same s.1 c.in_ok-weight.weight (sym (c.read_number.ensures.complete s.1 (omega (arith, h.2)) cut.back) ∙ c.in_ok-weight.was) in
    λ i. Some (sym atom i, sym weight i)
