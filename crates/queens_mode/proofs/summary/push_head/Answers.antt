use Rattle.std.proofs.Common.{◌≡◌, ℕ, List, [], ◌∷◌, ◌++◌, refl, ap, ◌∙◌, append_assoc, codes}
use Rattle.answer_document.specs.Verdicts.{verdict_text}
use Rattle.queens_mode.specs.Summary.{equations_in, count_line}
use Rattle.queens_mode.proofs.Written.{head-written}
use Rattle.queens_mode.proofs.summary.push_head.Goals as goal

-- the line of an equal number
same-count : (old new word : List ℕ) (n m : ℕ) → new ≡ (old ++ count_line word n) ++ 10 ∷ [] → n ≡ m → new ≡ old ++ (count_line word m ++ 10 ∷ [])
same-count old new word n m e f = e ∙ append_assoc old (count_line word n) (10 ∷ []) ∙ ap (λ k. old ++ (count_line word k ++ 10 ∷ [])) f

pub returns : goal.returns
returns c =
    let d = c.args.document.now in
    let cnf = c.args.cnf in
    head-written c.args.out.now.items c.push_count.new.out.items c.push_count-2.new.out.items c.push_count-3.new.out.items c.push_count-4.new.out.items c.push_verdict.new.out.items c.end_line.new.out.items
    (count_line (codes "queens") c.args.size) (count_line (codes "variables") cnf.variables) (count_line (codes "clauses") cnf.clauses) (count_line (codes "equations") (equations_in d.ledger)) (verdict_text d.verdict)
    (same-count c.args.out.now.items c.push_count.new.out.items (codes "queens") c.from.result c.args.size c.in_ok-push_count.ensures c.from.ensures)
    (same-count c.push_count.new.out.items c.push_count-2.new.out.items (codes "variables") c.from-2.result cnf.variables c.in_ok-push_count-2.ensures c.from-2.ensures)
    (same-count c.push_count-2.new.out.items c.push_count-3.new.out.items (codes "clauses") cnf.clauses cnf.clauses c.in_ok-push_count-3.ensures refl)
    (same-count c.push_count-3.new.out.items c.push_count-4.new.out.items (codes "equations") c.from-3.result (equations_in d.ledger) c.in_ok-push_count-4.ensures
    (c.from-3.ensures ∙ c.equations.ensures ∙ ap equations_in c.as_slice.ensures))
    c.in_ok-push_verdict.ensures c.in_ok-end_line.ensures.ok
