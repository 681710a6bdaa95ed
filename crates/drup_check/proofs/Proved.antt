-- What a proof shows.
use Rattle.std.proofs.Common.{◌≡◌, ℕ, inl, inr, true, List, [], ◌∷◌, ◌++◌, sym, ap, ◌∙◌}
use Rattle.std.proofs.lemmas.Bool.{and_from, and_parts}
use Rattle.order_ints.specs.declared.literal.Lit.{Lit}
use Rattle.order_ints.specs.Truth.{Valuation}
use Rattle.order_ints.specs.Satisfies.{clause_truth, clauses_truth}
use Rattle.bee_text.specs.Gaps.{words_of}
use Rattle.line_texts.specs.LineByLine.{Lead}
use Rattle.sat_front.proofs.Reading.{same_truth}
use Rattle.drup_check.specs.DrupLines.{Says, NextClauses}
use Rattle.drup_check.specs.Laws.{NoneWhereProved, NoneOfTextWhereProved}
use Rattle.drup_check.proofs.Implied.{shown_is_implied, none_where_empty}

one_more : (σ : Valuation) (cs : List (List Lit)) (c : List Lit) → clauses_truth σ cs ≡ true → clause_truth σ c ≡ true → clauses_truth σ (cs ++ c ∷ []) ≡ true
one_more σ [] c all holds = and_from (clause_truth σ c) true holds (λ _. true)
one_more σ (d ∷ cs) c all holds =
    let both = and_parts (clause_truth σ d) (clauses_truth σ cs) all in
    and_from (clause_truth σ d) (clauses_truth σ (cs ++ c ∷ [])) both.0 (one_more σ cs c both.1 holds)

module _ (vars : ℕ) (σ : Valuation) where
  says_true : (cs : List (List Lit)) (words : List (List ℕ)) (t : List (List Lit)) → clauses_truth σ cs ≡ true → Says vars cs words t → clauses_truth σ t ≡ true
  says_true cs words t all (inl p) = ap (clauses_truth σ) p.1.after_is ∙ all
  says_true cs words t all (inr p) = ap (clauses_truth σ) p.1.after_is ∙ one_more σ cs p.1.clause all (shown_is_implied cs p.1.clause p.1.shown σ all)

  next_true : (cs t : List (List Lit)) (line : List ℕ) → clauses_truth σ cs ≡ true → NextClauses vars cs line t → clauses_truth σ t ≡ true
  next_true cs t line all (inl p) = ap (clauses_truth σ) p.1 ∙ all
  next_true cs t line all (inr p) = says_true cs (words_of line) t all p.1

  lead_true : (cs : List (List Lit)) (lines : List (List ℕ)) (t : List (List Lit)) → clauses_truth σ cs ≡ true → Lead (NextClauses vars) cs lines t → clauses_truth σ t ≡ true
  lead_true cs [] t all lead = ap (clauses_truth σ) (sym lead) ∙ all
  lead_true cs (line ∷ lines) t all lead = lead_true lead.0 lines t (next_true cs lead.0 line all lead.1) lead.2

pub none_where_proved : NoneWhereProved
none_where_proved cnf text p σ all = none_where_empty p.0 p.1.ended σ (lead_true cnf.vars σ cnf.clauses p.1.lines p.0 all p.1.lead)

pub none_of_text : NoneOfTextWhereProved
none_of_text listed text cnf is p σ all = none_where_proved cnf text p σ (same_truth listed cnf is σ ∙ all)
