-- The lines of what can be read lead to it.
use Rattle.std.proofs.Common.{◌≡◌, ◌≢◌, ℕ, ◌+◌, ◌^◌, ◌≤◌, inl, inr, List, [], ◌∷◌, ◌++◌, length, map, refl, sym, ap, subst, ◌∙◌, arith, length-append}
use Rattle.std.specs.List.{list_all}
use Rattle.std.proofs.lemmas.Bool.{and_from}
use Rattle.std.proofs.lemmas.List.{append-nil, append_assoc}
use Rattle.std.proofs.lemmas.List.Folds.{list_all-append}
use Rattle.bee_text.specs.Lines.{lacks, AreLines}
use Rattle.order_ints.specs.declared.literal.Lit.{Lit}
use Rattle.order_ints.specs.Place.{ClausesBelow}
use Rattle.ledger_text.specs.declared.line.Line.{Line}
use Rattle.bumblebee_reader.specs.Names.{IsNew, AreDeclared}
use Rattle.name_map.specs.declared.entries.MapEntry.{MapEntry}
use Rattle.dimacs_out.specs.CompiledText.{entry_line, clause_line, ledger_line, numbers_line, text_lines}
use Rattle.dimacs_out.proofs.LinesTell.{entry_line_line, clause_lines_lines, numbers_line_line}
use Rattle.dimacs_out.proofs.LedgerTells.{ledger_line_line}
use Rattle.dimacs_out.specs.declared.text.CnfText.{CnfText}
use Rattle.dimacs_read.specs.declared.draft.TextStage.{TextStage}
use Rattle.dimacs_read.specs.declared.draft.TextStage.TheVariants.{Start, Names, Steps, Clauses}
use Rattle.line_texts.specs.LineByLine.{Lead, IsWhole}
use Rattle.line_texts.proofs.Leads.{lead_join}
use Rattle.dimacs_read.specs.TextLines.{AreReadableEntries, AreReadableSteps, IsReadable, IsTextOf}
use Rattle.dimacs_read.specs.TextSteps.{Draft, nothing_read, IsNamed, IsLedgered, IsProblem, IsClause, NextLine, IsComplete, MayHaveNumbers}
use Rattle.dimacs_read.proofs.TextSame.{entry_of, line_of}

-- names

new_of : (n x : List ℕ) (xs ys : List (List ℕ)) → IsNew x (xs ++ n ∷ ys) → n ≢ x
new_of n x [] ys h = λ e. h.0 (sym e)
new_of n x (z ∷ xs) ys h = new_of n x xs ys h.1

declared_new : (xs : List (List ℕ)) (n : List ℕ) (ys : List (List ℕ)) → AreDeclared (xs ++ n ∷ ys) → IsNew n xs
declared_new [] n ys h = tt
declared_new (x ∷ xs) n ys h = (new_of n x xs ys h.1, declared_new xs n ys h.2)

abbrev among_names : List MapEntry → Draft
among_names es = record { stage = Names; entries = es; ledger = []; clauses = [] }

lead_names : (done : List MapEntry) (names : List (List ℕ)) (es : List MapEntry) → names ≡ map (λ e. e.name) done → AreReadableEntries es → AreDeclared (names ++ map (λ e. e.name) es)
    → Lead NextLine (among_names done) (map entry_line es) (among_names (done ++ es))
lead_names done names [] are h d = ap among_names (sym (append-nil done))
lead_names done names (e ∷ es) are h d =
    let new : IsNew e.name names = declared_new names e.name (map (λ f. f.name) es) d in
    let P : List (List ℕ) → Type 0 = λ ns. IsNew e.name ns in
    let next : IsNamed (among_names done) (entry_line e) (among_names (done ++ e ∷ [])) = record { entry = e; spelled = refl; readable = h.0; new = subst P are new; after = refl } in
    let Q : List (List ℕ) → Type 0 = AreDeclared in
    let rest = lead_names (done ++ e ∷ []) (names ++ e.name ∷ []) es (push done names e are) h.1 (subst Q (sym (append_assoc names (e.name ∷ []) (map (λ f. f.name) es))) d) in
    let R : List MapEntry → Type 0 = λ fs. Lead NextLine (among_names (done ++ e ∷ [])) (map entry_line es) (among_names fs) in
    (among_names (done ++ e ∷ []), inl next, subst R (append_assoc done (e ∷ []) es) rest)
  where
    push : (done : List MapEntry) (names : List (List ℕ)) (e : MapEntry) → names ≡ map (λ f. f.name) done → names ++ e.name ∷ [] ≡ map (λ f. f.name) (done ++ e ∷ [])
    push done names e are = ap (λ ns. ns ++ e.name ∷ []) are ∙ grow done e
      where
        grow : (done : List MapEntry) (e : MapEntry) → map (λ f. f.name) done ++ e.name ∷ [] ≡ map (λ f. f.name) (done ++ e ∷ [])
        grow [] e = refl
        grow (f ∷ done) e = ap (λ ns. f.name ∷ ns) (grow done e)

-- the ledger

abbrev behind_names : TextStage → List MapEntry → List Line → Draft
behind_names g es ls = record { stage = g; entries = es; ledger = ls; clauses = [] }

next_ledgered : (g : TextStage) (es : List MapEntry) (ls : List Line) (line : List ℕ) (t : Draft) → MayHaveNumbers g → IsLedgered (behind_names g es ls) line t → NextLine (behind_names g es ls) line t
next_ledgered Start es ls line t may p = absurd may
next_ledgered Names es ls line t may p = inr (inl p)
next_ledgered Steps es ls line t may p = inl p
next_ledgered (Clauses vars count) es ls line t may p = absurd may

next_problem : (g : TextStage) (es : List MapEntry) (ls : List Line) (line : List ℕ) (t : Draft) → MayHaveNumbers g → IsProblem (behind_names g es ls) line t → NextLine (behind_names g es ls) line t
next_problem Start es ls line t may p = absurd may
next_problem Names es ls line t may p = inr (inr p)
next_problem Steps es ls line t may p = inr p
next_problem (Clauses vars count) es ls line t may p = absurd may

pub record LeadsBehind (g : TextStage) (es : List MapEntry) (done ls : List Line) : Type 0 where
  pub stage : TextStage
  pub may : MayHaveNumbers stage
  pub lead : Lead NextLine (behind_names g es done) (map ledger_line ls) (behind_names stage es (done ++ ls))

lead_ledger : (g : TextStage) (es : List MapEntry) (done ls : List Line) → MayHaveNumbers g → AreReadableSteps ls → LeadsBehind g es done ls
lead_ledger g es done [] may h = record { stage = g; may = may; lead = ap (behind_names g es) (sym (append-nil done)) }
lead_ledger g es done (l ∷ ls) may h =
    let rest = lead_ledger Steps es (done ++ l ∷ []) ls tt h.1 in
    let next : IsLedgered (behind_names g es done) (ledger_line l) (behind_names Steps es (done ++ l ∷ [])) = record { step = l; spelled = refl; readable = h.0; after = refl } in
    let R : List Line → Type 0 = λ ms. Lead NextLine (behind_names Steps es (done ++ l ∷ [])) (map ledger_line ls) (behind_names rest.stage es ms) in
    record {
      stage = rest.stage;
      may = rest.may;
      lead = (behind_names Steps es (done ++ l ∷ []), next_ledgered g es done (ledger_line l) (behind_names Steps es (done ++ l ∷ [])) may next, subst R (append_assoc done (l ∷ []) ls) rest.lead);
    }

-- the clauses

abbrev among_clauses : ℕ → ℕ → List MapEntry → List Line → List (List Lit) → Draft
among_clauses vars count es ls cs = record { stage = Clauses vars count; entries = es; ledger = ls; clauses = cs }

lead_clauses : (vars count : ℕ) (es : List MapEntry) (ls : List Line) (done cs : List (List Lit)) → length done + length cs ≤ count → ClausesBelow (vars + 1) cs
    → Lead NextLine (among_clauses vars count es ls done) (map clause_line cs) (among_clauses vars count es ls (done ++ cs))
lead_clauses vars count es ls done [] few h = ap (among_clauses vars count es ls) (sym (append-nil done))
lead_clauses vars count es ls done (c ∷ cs) few h =
    let next : IsClause vars count (among_clauses vars count es ls done) (clause_line c) (among_clauses vars count es ls (done ++ c ∷ [])) =
    record { clause = c; spelled = refl; below = h.0; fewer = omega arith; after = refl } in
    let rest = lead_clauses vars count es ls (done ++ c ∷ []) cs (omega (arith, length-append done (c ∷ []))) h.1 in
    let R : List (List Lit) → Type 0 = λ ds. Lead NextLine (among_clauses vars count es ls (done ++ c ∷ [])) (map clause_line cs) (among_clauses vars count es ls ds) in
    (among_clauses vars count es ls (done ++ c ∷ []), next, subst R (append_assoc done (c ∷ []) cs) rest)

-- the whole

abbrev pub draft_of : CnfText → Draft
draft_of x = among_clauses x.cnf.vars (length x.cnf.clauses) x.entries x.ledger x.cnf.clauses

pub text_leads : (x : CnfText) → IsReadable x → Lead NextLine nothing_read (text_lines x) (draft_of x)
text_leads x h =
    let names = lead_names [] [] x.entries refl h.entries h.names in
    let ledger = lead_ledger Names x.entries [] x.ledger tt h.ledger in
    let vars = x.cnf.vars in
    let count = length x.cnf.clauses in
    let open_draft = behind_names ledger.stage x.entries x.ledger in
    let start = among_clauses vars count x.entries x.ledger [] in
    let problem : IsProblem open_draft (numbers_line vars count) start = record {
      vars = vars;
      count = count;
      numbers = record { spelled = refl; vars_fit = omega (arith, h.vars); count_fits = h.count };
      most = h.vars;
      within = h.within;
      after = refl;
    } in
    let clauses = lead_clauses vars count x.entries x.ledger [] x.cnf.clauses (omega arith) h.clauses in
    let behind : Lead NextLine open_draft (numbers_line vars count ∷ map clause_line x.cnf.clauses) (draft_of x) =
    (start, next_problem ledger.stage x.entries x.ledger (numbers_line vars count) start ledger.may problem, clauses) in
    let later = lead_join NextLine (among_names x.entries) (map ledger_line x.ledger) (numbers_line vars count ∷ map clause_line x.cnf.clauses) open_draft (draft_of x) ledger.lead behind in
    let all = lead_join NextLine (among_names []) (map entry_line x.entries) (map ledger_line x.ledger ++ numbers_line vars count ∷ map clause_line x.cnf.clauses) (among_names x.entries) (draft_of x) names later in
    (among_names [], (refl, refl), all)

-- the lines are lines

ledger_lines_lines : (ls : List Line) → AreReadableSteps ls → AreLines (map ledger_line ls)
ledger_lines_lines [] h = refl
ledger_lines_lines (l ∷ ls) h = and_from (lacks 10 (ledger_line l)) (list_all (lacks 10) (map ledger_line ls)) (ledger_line_line (2 ^ 27 + 1) l (omega arith) (line_of l h.0)) (ledger_lines_lines ls h.1)

entry_lines_lines : (es : List MapEntry) → AreReadableEntries es → AreLines (map entry_line es)
entry_lines_lines [] h = refl
entry_lines_lines (e ∷ es) h =
    and_from (lacks 10 (entry_line e)) (list_all (lacks 10) (map entry_line es)) (entry_line_line (2 ^ 27 + 1) e (entry_of e h.0)) (entry_lines_lines es h.1)

lines_join : (xs ys : List (List ℕ)) → AreLines xs → AreLines ys → AreLines (xs ++ ys)
lines_join xs ys p q = list_all-append (lacks 10) xs ys ∙ and_from (list_all (lacks 10) xs) (list_all (lacks 10) ys) p q

pub text_lines_lines : (x : CnfText) → IsReadable x → AreLines (text_lines x)
text_lines_lines x h =
    let n = x.cnf.vars + 1 in
    let numbers = numbers_line_line x.cnf.vars (length x.cnf.clauses) (omega (arith, h.vars)) h.count in
    let clauses = clause_lines_lines n x.cnf.clauses (omega (arith, h.vars)) h.clauses in
    lines_join (map entry_line x.entries) (map ledger_line x.ledger ++ numbers_line x.cnf.vars (length x.cnf.clauses) ∷ map clause_line x.cnf.clauses) (entry_lines_lines x.entries h.entries)
    (lines_join (map ledger_line x.ledger) (numbers_line x.cnf.vars (length x.cnf.clauses) ∷ map clause_line x.cnf.clauses) (ledger_lines_lines x.ledger h.ledger)
    (and_from (lacks 10 (numbers_line x.cnf.vars (length x.cnf.clauses))) (list_all (lacks 10) (map clause_line x.cnf.clauses)) numbers clauses))

-- the text of what can be read is whole
pub text_whole : (x : CnfText) (text : List ℕ) → IsTextOf x text → IsWhole NextLine IsComplete nothing_read text (draft_of x)
text_whole x text h = record {
  lines = text_lines x;
  are_lines = text_lines_lines x h.readable;
  joined = h.spelled;
  lead = text_leads x h.readable;
  ended = refl;
}
