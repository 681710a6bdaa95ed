-- The lines of a document are lines: no line feed stands inside of one.
use Rattle.std.proofs.Common.{◌≡◌, ℕ, Bool, true, false, not, ◌==◌, List, [], ◌∷◌, ◌++◌, map, codes, Option, None, Some, refl, ◌∙◌, ℤ, pos, cond}
use Rattle.std.specs.Prelude.{FitsSigned, if◌then◌else◌}
use Rattle.std.specs.Int.{w64}
use Rattle.std.specs.Ordering.{int_eq}
use Rattle.std.specs.List.{list_all}
use Rattle.std.specs.Fmt.{signed_decimal}
use Rattle.std.proofs.lemmas.Bool.{and_parts, and_from}
use Rattle.std.proofs.lemmas.List.Folds.{list_all-append}
use Rattle.bee_text.specs.Lines.{lacks, IsLine, AreLines}
use Rattle.bee_text.specs.Words.{AreWords, join_words}
use Rattle.bee_text.proofs.GapLemmas.{word_line, words_lines}
use Rattle.bee_text.proofs.WordLemmas.{join_words_line}
use Rattle.model_meaning.specs.declared.model.Assignment.{Assignment}
use Rattle.model_meaning.specs.declared.model.Decl.{Decl}
use Rattle.model_meaning.specs.declared.model.Goal.{Goal}
use Rattle.model_meaning.specs.declared.model.Kind.{Kind}
use Rattle.model_meaning.specs.declared.model.Kind.TheVariants as kind
use Rattle.ledger_text.specs.declared.line.Line.{Line}
use Rattle.ledger_text.specs.Steps.{step_words, step_text}
use Rattle.proof_check.specs.declared.line.ProofLine.{ProofLine}
use Rattle.proof_check.specs.Lines.{line_words, line_bytes}
use Rattle.name_map.specs.ValueLines.{declared_word, declared_line, declared_lines}
use Rattle.answer_document.specs.Goals.{has_second}
use Rattle.answer_document.specs.declared.verdict.Verdict.{Verdict}
use Rattle.answer_document.specs.declared.verdict.Verdict.TheVariants.{Satisfiable, Unsatisfiable, Optimum, Unknown}
use Rattle.answer_document.specs.declared.document.Document.{Document}
use Rattle.answer_document.specs.Verdicts.{bound_words, verdict_words, verdict_text, is_certified}
use Rattle.answer_document.specs.DocumentText.{version_line, best_line, best_lines, assignment_lines, second_lines, certificate_lines, certificate_of, document_lines}
use Rattle.answer_document.specs.Valid.{stated, FitNumbers, FitValues, FitAssignment, AreReadableSteps, AreReadableLines, IsReadableSecond, IsReadableDocument}
use Rattle.answer_document.specs.Told.{AreNames, FitsCount}
use Rattle.answer_document.proofs.SpelledWords.{signed-word, bounds-words, verdict-are-words, step-are-words, line-are-words}

-- lines behind lines
pub lines-append : (xs ys : List (List ℕ)) → AreLines xs → AreLines ys → AreLines (xs ++ ys)
lines-append xs ys h k = list_all-append (lacks 10) xs ys ∙ and_from (list_all (lacks 10) xs) (list_all (lacks 10) ys) h k

pub line-more : (line : List ℕ) (lines : List (List ℕ)) → IsLine line → AreLines lines → AreLines (line ∷ lines)
line-more line lines h k = and_from (lacks 10 line) (list_all (lacks 10) lines) h k

text-append : (v w : List ℕ) → IsLine v → IsLine w → IsLine (v ++ w)
text-append v w h k = list_all-append (λ b. not (b == 10)) v w ∙ and_from (lacks 10 v) (lacks 10 w) h k

pub words-text : (ws : List (List ℕ)) → AreWords ws → IsLine (join_words ws)
words-text ws h = join_words_line ws (words_lines ws h)

-- the head
version-is-line : (goal : Goal) → IsLine (version_line goal)
version-is-line goal = by (has_second goal)
  where
    by : (b : Bool) → IsLine (if b then codes "bee 2" else codes "bee 1")
    by true = refl
    by false = refl

best-are-lines : (v : Verdict) → FitNumbers (stated v) → AreLines (best_lines v)
best-are-lines Satisfiable h = refl
best-are-lines Unsatisfiable h = refl
best-are-lines (Optimum b) h = refl
best-are-lines (Unknown n None) h = refl
best-are-lines (Unknown n (Some b)) h = line-more (best_line b) [] (words-text (codes "best" ∷ bound_words b) (bounds-words b h.0 h.1)) refl

-- the values
value-is-line : (k : Kind) (z : ℤ) → FitsSigned w64 z → IsLine (declared_word k z)
value-is-line kind.Bool z h = by (int_eq z (pos 0))
  where
    by : (b : Bool) → IsLine (if b then codes "false" else codes "true")
    by true = refl
    by false = refl
value-is-line (kind.Range low high) z h = word_line (signed_decimal z) (signed-word z h)
value-is-line (kind.Listed values) z h = word_line (signed_decimal z) (signed-word z h)

pub values-are-lines : (ds : List Decl) (zs : List ℤ) → AreNames ds → FitValues zs → AreLines (declared_lines ds zs)
values-are-lines [] zs names h = refl
values-are-lines (d ∷ ds) [] names h = refl
values-are-lines (d ∷ ds) (z ∷ zs) names h =
    let parts = and_parts (lacks 10 d.name) (list_all (lacks 10) (map (λ (d : Decl). d.name) ds)) names in
    line-more (declared_line d z) (declared_lines ds zs)
    (text-append d.name (codes " = " ++ declared_word d.kind z) parts.0 (text-append (codes " = ") (declared_word d.kind z) refl (value-is-line d.kind z h.0)))
    (values-are-lines ds zs parts.1 h.1)

assignment-are-lines : (ds : List Decl) (a : Option Assignment) → AreNames ds → FitAssignment a → AreLines (assignment_lines ds a)
assignment-are-lines ds None names h = refl
assignment-are-lines ds (Some a) names h = values-are-lines ds a.values names h

-- the certificate
pub steps-are-lines : (ledger : List Line) → AreReadableSteps ledger → AreLines (map step_text ledger)
steps-are-lines [] h = refl
steps-are-lines (l ∷ ledger) h = line-more (step_text l) (map step_text ledger) (words-text (step_words l) (step-are-words l h.0)) (steps-are-lines ledger h.1)

pub proof-are-lines : (proof : List ProofLine) → AreReadableLines proof → AreLines (map line_bytes proof)
proof-are-lines [] h = refl
proof-are-lines (l ∷ proof) h = line-more (line_bytes l) (map line_bytes proof) (words-text (line_words l) (line-are-words l h.0)) (proof-are-lines proof h.1)

second-are-lines : (second : Option (List ProofLine)) → IsReadableSecond second → AreLines (second_lines second)
second-are-lines None h = refl
second-are-lines (Some proof) h = proof-are-lines proof h

certificate-are-lines : (d : Document) → IsReadableDocument d → AreLines (certificate_lines d)
certificate-are-lines d h =
    lines-append (map step_text d.ledger) _ (steps-are-lines d.ledger h.ledger)
    (lines-append (map line_bytes d.proof) (second_lines d.second) (proof-are-lines d.proof h.proof) (second-are-lines d.second h.second))

certified-are-lines : (d : Document) → IsReadableDocument d → AreLines (certificate_of d)
certified-are-lines d h = by (is_certified d.verdict)
  where
    by : (b : Bool) → AreLines (if b then certificate_lines d else [])
    by true = certificate-are-lines d h
    by false = refl

-- where names are lines, the lines of each document are lines
pub document-are-lines : (decls : List Decl) (goal : Goal) (d : Document) → AreNames decls → IsReadableDocument d → FitsCount d.verdict → AreLines (document_lines decls goal d)
document-are-lines decls goal d names h count =
    let behind = certificate_of d ++ codes "end" ∷ [] in
    let values = assignment_lines decls d.assignment ++ behind in
    let more = best_lines d.verdict ++ values in
    line-more (version_line goal) (verdict_text d.verdict ∷ more) (version-is-line goal)
    (line-more (verdict_text d.verdict) more (words-text (verdict_words d.verdict) (verdict-are-words d.verdict h.verdict count))
    (lines-append (best_lines d.verdict) values (best-are-lines d.verdict h.verdict)
    (lines-append (assignment_lines decls d.assignment) behind (assignment-are-lines decls d.assignment names h.assignment)
    (lines-append (certificate_of d) (codes "end" ∷ []) (certified-are-lines d h) refl))))
