-- The text of a document tells its answer.
use Rattle.std.proofs.Common.{◌≡◌, ◌⊎◌, ℕ, ◌+◌, ◌<◌, ◌≤◌, ◌^◌, Bool, true, false, List, [], ◌∷◌, ◌++◌, map, get_or, drop, codes, append_assoc, Option, None, Some, refl, sym, ap, ◌∙◌, subst, inl, inr, ℤ, pos, arith}
use Rattle.std.specs.Prelude.{IsTrue, ◌&&◌, ◌||◌, if◌then◌else◌}
use Rattle.std.specs.Ordering.{int_eq}
use Rattle.std.specs.Option.{option_map}
use Rattle.std.proofs.lemmas.Bool.{and_parts, or_cases, false≢true}
use Rattle.std.proofs.lemmas.Int.{ints}
use Rattle.bee_text.proofs.LineLemmas.{join_lines_injective}
use Rattle.model_meaning.specs.declared.model.Assignment.{Assignment}
use Rattle.model_meaning.specs.declared.model.Decl.{Decl}
use Rattle.model_meaning.specs.declared.model.Kind.{Kind}
use Rattle.model_meaning.specs.declared.model.Kind.TheVariants as kind
use Rattle.model_meaning.specs.declared.model.Model.{Model}
use Rattle.model_meaning.specs.Domains.{domain, in_domains}
use Rattle.model_meaning.specs.Integers.{is_member}
use Rattle.ledger_text.specs.Steps.{step_text}
use Rattle.proof_check.specs.declared.line.ProofLine.{ProofLine}
use Rattle.proof_check.specs.Lines.{line_bytes}
use Rattle.answer_document.specs.declared.verdict.Bounds.{Bounds}
use Rattle.answer_document.specs.declared.verdict.Verdict.{Verdict}
use Rattle.answer_document.specs.declared.verdict.Verdict.TheVariants.{Satisfiable, Unsatisfiable, Optimum, Unknown}
use Rattle.answer_document.specs.declared.document.Document.{Document}
use Rattle.answer_document.specs.Verdicts.{verdict_text, is_certified, VerdictFits}
use Rattle.answer_document.specs.DocumentText.{best_line, best_lines, assignment_lines, second_lines, certificate_lines, certificate_of, document_lines}
use Rattle.answer_document.specs.Valid.{stated, FitNumbers, FitAssignment, IsReadableSecond, IsReadableDocument, AnswerHolds, numbers_given, IsValid}
use Rattle.answer_document.specs.Told.{AreNames, FitsCount, IsValueOf, AreValues, HasValues, IsWritable, SameCertificate, SameAnswer, TextTellsAnswer, ValidTellsAnswer}
use Rattle.answer_document.proofs.DocumentLines.{document-are-lines}
use Rattle.answer_document.proofs.LinesTell.{best-tells, verdict_told, verdict-tells, values-tell, ledger-tells}
use Rattle.answer_document.proofs.ProofLinesTell.{BeginBehind, proof-tells}

-- The certificate.

abbrev ended : Option (List ProofLine) → List (List ℕ)
ended second = second_lines second ++ codes "end" ∷ []

ended-begins : (second : Option (List ProofLine)) → BeginBehind (ended second)
ended-begins None = omega arith
ended-begins (Some lines) = omega arith

second-tells : (o p : Option (List ProofLine)) → IsReadableSecond o → IsReadableSecond p → ended o ≡ ended p → o ≡ p
second-tells None None h k e = refl
second-tells None (Some qs) h k e = absurd (omega (arith, ap (λ ls. get_or (get_or ls 0 []) 0 0) e))
second-tells (Some ps) None h k e = absurd (omega (arith, ap (λ ls. get_or (get_or ls 0 []) 0 0) e))
second-tells (Some ps) (Some qs) h k e = ap Some (proof-tells ps qs (codes "end" ∷ []) (codes "end" ∷ []) h k (omega arith) (omega arith) (ap (drop 1) e)).0

certificate-shape : (d : Document) → certificate_lines d ++ codes "end" ∷ [] ≡ codes "ledger" ∷ (map step_text d.ledger ++ codes "proof" ∷ (map line_bytes d.proof ++ ended d.second))
certificate-shape d =
    ap (λ x. codes "ledger" ∷ x) (append_assoc (map step_text d.ledger) (codes "proof" ∷ (map line_bytes d.proof ++ second_lines d.second)) (codes "end" ∷ [])
    ∙ ap (λ x. map step_text d.ledger ++ codes "proof" ∷ x) (append_assoc (map line_bytes d.proof) (second_lines d.second) (codes "end" ∷ [])))

certificate-tells : (d e : Document) → IsReadableDocument d → IsReadableDocument e → certificate_lines d ++ codes "end" ∷ [] ≡ certificate_lines e ++ codes "end" ∷ [] → SameCertificate d e
certificate-tells d e p q same =
    let lines = ap (drop 1) (sym (certificate-shape d) ∙ same ∙ certificate-shape e) in
    let ledgers = ledger-tells d.ledger e.ledger (map line_bytes d.proof ++ ended d.second) (map line_bytes e.proof ++ ended e.second) p.ledger q.ledger lines in
    let proofs = proof-tells d.proof e.proof (ended d.second) (ended e.second) p.proof q.proof (ended-begins d.second) (ended-begins e.second) ledgers.1 in
    record { ledger = ledgers.0; proof = proofs.0; second = second-tells d.second e.second p.second q.second proofs.1 }

-- The verdict and the assignment.

-- what is left of a text behind its second line: the values, and other lines
abbrev left_of : List Decl → Verdict → Option Assignment → List (List ℕ) → List (List ℕ)
left_of decls v a xs = best_lines v ++ (assignment_lines decls a ++ xs)

-- where a certificate stands it begins with the line of the ledger
abbrev BeginsFor : Verdict → List (List ℕ) → Type 0
BeginsFor v xs = is_certified v ≡ true → get_or xs 0 [] ≡ codes "ledger"

pub record SameHead (v w : Verdict) (a b : Option Assignment) (xs ys : List (List ℕ)) : Type 0 where
  pub verdict : v ≡ w
  pub assignment : a ≡ b
  pub behind : xs ≡ ys

abbrev byte : ℕ → List ℕ → ℕ
byte i w = get_or w i 0

module _ (decls : List Decl) where
  -- with values on both sides
  given : (v w : Verdict) (a b : Assignment) (xs ys : List (List ℕ)) → v ≡ w → AreValues decls a.values → AreValues decls b.values → FitAssignment (Some a) → FitAssignment (Some b)
      → assignment_lines decls (Some a) ++ xs ≡ assignment_lines decls (Some b) ++ ys → SameHead v w (Some a) (Some b) xs ys
  given v w a b xs ys same p q f g e =
      let both = values-tell decls a.values b.values xs ys p q f g e in
      record { verdict = same; assignment = λ i. Some (record { values = both.0 i }); behind = both.1 }

  -- a best solution is told by its line
  no-best : (b : Bounds) (xs rest : List (List ℕ)) → get_or xs 0 [] ≡ codes "ledger" → best_line b ∷ rest ≡ xs → ⊥
  no-best b xs rest begins e = let same : 98 ≡ 108 = ap (λ ls. byte 0 (get_or ls 0 [])) e ∙ ap (byte 0) begins in omega (arith, same)

  unknown-tells : (m n : ℕ) (v w : Option Bounds) (a b : Option Assignment) (xs ys : List (List ℕ)) → m ≡ n → FitNumbers v → FitNumbers w → FitAssignment a → FitAssignment b
      → HasValues decls (Unknown m v) a → HasValues decls (Unknown n w) b → get_or xs 0 [] ≡ codes "ledger" → get_or ys 0 [] ≡ codes "ledger"
      → left_of decls (Unknown m v) a xs ≡ left_of decls (Unknown n w) b ys → SameHead (Unknown m v) (Unknown n w) a b xs ys
  unknown-tells m n None None None None xs ys same p q f g h k c d e = record { verdict = ap (λ t. Unknown t None) same; assignment = refl; behind = e }
  unknown-tells m n None None None (Some b) xs ys same p q f g h k c d e = absurd k
  unknown-tells m n None None (Some a) b xs ys same p q f g h k c d e = absurd h
  unknown-tells m n None (Some w) (Some a) b xs ys same p q f g h k c d e = absurd h
  unknown-tells m n None (Some w) None b xs ys same p q f g h k c d e = absurd (no-best w xs (assignment_lines decls b ++ ys) c (sym e))
  unknown-tells m n (Some v) None a (Some b) xs ys same p q f g h k c d e = absurd k
  unknown-tells m n (Some v) None a None xs ys same p q f g h k c d e = absurd (no-best v ys (assignment_lines decls a ++ xs) d e)
  unknown-tells m n (Some v) (Some w) None b xs ys same p q f g h k c d e = absurd h
  unknown-tells m n (Some v) (Some w) (Some a) None xs ys same p q f g h k c d e = absurd k
  unknown-tells m n (Some v) (Some w) (Some a) (Some b) xs ys same p q f g h k c d e =
      let best : v ≡ w = best-tells v w p q (ap (λ ls. get_or ls 0 []) e) in
      given (Unknown m (Some v)) (Unknown n (Some w)) a b xs ys (λ i. Unknown (same i) (Some (best i))) h k f g (ap (drop 1) e)

  head-tells : (v w : Verdict) (a b : Option Assignment) (xs ys : List (List ℕ)) → FitNumbers (stated v) → FitNumbers (stated w) → FitAssignment a → FitAssignment b
      → HasValues decls v a → HasValues decls w b → BeginsFor v xs → BeginsFor w ys → verdict_told v ≡ verdict_told w → left_of decls v a xs ≡ left_of decls w b ys → SameHead v w a b xs ys
  head-tells Satisfiable Satisfiable (Some a) (Some b) xs ys p q f g h k c d t e = given Satisfiable Satisfiable a b xs ys refl h k f g e
  head-tells Satisfiable Satisfiable (Some a) None xs ys p q f g h k c d t e = absurd k
  head-tells Satisfiable Satisfiable None b xs ys p q f g h k c d t e = absurd h
  head-tells Unsatisfiable Unsatisfiable None None xs ys p q f g h k c d t e = record { verdict = refl; assignment = refl; behind = e }
  head-tells Unsatisfiable Unsatisfiable None (Some b) xs ys p q f g h k c d t e = absurd k
  head-tells Unsatisfiable Unsatisfiable (Some a) b xs ys p q f g h k c d t e = absurd h
  head-tells (Optimum x) (Optimum y) (Some a) (Some b) xs ys p q f g h k c d t e = given (Optimum x) (Optimum y) a b xs ys t h k f g e
  head-tells (Optimum x) (Optimum y) (Some a) None xs ys p q f g h k c d t e = absurd k
  head-tells (Optimum x) (Optimum y) None b xs ys p q f g h k c d t e = absurd h
  head-tells (Unknown i x) (Unknown j y) a b xs ys p q f g h k c d t e = unknown-tells i j x y a b xs ys (same-count i j t) p q f g h k (c refl) (d refl) e
    where
      same-count : (i j : ℕ) → Unknown i None ≡ Unknown j None → i ≡ j
      same-count i j t = cc
  head-tells Satisfiable Unsatisfiable a b xs ys p q f g h k c d t e = absurd (cc)
  head-tells Satisfiable (Optimum y) a b xs ys p q f g h k c d t e = absurd (cc)
  head-tells Satisfiable (Unknown j y) a b xs ys p q f g h k c d t e = absurd (cc)
  head-tells Unsatisfiable Satisfiable a b xs ys p q f g h k c d t e = absurd (cc)
  head-tells Unsatisfiable (Optimum y) a b xs ys p q f g h k c d t e = absurd (cc)
  head-tells Unsatisfiable (Unknown j y) a b xs ys p q f g h k c d t e = absurd (cc)
  head-tells (Optimum x) Satisfiable a b xs ys p q f g h k c d t e = absurd (cc)
  head-tells (Optimum x) Unsatisfiable a b xs ys p q f g h k c d t e = absurd (cc)
  head-tells (Optimum x) (Unknown j y) a b xs ys p q f g h k c d t e = absurd (cc)
  head-tells (Unknown i x) Satisfiable a b xs ys p q f g h k c d t e = absurd (cc)
  head-tells (Unknown i x) Unsatisfiable a b xs ys p q f g h k c d t e = absurd (cc)
  head-tells (Unknown i x) (Optimum y) a b xs ys p q f g h k c d t e = absurd (cc)

-- The whole.

-- the certificate with its end, where it is written
certificate-written : (d : Document) → is_certified d.verdict ≡ true → certificate_of d ++ codes "end" ∷ [] ≡ certificate_lines d ++ codes "end" ∷ []
certificate-written d h = ap (λ t. (if t then certificate_lines d else []) ++ codes "end" ∷ []) h

begins : (d : Document) → BeginsFor d.verdict (certificate_of d ++ codes "end" ∷ [])
begins d h = ap (λ ls. get_or ls 0 []) (certificate-written d h)

pub text_tells_answer : TextTellsAnswer
text_tells_answer decls goal other d e names p q same =
    let lines = join_lines_injective (document_lines decls goal d) (document_lines decls other e) (document-are-lines decls goal d names p.readable p.count) (document-are-lines decls other e names q.readable q.count) same in
    let head = head-tells decls d.verdict e.verdict d.assignment e.assignment (certificate_of d ++ codes "end" ∷ []) (certificate_of e ++ codes "end" ∷ []) p.readable.verdict q.readable.verdict p.readable.assignment q.readable.assignment p.values q.values (begins d) (begins e)
    (verdict-tells d.verdict e.verdict p.readable.verdict q.readable.verdict p.count q.count (ap (λ ls. get_or ls 1 []) lines)) (ap (drop 2) lines) in
    record {
      verdict = head.verdict;
      assignment = head.assignment;
      certificate = λ h. certificate-tells d e p.readable q.readable (sym (certificate-written d h) ∙ head.behind ∙ certificate-written e (ap is_certified (sym head.verdict) ∙ h));
    }

-- Valid answers.

fits-count : (model : Model) (v : Verdict) → VerdictFits model.goal v → FitsCount v
fits-count model Satisfiable h = tt
fits-count model Unsatisfiable h = tt
fits-count model (Optimum b) h = tt
fits-count model (Unknown n best) h = omega (arith, h.1)

value-of : (k : Kind) (z : ℤ) → is_member z (domain k) ≡ true → IsValueOf k z
unfolding domain
value-of kind.Bool z h = by (int_eq (pos 0) z) (int_eq (pos 1) z) refl refl h
  where
    by : (p q : Bool) → int_eq (pos 0) z ≡ p → int_eq (pos 1) z ≡ q → (p || (q || false)) ≡ true → (z ≡ pos 0) ⊎ (z ≡ pos 1)
    by true q e f h = inl (grind (arith, ints))
    by false true e f h = inr (grind (arith, ints))
    by false false e f h = absurd (false≢true h)
value-of (kind.Range low high) z h = tt
value-of (kind.Listed values) z h = tt

are-values : (ds : List Decl) (zs : List ℤ) → in_domains ds zs ≡ true → AreValues ds zs
are-values [] [] h = tt
are-values [] (z ∷ zs) h = absurd (false≢true h)
are-values (d ∷ ds) [] h = absurd (false≢true h)
are-values (d ∷ ds) (z ∷ zs) h =
    let parts = and_parts (is_member z (domain d.kind)) (in_domains ds zs) h in (value-of d.kind z parts.0, are-values ds zs parts.1)

has-values : (model : Model) (v : Verdict) (a : Option Assignment) → AnswerHolds model v (numbers_given a) → HasValues model.decls v a
has-values model Satisfiable (Some a) h = are-values model.decls a.values h.in_domains
has-values model Satisfiable None h = absurd h
has-values model Unsatisfiable (Some a) h = absurd h
has-values model Unsatisfiable None h = tt
has-values model (Optimum b) (Some a) h = are-values model.decls a.values h.solution.in_domains
has-values model (Optimum b) None h = absurd h
has-values model (Unknown n (Some b)) (Some a) h = are-values model.decls a.values h.solution.in_domains
has-values model (Unknown n (Some b)) None h = absurd h
has-values model (Unknown n None) (Some a) h = absurd h
has-values model (Unknown n None) None h = tt

-- a valid answer's document is writable
valid-writable : (model : Model) (text : List ℕ) (v : Verdict) (a : Option (List ℤ)) → (h : IsValid model text v a) → IsWritable model.decls h.document
valid-writable model text v a h =
    let fits = subst (VerdictFits model.goal) (sym h.verdict) h.fits in
    let answer = subst (λ u. AnswerHolds model u (numbers_given h.document.assignment)) (sym h.verdict) (subst (AnswerHolds model v) (sym h.assignment) h.answer) in
    record {
      readable = h.readable;
      count = fits-count model h.document.verdict fits;
      values = has-values model h.document.verdict h.document.assignment answer;
    }

pub valid_tells_answer : ValidTellsAnswer
valid_tells_answer model text v w a b names p q =
    let same = text_tells_answer model.decls model.goal model.goal p.document q.document names (valid-writable model text v a p) (valid-writable model text w b q) (sym p.spelled ∙ q.spelled) in
    (sym p.verdict ∙ same.verdict ∙ q.verdict, sym p.assignment ∙ ap numbers_given same.assignment ∙ q.assignment)
