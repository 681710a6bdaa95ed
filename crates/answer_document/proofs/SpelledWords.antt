-- What the lines of a document are made of are words.
use Rattle.std.proofs.Common.{◌≡◌, ℕ, suc, ◌+◌, ◌<◌, ◌^◌, Bool, true, false, not, List, [], ◌∷◌, codes, cond, Option, None, Some, refl, ℤ, pos, negsuc, arith}
use Rattle.std.specs.Prelude.{FitsSigned, IfSome}
use Rattle.std.specs.Int.{w64}
use Rattle.std.specs.List.{list_all}
use Rattle.std.specs.Fmt.{decimal, signed_decimal}
use Rattle.std.proofs.lemmas.Bool.{and_from, false≢true}
use Rattle.bee_text.specs.Words.{IsWord, AreWords, is_gap, is_word}
use Rattle.bee_text.proofs.NumberLemmas.{decimal_word}
use Rattle.bee_text.proofs.GapLemmas.{solid}
use Rattle.order_ints.specs.declared.literal.Lit.{Lit}
use Rattle.core_forms.specs.declared.equation.Rule.{Rule}
use Rattle.core_forms.specs.declared.equation.Rule.TheVariants.{Order, Form, Table}
use Rattle.ledger_text.specs.declared.line.Line.{Line}
use Rattle.ledger_text.specs.declared.line.Line.TheVariants.{Equate, Split, Encode}
use Rattle.ledger_text.specs.Words.{atom_word}
use Rattle.ledger_text.specs.Steps.{rule_word, equation_words, step_words, IsReadableStep}
use Rattle.ledger_text.proofs.Spelled.{atom_word_word}
use Rattle.proof_check.specs.declared.line.ProofLine.{ProofLine}
use Rattle.proof_check.specs.declared.line.ProofLine.TheVariants.{Add, Delete}
use Rattle.proof_check.specs.Lines.{literal_word, list_words, line_words, Each, IsReadableLit, IsReadableId, IsReadableHint, IsReadable}
use Rattle.answer_document.specs.declared.verdict.Bounds.{Bounds}
use Rattle.answer_document.specs.declared.verdict.Verdict.{Verdict}
use Rattle.answer_document.specs.declared.verdict.Verdict.TheVariants.{Satisfiable, Unsatisfiable, Optimum, Unknown}
use Rattle.answer_document.specs.Verdicts.{words_with, bound_words, verdict_words}
use Rattle.answer_document.specs.Valid.{stated, FitNumbers}
use Rattle.answer_document.specs.Told.{FitsCount}

-- a word behind a byte that is no gap
pub word-behind : (b : ℕ) (bs : List ℕ) → not (is_gap b) ≡ true → IsWord bs → IsWord (b ∷ bs)
word-behind b [] first h = absurd (false≢true h)
word-behind b (c ∷ bs) first h = and_from (not (is_gap b)) (solid (c ∷ bs)) first h

-- numbers are words
pub signed-word : (z : ℤ) → FitsSigned w64 z → IsWord (signed_decimal z)
signed-word (pos n) fits = decimal_word n (omega (arith, fits.sfits))
signed-word (negsuc n) fits = word-behind 45 (decimal (suc n)) refl (decimal_word (suc n) (omega (arith, fits.sfits)))

word-more : (w : List ℕ) (ws : List (List ℕ)) → IsWord w → AreWords ws → AreWords (w ∷ ws)
word-more w ws h k = and_from (is_word w) (list_all is_word ws) h k

-- verdicts
bounds-with : (first : ℤ) (second : Option ℤ) → FitsSigned w64 first → IfSome second (FitsSigned w64) → AreWords (words_with first second)
bounds-with first None f s = word-more (signed_decimal first) [] (signed-word first f) refl
bounds-with first (Some n) f s = word-more (signed_decimal first) (signed_decimal n ∷ []) (signed-word first f) (word-more (signed_decimal n) [] (signed-word n s) refl)

pub bounds-words : (b : Bounds) → FitsSigned w64 b.first → IfSome b.second (FitsSigned w64) → AreWords (bound_words b)
bounds-words b first second = bounds-with b.first b.second first second

pub verdict-are-words : (v : Verdict) → FitNumbers (stated v) → FitsCount v → AreWords (verdict_words v)
verdict-are-words Satisfiable h n = refl
verdict-are-words Unsatisfiable h n = refl
verdict-are-words (Optimum b) h n = bounds-words b h.0 h.1
verdict-are-words (Unknown count best) h n = word-more (decimal count) [] (decimal_word count (omega (arith, n))) refl

-- steps
rule-word : (r : Rule) → IsWord (rule_word r)
rule-word Order = refl
rule-word Form = refl
rule-word Table = refl

pub step-are-words : (l : Line) → IsReadableStep l → AreWords (step_words l)
step-are-words (Equate id e) h =
    word-more (decimal id) (equation_words e) (decimal_word id (omega (arith, h.0)))
    (word-more (rule_word e.rule) (atom_word e.a ∷ atom_word e.b ∷ []) (rule-word e.rule) (word-more (atom_word e.a) (atom_word e.b ∷ []) (atom_word_word (2 ^ 27 + 1) e.a (omega arith) h.1)
    (word-more (atom_word e.b) [] (atom_word_word (2 ^ 27 + 1) e.b (omega arith) h.2) refl)))
step-are-words (Split id) h = word-more (decimal id) [] (decimal_word id (omega (arith, h))) refl
step-are-words (Encode id) h = word-more (decimal id) [] (decimal_word id (omega (arith, h))) refl

-- lines of derivations
sign-word : (p : Bool) (v : ℕ) → v < 2 ^ 64 → IsWord (cond p (decimal v) (45 ∷ decimal v))
sign-word true v small = decimal_word v (omega (arith, small))
sign-word false v small = word-behind 45 (decimal v) refl (decimal_word v (omega (arith, small)))

literal-word : (l : Lit) → IsReadableLit l → IsWord (literal_word l)
literal-word l h = sign-word l.positive l.var (omega (arith, h.1))

list-words : {X : Type 0} (word : X → List ℕ) (P : X → Type 0) → ((x : X) → P x → IsWord (word x)) → (xs : List X) (behind : List (List ℕ)) → Each P xs → AreWords behind → AreWords (list_words word xs behind)
list-words word P one [] behind h k = k
list-words word P one (x ∷ xs) behind h k = word-more (word x) (list_words word xs behind) (one x h.0) (list-words word P one xs behind h.1 k)

pub line-are-words : (l : ProofLine) → IsReadable l → AreWords (line_words l)
line-are-words (Add id lits hints) h =
    word-more (decimal id) (list_words literal_word lits (list_words signed_decimal hints [])) (decimal_word id (omega (arith, h.0.1)))
    (list-words literal_word IsReadableLit literal-word lits (list_words signed_decimal hints []) h.1 (list-words signed_decimal IsReadableHint (λ z k. signed-word z k.0) hints [] h.2 refl))
line-are-words (Delete at ids) h =
    word-more (decimal at) (codes "d" ∷ list_words decimal ids []) (decimal_word at (omega (arith, h.0)))
    (word-more (codes "d") (list_words decimal ids []) refl (list-words decimal IsReadableId (λ n k. decimal_word n (omega (arith, k.1))) ids [] h.1 refl))
