-- The lines of a document tell what they spell.
use Rattle.std.proofs.Common.{◌≡◌, ◌⊎◌, ℕ, ◌+◌, ◌<◌, ◌≤◌, ◌^◌, Bool, true, false, List, [], ◌∷◌, ◌++◌, map, get_or, drop, codes, Option, None, Some, refl, sym, ap, ◌∙◌, subst, ⊎_elim, ℤ, pos, negsuc, arith}
use Rattle.std.specs.Prelude.{FitsSigned, IfSome, if◌then◌else◌}
use Rattle.std.specs.Int.{w64}
use Rattle.std.specs.Int.Signed.{mag}
use Rattle.std.specs.Fmt.{decimal, signed_decimal}
use Rattle.std.proofs.lemmas.Int.{ints}
use Rattle.bee_text.proofs.NumberLemmas.{decimal_injective_wide, signed_decimal_injective_wide}
use Rattle.bee_text.proofs.GapLemmas.{join_words_injective}
use Rattle.model_meaning.specs.declared.model.Decl.{Decl}
use Rattle.model_meaning.specs.declared.model.Kind.{Kind}
use Rattle.model_meaning.specs.declared.model.Kind.TheVariants as kind
use Rattle.model_meaning.proofs.Wide.{abs_most, fits_wide}
use Rattle.name_map.specs.Values.{is_boolean_kind}
use Rattle.name_map.specs.ValueLines.{declared_line, declared_lines, IsTellable}
use Rattle.name_map.proofs.LinesTell.{line_tells_number}
use Rattle.core_forms.specs.declared.equation.Rule.{Rule}
use Rattle.core_forms.specs.declared.equation.Rule.TheVariants.{Order, Form, Table}
use Rattle.ledger_text.specs.declared.line.Line.{Line}
use Rattle.ledger_text.specs.declared.line.Line.TheVariants.{Equate, Split, Encode}
use Rattle.ledger_text.specs.Steps.{rule_word, step_words, step_text, IsReadableStep}
use Rattle.ledger_text.proofs.Spelled.{atom_word_tells}
use Rattle.answer_document.specs.declared.verdict.Bounds.{Bounds}
use Rattle.answer_document.specs.declared.verdict.Verdict.{Verdict}
use Rattle.answer_document.specs.declared.verdict.Verdict.TheVariants.{Satisfiable, Unsatisfiable, Optimum, Unknown}
use Rattle.answer_document.specs.Verdicts.{words_with, bound_words, verdict_words, verdict_text}
use Rattle.answer_document.specs.DocumentText.{best_line}
use Rattle.answer_document.specs.Valid.{stated, FitNumbers, FitValues, AreReadableSteps}
use Rattle.answer_document.specs.Told.{FitsCount, IsValueOf, AreValues}
use Rattle.answer_document.proofs.SpelledWords.{bounds-words, verdict-are-words, step-are-words}

-- numbers
pub signed-tells : (y z : ℤ) → FitsSigned w64 y → FitsSigned w64 z → signed_decimal y ≡ signed_decimal z → y ≡ z
signed-tells y z p q e = signed_decimal_injective_wide y z (small y p) (small z q) e
  where
    small : (z : ℤ) → FitsSigned w64 z → mag z + 1 < 10 ^ 64
    small (pos n) p = omega (arith, ints, p.sfits)
    small (negsuc n) p = omega (arith, ints, p.sfits)

with-tells : (x y : ℤ) (o p : Option ℤ) → FitsSigned w64 x → FitsSigned w64 y → IfSome o (FitsSigned w64) → IfSome p (FitsSigned w64) → words_with x o ≡ words_with y p → (x ≡ y) × (o ≡ p)
with-tells x y None None f g h k e = (signed-tells x y f g (ap (λ ws. get_or ws 0 []) e), refl)
with-tells x y None (Some n) f g h k e = absurd (cc)
with-tells x y (Some m) None f g h k e = absurd (cc)
with-tells x y (Some m) (Some n) f g h k e = (signed-tells x y f g (ap (λ ws. get_or ws 0 []) e), ap Some (signed-tells m n h k (ap (λ ws. get_or ws 1 []) e)))

-- the values of objectives
pub bounds-tell : (b c : Bounds) → FitNumbers (Some b) → FitNumbers (Some c) → bound_words b ≡ bound_words c → b ≡ c
bounds-tell b c p q e =
    let both = with-tells b.first c.first b.second c.second p.0 q.0 p.1 q.1 e in λ i. record { first = both.0 i; second = both.1 i }

pub best-tells : (b c : Bounds) → FitNumbers (Some b) → FitNumbers (Some c) → best_line b ≡ best_line c → b ≡ c
best-tells b c p q e =
    bounds-tell b c p q (ap (drop 1) (join_words_injective (codes "best" ∷ bound_words b) (codes "best" ∷ bound_words c) (bounds-words b p.0 p.1) (bounds-words c q.0 q.1) e))

-- the line of a verdict tells it, but for the best solution, which has a line of its own
abbrev pub verdict_told : Verdict → Verdict
verdict_told Satisfiable = Satisfiable
verdict_told Unsatisfiable = Unsatisfiable
verdict_told (Optimum b) = Optimum b
verdict_told (Unknown n best) = Unknown n None

optimum-tells : (b c : Bounds) → FitNumbers (Some b) → FitNumbers (Some c) → verdict_text (Optimum b) ≡ verdict_text (Optimum c) → b ≡ c
optimum-tells b c p q e =
    bounds-tell b c p q (ap (drop 1) (join_words_injective (verdict_words (Optimum b)) (verdict_words (Optimum c)) (verdict-are-words (Optimum b) p tt) (verdict-are-words (Optimum c) q tt) e))

count-tells : (m n : ℕ) → m < 2 ^ 64 → n < 2 ^ 64 → verdict_text (Unknown m None) ≡ verdict_text (Unknown n None) → m ≡ n
count-tells m n p q e =
    decimal_injective_wide m n (omega (arith, p)) (omega (arith, q))
    (ap (λ ws. get_or ws 1 []) (join_words_injective (verdict_words (Unknown m None)) (verdict_words (Unknown n None)) (verdict-are-words (Unknown m None) tt p) (verdict-are-words (Unknown n None) tt q) e))

abbrev byte : ℕ → List ℕ → ℕ
byte i w = get_or w i 0

other : {A : Type 0} (a b : ℕ) → a < b → a ≡ b → A
other a b less e = absurd (omega (arith, less, e))

pub verdict-tells : (v w : Verdict) → FitNumbers (stated v) → FitNumbers (stated w) → FitsCount v → FitsCount w → verdict_text v ≡ verdict_text w → verdict_told v ≡ verdict_told w
verdict-tells Satisfiable Satisfiable p q m n e = refl
verdict-tells Unsatisfiable Unsatisfiable p q m n e = refl
verdict-tells (Optimum b) (Optimum c) p q m n e = ap Optimum (optimum-tells b c p q e)
verdict-tells (Unknown i v) (Unknown j w) p q m n e = ap (λ t. Unknown t None) (count-tells i j m n e)
verdict-tells Satisfiable Unsatisfiable p q m n e = other 83 85 (omega arith) (ap (byte 0) e)
verdict-tells Satisfiable (Optimum c) p q m n e = other 79 83 (omega arith) (sym (ap (byte 0) e))
verdict-tells Satisfiable (Unknown j w) p q m n e = other 83 85 (omega arith) (ap (byte 0) e)
verdict-tells Unsatisfiable Satisfiable p q m n e = other 83 85 (omega arith) (sym (ap (byte 0) e))
verdict-tells Unsatisfiable (Optimum c) p q m n e = other 79 85 (omega arith) (sym (ap (byte 0) e))
verdict-tells Unsatisfiable (Unknown j w) p q m n e = other 75 83 (omega arith) (sym (ap (byte 2) e))
verdict-tells (Optimum b) Satisfiable p q m n e = other 79 83 (omega arith) (ap (byte 0) e)
verdict-tells (Optimum b) Unsatisfiable p q m n e = other 79 85 (omega arith) (ap (byte 0) e)
verdict-tells (Optimum b) (Unknown j w) p q m n e = other 79 85 (omega arith) (ap (byte 0) e)
verdict-tells (Unknown i v) Satisfiable p q m n e = other 83 85 (omega arith) (sym (ap (byte 0) e))
verdict-tells (Unknown i v) Unsatisfiable p q m n e = other 75 83 (omega arith) (ap (byte 2) e)
verdict-tells (Unknown i v) (Optimum c) p q m n e = other 79 85 (omega arith) (sym (ap (byte 0) e))

-- values
tellable : (k : Kind) (z : ℤ) → IsValueOf k z → FitsSigned w64 z → IsTellable (is_boolean_kind k) (2 ^ 63) z
tellable kind.Bool z p f = p
tellable (kind.Range low high) z p f = (abs_most z f, fits_wide z f)
tellable (kind.Listed values) z p f = (abs_most z f, fits_wide z f)

value-line-tells : (d : Decl) (y z : ℤ) → IsValueOf d.kind y → IsValueOf d.kind z → FitsSigned w64 y → FitsSigned w64 z → declared_line d y ≡ declared_line d z → y ≡ z
value-line-tells d y z p q f g e =
    line_tells_number d.name (is_boolean_kind d.kind) (2 ^ 63) y z (tellable d.kind y p f) (tellable d.kind z q g) e

-- the lines of values tell them and what stands behind
pub values-tell : (ds : List Decl) (ys zs : List ℤ) (xs ws : List (List ℕ)) → AreValues ds ys → AreValues ds zs → FitValues ys → FitValues zs
    → declared_lines ds ys ++ xs ≡ declared_lines ds zs ++ ws → (ys ≡ zs) × (xs ≡ ws)
values-tell [] [] [] xs ws p q f g e = (refl, e)
values-tell [] [] (z ∷ zs) xs ws p q f g e = absurd q
values-tell [] (y ∷ ys) zs xs ws p q f g e = absurd p
values-tell (d ∷ ds) [] zs xs ws p q f g e = absurd p
values-tell (d ∷ ds) (y ∷ ys) [] xs ws p q f g e = absurd q
values-tell (d ∷ ds) (y ∷ ys) (z ∷ zs) xs ws p q f g e =
    let first = value-line-tells d y z p.0 q.0 f.0 g.0 (ap (λ ls. get_or ls 0 []) e) in
    let rest = values-tell ds ys zs xs ws p.1 q.1 f.1 g.1 (ap (drop 1) e) in
    (λ i. first i ∷ rest.0 i, rest.1)

-- steps
rule-tells : (r s : Rule) → rule_word r ≡ rule_word s → r ≡ s
rule-tells Order Order e = refl
rule-tells Form Form e = refl
rule-tells Table Table e = refl
rule-tells Order Form e = absurd (omega (arith, ap (λ t. get_or t 0 0) e))
rule-tells Order Table e = absurd (omega (arith, ap (λ t. get_or t 0 0) e))
rule-tells Form Order e = absurd (omega (arith, ap (λ t. get_or t 0 0) e))
rule-tells Form Table e = absurd (omega (arith, ap (λ t. get_or t 0 0) e))
rule-tells Table Order e = absurd (omega (arith, ap (λ t. get_or t 0 0) e))
rule-tells Table Form e = absurd (omega (arith, ap (λ t. get_or t 0 0) e))

abbrev second_byte : List (List ℕ) → ℕ
second_byte ws = get_or (get_or ws 0 []) 1 0

id-tells : (a b : ℕ) (ws vs : List (List ℕ)) → a < 2 ^ 64 → b < 2 ^ 64 → decimal a ≡ get_or ws 1 [] → decimal b ≡ get_or vs 1 [] → ws ≡ vs → a ≡ b
id-tells a b ws vs p q e f same = decimal_injective_wide a b (omega arith) (omega arith) (e ∙ ap (λ x. get_or x 1 []) same ∙ sym f)

step-words-tell : (l k : Line) → IsReadableStep l → IsReadableStep k → step_words l ≡ step_words k → l ≡ k
step-words-tell (Equate i e) (Equate j f) p q same =
    let id : i ≡ j = id-tells i j (step_words (Equate i e)) (step_words (Equate j f)) p.0 q.0 refl refl same in
    let rule : e.rule ≡ f.rule = rule-tells e.rule f.rule (ap (λ ws. get_or ws 2 []) same) in
    let a : e.a ≡ f.a = atom_word_tells (2 ^ 27 + 1) (2 ^ 27 + 1) e.a f.a (omega arith) (omega arith) p.1 q.1 (ap (λ ws. get_or ws 3 []) same) in
    let b : e.b ≡ f.b = atom_word_tells (2 ^ 27 + 1) (2 ^ 27 + 1) e.b f.b (omega arith) (omega arith) p.2 q.2 (ap (λ ws. get_or ws 4 []) same) in
    λ k. Equate (id k) (record { rule = rule k; a = a k; b = b k })
step-words-tell (Split i) (Split j) p q same = ap Split (id-tells i j (step_words (Split i)) (step_words (Split j)) p q refl refl same)
step-words-tell (Encode i) (Encode j) p q same = ap Encode (id-tells i j (step_words (Encode i)) (step_words (Encode j)) p q refl refl same)
step-words-tell (Equate i e) (Split j) p q same = absurd (omega (arith, ap second_byte same))
step-words-tell (Equate i e) (Encode j) p q same = absurd (omega (arith, ap second_byte same))
step-words-tell (Split i) (Equate j f) p q same = absurd (omega (arith, ap second_byte same))
step-words-tell (Split i) (Encode j) p q same = absurd (omega (arith, ap second_byte same))
step-words-tell (Encode i) (Equate j f) p q same = absurd (omega (arith, ap second_byte same))
step-words-tell (Encode i) (Split j) p q same = absurd (omega (arith, ap second_byte same))

pub step-tells : (l k : Line) → IsReadableStep l → IsReadableStep k → step_text l ≡ step_text k → l ≡ k
step-tells l k p q e = step-words-tell l k p q (join_words_injective (step_words l) (step_words k) (step-are-words l p) (step-are-words k q) e)

-- a step is spelled without a p in front
pub step-begins : (l : Line) → get_or (step_text l) 0 0 ≡ 112 → ⊥
step-begins (Equate id e) h = omega (arith, h)
step-begins (Split id) h = omega (arith, h)
step-begins (Encode id) h = omega (arith, h)

-- the lines of a ledger and the line behind it tell both
pub ledger-tells : (ls ks : List Line) (xs ys : List (List ℕ)) → AreReadableSteps ls → AreReadableSteps ks → map step_text ls ++ codes "proof" ∷ xs ≡ map step_text ks ++ codes "proof" ∷ ys
    → (ls ≡ ks) × (xs ≡ ys)
ledger-tells [] [] xs ys p q e = (refl, ap (drop 1) e)
ledger-tells [] (k ∷ ks) xs ys p q e = absurd (step-begins k (sym (ap (λ ls. get_or (get_or ls 0 []) 0 0) e)))
ledger-tells (l ∷ ls) [] xs ys p q e = absurd (step-begins l (ap (λ ls. get_or (get_or ls 0 []) 0 0) e))
ledger-tells (l ∷ ls) (k ∷ ks) xs ys p q e =
    let first = step-tells l k p.0 q.0 (ap (λ ls. get_or ls 0 []) e) in
    let rest = ledger-tells ls ks xs ys p.1 q.1 (ap (drop 1) e) in
    (λ i. first i ∷ rest.0 i, rest.1)
