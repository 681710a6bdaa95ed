-- The line of a ledger line is a line, and tells the ledger line that it spells.
use Rattle.std.proofs.Common.{◌≡◌, ℕ, ◌^◌, ◌<◌, ◌≤◌, ◌&&◌, true, List, [], ◌∷◌, map, drop, get_or, refl, sym, ap, ◌∙◌, arith}
use Rattle.std.specs.List.{list_all}
use Rattle.std.specs.Fmt.{decimal}
use Rattle.std.proofs.lemmas.Bool.{and_from}
use Rattle.bee_text.specs.Lines.{lacks, IsLine, AreLines}
use Rattle.bee_text.specs.Words.{is_word, AreWords}
use Rattle.bee_text.proofs.NumberLemmas.{decimal_injective_wide, decimal_word}
use Rattle.bee_text.proofs.GapLemmas.{join_words_injective}
use Rattle.core_forms.specs.declared.equation.Rule.{Rule}
use Rattle.core_forms.specs.declared.equation.Rule.TheVariants.{Order, Form, Table}
use Rattle.ledger_text.specs.declared.line.Line.{Line}
use Rattle.ledger_text.specs.declared.line.Line.TheVariants.{Equate, Split, Encode}
use Rattle.ledger_text.specs.Words.{atom_word}
use Rattle.ledger_text.specs.Steps.{rule_word, step_words, step_text, LineBelow, LedgerBelow}
use Rattle.ledger_text.proofs.Spelled.{atom_word_word, atom_word_tells}
use Rattle.dimacs_out.specs.CompiledText.{ledger_line}
use Rattle.dimacs_out.proofs.SpelledWords.{words_line}

-- what it is made of are words

rule_is_word : (r : Rule) → is_word (rule_word r) ≡ true
rule_is_word Order = refl
rule_is_word Form = refl
rule_is_word Table = refl

step_words_words : (n : ℕ) (l : Line) → n ≤ 2 ^ 32 → LineBelow n l → AreWords (step_words l)
step_words_words n (Equate id e) bound h =
    and_from (is_word (decimal id)) (is_word (rule_word e.rule) && (is_word (atom_word e.a) && (is_word (atom_word e.b) && true))) (decimal_word id (omega (arith, h.0)))
    (and_from (is_word (rule_word e.rule)) (is_word (atom_word e.a) && (is_word (atom_word e.b) && true)) (rule_is_word e.rule)
    (and_from (is_word (atom_word e.a)) (is_word (atom_word e.b) && true) (atom_word_word n e.a bound h.1)
    (and_from (is_word (atom_word e.b)) true (atom_word_word n e.b bound h.2) refl)))
step_words_words n (Split id) bound h = and_from (is_word (decimal id)) true (decimal_word id (omega arith)) refl
step_words_words n (Encode id) bound h = and_from (is_word (decimal id)) true (decimal_word id (omega arith)) refl

pub ledger_line_line : (n : ℕ) (l : Line) → n ≤ 2 ^ 32 → LineBelow n l → IsLine (ledger_line l)
ledger_line_line n l bound h = words_line (step_words l) (step_words_words n l bound h)

pub ledger_lines_lines : (n : ℕ) (ls : List Line) → n ≤ 2 ^ 32 → LedgerBelow n ls → AreLines (map ledger_line ls)
ledger_lines_lines n [] bound h = refl
ledger_lines_lines n (l ∷ ls) bound h =
    and_from (lacks 10 (ledger_line l)) (list_all (lacks 10) (map ledger_line ls)) (ledger_line_line n l bound h.0) (ledger_lines_lines n ls bound h.1)

-- its words tell it

rule_tells : (r s : Rule) → rule_word r ≡ rule_word s → r ≡ s
rule_tells Order Order e = refl
rule_tells Form Form e = refl
rule_tells Table Table e = refl
rule_tells Order Form e = absurd (omega (arith, ap (λ t. get_or t 0 0) e))
rule_tells Order Table e = absurd (omega (arith, ap (λ t. get_or t 0 0) e))
rule_tells Form Order e = absurd (omega (arith, ap (λ t. get_or t 0 0) e))
rule_tells Form Table e = absurd (omega (arith, ap (λ t. get_or t 0 0) e))
rule_tells Table Order e = absurd (omega (arith, ap (λ t. get_or t 0 0) e))
rule_tells Table Form e = absurd (omega (arith, ap (λ t. get_or t 0 0) e))

abbrev second_byte : List (List ℕ) → ℕ
second_byte ws = get_or (get_or ws 0 []) 1 0

id_tells : (a b : ℕ) (ws vs : List (List ℕ)) → a < 2 ^ 64 → b < 2 ^ 64 → decimal a ≡ get_or ws 1 [] → decimal b ≡ get_or vs 1 [] → ws ≡ vs → a ≡ b
id_tells a b ws vs p q e f same = decimal_injective_wide a b (omega arith) (omega arith) (e ∙ ap (λ x. get_or x 1 []) same ∙ sym f)

step_words_tell : (n m : ℕ) (l k : Line) → n ≤ 2 ^ 32 → m ≤ 2 ^ 32 → LineBelow n l → LineBelow m k → step_words l ≡ step_words k → l ≡ k
step_words_tell n m (Equate i e) (Equate j f) bn bm p q same =
    let id : i ≡ j = id_tells i j (step_words (Equate i e)) (step_words (Equate j f)) p.0 q.0 refl refl same in
    let rule : e.rule ≡ f.rule = rule_tells e.rule f.rule (ap (λ ws. get_or ws 2 []) same) in
    let a : e.a ≡ f.a = atom_word_tells n m e.a f.a bn bm p.1 q.1 (ap (λ ws. get_or ws 3 []) same) in
    let b : e.b ≡ f.b = atom_word_tells n m e.b f.b bn bm p.2 q.2 (ap (λ ws. get_or ws 4 []) same) in
    λ k. Equate (id k) (record { rule = rule k; a = a k; b = b k })
step_words_tell n m (Split i) (Split j) bn bm p q same = ap Split (id_tells i j (step_words (Split i)) (step_words (Split j)) p q refl refl same)
step_words_tell n m (Encode i) (Encode j) bn bm p q same = ap Encode (id_tells i j (step_words (Encode i)) (step_words (Encode j)) p q refl refl same)
step_words_tell n m (Equate i e) (Split j) bn bm p q same = absurd (omega (arith, ap second_byte same))
step_words_tell n m (Equate i e) (Encode j) bn bm p q same = absurd (omega (arith, ap second_byte same))
step_words_tell n m (Split i) (Equate j f) bn bm p q same = absurd (omega (arith, ap second_byte same))
step_words_tell n m (Split i) (Encode j) bn bm p q same = absurd (omega (arith, ap second_byte same))
step_words_tell n m (Encode i) (Equate j f) bn bm p q same = absurd (omega (arith, ap second_byte same))
step_words_tell n m (Encode i) (Split j) bn bm p q same = absurd (omega (arith, ap second_byte same))

pub ledger_line_tells : (n m : ℕ) (l k : Line) → n ≤ 2 ^ 32 → m ≤ 2 ^ 32 → LineBelow n l → LineBelow m k → ledger_line l ≡ ledger_line k → l ≡ k
ledger_line_tells n m l k bn bm p q same =
    let text : step_text l ≡ step_text k = ap (drop 6) same in
    step_words_tell n m l k bn bm p q (join_words_injective (step_words l) (step_words k) (step_words_words n l bn p) (step_words_words m k bm q) text)
