-- Which line tells a number, and which a verdict.
use Rattle.std.proofs.Common.{◌≡◌, ℕ, ◌<◌, ◌≤◌, ◌^◌, true, List, ◌++◌, codes, Option, None, Some, MatchOption, nat_eq, sym, ap, ◌∙◌, arith}
use Rattle.std.specs.Prelude.{IsTrue, IfSome}
use Rattle.std.proofs.lemmas.List.{append_cancel_left}
use Rattle.std.specs.Fmt.{decimal}
use Rattle.conflict_text.specs.declared.verdict.CoreVerdict.{CoreVerdict}
use Rattle.conflict_text.specs.declared.verdict.CoreVerdict.TheVariants.{Satisfiable, Core, Unknown}
use Rattle.conflict_text.specs.ConflictLines.{VerdictFits, verdict_line}
use Rattle.conflict_text.proofs.Words.{number-tells}

pub no-verdict : (line : List ℕ) → (line ≡ codes "SATISFIABLE" → ⊥) → ((n : ℕ) → n < 2 ^ 64 → line ≡ codes "CORE " ++ decimal n → ⊥)
    → ((n : ℕ) → 1 ≤ n → n < 2 ^ 63 → line ≡ codes "UNKNOWN " ++ decimal n → ⊥) → (v : CoreVerdict) → VerdictFits v → line ≡ verdict_line v → ⊥
no-verdict line p q r Satisfiable fits is = p is
no-verdict line p q r (Core k) fits is = q k fits is
no-verdict line p q r (Unknown n) fits is = r n fits.0 fits.1 is

-- a number behind a word, and one of learned clauses
pub numbered : (line word rest : List ℕ) (o : Option ℕ) → line ≡ word ++ rest → IfSome o (λ n. (n < 2 ^ 64) × (rest ≡ decimal n)) → ((n : ℕ) → n < 2 ^ 64 → rest ≡ decimal n → o ≡ Some n)
    → MatchOption o ((n : ℕ) → n < 2 ^ 64 → line ≡ word ++ decimal n → ⊥) (λ n. (n < 2 ^ 64) × (line ≡ word ++ decimal n))
numbered line word rest None is read complete = λ n small e. let q = complete n small (append_cancel_left word rest (decimal n) (sym is ∙ e)) in absurd (cc)
numbered line word rest (Some n) is told complete = (told.0, is ∙ ap (λ (xs : List ℕ). word ++ xs) told.1)

pub spent : (line word rest : List ℕ) (o : Option ℕ) → line ≡ word ++ rest → IfSome o (λ n. (rest ≡ decimal n) × (0 < n) × (n < 2 ^ 63)) → ((n : ℕ) → 0 < n → n < 2 ^ 63 → rest ≡ decimal n → o ≡ Some n)
    → MatchOption o ((n : ℕ) → 1 ≤ n → n < 2 ^ 63 → line ≡ word ++ decimal n → ⊥) (λ n. (1 ≤ n) × (n < 2 ^ 63) × (line ≡ word ++ decimal n))
spent line word rest None is read complete = λ n least most e. let q = complete n (omega (arith, least)) most (append_cancel_left word rest (decimal n) (sym is ∙ e)) in absurd (cc)
spent line word rest (Some n) is told complete = (omega (arith, told.1), told.2, is ∙ ap (λ (xs : List ℕ). word ++ xs) told.0)

equal : (m n : ℕ) → nat_eq m n ≡ true → m ≡ n
equal m n e = grind arith

equals : (m n : ℕ) → m ≡ n → nat_eq m n ≡ true
equals m n e = grind arith

-- a number that is told is the one that is wanted
pub same-numbered : (word line : List ℕ) (told n : ℕ) → told < 2 ^ 64 → n < 2 ^ 64 → line ≡ word ++ decimal told
    → (IsTrue (nat_eq told n) → line ≡ word ++ decimal n) × (line ≡ word ++ decimal n → IsTrue (nat_eq told n))
same-numbered word line told n small fits is = (
  λ e. is ∙ ap (λ (m : ℕ). word ++ decimal m) (equal told n e),
  λ e. equals told n (number-tells word told n small fits (sym is ∙ e)),
)
