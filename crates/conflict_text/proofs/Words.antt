-- Lines of a word and a number tell the number, and begin by their word.
use Rattle.std.proofs.Common.{◌≡◌, ℕ, ◌<◌, ◌^◌, List, ◌++◌, get_or, codes, refl, ap, sym, arith}
use Rattle.std.specs.Fmt.{decimal}
use Rattle.std.proofs.lemmas.List.{append_cancel_left}
use Rattle.bee_text.proofs.NumberLemmas.{decimal_injective_wide}
use Rattle.conflict_text.specs.declared.verdict.CoreVerdict.{CoreVerdict}
use Rattle.conflict_text.specs.declared.verdict.CoreVerdict.TheVariants.{Satisfiable, Core, Unknown}
use Rattle.conflict_text.specs.ConflictLines.{verdict_line, statement_line, VerdictFits}

-- two bytes that differ
pub other : {A : Type 0} (a b : ℕ) → a < b → a ≡ b → A
other a b less e = absurd (omega (arith, less, e))

-- the first byte of a line
abbrev pub first_byte : List ℕ → ℕ
first_byte line = get_or line 0 0

pub number-tells : (word : List ℕ) (m n : ℕ) → m < 2 ^ 64 → n < 2 ^ 64 → word ++ decimal m ≡ word ++ decimal n → m ≡ n
number-tells word m n h k e = decimal_injective_wide m n (omega arith) (omega arith) (append_cancel_left word (decimal m) (decimal n) e)

pub verdict-tells : (v w : CoreVerdict) → VerdictFits v → VerdictFits w → verdict_line v ≡ verdict_line w → v ≡ w
verdict-tells Satisfiable Satisfiable p q e = refl
verdict-tells Satisfiable (Core k) p q e = other 67 83 (omega arith) (sym (ap first_byte e))
verdict-tells Satisfiable (Unknown n) p q e = other 83 85 (omega arith) (ap first_byte e)
verdict-tells (Core k) Satisfiable p q e = other 67 83 (omega arith) (ap first_byte e)
verdict-tells (Core k) (Core j) p q e = ap Core (number-tells (codes "CORE ") k j p q e)
verdict-tells (Core k) (Unknown n) p q e = other 67 85 (omega arith) (ap first_byte e)
verdict-tells (Unknown n) Satisfiable p q e = other 83 85 (omega arith) (sym (ap first_byte e))
verdict-tells (Unknown n) (Core k) p q e = other 67 85 (omega arith) (sym (ap first_byte e))
verdict-tells (Unknown n) (Unknown m) p q e =
    let k : n < 2 ^ 63 = p.1 in
    let l : m < 2 ^ 63 = q.1 in
    ap Unknown (number-tells (codes "UNKNOWN ") n m (omega arith) (omega arith) e)

pub statement-no-ledger : {A : Type 0} (n : ℕ) → statement_line n ≡ codes "ledger" → A
statement-no-ledger n e = other 108 115 (omega arith) (sym (ap first_byte e))
