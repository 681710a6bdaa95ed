-- The word of a value tells it.
use Rattle.std.proofs.Common.{◌≡◌, ℕ, ◌<◌, Bool, true, false, List, get_or, codes, refl, sym, ap, ◌∙◌, ℤ, pos, negsuc, arith}
use Rattle.std.specs.Prelude.{FitsSigned}
use Rattle.std.specs.Int.{w64}
use Rattle.std.specs.List.{list_all}
use Rattle.std.specs.Char.{is_ascii_digit}
use Rattle.std.specs.Fmt.{signed_decimal}
use Rattle.std.proofs.lemmas.Bool.{true≢false}
use Rattle.bee_text.proofs.NumberLemmas.{decimal_digits}
use Rattle.answer_document.proofs.LinesTell.{signed-tells}
use Rattle.ledger_check.specs.declared.told.Told.{Told}
use Rattle.ledger_check.specs.declared.told.Told.TheVariants.{Truth, Number}
use Rattle.ledger_check.specs.Items.{told_word, IsToldValue}

-- two bytes that differ
pub other : {A : Type 0} (a b : ℕ) → a < b → a ≡ b → A
other a b less e = absurd (omega (arith, less, e))

-- the first byte of a line
abbrev pub first_byte : List ℕ → ℕ
first_byte line = get_or line 0 0

-- a number is no word of letters
not-letters : (z : ℤ) (w : List ℕ) → FitsSigned w64 z → 57 < first_byte w → list_all is_ascii_digit w ≡ false → w ≡ signed_decimal z → ⊥
not-letters (pos n) w fits letter none e = true≢false (sym (decimal_digits n (omega (arith, fits.sfits))) ∙ sym (ap (list_all is_ascii_digit) e) ∙ none)
not-letters (negsuc n) w fits letter none e = other 45 (first_byte w) (omega (arith, letter)) (sym (ap first_byte e))

truth-number : (b : Bool) (z : ℤ) → FitsSigned w64 z → told_word (Truth b) ≡ signed_decimal z → ⊥
truth-number true z fits e = not-letters z (codes "true") fits (omega arith) refl e
truth-number false z fits e = not-letters z (codes "false") fits (omega arith) refl e

pub told-tells : (t u : Told) → IsToldValue t → IsToldValue u → told_word t ≡ told_word u → t ≡ u
told-tells (Truth true) (Truth true) p q e = refl
told-tells (Truth false) (Truth false) p q e = refl
told-tells (Truth true) (Truth false) p q e = other 102 116 (omega arith) (sym (ap first_byte e))
told-tells (Truth false) (Truth true) p q e = other 102 116 (omega arith) (ap first_byte e)
told-tells (Truth b) (Number z) p q e = absurd (truth-number b z q e)
told-tells (Number z) (Truth b) p q e = absurd (truth-number b z p (sym e))
told-tells (Number y) (Number z) p q e = ap Number (signed-tells y z p q e)
