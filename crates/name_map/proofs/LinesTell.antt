-- The line of a name tells one number.
use Rattle.std.proofs.Common.{◌≡◌, ◌≢◌, ℕ, ◌+◌, ◌^◌, ◌<◌, inl, inr, Bool, true, false, List, ◌++◌, codes, Option, Some, None, MatchOption, ℤ, pos, negsuc, get_or, ap, sym, ◌∙◌, arith}
use Rattle.std.specs.Prelude.{FitsSigned}
use Rattle.std.specs.Int.{w128}
use Rattle.std.specs.Int.Signed.{mag}
use Rattle.std.proofs.lemmas.Int.{ints}
use Rattle.std.proofs.lemmas.List.{append_cancel_left}
use Rattle.bee_text.proofs.NumberLemmas.{signed_decimal_injective_wide}
use Rattle.name_map.specs.ValueLines.{number_word, value_line, IsTellable, LineTellsNumber}

fits_mag : (z : ℤ) → FitsSigned w128 z → mag z + 1 < 10 ^ 64
fits_mag (pos n) h = omega (arith, ints)
fits_mag (negsuc n) h = omega (arith, ints)

word_tells : (boolean : Bool) (most : ℕ) (y z : ℤ) → IsTellable boolean most y → IsTellable boolean most z → number_word boolean y ≡ number_word boolean z → y ≡ z
word_tells true most y z (inl p) (inl q) e = p ∙ sym q
word_tells true most y z (inl p) (inr q) e =
    let f : codes "false" ≡ codes "true" = ap (number_word true) (sym p) ∙ e ∙ ap (number_word true) q in
    absurd (omega (arith, ap (λ t. get_or t 0 0) f))
word_tells true most y z (inr p) (inl q) e =
    let f : codes "true" ≡ codes "false" = ap (number_word true) (sym p) ∙ e ∙ ap (number_word true) q in
    absurd (omega (arith, ap (λ t. get_or t 0 0) f))
word_tells true most y z (inr p) (inr q) e = p ∙ sym q
word_tells false most y z p q e = signed_decimal_injective_wide y z (fits_mag y p.1) (fits_mag z q.1) e

pub line_tells_number : LineTellsNumber
line_tells_number name boolean most y z p q e =
    word_tells boolean most y z p q (append_cancel_left (codes " = ") (number_word boolean y) (number_word boolean z) (append_cancel_left name _ _ e))

-- a line that is read in parts: the name, what stands between, and the word

told_line : (line name told word : List ℕ) (boolean : Bool) (z : ℤ) → line ≡ name ++ told → told ≡ codes " = " ++ word → word ≡ number_word boolean z → line ≡ value_line name boolean z
told_line line name told word boolean z p q r = p ∙ ap (λ t. name ++ t) (q ∙ ap (λ w. codes " = " ++ w) r)

told_word : (line name told word : List ℕ) (boolean : Bool) (z : ℤ) → line ≡ name ++ told → told ≡ codes " = " ++ word → line ≡ value_line name boolean z → word ≡ number_word boolean z
told_word line name told word boolean z p q e =
    append_cancel_left (codes " = ") word (number_word boolean z) (sym q ∙ append_cancel_left name told (codes " = " ++ number_word boolean z) (sym p ∙ e))

pub line_read : (line name told word : List ℕ) (boolean : Bool) (most : ℕ) (r : Option ℤ) → line ≡ name ++ told → told ≡ codes " = " ++ word
    → MatchOption r ((z : ℤ) → IsTellable boolean most z → word ≡ number_word boolean z → ⊥) (λ z. IsTellable boolean most z × (word ≡ number_word boolean z))
    → MatchOption r ((z : ℤ) → IsTellable boolean most z → line ≡ value_line name boolean z → ⊥) (λ z. IsTellable boolean most z × (line ≡ value_line name boolean z))
line_read line name told word boolean most None p q h = λ z t e. h z t (told_word line name told word boolean z p q e)
line_read line name told word boolean most (Some z) p q h = (h.0, told_line line name told word boolean z p q h.1)

pub line_unread : (line name told : List ℕ) (boolean : Bool) (z : ℤ) → line ≡ name ++ told → ((rest : List ℕ) → told ≢ codes " = " ++ rest) → line ≡ value_line name boolean z → ⊥
line_unread line name told boolean z p none e = none (number_word boolean z) (append_cancel_left name told (codes " = " ++ number_word boolean z) (sym p ∙ e))
