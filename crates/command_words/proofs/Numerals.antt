-- What reading a number says of its text.
use Rattle.std.proofs.Common.{rules, arith, w64, ◌≡◌, ◌≢◌, ◌∙◌, ℕ, ℤ, pos, neg_ℤ, ◌<◌, ◌≤◌, ◌^◌, length, get_or, drop, Bool, true, false, List, ap, sym, refl}
use Rattle.std.proofs.Common.{Option, Some, None, if◌then◌else◌, Result, Ok, Err}
use Rattle.std.specs.Prelude.{option_map}
use Rattle.std.specs.Str.{all_ascii_digits}
use Rattle.std.specs.Str.Parse.{ParsesUnsigned, ParsesSigned}
use Rattle.std.specs.Result.{OkIff}
use Rattle.std.proofs.lemmas.Bool.Decides.{nat_tests}
use Rattle.std.proofs.lemmas.Result.{OkIff-at_ok, OkIff-at_err}
use Rattle.std.proofs.lemmas.Str.Parse.{IsNumeralModel, numerals_by_fold, parse_plain, parse_signed_minus, parse_signed_plain}
use Rattle.command_words.specs.Numeral.{read_on, is_within, number_within, has_minus, signed_number}

own : IsNumeralModel (λ ds. all_ascii_digits ds ≡ true) (read_on 0)
own = numerals_by_fold _ (search rules) read_on (search rules)

number_at : {E : Type 0} (text : List ℕ) (r : Result ℕ E) → ParsesUnsigned 64 10 text r → get_or text 0 0 ≢ 43
    → OkIff r ((all_ascii_digits text ≡ true) × (0 < length text) × (read_on 0 text < 2 ^ 64)) (read_on 0 text)
number_at text r h plain = parse_plain own 64 text r h plain

-- a number was read: the text is a numeral of it
pub read : {E : Type 0} (least greatest : ℕ) (text : List ℕ) (r : Result ℕ E) (n : ℕ) → ParsesUnsigned 64 10 text r → get_or text 0 0 ≢ 43 → r ≡ Ok n
    → number_within least greatest text ≡ (if is_within least greatest n then Some n else None)
read least greatest text r n h plain e =
    let facts = number_at text r h plain in
    search (rules, e, facts)

-- no number was read
pub unread : {E : Type 0} (least greatest : ℕ) (text : List ℕ) (r : Result ℕ E) (e : E) → greatest < 2 ^ 64 → ParsesUnsigned 64 10 text r → get_or text 0 0 ≢ 43 → r ≡ Err e
    → number_within least greatest text ≡ None
unread least greatest text r e small h plain same =
    let facts = number_at text r h plain in
    search (rules, small, same, facts)

-- a text is a numeral of a number within the limit
abbrev IsSmall : ℕ → List ℕ → Type 0
IsSmall greatest text = (all_ascii_digits text ≡ true) × (0 < length text) × (read_on 0 text ≤ greatest)

some : (greatest : ℕ) (text : List ℕ) → IsSmall greatest text → number_within 0 greatest text ≡ Some (read_on 0 text)
some greatest text small = search (rules, small)

none : (greatest : ℕ) (text : List ℕ) → (IsSmall greatest text → ⊥) → number_within 0 greatest text ≡ None
none greatest text large = search (rules, large)

-- what is made of a number, by the sign
abbrev made : Bool → List ℕ → Option ℤ
made minus text =
    if minus then option_map (λ n. neg_ℤ (pos n)) (number_within 0 9223372036854775808 (drop 1 text))
    else option_map (λ n. pos n) (number_within 0 9223372036854775807 text)

module _ {E : Type 0} (text : List ℕ) (r : Result ℤ E) (h : ParsesSigned w64 10 text r) where
  below_zero : has_minus text ≡ true → OkIff r ((all_ascii_digits (drop 1 text) ≡ true) × (0 < length (drop 1 text)) × (read_on 0 (drop 1 text) ≤ 2 ^ 63)) (neg_ℤ (pos (read_on 0 (drop 1 text))))
  below_zero is = parse_signed_minus own w64 text r h (grind (arith, nat_tests, is))

  from_zero : get_or text 0 0 ≢ 43 → has_minus text ≡ false → OkIff r ((all_ascii_digits text ≡ true) × (0 < length text) × (read_on 0 text < 2 ^ 63)) (pos (read_on 0 text))
  from_zero plain is = parse_signed_plain own w64 text r h plain (grind (arith, nat_tests, is))

  -- a number with a sign was read
  pub signed_read : (z : ℤ) → get_or text 0 0 ≢ 43 → r ≡ Ok z → signed_number text ≡ Some z
  signed_read z plain e = by (has_minus text) refl
    where
      by : (t : Bool) → has_minus text ≡ t → made t text ≡ Some z
      by true is =
          let f = OkIff-at_ok r _ _ z (below_zero is) e in
          ap (option_map (λ n. neg_ℤ (pos n))) (some 9223372036854775808 (drop 1 text) f.0) ∙ ap (λ x. Some x) (sym f.1)
      by false is =
          let f = OkIff-at_ok r _ _ z (from_zero plain is) e in
          let small : read_on 0 text ≤ 9223372036854775807 = omega (arith, f.0.2) in
          ap (option_map (λ n. pos n)) (some 9223372036854775807 text (f.0.0, f.0.1, small)) ∙ ap (λ x. Some x) (sym f.1)

  -- no such number was read
  pub signed_unread : (d : E) → get_or text 0 0 ≢ 43 → r ≡ Err d → signed_number text ≡ None
  signed_unread d plain e = by (has_minus text) refl
    where
      by : (t : Bool) → has_minus text ≡ t → made t text ≡ None
      by true is = ap (option_map (λ n. neg_ℤ (pos n))) (none 9223372036854775808 (drop 1 text) (OkIff-at_err r _ _ d (below_zero is) e))
      by false is =
          let large = OkIff-at_err r _ _ d (from_zero plain is) e in
          ap (option_map (λ n. pos n)) (none 9223372036854775807 text (λ small. large (small.0, small.1, omega (arith, small.2))))

-- a plus sign begins no number
pub unread_plus : (text : List ℕ) → get_or text 0 0 ≡ 43 → signed_number text ≡ None
unread_plus text plus = search (rules, plus)
