-- The value of digits.
use Rattle.std.proofs.Common.{◌≡◌, ℕ, ◌+◌, ◌*◌, ◌-◌, ◌<◌, ◌≤◌, ◌==◌, ◌&&◌, Bool, true, false, not, List, [], ◌∷◌, length, drop, get_or, refl, sym, ap, ◌∙◌, arith, drop-cons, add-one}
use Rattle.std.specs.Prelude.{Option, Some, None, nat_le, if◌then◌else◌}
use Rattle.std.specs.List.{list_all}
use Rattle.std.specs.Char.{is_ascii_digit}
use Rattle.std.proofs.lemmas.Bool.{and_parts}
use Rattle.opb_front.specs.Tokens.{are_digits, value_behind, value_of}

-- more digits make no less
pub value_grows : (v : ℕ) (ds : List ℕ) → v ≤ value_behind v ds
value_grows v [] = omega arith
value_grows v (b ∷ ds) = omega (arith, value_grows (10 * v + (b - 48)) ds)

-- the digits that are left are digits and make what all make
pub record Counted (most : ℕ) (all : List ℕ) (value : ℕ) (left : List ℕ) : Type 0 where
  pub value_is : value_behind value left ≡ value_of all
  pub digits : list_all is_ascii_digit left ≡ true
  pub small : value ≤ most

pub counted_start : (most : ℕ) (all : List ℕ) → are_digits all ≡ true → Counted most all 0 all
counted_start most all h = record { value_is = refl; digits = (and_parts (not (length all == 0)) (list_all is_ascii_digit all) h).1; small = omega arith }

-- the next digit
pub record NextDigit (all : List ℕ) (value : ℕ) (byte : ℕ) (rest : List ℕ) : Type 0 where
  pub digit : is_ascii_digit byte ≡ true
  pub value_is : value_behind (10 * value + (byte - 48)) rest ≡ value_of all
  pub digits : list_all is_ascii_digit rest ≡ true

pub next_digit : (most : ℕ) (all : List ℕ) (value byte : ℕ) (left rest : List ℕ) → Counted most all value left → left ≡ byte ∷ rest → NextDigit all value byte rest
next_digit most all value byte left rest h cut =
    let digits : list_all is_ascii_digit (byte ∷ rest) ≡ true = ap (list_all is_ascii_digit) (sym cut) ∙ h.digits in
    let parts = and_parts (is_ascii_digit byte) (list_all is_ascii_digit rest) digits in
    record { digit = parts.0; value_is = ap (value_behind value) (sym cut) ∙ h.value_is; digits = parts.1 }

-- a value past the limit
pub value_past : (most : ℕ) (all : List ℕ) (value : ℕ) (rest : List ℕ) → value_behind value rest ≡ value_of all → most < value
    → None ≡ (if nat_le (value_of all) most then Some (value_of all) else None)
value_past most all value rest is past =
    let big : most < value_of all = omega (arith, value_grows value rest, is) in
    grind arith

pub value_fits : (most : ℕ) (all : List ℕ) (value : ℕ) → value ≡ value_of all → value ≤ most → Some value ≡ (if nat_le (value_of all) most then Some (value_of all) else None)
value_fits most all value is small =
    let fits : value_of all ≤ most = omega arith in
    grind arith

-- the next digit is counted
pub counted_next : (most : ℕ) (all : List ℕ) (value byte : ℕ) (left rest : List ℕ) (next : ℕ) → Counted most all value left → left ≡ byte ∷ rest → next ≡ 10 * value + (byte - 48) → next ≤ most
    → Counted most all next rest
counted_next most all value byte left rest next h cut is small =
    let d = next_digit most all value byte left rest h cut in
    record { value_is = ap (λ v. value_behind v rest) is ∙ d.value_is; digits = d.digits; small = small }

pub counted_past : (most : ℕ) (all : List ℕ) (value byte : ℕ) (left rest : List ℕ) (next : ℕ) → Counted most all value left → left ≡ byte ∷ rest → next ≡ 10 * value + (byte - 48) → most < next
    → None ≡ (if nat_le (value_of all) most then Some (value_of all) else None)
counted_past most all value byte left rest next h cut is past =
    value_past most all next rest (ap (λ v. value_behind v rest) is ∙ (next_digit most all value byte left rest h cut).value_is) past

pub counted_all : (most : ℕ) (all : List ℕ) (value : ℕ) (left : List ℕ) → Counted most all value left → left ≡ [] → Some value ≡ (if nat_le (value_of all) most then Some (value_of all) else None)
counted_all most all value left h none = value_fits most all value (ap (value_behind value) (sym none) ∙ h.value_is) h.small
