-- Reading a number digit by digit.
use Rattle.std.specs.Prelude.{ℕ, Bool, not, length, slice_index, ◌||◌, ◌==◌, nat_lt, ◌+◌, ◌*◌}
use Rattle.std.specs.Prelude.{◌-◌, Option, Some, None, List, [], ◌∷◌, ◌&&◌, nat_le, if◌then◌else◌}
use Rattle.std.specs.Prelude.{option_and_then}
use Rattle.std.specs.Char.{is_ascii_digit}

-- the number that a digit behind those of `value` makes, where the byte is a digit and `most` is not exceeded
abbrev pub with_digit : ℕ → ℕ → ℕ → Option ℕ
with_digit most value byte =
    if is_ascii_digit byte && nat_le (10 * value + (byte - 48)) most then Some (10 * value + (byte - 48)) else None

-- the number that the bytes make as digits behind those of `value`, where each is a digit and `most` is not exceeded
abbrev pub digits_after : ℕ → ℕ → List ℕ → Option ℕ
digits_after most value [] = Some value
digits_after most value (byte ∷ bytes) =
    option_and_then (λ next. digits_after most next bytes) (with_digit most value byte)

-- whether a text has a byte, and begins with the digit zero only where it is that digit alone
abbrev pub leads_well : List ℕ → Bool
leads_well bytes = length bytes == 1 || (nat_lt 1 (length bytes) && not (slice_index bytes 0 == 48))
