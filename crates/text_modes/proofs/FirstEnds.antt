-- What reading the first text up to a limit comes to.
use Rattle.std.proofs.Common.{◌≡◌, ℕ, ◌≤◌, List, length, Option, Some, None, IfSome, sym, ap, arith}
use Rattle.std.specs.Prelude.{IsSomeAnd}
use Rattle.bee_outside.specs.Bytes.{in_front, TookPiece}
use Rattle.text_modes.specs.Seen.{ShelfShown}
use Rattle.text_modes.specs.Promises.{IsTooLong}

limit_is : (limit : Option ℕ) (k : ℕ) → IsSomeAnd limit (λ n. k ≡ n) → limit ≡ Some k
limit_is None k h = absurd h
limit_is (Some n) k h = ap Some (sym h)

-- a text that was cut at the limit is too long
pub too_long : {F : Type 0} (name : List ℕ) (limit : Option ℕ) (before after : ShelfShown) (HasFault : List ℕ → F → Type 0) (fault : F) (text : List ℕ)
    → before.left name ≡ in_front text (after.left name) → IsSomeAnd limit (λ n. length text ≡ n)
    → ((n : ℕ) (longer : List ℕ) → limit ≡ Some n → n ≤ length longer → HasFault longer fault) → IsTooLong name limit before after HasFault fault
too_long name limit before after HasFault fault text moved cut has =
    let long = limit_is limit (length text) cut in
    record { text = text; moved = moved; long = long; has = λ longer h. has (length text) longer long h }

-- what was cut is no more than the limit
pub took_cut : (before after : Option (List ℕ)) (limit : Option ℕ) (text : List ℕ) → before ≡ in_front text after → IsSomeAnd limit (λ n. length text ≡ n) → TookPiece before after limit
took_cut before after limit text moved cut = record { piece = text; moved = moved; within = within limit cut }
  where
    within : (o : Option ℕ) → IsSomeAnd o (λ n. length text ≡ n) → IfSome o (λ n. length text ≤ n)
    within None h = absurd h
    within (Some n) h = omega (arith, h)
