-- What is told of bytes that are left or were taken.
use Rattle.std.specs.Prelude.{◌≡◌, ℕ, ◌≤◌, List, [], ◌++◌, length, take, Option, Some, None, IsSome}
use Rattle.std.specs.Prelude.{IfSome}

-- an implementation tells this
abbrev pub IsTold : {X : Type 0} → Option X → Type 0
IsTold o = IsSome o

-- the piece and behind it the bytes, where these are told
abbrev pub in_front : List ℕ → Option (List ℕ) → Option (List ℕ)
in_front piece None = None
in_front piece (Some bytes) = Some (piece ++ bytes)

-- the bytes and behind them the piece, where the bytes are told
abbrev pub grown : Option (List ℕ) → List ℕ → Option (List ℕ)
grown None piece = None
grown (Some bytes) piece = Some (bytes ++ piece)

-- no byte is left, as far as it is told
abbrev pub NothingLeft : Option (List ℕ) → Type 0
NothingLeft left = IfSome left (λ bytes. bytes ≡ [])

-- every byte that was taken is flushed, as far as it is told
abbrev pub AllFlushed : Option (List ℕ) → Option ℕ → Type 0
AllFlushed taken flushed = IfSome taken (λ bytes. IfSome flushed (λ n. n ≡ length bytes))

-- a piece was taken from the front of what was left, of at most so many bytes as the limit says
pub record TookPiece (before after : Option (List ℕ)) (limit : Option ℕ) : Type 0 where
  pub piece : List ℕ
  pub moved : before ≡ in_front piece after
  pub within : IfSome limit (λ n. length piece ≤ n)

-- the first bytes of a text, so many as `count` says, were added to what was taken
pub record GrewByFront (before : Option (List ℕ)) (text : List ℕ) (after : Option (List ℕ)) : Type 0 where
  pub count : ℕ
  pub within : count ≤ length text
  pub grew : after ≡ grown before (take count text)
