-- Pieces that are taken one after another.
use Rattle.std.proofs.Common.{◌≡◌, ℕ, ◌≤◌, ◌+◌, List, [], ◌++◌, length, take, drop, arith, refl, ap, sym, ◌∙◌, append_assoc, Option, Some, None}
use Rattle.std.proofs.lemmas.List.{append-nil, nil_from_length}
use Rattle.std.proofs.Math.Seq.{take-add}
use Rattle.std.proofs.Common.{length-append}
use Rattle.std.specs.Prelude.{IfSome}
use Rattle.bee_outside.specs.Bytes.{IsTold, in_front, grown, NothingLeft, TookPiece}

-- two pieces in front are one
pub in_front-append : (p q : List ℕ) (o : Option (List ℕ)) → in_front (p ++ q) o ≡ in_front p (in_front q o)
in_front-append p q None = refl
in_front-append p q (Some bytes) = ap Some (append_assoc p q bytes)

-- two pieces behind are one
pub grown-append : (o : Option (List ℕ)) (p q : List ℕ) → grown (grown o p) q ≡ grown o (p ++ q)
grown-append None p q = refl
grown-append (Some bytes) p q = ap Some (append_assoc bytes p q)

-- the first bytes of a text were added, and then some of those behind them
pub grown_more : (text : List ℕ) (before after later : Option (List ℕ)) (i k : ℕ) → after ≡ grown before (take i text) → later ≡ grown after (take k (drop i text)) → later ≡ grown before (take (i + k) text)
grown_more text before after later i k first second =
    second ∙ ap (λ o. grown o (take k (drop i text))) first ∙ grown-append before (take i text) (take k (drop i text)) ∙ ap (grown before) (sym (take-add i k text))

-- what a number keeps within a limit, a smaller one does
pub within-smaller : (limit : Option ℕ) (small great : ℕ) → IfSome limit (λ n. great ≤ n) → small ≤ great → IfSome limit (λ n. small ≤ n)
within-smaller None small great h le = tt
within-smaller (Some n) small great h le = omega (arith, h)

-- a piece after a text, in what the limit leaves, is one piece with it
pub TookPiece-after_text : (before between after : Option (List ℕ)) (text : List ℕ) (limit : Option ℕ) (size room : ℕ) → before ≡ in_front text between → TookPiece between after (Some size) → size ≤ room → IfSome limit (λ n. length text + room ≤ n) → TookPiece before after limit
TookPiece-after_text before between after text limit size room first second fits within = record {
  piece = text ++ second.piece;
  moved = first ∙ ap (in_front text) second.moved ∙ sym (in_front-append text second.piece after);
  within = within-smaller limit (length (text ++ second.piece)) (length text + room) within (omega (arith, second.within, length-append text second.piece));
}

-- a text that was read to its end is all that was told
pub told-whole : (before after : Option (List ℕ)) (text : List ℕ) → before ≡ in_front text after → NothingLeft after → IfSome before (λ bytes. bytes ≡ text)
told-whole before None text e none = rw e tt
told-whole before (Some bytes) text e none = rw (e, none) (append-nil text)

-- where nothing was left, nothing is read
pub nothing-read : (before after : Option (List ℕ)) (text : List ℕ) → before ≡ in_front text after → IsTold before → NothingLeft before → text ≡ []
nothing-read None after text e told none = absurd (cc)
nothing-read (Some bytes) None text e told none = cc
nothing-read (Some bytes) (Some rest) text e told none =
    let same : bytes ≡ text ++ rest = cc in
    nil_from_length text (omega (arith, ap length (sym same ∙ none), length-append text rest))
