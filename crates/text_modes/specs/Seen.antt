-- What the outside shows of a run.
use Rattle.std.specs.Prelude.{◌≡◌, ℕ, List, Option}

-- What a shelf shows at one moment: the bytes left under each name, and the faults under it. It speaks of every name,
-- so that a mode with two names says of each what it promises, also where both are one.
pub record ShelfShown : Type 0 where
  pub left : List ℕ → Option (List ℕ)
  pub faults : List ℕ → ℕ

-- what a sink shows at one moment: the bytes that it took, how many of them were flushed, and its faults
pub record SinkShown : Type 0 where
  pub taken : Option (List ℕ)
  pub flushed : Option ℕ
  pub faults : ℕ

-- what both show before a run and after it
pub record Seen : Type 0 where
  pub shelf_before : ShelfShown
  pub shelf_after : ShelfShown
  pub out_before : SinkShown
  pub out_after : SinkShown

-- nothing was read or written, and no fault happened
pub record Untouched (seen : Seen) : Type 0 where
  pub shelf : seen.shelf_after ≡ seen.shelf_before
  pub out : seen.out_after ≡ seen.out_before

-- by the meanings of a shelf, and by those of a sink
abbrev pub shelf_shown : {S : Type 0} → (S → List ℕ → Option (List ℕ)) → (S → List ℕ → ℕ) → S
    → ShelfShown
shelf_shown left faults shelf = record { left = left shelf; faults = faults shelf }

abbrev pub sink_shown : {O : Type 0} → (O → Option (List ℕ)) → (O → Option ℕ) → (O → ℕ) → O
    → SinkShown
sink_shown taken flushed faults sink = record { taken = taken sink; flushed = flushed sink; faults = faults sink }

-- a shelf and a sink before a run and after it
abbrev pub seen : {S O : Type 0} → (S → ShelfShown) → (O → SinkShown) → S → S → O → O → Seen
seen shelf sink shelf_before shelf_after out_before out_after = record {
  shelf_before = shelf shelf_before;
  shelf_after = shelf shelf_after;
  out_before = sink out_before;
  out_after = sink out_after;
}
