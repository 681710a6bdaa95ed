use Rattle.std.proofs.Common.{◌≡◌, ◌≢◌, ℕ, ◌≤◌, ◌-◌, ◌^◌, List, length, vec_len, IfSome}
use Rattle.bee_outside.specs.Bytes.{in_front}
use Rattle.bee_outside.proofs.reading.read_all.Given as goal

abbrev pub invariant-loop-buffer : goal.invariant-loop-buffer
invariant-loop-buffer g l = record {
  size : length l.buffer ≡ 65536;
  no_fall : (other : List ℕ) → g.S.Shelf.faults l.initial.shelf other ≤ g.S.Shelf.faults l.shelf other;
  no_fault : (other : List ℕ) → g.S.Shelf.faults l.shelf other ≡ g.S.Shelf.faults l.initial.shelf other;
  others : (other : List ℕ) → other ≢ l.name → g.S.Shelf.left l.shelf other ≡ g.S.Shelf.left l.initial.shelf other;
  moved : g.S.Shelf.left l.initial.shelf l.name ≡ in_front l.text.items (g.S.Shelf.left l.shelf l.name);
  within : IfSome l.limit (λ n. vec_len l.text ≤ n);
}

abbrev pub decreases-loop-buffer : goal.decreases-loop-buffer
decreases-loop-buffer g l = 2 ^ 64 - vec_len l.text
