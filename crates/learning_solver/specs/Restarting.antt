-- How far a call has come between its restarts.
use Rattle.std.specs.Prelude.{◌≡◌, ℕ, ◌+◌, ◌<◌, ◌≤◌, ◌^◌, Bool, true, false}
use Rattle.search_laws.specs.Luby.{stretch_length}
use Rattle.search_laws.specs.Stretches.{stretches_total, AreShort}
use Rattle.learning_solver.specs.declared.restarts.Restarts.{Restarts}

-- the clauses that were added are those of the stretches that are done and of this one, which has fewer than there are
-- numbers of trails above that of this one
pub record AreStretched (vars added height : ℕ) (p : Restarts) : Type 0 where
  pub sum : added ≡ p.start + (stretches_total p.stretches + p.learned)
  pub short : AreShort (2 ^ vars) p.stretches
  pub room : p.learned + height < 2 ^ vars
  pub none : p.restart ≡ false → p.stretches ≡ 0
  pub due : p.restart ≡ true → p.learned < stretch_length (p.stretches + 1)

-- of one call
pub record SameCall (old new : Restarts) : Type 0 where
  pub start : new.start ≡ old.start
  pub restart : new.restart ≡ old.restart

-- a clause is counted, and where its stretch is done the next one begins
abbrev pub Counts : Restarts → Restarts → Bool → Type 0
Counts old new false = (new ≡ record old { learned = old.learned + 1 })
    × (old.restart ≡ true → old.learned + 1 < stretch_length (old.stretches + 1))
Counts old new true = (new ≡ record old { stretches = old.stretches + 1; learned = 0 }) × (old.restart ≡ true)
    × (stretch_length (old.stretches + 1) ≤ old.learned + 1)

-- A turn that ends a stretch made it exactly as long as it is to be, and left the search at level 0: so the next one
-- begins anew.
pub record EndsStretch (old : Restarts) (level : ℕ) : Type 0 where
  pub length : old.learned + 1 ≡ stretch_length (old.stretches + 1)
  pub bottom : level ≡ 0

abbrev pub IsInTime : Restarts → Restarts → ℕ → Type 0
IsInTime old new level = old.stretches < new.stretches → EndsStretch old level
