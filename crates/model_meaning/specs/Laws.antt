-- Facts about the definitions that crates above may use.
use Rattle.std.specs.Prelude.{◌↔◌, ◌≤◌, ℕ, ℤ, List, ◌++◌, length, IsTrue}
use Rattle.model_meaning.specs.WellTyped.{WhatFits}
use Rattle.model_meaning.specs.declared.model.Decl.{Decl}
use Rattle.model_meaning.specs.declared.what.What.{What}
use Rattle.model_meaning.specs.Holds.{Holds, holds}

-- the test of a statement is true exactly where the statement holds
abbrev pub HoldsLaw : Type 0
HoldsLaw = (a : List ℤ) (w : What) → IsTrue (holds a w) ↔ Holds a w

-- a statement that fits some declarations fits more of them; it holds under values of the first exactly where it does
-- when values are added behind
abbrev pub BehindLaw : Type 0
BehindLaw =
    (ds es : List Decl) (n : ℕ) (w : What)
    → WhatFits ds n w
    → WhatFits (ds ++ es) n w × ((a b : List ℤ) → length ds ≤ length a → Holds (a ++ b) w ↔ Holds a w)
