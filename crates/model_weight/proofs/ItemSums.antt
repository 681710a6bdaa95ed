-- The weights of items, one after another, and the statements that stay in the limits.
use Rattle.std.proofs.Common.{◌≡◌, ℕ, ◌+◌, Bool, true, false, List, [], ◌∷◌, ◌++◌, arith}
use Rattle.std.specs.Prelude.{nat_lt, ◌==◌, if◌then◌else◌}
use Rattle.model_meaning.specs.declared.model.Decl.{Decl}
use Rattle.model_meaning.specs.declared.model.Stmt.{Stmt}
use Rattle.model_meaning.specs.Limits.{StmtsInLimit}
use Rattle.model_items.specs.Items.{ModelItem, stmts_before, stmts_from, behind_declared}
use Rattle.model_weight.specs.Weight.{weight_of_items}

pub weights-append : (ds : List Decl) (xs ys : List ModelItem) → weight_of_items ds (xs ++ ys) ≡ weight_of_items ds xs + weight_of_items ds ys
weights-append ds [] ys = omega arith
weights-append ds (x ∷ xs) ys = omega (arith, weights-append ds xs ys)

pub before-limit : (n : ℕ) (ss : List Stmt) → StmtsInLimit ss → StmtsInLimit (stmts_before n ss)
before-limit n [] h = tt
before-limit n (s ∷ ss) h = by_test (nat_lt s.number n) (before-limit n ss h.1)
  where
    by_test : (b : Bool) → StmtsInLimit (stmts_before n ss) → StmtsInLimit (if b then s ∷ stmts_before n ss else [])
    by_test true k = (h.0, k)
    by_test false k = tt

from-limit : (n : ℕ) (ss : List Stmt) → StmtsInLimit ss → StmtsInLimit (stmts_from n ss)
from-limit n [] h = tt
from-limit n (s ∷ ss) h = by_test (nat_lt s.number n) (from-limit n ss h.1)
  where
    by_test : (b : Bool) → StmtsInLimit (stmts_from n ss) → StmtsInLimit (if b then stmts_from n ss else s ∷ ss)
    by_test true k = k
    by_test false k = h

behind-limit : (d : Decl) (ss : List Stmt) → StmtsInLimit ss → StmtsInLimit (behind_declared d ss)
behind-limit d [] h = tt
behind-limit d (s ∷ ss) h = by_test (s.number == d.number)
  where
    by_test : (b : Bool) → StmtsInLimit (if b then ss else s ∷ ss)
    by_test true = h.1
    by_test false = h

pub rest-limit : (d : Decl) (ss : List Stmt) → StmtsInLimit ss → StmtsInLimit (behind_declared d (stmts_from d.number ss))
rest-limit d ss h = behind-limit d (stmts_from d.number ss) (from-limit d.number ss h)
