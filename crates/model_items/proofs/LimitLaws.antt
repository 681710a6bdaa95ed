-- The items of a model that is in the limits are.
use Rattle.std.proofs.Common.{ℕ, Bool, true, false, List, [], ◌∷◌, ◌++◌, map}
use Rattle.std.specs.Prelude.{◌==◌, nat_lt, if◌then◌else◌}
use Rattle.model_meaning.specs.declared.model.Decl.{Decl}
use Rattle.model_meaning.specs.declared.model.Stmt.{Stmt}
use Rattle.model_meaning.specs.Limits.{KindInLimit, DeclsInLimit, StmtsInLimit}
use Rattle.model_items.specs.Items.{ModelItem, Declaration, Statement, Definition, stmts_before, stmts_from, declared_item, behind_declared, items_of}
use Rattle.model_items.specs.ItemLimits.{ItemInLimit, ItemsInLimit}

statements-limit : (n : ℕ) (ss : List Stmt) (items : List ModelItem) → StmtsInLimit ss → ItemsInLimit items → ItemsInLimit (map Statement (stmts_before n ss) ++ items)
statements-limit n [] items h k = k
statements-limit n (s ∷ ss) items h k = by_test (nat_lt s.number n) (statements-limit n ss items h.1 k)
  where
    by_test : (b : Bool) → ItemsInLimit (map Statement (stmts_before n ss) ++ items) → ItemsInLimit (map Statement (if b then s ∷ stmts_before n ss else []) ++ items)
    by_test true r = (h.0, r)
    by_test false r = k

from-limit : (n : ℕ) (ss : List Stmt) → StmtsInLimit ss → StmtsInLimit (stmts_from n ss)
from-limit n [] h = tt
from-limit n (s ∷ ss) h = by_test (nat_lt s.number n) (from-limit n ss h.1)
  where
    by_test : (b : Bool) → StmtsInLimit (stmts_from n ss) → StmtsInLimit (if b then stmts_from n ss else s ∷ ss)
    by_test true r = r
    by_test false r = h

declared-limit : (d : Decl) (ss : List Stmt) → KindInLimit d.kind → StmtsInLimit ss → ItemInLimit (declared_item d ss) × StmtsInLimit (behind_declared d ss)
declared-limit d [] small h = (small, tt)
declared-limit d (s ∷ ss) small h = by_test (s.number == d.number)
  where
    by_test : (b : Bool) → ItemInLimit (if b then Definition d s else Declaration d) × StmtsInLimit (if b then ss else s ∷ ss)
    by_test true = (h.0, h.1)
    by_test false = (small, h)

all-statements-limit : (ss : List Stmt) → StmtsInLimit ss → ItemsInLimit (map Statement ss)
all-statements-limit [] h = tt
all-statements-limit (s ∷ ss) h = (h.0, all-statements-limit ss h.1)

pub items-in_limit : (ds : List Decl) (ss : List Stmt) → DeclsInLimit ds → StmtsInLimit ss → ItemsInLimit (items_of ds ss)
items-in_limit [] ss small h = all-statements-limit ss h
items-in_limit (d ∷ ds) ss small h =
    let rest = declared-limit d (stmts_from d.number ss) small.0 (from-limit d.number ss h) in
    statements-limit d.number ss (declared_item d (stmts_from d.number ss) ∷ items_of ds (behind_declared d (stmts_from d.number ss))) h
    (rest.0, items-in_limit ds (behind_declared d (stmts_from d.number ss)) small.1 rest.1)
