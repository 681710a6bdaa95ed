-- The items of a model are all of its declarations and statements.
use Rattle.std.proofs.Common.{◌≡◌, ℕ, Bool, true, false, List, [], ◌∷◌, ◌++◌, map, refl, ap, ◌∙◌}
use Rattle.std.specs.Prelude.{◌==◌, nat_lt, if◌then◌else◌}
use Rattle.model_meaning.specs.declared.model.Decl.{Decl}
use Rattle.model_meaning.specs.declared.model.Stmt.{Stmt}
use Rattle.model_items.specs.Items.{ModelItem, Declaration, Statement, Definition, stmts_before, stmts_from, declared_item, behind_declared, items_of}
use Rattle.model_lower.proofs.Standing.{decls_in, stmts_in}

decls_in-statements : (ss : List Stmt) (items : List ModelItem) → decls_in (map Statement ss ++ items) ≡ decls_in items
decls_in-statements [] items = refl
decls_in-statements (s ∷ ss) items = decls_in-statements ss items

stmts_in-statements : (ss : List Stmt) (items : List ModelItem) → stmts_in (map Statement ss ++ items) ≡ ss ++ stmts_in items
stmts_in-statements [] items = refl
stmts_in-statements (s ∷ ss) items = ap (λ ts. s ∷ ts) (stmts_in-statements ss items)

no_decls : (ss : List Stmt) → decls_in (map Statement ss) ≡ []
no_decls [] = refl
no_decls (s ∷ ss) = no_decls ss

all_stmts : (ss : List Stmt) → stmts_in (map Statement ss) ≡ ss
all_stmts [] = refl
all_stmts (s ∷ ss) = ap (λ ts. s ∷ ts) (all_stmts ss)

before-from : (n : ℕ) (ss : List Stmt) → stmts_before n ss ++ stmts_from n ss ≡ ss
before-from n [] = refl
before-from n (s ∷ ss) = by_test (nat_lt s.number n) (before-from n ss)
  where
    by_test : (b : Bool) → stmts_before n ss ++ stmts_from n ss ≡ ss → (if b then s ∷ stmts_before n ss else []) ++ (if b then stmts_from n ss else s ∷ ss) ≡ s ∷ ss
    by_test true e = ap (λ ts. s ∷ ts) e
    by_test false e = refl

-- a declaration, with or without a statement of its number
declared-decls : (d : Decl) (ss : List Stmt) (items : List ModelItem) → decls_in (declared_item d ss ∷ items) ≡ d ∷ decls_in items
declared-decls d [] items = refl
declared-decls d (s ∷ ss) items = by_test (s.number == d.number)
  where
    by_test : (b : Bool) → decls_in ((if b then Definition d s else Declaration d) ∷ items) ≡ d ∷ decls_in items
    by_test true = refl
    by_test false = refl

declared-stmts : (d : Decl) (ss : List Stmt) (items : List ModelItem) → stmts_in items ≡ behind_declared d ss → stmts_in (declared_item d ss ∷ items) ≡ ss
declared-stmts d [] items e = e
declared-stmts d (s ∷ ss) items e = by_test (s.number == d.number) e
  where
    by_test : (b : Bool) → stmts_in items ≡ (if b then ss else s ∷ ss) → stmts_in ((if b then Definition d s else Declaration d) ∷ items) ≡ s ∷ ss
    by_test true e = ap (λ ts. s ∷ ts) e
    by_test false e = e

pub decls_in-items_of : (ds : List Decl) (ss : List Stmt) → decls_in (items_of ds ss) ≡ ds
decls_in-items_of [] ss = no_decls ss
decls_in-items_of (d ∷ ds) ss =
    let from : List Stmt = stmts_from d.number ss in
    let items : List ModelItem = items_of ds (behind_declared d from) in
    decls_in-statements (stmts_before d.number ss) (declared_item d from ∷ items)
    ∙ (declared-decls d from items ∙ ap (λ cs. d ∷ cs) (decls_in-items_of ds (behind_declared d from)))

pub stmts_in-items_of : (ds : List Decl) (ss : List Stmt) → stmts_in (items_of ds ss) ≡ ss
stmts_in-items_of [] ss = all_stmts ss
stmts_in-items_of (d ∷ ds) ss =
    let from : List Stmt = stmts_from d.number ss in
    let items : List ModelItem = items_of ds (behind_declared d from) in
    stmts_in-statements (stmts_before d.number ss) (declared_item d from ∷ items)
    ∙ (ap (λ ts. stmts_before d.number ss ++ ts) (declared-stmts d from items (stmts_in-items_of ds (behind_declared d from))) ∙ before-from d.number ss)
