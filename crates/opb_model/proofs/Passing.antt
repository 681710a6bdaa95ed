-- Items that are typed one after another, none of which has a fault.
use Rattle.std.proofs.Common.{◌≡◌, ℕ, ◌+◌, false, List, [], ◌∷◌, ◌++◌, append_assoc, refl, ap, sym, ◌∙◌, None}
use Rattle.bumblebee_reader.specs.declared.syntax.Item.{Item}
use Rattle.model_meaning.specs.declared.model.Decl.{Decl}
use Rattle.model_meaning.specs.declared.model.Stmt.{Stmt}
use Rattle.typed_model.specs.Faults.{item_fault}
use Rattle.typed_model.specs.Items.{declarations_of, statements_of, goal_after, decls_from, stmts_from, goal_from, first_fault_from}

-- From item n on, among these declarations and before any goal, these items have no fault and are no goal; they lead to item m among
-- those declarations, and state that.
pub record Passes (n : ℕ) (ds : List Decl) (items : List Item) (m : ℕ) (es : List Decl) (ss : List Stmt) : Type 0 where
  pub decls : (rest : List Item) → decls_from n ds (items ++ rest) ≡ decls_from m es rest
  pub stmts : (rest : List Item) → stmts_from n ds (items ++ rest) ≡ ss ++ stmts_from m es rest
  pub goal : (rest : List Item) → goal_from n ds None (items ++ rest) ≡ goal_from m es None rest
  pub fault : (rest : List Item) → first_fault_from n ds None (items ++ rest) ≡ first_fault_from m es None rest

pub none-passes : (n : ℕ) (ds : List Decl) → Passes n ds [] n ds []
none-passes n ds = record { decls = λ rest. refl; stmts = λ rest. refl; goal = λ rest. refl; fault = λ rest. refl }

-- an item that has no fault and is no goal
pub item-passes : (n : ℕ) (ds : List Decl) (i : Item) (new : List Decl) (ss : List Stmt) → item_fault n false ds i ≡ None → declarations_of n ds i ≡ new
    → statements_of n (ds ++ new) i ≡ ss → goal_after None ds i ≡ None → Passes n ds (i ∷ []) (n + 1) (ds ++ new) ss
unfolding decls_from stmts_from goal_from first_fault_from
item-passes n ds i new ss fine declares states none = record {
  decls = λ rest. ap (λ es. decls_from (n + 1) (ds ++ es) rest) declares;
  stmts = λ rest. ap (λ es. statements_of n (ds ++ es) i ++ stmts_from (n + 1) (ds ++ es) rest) declares ∙ ap (λ xs. xs ++ stmts_from (n + 1) (ds ++ new) rest) states;
  goal = λ rest. λ k. goal_from (n + 1) (ds ++ declares k) (none k) rest;
  fault = λ rest. rw fine (λ k. first_fault_from (n + 1) (ds ++ declares k) (none k) rest);
}

pub then-passes : (n m l : ℕ) (ds es fs : List Decl) (xs ys : List Item) (ss ts : List Stmt) → Passes n ds xs m es ss → Passes m es ys l fs ts → Passes n ds (xs ++ ys) l fs (ss ++ ts)
then-passes n m l ds es fs xs ys ss ts p q = record {
  decls = λ rest. ap (decls_from n ds) (append_assoc xs ys rest) ∙ (p.decls (ys ++ rest) ∙ q.decls rest);
  stmts = λ rest.
      ap (stmts_from n ds) (append_assoc xs ys rest) ∙ (p.stmts (ys ++ rest) ∙ (ap (λ x. ss ++ x) (q.stmts rest) ∙ sym (append_assoc ss ts (stmts_from l fs rest))));
  goal = λ rest. ap (goal_from n ds None) (append_assoc xs ys rest) ∙ (p.goal (ys ++ rest) ∙ q.goal rest);
  fault = λ rest. ap (first_fault_from n ds None) (append_assoc xs ys rest) ∙ (p.fault (ys ++ rest) ∙ q.fault rest);
}
