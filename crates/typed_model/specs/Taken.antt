-- What is kept of items that are taken one after the other.
use Rattle.std.specs.Prelude.{◌≡◌, ℕ, ◌+◌, List, [], ◌∷◌, ◌++◌, length, Option, None, is_some}
use Rattle.bumblebee_reader.specs.declared.syntax.Item.{Item}
use Rattle.model_meaning.specs.declared.model.Decl.{Decl}
use Rattle.model_meaning.specs.declared.model.Stmt.{Stmt}
use Rattle.model_meaning.specs.declared.model.Goal.{Goal}
use Rattle.typed_model.specs.declared.fault.TypeFault.{TypeFault}
use Rattle.model_meaning.specs.Names.{first_of}
use Rattle.typed_model.specs.Faults.{item_fault}
use Rattle.typed_model.specs.Items.{declarations_of, statements_of, goal_after, decls_from, stmts_from, goal_from}

-- the number of the next item, what the items before it declare, state and seek, and the fault that was found
pub record Taken : Type 0 where
  pub next : ℕ
  pub decls : List Decl
  pub stmts : List Stmt
  pub goal : Option Goal
  pub fault : Option TypeFault

-- the fault of the first item that has one; that there is no goal is no item's fault
unfoldable pub fault_from : ℕ → List Decl → Option Goal → List Item → Option TypeFault
fault_from n ds g [] = None
fault_from n ds g (i ∷ items) =
    first_of (item_fault n (is_some g) ds i)
    (fault_from (n + 1) (ds ++ declarations_of n ds i) (goal_after g ds i) items)

abbrev pub fault_of : List Item → Option TypeFault
fault_of items = fault_from 1 [] None items

-- what is kept of items of which none has a fault
abbrev pub all_of : List Item → Taken
all_of items =
    record {
      next = length items + 1;
      decls = decls_from 1 [] items;
      stmts = stmts_from 1 [] items;
      goal = goal_from 1 [] None items;
      fault = None;
    }

-- just these items were taken: the fault is that of the first item that has one, and where none has one, all of
-- them is kept
pub record HasTaken (t : Taken) (items : List Item) : Type 0 where
  pub fault : t.fault ≡ fault_of items
  pub all : fault_of items ≡ None → t ≡ all_of items

-- one item more, which has no fault
abbrev pub with_item : Taken → Item → Taken
with_item t i =
    record {
      next = t.next + 1;
      decls = t.decls ++ declarations_of t.next t.decls i;
      stmts = t.stmts ++ statements_of t.next (t.decls ++ declarations_of t.next t.decls i) i;
      goal = goal_after t.goal t.decls i;
      fault = t.fault;
    }
