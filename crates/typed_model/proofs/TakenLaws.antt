-- One item more, and no more items.
use Rattle.std.proofs.Common.{◌≡◌, ℕ, ◌+◌, true, List, [], ◌∷◌, ◌++◌, length, Option, Some, None, is_some, refl, sym, ◌∙◌, ap, arith}
use Rattle.std.specs.Prelude.{if◌then◌else◌}
use Rattle.std.specs.Option.{unwrap_or}
use Rattle.std.proofs.lemmas.List.{append_assoc, append-nil, length-append}
use Rattle.bumblebee_reader.specs.declared.syntax.Item.{Item}
use Rattle.model_meaning.specs.declared.model.Decl.{Decl}
use Rattle.model_meaning.specs.declared.model.Stmt.{Stmt}
use Rattle.model_meaning.specs.declared.model.Goal.{Goal}
use Rattle.model_meaning.specs.declared.model.Goal.TheVariants.{Satisfy}
use Rattle.model_meaning.specs.declared.model.Model.{Model}
use Rattle.typed_model.specs.declared.fault.TypeFault.{TypeFault}
use Rattle.typed_model.specs.declared.fault.TypeFault.TheVariants.{NoGoal}
use Rattle.model_meaning.specs.Names.{first_of}
use Rattle.typed_model.specs.Faults.{item_fault}
use Rattle.typed_model.specs.Items.{declarations_of, statements_of, goal_after, first_fault_from, first_fault, decls_from, stmts_from, goal_from, model_of}
use Rattle.typed_model.specs.Taken.{Taken, fault_from, fault_of, all_of, HasTaken, with_item}
use Rattle.model_meaning.specs.WellTyped.{WellTyped}
use Rattle.typed_model.proofs.ModelShares.{WellTyped-model_of}

-- where the items from n on end
abbrev after : ℕ → List Item → ℕ
after n [] = n
after n (i ∷ items) = after (n + 1) items

after-length : (n : ℕ) (items : List Item) → after n items ≡ n + length items
after-length n [] = omega arith
after-length n (i ∷ items) = omega (arith, after-length (n + 1) items)

decls-one : (n : ℕ) (ds : List Decl) (items : List Item) (x : Item) → decls_from n ds (items ++ x ∷ []) ≡ decls_from n ds items ++ declarations_of (after n items) (decls_from n ds items) x
unfolding decls_from
decls-one n ds [] x = refl
decls-one n ds (i ∷ items) x = decls-one (n + 1) (ds ++ declarations_of n ds i) items x

stmts-one : (n : ℕ) (ds : List Decl) (items : List Item) (x : Item) → stmts_from n ds (items ++ x ∷ []) ≡ stmts_from n ds items ++ statements_of (after n items) (decls_from n ds items ++ declarations_of (after n items) (decls_from n ds items) x) x
unfolding stmts_from decls_from
stmts-one n ds [] x = append-nil _
stmts-one n ds (i ∷ items) x =
    let es = ds ++ declarations_of n ds i in
    ap (λ ss. statements_of n es i ++ ss) (stmts-one (n + 1) es items x) ∙ sym (append_assoc (statements_of n es i) _ _)

goal-one : (n : ℕ) (ds : List Decl) (g : Option Goal) (items : List Item) (x : Item) → goal_from n ds g (items ++ x ∷ []) ≡ goal_after (goal_from n ds g items) (decls_from n ds items) x
unfolding goal_from decls_from
goal-one n ds g [] x = refl
goal-one n ds g (i ∷ items) x = goal-one (n + 1) (ds ++ declarations_of n ds i) (goal_after g ds i) items x

first_of-assoc : {A : Type 0} (a b c : Option A) → first_of (first_of a b) c ≡ first_of a (first_of b c)
first_of-assoc None b c = refl
first_of-assoc (Some x) b c = refl

first_of-none : {A : Type 0} (a : Option A) → first_of a None ≡ a
first_of-none None = refl
first_of-none (Some x) = refl

fault-one : (n : ℕ) (ds : List Decl) (g : Option Goal) (items : List Item) (x : Item) → fault_from n ds g (items ++ x ∷ []) ≡ first_of (fault_from n ds g items) (item_fault (after n items) (is_some (goal_from n ds g items)) (decls_from n ds items) x)
unfolding fault_from goal_from decls_from
fault-one n ds g [] x = first_of-none _
fault-one n ds g (i ∷ items) x =
    ap (first_of (item_fault n (is_some g) ds i)) (fault-one (n + 1) (ds ++ declarations_of n ds i) (goal_after g ds i) items x) ∙ sym (first_of-assoc (item_fault n (is_some g) ds i) _ _)

fault-end : (n : ℕ) (ds : List Decl) (g : Option Goal) (items : List Item) → first_fault_from n ds g items ≡ first_of (fault_from n ds g items) (if is_some (goal_from n ds g items) then None else Some (NoGoal (after n items)))
unfolding first_fault_from fault_from goal_from
fault-end n ds g [] = refl
fault-end n ds g (i ∷ items) =
    ap (first_of (item_fault n (is_some g) ds i)) (fault-end (n + 1) (ds ++ declarations_of n ds i) (goal_after g ds i) items) ∙ sym (first_of-assoc (item_fault n (is_some g) ds i) _ _)

place : (items : List Item) → after 1 items ≡ length items + 1
place items = omega (arith, after-length 1 items)

kept : (n m : ℕ) (ds es : List Decl) (ss ts : List Stmt) (g k : Option Goal) → n ≡ m → ds ≡ es → ss ≡ ts → g ≡ k → ◌≡◌ {A = Taken} (record { next = n; decls = ds; stmts = ss; goal = g; fault = None }) (record { next = m; decls = es; stmts = ts; goal = k; fault = None })
kept n m ds es ss ts g k a b c d = rw (a, b, c, d) refl

with_item-all : (items : List Item) (x : Item) → ◌≡◌ {A = Taken} (with_item (all_of items) x) (all_of (items ++ x ∷ []))
with_item-all items x =
    kept _ _ _ _ _ _ _ _ (omega (arith, length-append items (x ∷ [])))
    (sym (rw (place items) at (decls-one 1 [] items x))) (sym (rw (place items) at (stmts-one 1 [] items x))) (sym (goal-one 1 [] None items x))

-- what is kept is the same but for a fault
module _ (t : Taken) (items : List Item) (x : Item) (h : HasTaken t items) where
  found-stays : (f : TypeFault) → t.fault ≡ Some f → fault_of (items ++ x ∷ []) ≡ Some f
  found-stays f e = rw (sym h.fault ∙ e) at (fault-one 1 [] None items x)

  found-next : t.fault ≡ None → fault_of (items ++ x ∷ []) ≡ item_fault t.next (is_some t.goal) t.decls x
  found-next e =
      let none : fault_of items ≡ None = sym h.fault ∙ e in
      rw (h.all none) (rw (none, place items) at (fault-one 1 [] None items x))

  HasTaken-found : (u : Taken) (f : TypeFault) → u.fault ≡ Some f → fault_of (items ++ x ∷ []) ≡ Some f → HasTaken u (items ++ x ∷ [])
  HasTaken-found u f e s = record { fault = e ∙ sym s; all = λ none. absurd (cc) }

  -- after a fault, one item more changes nothing
  pub HasTaken-stays : (o : Option TypeFault) → t.fault ≡ o → is_some o ≡ true → HasTaken t (items ++ x ∷ [])
  HasTaken-stays None e is = absurd (cc)
  HasTaken-stays (Some f) e is = HasTaken-found t f e (found-stays f e)

  -- the first fault is kept
  pub HasTaken-stopped : (u : Taken) (f : TypeFault) → t.fault ≡ None → item_fault t.next (is_some t.goal) t.decls x ≡ Some f → u.fault ≡ Some f → HasTaken u (items ++ x ∷ [])
  HasTaken-stopped u f e d k = HasTaken-found u f k (found-next e ∙ d)

  -- one item more, which has no fault
  pub HasTaken-with_item : (u : Taken) → t.fault ≡ None → item_fault t.next (is_some t.goal) t.decls x ≡ None → u ≡ with_item t x → HasTaken u (items ++ x ∷ [])
  HasTaken-with_item u e d k =
      let none : fault_of items ≡ None = sym h.fault ∙ e in
      let whole : u ≡ all_of (items ++ x ∷ []) = k ∙ (ap (λ s. with_item s x) (h.all none) ∙ with_item-all items x) in
      record { fault = ap (λ (s : Taken). s.fault) whole ∙ sym (found-next e ∙ d); all = λ _. whole }

-- no item
pub HasTaken-start : (ds : List Decl) (ss : List Stmt) → ds ≡ [] → ss ≡ [] → HasTaken (record { next = 1; decls = ds; stmts = ss; goal = None; fault = None }) []
unfolding fault_from decls_from stmts_from goal_from
HasTaken-start ds ss d s = rw (d, s) (record { fault = refl; all = λ _. refl })

made : (ds es : List Decl) (ss ts : List Stmt) (g : Goal) (o : Option Goal) → ds ≡ es → ss ≡ ts → Some g ≡ o → ◌≡◌ {A = Model} (record { decls = ds; stmts = ss; goal = g }) (record { decls = es; stmts = ts; goal = unwrap_or o Satisfy })
made ds es ss ts g o d s e = rw (d, s, ← e) refl

typed : (m n : Model) → ◌≡◌ {A = Model} m n → WellTyped n → WellTyped m
typed m n e h = rw e h

module _ (t : Taken) (items : List Item) (h : HasTaken t items) where
  no_fault : t.fault ≡ None → fault_of items ≡ None
  no_fault e = sym h.fault ∙ e

  goal_is : t.fault ≡ None → t.goal ≡ goal_from 1 [] None items
  goal_is e = ap (λ (s : Taken). s.goal) (h.all (no_fault e))

  pub fault-found : (f : TypeFault) → t.fault ≡ Some f → first_fault items ≡ Some f
  fault-found f e = rw (sym h.fault ∙ e) at (fault-end 1 [] None items)

  pub none-found : (g : Goal) → t.fault ≡ None → t.goal ≡ Some g → first_fault items ≡ None
  none-found g e k = rw (no_fault e, sym (goal_is e) ∙ k) at (fault-end 1 [] None items)

  pub goal-missing : t.fault ≡ None → t.goal ≡ None → first_fault items ≡ Some (NoGoal t.next)
  goal-missing e k =
      let n : t.next ≡ after 1 items = ap (λ (s : Taken). s.next) (h.all (no_fault e)) ∙ sym (place items) in
      rw n (rw (no_fault e, sym (goal_is e) ∙ k) at (fault-end 1 [] None items))

  module _ (ds : List Decl) (ss : List Stmt) (g : Goal) (d : ds ≡ t.decls) (s : ss ≡ t.stmts) (e : t.fault ≡ None) (k : t.goal ≡ Some g) where
    pub model-made : ◌≡◌ {A = Model} (record { decls = ds; stmts = ss; goal = g }) (model_of items)
    model-made =
        let a = h.all (no_fault e) in
        made _ _ _ _ g _ (d ∙ ap (λ (s : Taken). s.decls) a) (s ∙ ap (λ (s : Taken). s.stmts) a) (sym k ∙ goal_is e)

    pub typed-made : WellTyped (record { decls = ds; stmts = ss; goal = g })
    typed-made = typed _ _ model-made (WellTyped-model_of items (none-found g e k))
