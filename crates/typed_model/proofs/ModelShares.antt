-- The goal of items without a fault fits, and a declaration and a statement of one item are a `bool2int`.
use Rattle.std.proofs.Common.{◌≡◌, ℕ, zero, suc, ◌+◌, Bool, true, false, not, List, [], ◌∷◌, ◌++◌, length, Option, Some, None, is_some, arith, refl, sym, ◌∙◌, ap, subst}
use Rattle.std.specs.Prelude.{slice_get, IfSome, ◌&&◌, ◌||◌, if◌then◌else◌}
use Rattle.std.specs.Option.{unwrap_or, option_map_or}
use Rattle.std.proofs.lemmas.Bool.{false≢true, and_parts}
use Rattle.std.proofs.lemmas.List.{append-nil}
use Rattle.std.proofs.lemmas.Slice.Eq.{bytes_eq-Decides}
use Rattle.bumblebee_reader.specs.declared.syntax.Term.TheVariants as term
use Rattle.bumblebee_reader.specs.declared.syntax.Arg.{Arg}
use Rattle.bumblebee_reader.specs.declared.syntax.Arg.TheVariants as arg
use Rattle.bumblebee_reader.specs.declared.syntax.Item.{Item}
use Rattle.bumblebee_reader.specs.declared.syntax.Item.TheVariants as item
use Rattle.bumblebee_reader.specs.declared.syntax.GoalKind.{GoalKind}
use Rattle.bumblebee_reader.specs.declared.syntax.GoalKind.TheVariants as goal_kind
use Rattle.model_meaning.specs.declared.wanted.Wanted.TheVariants as wanted
use Rattle.model_meaning.specs.declared.statement.Statement.{Statement}
use Rattle.model_meaning.specs.declared.statement.Statement.TheVariants as statement
use Rattle.model_meaning.specs.declared.what.BoolTerm.{BoolTerm}
use Rattle.model_meaning.specs.declared.what.IntTerm.TheVariants as int_term
use Rattle.model_meaning.specs.declared.what.What.{What}
use Rattle.model_meaning.specs.declared.what.What.TheVariants.{BoolToInt}
use Rattle.model_meaning.specs.declared.model.Decl.{Decl}
use Rattle.model_meaning.specs.declared.model.Stmt.{Stmt}
use Rattle.model_meaning.specs.declared.model.Goal.{Goal}
use Rattle.model_meaning.specs.declared.model.Goal.TheVariants as goal
use Rattle.typed_model.specs.declared.fault.TypeFault.TheVariants.{Undeclared, Kind as KindFault}
use Rattle.model_meaning.specs.Names.{statement_of}
use Rattle.model_meaning.specs.Signatures.{signature}
use Rattle.model_meaning.specs.Places.{place_of}
use Rattle.typed_model.specs.Scope.{place_or_zero, is_int, kind_of}
use Rattle.typed_model.specs.Faults.{call_fault, item_fault, objective_unknown, second_fits, objectives_fit, goal_fault}
use Rattle.typed_model.specs.Items.{declare_name, declare, declare_by, declare_if, declarations_of, what_of, name_in, truth_in, number_in, state, state_if, statements_of, objective_place, second_place, goal_of, goal_after, decls_from, stmts_from, goal_from, first_fault_from, first_fault, model_of}
use Rattle.model_meaning.specs.WellTyped.{ObjectiveFits, SecondFits, GoalFits, DeclaresPlace, WellTyped}
use Rattle.typed_model.proofs.TypingLaws.{AllBefore, ArgFits, fit-at, NoFault, no_fault, int_placed}
use Rattle.model_meaning.proofs.AppendLaws.{at-append}
use Rattle.typed_model.proofs.PlaceLaws.{place_of-last}
use Rattle.typed_model.proofs.ItemTyping.{own_kind}
use Rattle.typed_model.proofs.ModelTyping.{AllFrom, AllBefore-declarations_of, decls-prefix, faults-none, before-goal, stmts-fit, decls-fit}

-- The goal.

passed_by : {F : Type 0} (b : Bool) (f : F) (o : Option F) → (if b then Some f else o) ≡ None → (b ≡ false) × (o ≡ None)
passed_by true f o e = cc
passed_by false f o e = (refl, e)

not_false : (b : Bool) → not b ≡ false → b ≡ true
not_false true e = refl
not_false false e = cc

second-fits : (ds : List Decl) (second : Option (List ℕ)) → second_fits ds second ≡ true → SecondFits ds (second_place ds second)
second-fits ds None e = tt
second-fits ds (Some name) e = int_placed ds (place_of name ds) e

objectives-fit : (ds : List Decl) (name : List ℕ) (second : Option (List ℕ)) → (is_int (kind_of name ds) && second_fits ds second) ≡ true → ObjectiveFits ds (objective_place ds (Some name)) × SecondFits ds (second_place ds second)
objectives-fit ds name second e =
    let p = and_parts (is_int (kind_of name ds)) (second_fits ds second) e in
    (int_placed ds (place_of name ds) p.0, second-fits ds second p.1)

goal_of-fits : (ds : List Decl) (k : GoalKind) (objective second : Option (List ℕ)) → objectives_fit ds k objective second ≡ true → GoalFits ds (goal_of ds k objective second)
goal_of-fits ds goal_kind.Satisfy objective second e = tt
goal_of-fits ds goal_kind.Minimize None second e = absurd (false≢true e)
goal_of-fits ds goal_kind.Minimize (Some name) second e = objectives-fit ds name second e
goal_of-fits ds goal_kind.Maximize None second e = absurd (false≢true e)
goal_of-fits ds goal_kind.Maximize (Some name) second e = objectives-fit ds name second e

goal_fault-none : (n : ℕ) (ds : List Decl) (k : GoalKind) (objective second : Option (List ℕ)) → goal_fault n ds k objective second ≡ None → objectives_fit ds k objective second ≡ true
goal_fault-none n ds k objective second e =
    let a = passed_by (objective_unknown ds objective || objective_unknown ds second) (Undeclared n) (if not (objectives_fit ds k objective second) then Some (KindFault n) else None) e in
    not_false _ (passed_by (not (objectives_fit ds k objective second)) (KindFault n) None a.1).0

SecondFits-append : (ds es : List Decl) (p : Option ℕ) → SecondFits ds p → SecondFits (ds ++ es) p
SecondFits-append ds es None h = tt
SecondFits-append ds es (Some p) h = at-append ds es p _ h

GoalFits-append : (ds es : List Decl) (g : Goal) → GoalFits ds g → GoalFits (ds ++ es) g
GoalFits-append ds es goal.Satisfy h = tt
GoalFits-append ds es (goal.Minimize p q) h = (at-append ds es p _ h.0, SecondFits-append ds es q h.1)
GoalFits-append ds es (goal.Maximize p q) h = (at-append ds es p _ h.0, SecondFits-append ds es q h.1)

abbrev GoalFitsIf : List Decl → Option Goal → Type 0
GoalFitsIf ds None = Unit {0}
GoalFitsIf ds (Some g) = GoalFits ds g

GoalFitsIf-append : (ds es : List Decl) (g : Option Goal) → GoalFitsIf ds g → GoalFitsIf (ds ++ es) g
GoalFitsIf-append ds es None h = tt
GoalFitsIf-append ds es (Some g) h = GoalFits-append ds es g h

goal_after-fits : (n : ℕ) (ds : List Decl) (g : Option Goal) (x : Item) → item_fault n false ds x ≡ None → GoalFitsIf ds g → GoalFitsIf (ds ++ declarations_of n ds x) (goal_after g ds x)
unfolding item_fault
goal_after-fits n ds g (item.Call name args) e h = GoalFitsIf-append ds _ g h
goal_after-fits n ds g (item.Goal k objective second) e h = GoalFits-append ds [] (goal_of ds k objective second) (goal_of-fits ds k objective second (goal_fault-none n ds k objective second e))

goal-fit : (n : ℕ) (ds : List Decl) (g : Option Goal) (items : List Item) → first_fault_from n ds g items ≡ None → GoalFitsIf ds g → GoalFitsIf (decls_from n ds items) (goal_from n ds g items)
unfolding decls_from goal_from
goal-fit n ds g [] e h = h
goal-fit n ds g (x ∷ items) e h =
    let f = faults-none n ds g x items e in
    goal-fit (n + 1) (ds ++ declarations_of n ds x) (goal_after g ds x) items f.1 (goal_after-fits n ds g x (before-goal n (is_some g) ds x f.0) h)

goal-or : (ds : List Decl) (g : Option Goal) → GoalFitsIf ds g → GoalFits ds (unwrap_or g goal.Satisfy)
goal-or ds None h = tt
goal-or ds (Some g) h = h

-- A declaration and a statement of one item.

abbrev EachStmt : (Stmt → Type 0) → List Stmt → Type 0
EachStmt P [] = Unit {0}
EachStmt P (s ∷ ss) = P s × EachStmt P ss

each-append : (P : Stmt → Type 0) (xs ys : List Stmt) → EachStmt P xs → EachStmt P ys → EachStmt P (xs ++ ys)
each-append P [] ys h k = k
each-append P (s ∷ xs) ys h k = (h.0, each-append P xs ys h.1 k)

each-at : (P : Stmt → Type 0) (ss : List Stmt) (q : ℕ) → EachStmt P ss → IfSome (slice_get ss q) P
each-at P [] q h = tt
each-at P (s ∷ ss) zero h = h.0
each-at P (s ∷ ss) (suc q) h = each-at P ss q h.1

same_number : (e d : Decl) → Some e ≡ Some d → e.number ≡ d.number
same_number e d g = ap (λ (o : Option Decl). option_map_or (λ (x : Decl). x.number) o 0) g

not_later : (n p : ℕ) (more : List Decl) (d : Decl) → slice_get more p ≡ Some d → AllFrom (n + 1) more → d.number ≡ n → ⊥
not_later n p [] d g h e = cc
not_later n zero (x ∷ more) d g h e = let s : x.number ≡ d.number = same_number x d g in omega (arith, h.0, s, e)
not_later n (suc p) (x ∷ more) d g h e = not_later n p more d g h.1 e

not_here : (n p : ℕ) (ds more : List Decl) (d : Decl) → slice_get (ds ++ more) p ≡ Some d → AllBefore n ds → AllFrom (n + 1) more → d.number ≡ n → ⊥
not_here n p [] more d g b h e = not_later n p more d g h e
not_here n zero (x ∷ ds) more d g b h e = let s : x.number ≡ d.number = same_number x d g in omega (arith, b.0, s, e)
not_here n (suc p) (x ∷ ds) more d g b h e = not_here n p ds more d g b.1 h e

only_here : (n p : ℕ) (ds more : List Decl) (own d : Decl) → slice_get ((ds ++ own ∷ []) ++ more) p ≡ Some d → AllBefore n ds → AllFrom (n + 1) more → d.number ≡ n → (p ≡ length ds) × (Some own ≡ Some d)
only_here n zero [] more own d g b h e = (refl, g)
only_here n (suc p) [] more own d g b h e = absurd (not_later n p more d g h e)
only_here n zero (x ∷ ds) more own d g b h e = let s : x.number ≡ d.number = same_number x d g in absurd (omega (arith, b.0, s, e))
only_here n (suc p) (x ∷ ds) more own d g b h e =
    let r = only_here n p ds more own d g b.1 h e in
    (ap suc r.0, r.1)

own_kind_of : (own d : Decl) → Some own ≡ Some d → d.kind ≡ own.kind
own_kind_of own d g = sym (ap (λ (o : Option Decl). option_map_or (λ (x : Decl). x.kind) o own.kind) g)

abbrev Shares : List Decl → Decl → Stmt → Type 0
Shares ds d s = d.number ≡ s.number → DeclaresPlace ds d s.what

module _ (n : ℕ) (ds more : List Decl) (before : AllBefore n ds) (later : AllFrom (n + 1) more) (p : ℕ) (d : Decl) where
  nothing : (es : List Decl) → es ≡ [] → slice_get ((ds ++ es) ++ more) p ≡ Some d → d.number ≡ n → ⊥
  nothing es m g e = not_here n p ds more d (subst (λ (xs : List Decl). slice_get (xs ++ more) p ≡ Some d) (ap (λ xs. ds ++ xs) m ∙ append-nil ds) g) before later e

  place_shares : (x : BoolTerm) (name : List ℕ) (o : Option ℕ) → place_of name ds ≡ o → slice_get ((ds ++ declare_name n ds name own_kind) ++ more) p ≡ Some d → d.number ≡ n → DeclaresPlace ((ds ++ declare_name n ds name own_kind) ++ more) d (BoolToInt x (int_term.Of (place_or_zero name (ds ++ declare_name n ds name own_kind))))
  place_shares x name (Some k) m g e =
      absurd (nothing (declare_name n ds name own_kind) (ap (λ (o : Option ℕ). if is_some o then [] else record { number = n; name = name; kind = own_kind } ∷ []) m) g e)
  place_shares x name None m g e =
      let own : Decl = record { number = n; name = name; kind = own_kind } in
      let made : declare_name n ds name own_kind ≡ own ∷ [] = ap (λ (o : Option ℕ). if is_some o then [] else own ∷ []) m in
      let last : place_of name (ds ++ own ∷ []) ≡ Some (length ds) = place_of-last name ds own m ((bytes_eq-Decides name name).1 refl) in
      let g2 : slice_get ((ds ++ own ∷ []) ++ more) p ≡ Some d = subst (λ (es : List Decl). slice_get ((ds ++ es) ++ more) p ≡ Some d) made g in
      let r = only_here n p ds more own d g2 before later e in
      let placed : place_or_zero name (ds ++ own ∷ []) ≡ p = ap (λ (o : Option ℕ). option_map_or (λ p. p) o 0) last ∙ sym r.0 in
      let there : slice_get ((ds ++ own ∷ []) ++ more) (place_or_zero name (ds ++ own ∷ [])) ≡ Some d = subst (λ (q : ℕ). slice_get ((ds ++ own ∷ []) ++ more) q ≡ Some d) (sym placed) g2 in
      subst (λ (es : List Decl). DeclaresPlace ((ds ++ es) ++ more) d (BoolToInt x (int_term.Of (place_or_zero name (ds ++ es))))) (sym made) (there, own_kind_of own d r.1)

  arg_shares : (x : BoolTerm) (a : Option Arg) → ArgFits ds wanted.NewInteger a → slice_get ((ds ++ declare n ds (name_in a) own_kind) ++ more) p ≡ Some d → d.number ≡ n → DeclaresPlace ((ds ++ declare n ds (name_in a) own_kind) ++ more) d (BoolToInt x (number_in (ds ++ declare n ds (name_in a) own_kind) a))
  arg_shares x None h g e = absurd h
  arg_shares x (Some (arg.One (term.Plain name))) h g e = place_shares x name (place_of name ds) refl g e
  arg_shares x (Some (arg.One (term.Minus name))) h g e = absurd (false≢true h)
  arg_shares x (Some (arg.One (term.Number z))) h g e = absurd (false≢true h)
  arg_shares x (Some (arg.Many ts)) h g e = absurd (false≢true h)

  none_shares : (o : Option What) → (d.number ≡ n → ⊥) → EachStmt (Shares ((ds ++ []) ++ more) d) (state n o)
  none_shares None h = tt
  none_shares (Some w) h = (λ e. absurd (h e), tt)

  by_shares : (name : List ℕ) (args : List Arg) (s : Statement) → NoFault ds s args → slice_get ((ds ++ declare_by n ds s args) ++ more) p ≡ Some d → EachStmt (Shares ((ds ++ declare_by n ds s args) ++ more) d) (state n (what_of (ds ++ declare_by n ds s args) name s args))
  unfolding what_of declare_by
  by_shares name args statement.NewBool ok g = tt
  by_shares name args statement.NewInt ok g = tt
  by_shares name args statement.BoolToInt ok g = (λ e. arg_shares (truth_in (ds ++ declare n ds (name_in (slice_get args 1)) own_kind) (slice_get args 0)) (slice_get args 1) (fit-at ds (signature statement.BoolToInt) args 1 ok.fits) g e, tt)
  by_shares name args s ok g = none_shares (what_of (ds ++ []) name s args) (λ e. nothing [] refl g e)

  if_shares : (name : List ℕ) (args : List Arg) (o : Option Statement) → call_fault n ds o args ≡ None → slice_get ((ds ++ declare_if n ds o args) ++ more) p ≡ Some d → EachStmt (Shares ((ds ++ declare_if n ds o args) ++ more) d) (state_if n (ds ++ declare_if n ds o args) name o args)
  if_shares name args None f g = tt
  if_shares name args (Some s) f g = by_shares name args s (no_fault n ds s args f) g

  item_shares : (x : Item) → item_fault n false ds x ≡ None → slice_get ((ds ++ declarations_of n ds x) ++ more) p ≡ Some d → EachStmt (Shares ((ds ++ declarations_of n ds x) ++ more) d) (statements_of n (ds ++ declarations_of n ds x) x)
  unfolding item_fault
  item_shares (item.Call name args) f g = if_shares name args (statement_of name) f g
  item_shares (item.Goal k objective second) f g = tt

shares-from : (n : ℕ) (ds : List Decl) (g : Option Goal) (items : List Item) → AllBefore n ds → first_fault_from n ds g items ≡ None → (p : ℕ) (d : Decl) → slice_get (decls_from n ds items) p ≡ Some d → EachStmt (Shares (decls_from n ds items) d) (stmts_from n ds items)
unfolding decls_from stmts_from
shares-from n ds g [] before e p d at = tt
shares-from n ds g (x ∷ items) before e p d at =
    let es = ds ++ declarations_of n ds x in
    let f = faults-none n ds g x items e in
    let r = decls-prefix (n + 1) es items in
    let at2 : slice_get (es ++ r.0) p ≡ Some d = subst (λ (D : List Decl). slice_get D p ≡ Some d) r.1 at in
    let own = item_shares n ds r.0 before r.2 p d x (before-goal n (is_some g) ds x f.0) at2 in
    each-append (Shares (decls_from (n + 1) es items) d) (statements_of n es x) (stmts_from (n + 1) es items)
    (subst (λ (D : List Decl). EachStmt (Shares D d) (statements_of n es x)) (sym r.1) own)
    (shares-from (n + 1) es (goal_after g ds x) items (AllBefore-declarations_of n ds x before) f.1 p d at)

shares_at : (D : List Decl) (ss : List Stmt) (o : Option Decl) (q : ℕ) → ((d : Decl) → o ≡ Some d → EachStmt (Shares D d) ss) → IfSome o (λ d. IfSome (slice_get ss q) (Shares D d))
shares_at D ss None q f = tt
shares_at D ss (Some d) q f = each-at (Shares D d) ss q (f d refl)

-- the model of items without a fault is well typed
pub WellTyped-model_of : (items : List Item) → first_fault items ≡ None → WellTyped (model_of items)
WellTyped-model_of items e =
    record {
      decls = decls-fit 1 [] None items tt tt (omega arith) e;
      stmts = stmts-fit 1 [] None items tt e;
      shares = λ p q. shares_at (decls_from 1 [] items) (stmts_from 1 [] items) (slice_get (decls_from 1 [] items) p) q (shares-from 1 [] None items tt e p);
      goal = goal-or (decls_from 1 [] items) (goal_from 1 [] None items) (goal-fit 1 [] None items e tt);
    }
