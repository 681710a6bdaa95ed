-- The model of items without a fault is well typed.
use Rattle.std.proofs.Common.{◌≡◌, ℕ, ◌+◌, ◌≤◌, ◌<◌, Bool, true, false, not, cond, List, [], ◌∷◌, ◌++◌, length, map, Option, Some, None, is_some, arith, refl, sym, ◌∙◌, ap, subst}
use Rattle.std.specs.Prelude.{slice_get, ◌==◌, IfSome, if◌then◌else◌}
use Rattle.std.specs.Str.{bytes_eq}
use Rattle.std.specs.List.{position_from}
use Rattle.std.proofs.lemmas.Bool.{false≢true, and_parts}
use Rattle.std.proofs.lemmas.Int.{ints}
use Rattle.std.proofs.lemmas.List.{append-nil, append_assoc}
use Rattle.std.proofs.lemmas.Iterator.Adapters.{position_from-zero}
use Rattle.std.proofs.lemmas.Slice.Eq.{bytes_eq-Decides}
use Rattle.bumblebee_reader.specs.declared.syntax.Term.{Term}
use Rattle.bumblebee_reader.specs.declared.syntax.Term.TheVariants as term
use Rattle.bumblebee_reader.specs.declared.syntax.Arg.{Arg}
use Rattle.bumblebee_reader.specs.declared.syntax.Arg.TheVariants as arg
use Rattle.bumblebee_reader.specs.declared.syntax.Item.{Item}
use Rattle.bumblebee_reader.specs.declared.syntax.Item.TheVariants as item
use Rattle.model_meaning.specs.declared.wanted.Wanted.TheVariants as wanted
use Rattle.model_meaning.specs.declared.statement.Statement.{Statement}
use Rattle.model_meaning.specs.declared.statement.Statement.TheVariants as statement
use Rattle.model_meaning.specs.declared.what.What.{What}
use Rattle.model_meaning.specs.declared.model.Kind.{Kind}
use Rattle.model_meaning.specs.declared.model.Kind.TheVariants as kind
use Rattle.model_meaning.specs.declared.model.Decl.{Decl}
use Rattle.model_meaning.specs.declared.model.Stmt.{Stmt}
use Rattle.model_meaning.specs.declared.model.Goal.{Goal}
use Rattle.model_meaning.specs.Names.{statement_of, first_of}
use Rattle.model_meaning.specs.Signatures.{signature}
use Rattle.model_meaning.specs.Places.{place_of, is_constant}
use Rattle.typed_model.specs.Scope.{kind_of, is_bool, numeral}
use Rattle.value_lists.proofs.Different.{Ascends-different, some-different}
use Rattle.typed_model.specs.Faults.{fit, wanted_of, lacks_value, call_fault, item_fault, numeral_in}
use Rattle.typed_model.specs.Items.{domain_in, declare_name, declare, declare_by, declare_if, declarations_of, name_in, state, state_if, statements_of, goal_after, decls_from, stmts_from, first_fault_from}
use Rattle.model_meaning.specs.WellTyped.{WhatFits, StmtsFit, IsFree, KindFits, DeclsFit}
use Rattle.typed_model.proofs.TypingLaws.{not_less, AllBefore, ArgFits, fit-at, NoFault, no_fault}
use Rattle.model_meaning.proofs.AppendLaws.{WhatFits-append}
use Rattle.typed_model.proofs.ItemTyping.{own_kind, statements_of-fits}

not_true : (b : Bool) → not b ≡ true → b ≡ false
not_true true e = absurd (false≢true e)
not_true false e = refl

-- Numbers of declarations.

AllBefore-more : (n m : ℕ) (ds : List Decl) → n ≤ m → AllBefore n ds → AllBefore m ds
AllBefore-more n m [] l h = tt
AllBefore-more n m (d ∷ ds) l h = (omega (arith, h.0), AllBefore-more n m ds l h.1)

AllBefore-append : (n : ℕ) (ds es : List Decl) → AllBefore n ds → AllBefore n es → AllBefore n (ds ++ es)
AllBefore-append n [] es h k = k
AllBefore-append n (d ∷ ds) es h k = (h.0, AllBefore-append n ds es h.1 k)

-- declarations of item n alone
abbrev pub AllOf : ℕ → List Decl → Type 0
AllOf n [] = Unit {0}
AllOf n (d ∷ ds) = (d.number ≡ n) × AllOf n ds

all_of_name : (n : ℕ) (b : Bool) (name : List ℕ) (k : Kind) → AllOf n (if b then [] else record { number = n; name = name; kind = k } ∷ [])
all_of_name n true name k = tt
all_of_name n false name k = (refl, tt)

all_of_as : (n : ℕ) (ds : List Decl) (o : Option (List ℕ)) (k : Kind) → AllOf n (declare n ds o k)
all_of_as n ds None k = tt
all_of_as n ds (Some name) k = all_of_name n (is_some (place_of name ds)) name k

all_of_by : (n : ℕ) (ds : List Decl) (s : Statement) (args : List Arg) → AllOf n (declare_by n ds s args)
unfolding declare_by
all_of_by n ds statement.NewBool args = all_of_as n ds _ _
all_of_by n ds statement.NewInt args = all_of_as n ds _ _
all_of_by n ds statement.BoolToInt args = all_of_as n ds _ _
all_of_by n ds s args = tt

all_of_if : (n : ℕ) (ds : List Decl) (o : Option Statement) (args : List Arg) → AllOf n (declare_if n ds o args)
all_of_if n ds None args = tt
all_of_if n ds (Some s) args = all_of_by n ds s args

pub AllOf-declarations_of : (n : ℕ) (ds : List Decl) (x : Item) → AllOf n (declarations_of n ds x)
AllOf-declarations_of n ds (item.Call name args) = all_of_if n ds (statement_of name) args
AllOf-declarations_of n ds (item.Goal k objective second) = tt

AllBefore-AllOf : (n : ℕ) (es : List Decl) → AllOf n es → AllBefore (n + 1) es
AllBefore-AllOf n [] h = tt
AllBefore-AllOf n (d ∷ es) h = (omega (arith, h.0), AllBefore-AllOf n es h.1)

pub AllBefore-declarations_of : (n : ℕ) (ds : List Decl) (x : Item) → AllBefore n ds → AllBefore (n + 1) (ds ++ declarations_of n ds x)
AllBefore-declarations_of n ds x h = AllBefore-append (n + 1) ds (declarations_of n ds x) (AllBefore-more n (n + 1) ds (omega arith) h) (AllBefore-AllOf n (declarations_of n ds x) (AllOf-declarations_of n ds x))

-- declarations from item n on
abbrev pub AllFrom : ℕ → List Decl → Type 0
AllFrom n [] = Unit {0}
AllFrom n (d ∷ ds) = (n ≤ d.number) × AllFrom n ds

AllFrom-less : (n m : ℕ) (ds : List Decl) → m ≤ n → AllFrom n ds → AllFrom m ds
AllFrom-less n m [] l h = tt
AllFrom-less n m (d ∷ ds) l h = (omega (arith, h.0), AllFrom-less n m ds l h.1)

AllFrom-AllOf : (n : ℕ) (es more : List Decl) → AllOf n es → AllFrom n more → AllFrom n (es ++ more)
AllFrom-AllOf n [] more h k = k
AllFrom-AllOf n (d ∷ es) more h k = (omega (arith, h.0), AllFrom-AllOf n es more h.1 k)

-- the declarations so far are the first ones of all
pub decls-prefix : (n : ℕ) (ds : List Decl) (items : List Item) → (more : List Decl) × (decls_from n ds items ≡ ds ++ more) × AllFrom n more
unfolding decls_from
decls-prefix n ds [] = ([], sym (append-nil ds), tt)
decls-prefix n ds (x ∷ items) =
    let r = decls-prefix (n + 1) (ds ++ declarations_of n ds x) items in
    (declarations_of n ds x ++ r.0, r.1 ∙ append_assoc ds (declarations_of n ds x) r.0, AllFrom-AllOf n (declarations_of n ds x) r.0 (AllOf-declarations_of n ds x) (AllFrom-less (n + 1) n r.0 (omega arith) r.2))

-- Items without a fault.

first_none : {A : Type 0} (a b : Option A) → first_of a b ≡ None → (a ≡ None) × (b ≡ None)
first_none None b e = (refl, e)
first_none (Some x) b e = cc

pub faults-none : (n : ℕ) (ds : List Decl) (g : Option Goal) (x : Item) (items : List Item) → first_fault_from n ds g (x ∷ items) ≡ None → (item_fault n (is_some g) ds x ≡ None) × (first_fault_from (n + 1) (ds ++ declarations_of n ds x) (goal_after g ds x) items ≡ None)
unfolding first_fault_from
faults-none n ds g x items e = first_none (item_fault n (is_some g) ds x) _ e

pub before-goal : (n : ℕ) (b : Bool) (ds : List Decl) (x : Item) → item_fault n b ds x ≡ None → item_fault n false ds x ≡ None
unfolding item_fault
before-goal n true ds x e = cc
before-goal n false ds x e = e

-- Statements.

abbrev pub OneFits : List Decl → ℕ → List Stmt → Type 0
OneFits ds n [] = Unit {0}
OneFits ds n (s ∷ []) = (s.number ≡ n) × WhatFits ds n s.what
OneFits ds n (s ∷ t ∷ ss) = ⊥

state-fits : (ds : List Decl) (n : ℕ) (w : Option What) → IfSome w (WhatFits ds n) → OneFits ds n (state n w)
state-fits ds n None h = tt
state-fits ds n (Some w) h = (refl, h)

call-fits : (n : ℕ) (ds : List Decl) (before : AllBefore n ds) (name : List ℕ) (args : List Arg) (o : Option Statement) → statement_of name ≡ o → call_fault n ds o args ≡ None → OneFits (ds ++ declare_if n ds o args) n (state_if n (ds ++ declare_if n ds o args) name o args)
call-fits n ds before name args None m e = tt
call-fits n ds before name args (Some s) m e =
    state-fits _ n _ (statements_of-fits n ds before args name s m (no_fault n ds s args e))

pub statements_of-one : (n : ℕ) (ds : List Decl) (x : Item) → AllBefore n ds → item_fault n false ds x ≡ None → OneFits (ds ++ declarations_of n ds x) n (statements_of n (ds ++ declarations_of n ds x) x)
unfolding item_fault
statements_of-one n ds (item.Call name args) before e = call-fits n ds before name args (statement_of name) refl e
statements_of-one n ds (item.Goal k objective second) before e = tt

StmtsFit-less : (ds : List Decl) (n m : ℕ) (ss : List Stmt) → m ≤ n → StmtsFit ds n ss → StmtsFit ds m ss
StmtsFit-less ds n m [] l h = tt
StmtsFit-less ds n m (s ∷ ss) l h = (omega (arith, h.0), h.1)

StmtsFit-join : (es ds : List Decl) (n : ℕ) (xs rest : List Stmt) → ((w : What) → WhatFits es n w → WhatFits ds n w) → OneFits es n xs → StmtsFit ds (n + 1) rest → StmtsFit ds n (xs ++ rest)
StmtsFit-join es ds n [] rest f h k = StmtsFit-less ds (n + 1) n rest (omega arith) k
StmtsFit-join es ds n (s ∷ []) rest f h k =
    (omega (arith, h.0), (subst (λ (m : ℕ). WhatFits ds m s.what) (sym h.0) (f s.what h.1), subst (λ (m : ℕ). StmtsFit ds (m + 1) rest) (sym h.0) k))
StmtsFit-join es ds n (s ∷ t ∷ ss) rest f h k = absurd h

pub stmts-fit : (n : ℕ) (ds : List Decl) (g : Option Goal) (items : List Item) → AllBefore n ds → first_fault_from n ds g items ≡ None → StmtsFit (decls_from n ds items) n (stmts_from n ds items)
unfolding stmts_from decls_from
stmts-fit n ds g [] before e = tt
stmts-fit n ds g (x ∷ items) before e =
    let es = ds ++ declarations_of n ds x in
    let f = faults-none n ds g x items e in
    let r = decls-prefix (n + 1) es items in
    let more : (w : What) → WhatFits es n w → WhatFits (decls_from (n + 1) es items) n w = λ w h. subst (λ (D : List Decl). WhatFits D n w) (sym r.1) (WhatFits-append es r.0 n w h) in
    StmtsFit-join es (decls_from (n + 1) es items) n (statements_of n es x) (stmts_from (n + 1) es items) more (statements_of-one n ds x before (before-goal n (is_some g) ds x f.0)) (stmts-fit (n + 1) es (goal_after g ds x) items (AllBefore-declarations_of n ds x before) f.1)

-- Declarations.

none_head : (b : Bool) (i : ℕ) (o : Option ℕ) → cond b (Some i) o ≡ None → (b ≡ false) × (o ≡ None)
none_head true i o e = cc
none_head false i o e = (refl, e)

none_cond : (b : Bool) (i : ℕ) (o : Option ℕ) → b ≡ false → o ≡ None → cond b (Some i) o ≡ None
none_cond true i o e h = cc
none_cond false i o e h = h

none-shift : {X : Type 0} (p : X → Bool) (i j : ℕ) (xs : List X) → position_from p i xs ≡ None → position_from p j xs ≡ None
none-shift p i j [] e = refl
none-shift p i j (x ∷ xs) e =
    let h = none_head (p x) i (position_from p (i + 1) xs) e in
    none_cond (p x) j (position_from p (j + 1) xs) h.0 (none-shift p (i + 1) (j + 1) xs h.1)

none-last : {X : Type 0} (p : X → Bool) (i : ℕ) (xs : List X) (y : X) → position_from p i xs ≡ None → p y ≡ false → position_from p i (xs ++ y ∷ []) ≡ None
none-last p i [] y e t = none_cond (p y) i None t refl
none-last p i (x ∷ xs) y e t =
    let h = none_head (p x) i (position_from p (i + 1) xs) e in
    none_cond (p x) i (position_from p (i + 1) (xs ++ y ∷ [])) h.0 (none-last p (i + 1) xs y h.1 t)

free_from : (name : List ℕ) (ds : List Decl) → IsFree name ds → position_from (λ (d : Decl). bytes_eq name d.name) 0 ds ≡ None
free_from name ds h = sym (position_from-zero (λ (d : Decl). bytes_eq name d.name) ds) ∙ h

from_free : (name : List ℕ) (ds : List Decl) → position_from (λ (d : Decl). bytes_eq name d.name) 0 ds ≡ None → IsFree name ds
from_free name ds h = position_from-zero (λ (d : Decl). bytes_eq name d.name) ds ∙ h

free-parts : (name : List ℕ) (d : Decl) (ds : List Decl) → IsFree name (d ∷ ds) → (bytes_eq name d.name ≡ false) × IsFree name ds
free-parts name d ds h =
    let r = none_head (bytes_eq name d.name) 0 (position_from (λ (d : Decl). bytes_eq name d.name) 1 ds) (free_from name (d ∷ ds) h) in
    (r.0, from_free name ds (none-shift (λ (d : Decl). bytes_eq name d.name) 1 0 ds r.1))

free-last : (name : List ℕ) (ds : List Decl) (d : Decl) → IsFree name ds → bytes_eq name d.name ≡ false → IsFree name (ds ++ d ∷ [])
free-last name ds d h t = from_free name (ds ++ d ∷ []) (none-last (λ (d : Decl). bytes_eq name d.name) 0 ds d (free_from name ds h) t)

false_of : (b : Bool) → (b ≡ true → ⊥) → b ≡ false
false_of true f = absurd (f refl)
false_of false f = refl

bytes_other : (xs ys : List ℕ) → bytes_eq xs ys ≡ false → bytes_eq ys xs ≡ false
bytes_other xs ys e = false_of (bytes_eq ys xs) (λ t. false≢true (sym e ∙ (bytes_eq-Decides xs ys).1 (sym ((bytes_eq-Decides ys xs).0 t))))

DeclsFit-last : (m : ℕ) (ds : List Decl) (d : Decl) → DeclsFit m ds → AllBefore d.number ds → m ≤ d.number → is_constant d.name ≡ false → IsFree d.name ds → KindFits d.kind → DeclsFit m (ds ++ d ∷ [])
DeclsFit-last m [] d h before l c f k = (l, (c, (refl, (k, tt))))
DeclsFit-last m (e ∷ ds) d h before l c f k =
    let p = free-parts d.name e ds f in
    (h.0, (h.1.0, (free-last e.name ds d h.1.1.0 (bytes_other d.name e.name p.0), (h.1.1.1.0, DeclsFit-last (e.number + 1) ds d h.1.1.1.1 before.1 (omega (arith, before.0)) c p.1 k))))

-- a domain that lacks no value fits
listed-some : (ts : List Term) → (length ts == 0) ≡ false → 0 < length (map numeral ts)
listed-some [] e = absurd (false≢true (sym e))
listed-some (t ∷ ts) e = omega arith

domain-fits : (a b : Option Arg) → lacks_value a b ≡ false → KindFits (domain_in a b)
domain-fits None b e = not_less (numeral_in b) (numeral_in None) e
domain-fits (Some (arg.One t)) b e = not_less (numeral_in b) (numeral_in (Some (arg.One t))) e
domain-fits (Some (arg.Many ts)) b e = (some-different (map numeral ts) (listed-some ts e), Ascends-different (map numeral ts))

module _ (n : ℕ) (ds : List Decl) (fits : DeclsFit 1 ds) (before : AllBefore n ds) (one : 1 ≤ n) where
  name-decls : (name : List ℕ) (k : Kind) (o : Option ℕ) → place_of name ds ≡ o → is_constant name ≡ false → KindFits k → DeclsFit 1 (ds ++ declare_name n ds name k)
  name-decls name k None e c h =
      let d : Decl = record { number = n; name = name; kind = k } in
      let made : declare_name n ds name k ≡ d ∷ [] = ap (λ (o : Option ℕ). if is_some o then [] else d ∷ []) e in
      subst (λ (es : List Decl). DeclsFit 1 (ds ++ es)) (sym made) (DeclsFit-last 1 ds d fits before one c e h)
  name-decls name k (Some p) e c h =
      let d : Decl = record { number = n; name = name; kind = k } in
      let made : declare_name n ds name k ≡ [] = ap (λ (o : Option ℕ). if is_some o then [] else d ∷ []) e in
      subst (λ (es : List Decl). DeclsFit 1 (ds ++ es)) (sym made) (subst (DeclsFit 1) (sym (append-nil ds)) fits)

  same-decls : DeclsFit 1 (ds ++ [])
  same-decls = subst (DeclsFit 1) (sym (append-nil ds)) fits

  new_name-decls : (a : Option Arg) (k : Kind) → ArgFits ds wanted.NewName a → KindFits k → DeclsFit 1 (ds ++ declare n ds (name_in a) k)
  new_name-decls None k h f = absurd h
  new_name-decls (Some (arg.One (term.Plain name))) k h f = name-decls name k (place_of name ds) refl (not_true (is_constant name) h) f
  new_name-decls (Some (arg.One (term.Minus name))) k h f = absurd (false≢true h)
  new_name-decls (Some (arg.One (term.Number z))) k h f = absurd (false≢true h)
  new_name-decls (Some (arg.Many ts)) k h f = absurd (false≢true h)

  new_integer-decls : (a : Option Arg) → ArgFits ds wanted.NewInteger a → DeclsFit 1 (ds ++ declare n ds (name_in a) own_kind)
  new_integer-decls None h = absurd h
  new_integer-decls (Some (arg.One (term.Plain name))) h = name-decls name own_kind (place_of name ds) refl (not_true (is_constant name) (and_parts (not (is_constant name)) (not (is_bool (kind_of name ds))) h).0) (omega (arith, ints))
  new_integer-decls (Some (arg.One (term.Minus name))) h = absurd (false≢true h)
  new_integer-decls (Some (arg.One (term.Number z))) h = absurd (false≢true h)
  new_integer-decls (Some (arg.Many ts)) h = absurd (false≢true h)

  -- the first argument of `new_int` is a name, whichever form it has
  name-wanted : (args : List Arg) (a : Option Arg) → fit ds (wanted_of statement.NewInt a) args ≡ true → ArgFits ds wanted.NewName (slice_get args 0)
  name-wanted args None e = fit-at ds (signature statement.NewInt) args 0 e
  name-wanted args (Some (arg.One t)) e = fit-at ds (signature statement.NewInt) args 0 e
  name-wanted args (Some (arg.Many ts)) e = fit-at ds (wanted.NewName ∷ wanted.Numerals ∷ []) args 0 e

  by-decls : (s : Statement) (args : List Arg) → NoFault ds s args → DeclsFit 1 (ds ++ declare_by n ds s args)
  unfolding declare_by
  by-decls statement.NewBool args ok = new_name-decls (slice_get args 0) kind.Bool (fit-at ds (signature statement.NewBool) args 0 ok.fits) tt
  by-decls statement.NewInt args ok =
      new_name-decls (slice_get args 0) (domain_in (slice_get args 1) (slice_get args 2)) (name-wanted args (slice_get args 1) ok.fits) (domain-fits (slice_get args 1) (slice_get args 2) ok.domain)
  by-decls statement.BoolToInt args ok = new_integer-decls (slice_get args 1) (fit-at ds (signature statement.BoolToInt) args 1 ok.fits)
  by-decls s args ok = same-decls

  if-decls : (o : Option Statement) (args : List Arg) → call_fault n ds o args ≡ None → DeclsFit 1 (ds ++ declare_if n ds o args)
  if-decls None args e = same-decls
  if-decls (Some s) args e = by-decls s args (no_fault n ds s args e)

  pub item-decls : (x : Item) → item_fault n false ds x ≡ None → DeclsFit 1 (ds ++ declarations_of n ds x)
  unfolding item_fault
  item-decls (item.Call name args) e = if-decls (statement_of name) args e
  item-decls (item.Goal k objective second) e = same-decls

pub decls-fit : (n : ℕ) (ds : List Decl) (g : Option Goal) (items : List Item) → DeclsFit 1 ds → AllBefore n ds → 1 ≤ n → first_fault_from n ds g items ≡ None → DeclsFit 1 (decls_from n ds items)
unfolding decls_from
decls-fit n ds g [] fits before one e = fits
decls-fit n ds g (x ∷ items) fits before one e =
    let f = faults-none n ds g x items e in
    decls-fit (n + 1) (ds ++ declarations_of n ds x) (goal_after g ds x) items (item-decls n ds fits before one x (before-goal n (is_some g) ds x f.0)) (AllBefore-declarations_of n ds x before) (omega arith) f.1
