-- The items of a model fit.
use Rattle.std.proofs.Common.{◌≡◌, ℕ, zero, suc, ◌+◌, ◌<◌, ◌≤◌, Some, Bool, true, false, List, [], ◌∷◌, ◌++◌, length, map, refl, sym, ap, subst, ◌∙◌, arith}
use Rattle.std.specs.Prelude.{slice_get, ◌==◌, nat_lt, IfSome, if◌then◌else◌}
use Rattle.std.proofs.lemmas.Bool.Decides.{nat_tests}
use Rattle.std.proofs.lemmas.List.{append_assoc}
use Rattle.model_meaning.specs.declared.model.Decl.{Decl}
use Rattle.model_meaning.specs.declared.model.Stmt.{Stmt}
use Rattle.model_meaning.specs.declared.what.IntTerm.TheVariants as int_term
use Rattle.model_meaning.specs.declared.what.What.{What}
use Rattle.model_meaning.specs.declared.what.What.TheVariants.{BoolToInt}
use Rattle.model_meaning.specs.Limits.{KindInLimit, StmtsInLimit, DeclsInLimit}
use Rattle.model_meaning.specs.WellTyped.{TruthFits, WhatFits, KindFits, StmtsFit, DeclsFit, DeclaresPlace, SharesFit}
use Rattle.model_items.specs.Items.{ModelItem, Declaration, Statement, Definition, stmts_before, stmts_from, declared_item, behind_declared, items_of}
use Rattle.model_lower.specs.ItemLaws.{IsDefinition}
use Rattle.model_lower.proofs.Standing.{ItemsFit}
use Rattle.model_lower.proofs.EarlierNames.{AllFrom, from-fit, AllFrom-less, truth-before, WhatFits-before}

-- What is known of the statements that are left.

-- each statement fits, by its number
abbrev pub EachFits : List Decl → List Stmt → Type 0
EachFits ds [] = Unit {0}
EachFits ds (s ∷ ss) = WhatFits ds s.number s.what × EachFits ds ss

each-fits : (n : ℕ) (ds : List Decl) (ss : List Stmt) → StmtsFit ds n ss → EachFits ds ss
each-fits n ds [] h = tt
each-fits n ds (s ∷ ss) h = (h.1.0, each-fits (s.number + 1) ds ss h.1.1)

-- a statement that has the number of one of some declarations declares that one, among all
abbrev pub Shares : List Decl → List Decl → List Stmt → Type 0
Shares all ds ss = (p q : ℕ) → IfSome (slice_get ds p) (λ d. IfSome (slice_get ss q) (λ s. d.number ≡ s.number → DeclaresPlace all d s.what))

-- they fit, are in the limits, and declare what they share a number with
pub record Left (all ds : List Decl) (ss : List Stmt) : Type 0 where
  pub fit : EachFits all ss
  pub limit : StmtsInLimit ss
  pub shares : Shares all ds ss

left-next : (all ds : List Decl) (s : Stmt) (ss : List Stmt) → Left all ds (s ∷ ss) → Left all ds ss
left-next all ds s ss h = record { fit = h.fit.1; limit = h.limit.1; shares = λ p q. h.shares p (suc q) }

left-decl : (all : List Decl) (d : Decl) (ds : List Decl) (ss : List Stmt) → Left all (d ∷ ds) ss → Left all ds ss
left-decl all d ds ss h = record { fit = h.fit; limit = h.limit; shares = λ p q. h.shares (suc p) q }

left-from : (n : ℕ) (all ds : List Decl) (ss : List Stmt) → Left all ds ss → Left all ds (stmts_from n ss)
left-from n all ds [] h = h
left-from n all ds (s ∷ ss) h = by_test (nat_lt s.number n) (left-from n all ds ss (left-next all ds s ss h))
  where
    by_test : (b : Bool) → Left all ds (stmts_from n ss) → Left all ds (if b then stmts_from n ss else s ∷ ss)
    by_test true r = r
    by_test false r = h

left-behind : (all : List Decl) (d : Decl) (ds : List Decl) (ss : List Stmt) → Left all (d ∷ ds) ss → Left all ds (behind_declared d ss)
left-behind all d ds [] h = left-decl all d ds [] h
left-behind all d ds (s ∷ ss) h = by_test (s.number == d.number)
  where
    by_test : (b : Bool) → Left all ds (if b then ss else s ∷ ss)
    by_test true = left-decl all d ds ss (left-next all (d ∷ ds) s ss h)
    by_test false = left-decl all d ds (s ∷ ss) h

-- statements before the declarations that are left fit the declarations so far
statements-fit : (done ds : List Decl) (n : ℕ) (ss : List Stmt) (items : List ModelItem) → ((m : ℕ) → m ≤ n → AllFrom m ds) → EachFits (done ++ ds) ss → StmtsInLimit ss → ItemsFit done items → ItemsFit done (map Statement (stmts_before n ss) ++ items)
statements-fit done ds n [] items from h k rest = rest
statements-fit done ds n (s ∷ ss) items from h k rest = by_test (nat_lt s.number n) (λ t. grind (arith, nat_tests)) (statements-fit done ds n ss items from h.1 k.1 rest)
  where
    by_test : (b : Bool) → (b ≡ true → s.number < n) → ItemsFit done (map Statement (stmts_before n ss) ++ items) → ItemsFit done (map Statement (if b then s ∷ stmts_before n ss else []) ++ items)
    by_test true lt r = (WhatFits-before done ds s.number (from (s.number + 1) (omega (arith, lt refl))) s.what h.0, k.0, r)
    by_test false lt r = rest

last-fit : (done : List Decl) (ss : List Stmt) → EachFits (done ++ []) ss → StmtsInLimit ss → ItemsFit done (map Statement ss)
last-fit done [] h k = tt
last-fit done (s ∷ ss) h k = (WhatFits-before done [] s.number tt s.what h.0, k.0, last-fit done ss h.1 k.1)

-- A statement that declares its integer.

-- the numbers of declarations are below n
abbrev pub AllBelow : ℕ → List Decl → Type 0
AllBelow n [] = Unit {0}
AllBelow n (d ∷ ds) = (d.number < n) × AllBelow n ds

AllBelow-last : (n : ℕ) (done : List Decl) (d : Decl) → AllBelow n done → n ≤ d.number → AllBelow (d.number + 1) (done ++ d ∷ [])
AllBelow-last n [] d h le = (omega arith, tt)
AllBelow-last n (c ∷ done) d h le = (omega (arith, h.0, le), AllBelow-last n done d h.1 le)

not-among : (ds : List Decl) (d : Decl) (p : ℕ) → AllFrom (d.number + 1) ds → slice_get ds p ≡ Some d → ⊥
not-among [] d p from e = absurd (cc)
not-among (c ∷ ds) d zero from e =
    let same : c ≡ d = some-same c d e in
    let number : c.number ≡ d.number = ap (λ (d : Decl). d.number) same in
    omega (arith, from.0, number)
  where
    some-same : (x y : Decl) → Some x ≡ Some y → x ≡ y
    some-same x y e = cc
not-among (c ∷ ds) d (suc p) from e = not-among ds d p from.1 e

-- a declaration behind those with lesser numbers, and before those with greater ones, is at their end
place-at_end : (n : ℕ) (done ds : List Decl) (d : Decl) (p : ℕ) → AllBelow n done → n ≤ d.number → AllFrom (d.number + 1) ds → slice_get (done ++ d ∷ ds) p ≡ Some d → p ≡ length done
place-at_end n [] ds d zero h le from e = refl
place-at_end n [] ds d (suc p) h le from e = absurd (not-among ds d p from e)
place-at_end n (c ∷ done) ds d zero h le from e =
    let same : c ≡ d = some-same c d e in
    let number : c.number ≡ d.number = ap (λ (d : Decl). d.number) same in
    absurd (omega (arith, h.0, le, number))
  where
    some-same : (x y : Decl) → Some x ≡ Some y → x ≡ y
    some-same x y e = cc
place-at_end n (c ∷ done) ds d (suc p) h le from e = ap suc (place-at_end n done ds d p h.1 le from e)

-- the statement is a `bool2int` of the declaration
defines : (n : ℕ) (done ds : List Decl) (d : Decl) (s : Stmt) → AllBelow n done → n ≤ d.number → AllFrom (d.number + 1) ds → s.number ≡ d.number
    → (w : What) → s.what ≡ w → WhatFits (done ++ d ∷ ds) s.number w → DeclaresPlace (done ++ d ∷ ds) d w → IsDefinition done d s
defines n done ds d s below le from same (BoolToInt x (int_term.Of p)) is fit place =
    let at : p ≡ length done = place-at_end n done ds d p below le from place.0 in
    let f : TruthFits (done ++ d ∷ ds) d.number x = subst (λ (m : ℕ). TruthFits (done ++ d ∷ ds) m x) same fit.arguments.0 in
    record {
      truth = x;
      truth_fits = truth-before done (d ∷ ds) d.number (omega arith, AllFrom-less d.number ds from) x f;
      what = is ∙ ap (λ (p : ℕ). BoolToInt x (int_term.Of p)) at;
      kind = place.1;
    }
defines n done ds d s below le from same w is fit place = absurd place

-- The items fit.

declared-fits : (n : ℕ) (done ds : List Decl) (d : Decl) (ss : List Stmt) (items : List ModelItem) → AllBelow n done → n ≤ d.number → AllFrom (d.number + 1) ds → KindFits d.kind → KindInLimit d.kind
    → Left (done ++ d ∷ ds) (d ∷ ds) ss → ItemsFit (done ++ d ∷ []) items → ItemsFit done (declared_item d ss ∷ items)
declared-fits n done ds d [] items below le from fit small left rest = (fit, small, rest)
declared-fits n done ds d (s ∷ ss) items below le from fit small left rest = by_test (s.number == d.number) (λ t. grind (arith, nat_tests))
  where
    by_test : (b : Bool) → (b ≡ true → s.number ≡ d.number) → ItemsFit done ((if b then Definition d s else Declaration d) ∷ items)
    by_test true same = (
      defines n done ds d s below le from (same refl) s.what refl left.fit.0 (left.shares 0 0 (sym (same refl))),
      WhatFits-before (done ++ d ∷ []) ds s.number
          (subst (λ (m : ℕ). AllFrom (m + 1) ds) (sym (same refl)) from) s.what
          (subst (λ (cs : List Decl). WhatFits cs s.number s.what) (sym (append_assoc done (d ∷ []) ds)) left.fit.0),
      rest,
    )
    by_test false same = (fit, small, rest)

pub items-fit : (done ds : List Decl) (ss : List Stmt) (m : ℕ) → DeclsFit m ds → DeclsInLimit ds → AllBelow m done → Left (done ++ ds) ds ss → ItemsFit done (items_of ds ss)
items-fit done [] ss m fit small below left = last-fit done ss left.fit left.limit
items-fit done (d ∷ ds) ss m fit small below left =
    let all : List Decl = done ++ d ∷ ds in
    let from : List Stmt = stmts_from d.number ss in
    let here : Left all (d ∷ ds) from = left-from d.number all (d ∷ ds) ss left in
    let later : ItemsFit (done ++ d ∷ []) (items_of ds (behind_declared d from)) =
    items-fit (done ++ d ∷ []) ds (behind_declared d from) (d.number + 1) fit.1.1.1.1 small.1 (AllBelow-last m done d below fit.0)
    (subst (λ (cs : List Decl). Left cs ds (behind_declared d from)) (sym (append_assoc done (d ∷ []) ds)) (left-behind all d ds from here)) in
    statements-fit done (d ∷ ds) d.number ss (declared_item d from ∷ items_of ds (behind_declared d from))
    (λ n lt. (omega (arith, lt), from-fit n (d.number + 1) ds (omega (arith, lt)) fit.1.1.1.1))
    left.fit left.limit
    (declared-fits m done ds d from (items_of ds (behind_declared d from)) below fit.0 (from-fit (d.number + 1) (d.number + 1) ds (omega arith) fit.1.1.1.1) fit.1.1.1.0 small.0 here later)

pub model-fits : (ds : List Decl) (ss : List Stmt) → DeclsFit 1 ds → DeclsInLimit ds → StmtsFit ds 1 ss → StmtsInLimit ss → SharesFit ds ss → ItemsFit [] (items_of ds ss)
model-fits ds ss fit small fits limits shares =
    items-fit [] ds ss 1 fit small tt (record { fit = each-fits 1 ds ss fits; limit = limits; shares = shares })
