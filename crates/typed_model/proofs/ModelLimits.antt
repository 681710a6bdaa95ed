-- The numbers of a model are those of its items.
use Rattle.std.proofs.Common.{◌≡◌, ◌≤◌, ◌⊎◌, inl, inr, ℕ, ℤ, zero, suc, ◌+◌, pos, refl, subst, Bool, true, false, List, [], ◌∷◌, ◌++◌, map, Option, Some, None, is_some, arith}
use Rattle.std.specs.Prelude.{slice_get, IfSome, if◌then◌else◌}
use Rattle.bumblebee_reader.specs.declared.syntax.Term.{Term}
use Rattle.bumblebee_reader.specs.declared.syntax.Term.TheVariants as term
use Rattle.bumblebee_reader.specs.declared.syntax.Arg.{Arg}
use Rattle.bumblebee_reader.specs.declared.syntax.Arg.TheVariants as arg
use Rattle.bumblebee_reader.specs.declared.syntax.Item.{Item}
use Rattle.bumblebee_reader.specs.declared.syntax.Item.TheVariants as item
use Rattle.model_meaning.specs.declared.statement.Statement.{Statement}
use Rattle.model_meaning.specs.declared.statement.Statement.TheVariants as statement
use Rattle.model_meaning.specs.declared.wanted.Wanted.{Wanted}
use Rattle.model_meaning.specs.declared.wanted.Wanted.TheVariants as wanted
use Rattle.model_meaning.specs.declared.what.What.{What}
use Rattle.model_meaning.specs.declared.model.Kind.{Kind}
use Rattle.model_meaning.specs.declared.model.Decl.{Decl}
use Rattle.model_meaning.specs.declared.model.Stmt.{Stmt}
use Rattle.model_meaning.specs.Names.{statement_of}
use Rattle.model_meaning.specs.Places.{place_of}
use Rattle.typed_model.specs.Scope.{number, numeral}
use Rattle.typed_model.specs.Faults.{numeral_in}
use Rattle.model_meaning.specs.Signatures.{signature}
use Rattle.typed_model.specs.Items.{domain_in, declare, declare_by, declare_if, declarations_of, what_of, number_in, terms_in, state, state_if, statements_of, decls_from, stmts_from}
use Rattle.typed_model.specs.Sizes.{args_terms, item_terms, terms_of}
use Rattle.model_meaning.specs.Limits.{InLimit, AllInLimit, TermInLimit, TermsInLimit, ArgumentInLimit, ArgumentsInLimit, WhatInLimit, StmtsInLimit, KindInLimit, DeclsInLimit}
use Rattle.typed_model.specs.Limits.{TextTermInLimit, TextTermsInLimit, ArgInLimit, ArgsInLimit, ItemInLimit, ItemsInLimit}
use Rattle.core_forms.proofs.Ascending.{Among}
use Rattle.value_lists.specs.ValueLists.{different}
use Rattle.value_lists.proofs.Different.{Ascends-different, each-different}
use Rattle.typed_model.specs.Laws.{LimitLaw}
use Rattle.typed_model.proofs.ArgumentLaws.{argument_in, arguments_in, Reads, reads}
use Rattle.typed_model.proofs.ModelSizes.{read-size}

abbrev ArgIf : Option Arg → Type 0
ArgIf None = Unit {0}
ArgIf (Some a) = ArgInLimit a

arg_at : (args : List Arg) (k : ℕ) → ArgsInLimit args → ArgIf (slice_get args k)
arg_at [] k h = tt
arg_at (a ∷ rest) zero h = h.0
arg_at (a ∷ rest) (suc k) h = arg_at rest k h.1

zero_in : InLimit (pos 0)
zero_in = omega arith

term_number : (ds : List Decl) (t : Term) → TextTermInLimit t → TermInLimit (number ds t)
term_number ds (term.Plain name) h = tt
term_number ds (term.Minus name) h = zero_in
term_number ds (term.Number n) h = h

term_numeral : (t : Term) → TextTermInLimit t → InLimit (numeral t)
term_numeral (term.Plain name) h = zero_in
term_numeral (term.Minus name) h = zero_in
term_numeral (term.Number n) h = h

number_in-limit : (ds : List Decl) (a : Option Arg) → ArgIf a → TermInLimit (number_in ds a)
number_in-limit ds None h = zero_in
number_in-limit ds (Some (arg.One t)) h = term_number ds t h
number_in-limit ds (Some (arg.Many ts)) h = zero_in

numeral_in-limit : (a : Option Arg) → ArgIf a → InLimit (numeral_in a)
numeral_in-limit None h = zero_in
numeral_in-limit (Some (arg.One t)) h = term_numeral t h
numeral_in-limit (Some (arg.Many ts)) h = zero_in

terms_in-limit : (a : Option Arg) → ArgIf a → TextTermsInLimit (terms_in a)
terms_in-limit None h = tt
terms_in-limit (Some (arg.One t)) h = tt
terms_in-limit (Some (arg.Many ts)) h = h

map_numbers : (ds : List Decl) (ts : List Term) → TextTermsInLimit ts → TermsInLimit (map (number ds) ts)
map_numbers ds [] h k = zero_in
map_numbers ds (t ∷ ts) h zero = term_number ds t h.0
map_numbers ds (t ∷ ts) h (suc k) = map_numbers ds ts h.1 k

map_numerals : (ts : List Term) → TextTermsInLimit ts → AllInLimit (map numeral ts)
map_numerals [] h k = zero_in
map_numerals (t ∷ ts) h zero = term_numeral t h.0
map_numerals (t ∷ ts) h (suc k) = map_numerals ts h.1 k

-- a listed value is one of the numerals
among-numerals : (ts : List Term) → TextTermsInLimit ts → (u : ℤ) → Among u (map numeral ts) → InLimit u
among-numerals [] h u m = absurd m
among-numerals (t ∷ ts) h u (inl e) = let P : ℤ → Type 0 = λ z. InLimit z in subst P e (term_numeral t h.0)
among-numerals (t ∷ ts) h u (inr m) = among-numerals ts h.1 u m

limit-at : (vs : List ℤ) → ((u : ℤ) → Among u vs → InLimit u) → AllInLimit vs
limit-at [] each k = zero_in
limit-at (v ∷ vs) each zero = each v (inl refl)
limit-at (v ∷ vs) each (suc k) = limit-at vs (λ u m. each u (inr m)) k

domain-limit : (a b : Option Arg) → ArgIf a → ArgIf b → KindInLimit (domain_in a b)
domain-limit None b h k = (zero_in, numeral_in-limit b k)
domain-limit (Some (arg.One t)) b h k = (numeral_in-limit (Some (arg.One t)) h, numeral_in-limit b k)
domain-limit (Some (arg.Many ts)) b h k =
    (limit-at (different (map numeral ts)) (each-different InLimit (map numeral ts) (among-numerals ts h)), Ascends-different (map numeral ts))

argument-limit : (ds : List Decl) (w : Wanted) (a : Option Arg) → ArgIf a → ArgumentInLimit (argument_in ds w a)
argument-limit ds wanted.Truth a h = tt
argument-limit ds wanted.Number a h = number_in-limit ds a h
argument-limit ds wanted.Numeral a h = numeral_in-limit a h
argument-limit ds wanted.Truths a h = tt
argument-limit ds wanted.Numbers a h = map_numbers ds (terms_in a) (terms_in-limit a h)
argument-limit ds wanted.Numerals a h = map_numerals (terms_in a) (terms_in-limit a h)
argument-limit ds wanted.NewName a h = tt
argument-limit ds wanted.NewInteger a h = number_in-limit ds a h

arguments-limit : (ds : List Decl) (ws : List Wanted) (at : ℕ → Option Arg) → ((k : ℕ) → ArgIf (at k)) → ArgumentsInLimit (arguments_in ds ws at)
arguments-limit ds [] at h = tt
arguments-limit ds (w ∷ ws) at h = (argument-limit ds w (at 0) (h 0), arguments-limit ds ws (λ k. at (suc k)) (λ k. h (suc k)))

module _ (ds : List Decl) (args : List Arg) (h : ArgsInLimit args) where
  name-limit : (n : ℕ) (b : Bool) (name : List ℕ) (k : Kind) → KindInLimit k → DeclsInLimit (if b then [] else record { number = n; name = name; kind = k } ∷ [])
  name-limit n true name k f = tt
  name-limit n false name k f = (f, tt)

  as-limit : (n : ℕ) (o : Option (List ℕ)) (k : Kind) → KindInLimit k → DeclsInLimit (declare n ds o k)
  as-limit n None k f = tt
  as-limit n (Some name) k f = name-limit n (is_some (place_of name ds)) name k f

  by-limit : (n : ℕ) (s : Statement) → DeclsInLimit (declare_by n ds s args)
  unfolding declare_by
  by-limit n statement.NewBool = as-limit n _ _ tt
  by-limit n statement.NewInt = as-limit n _ _ (domain-limit (slice_get args 1) (slice_get args 2) (arg_at args 1 h) (arg_at args 2 h))
  by-limit n statement.BoolToInt = as-limit n _ _ (omega arith, omega arith)
  by-limit n s = tt

  if-limit : (n : ℕ) (o : Option Statement) → DeclsInLimit (declare_if n ds o args)
  if-limit n None = tt
  if-limit n (Some s) = by-limit n s

module _ (ds : List Decl) (args : List Arg) (h : ArgsInLimit args) (few : args_terms args ≤ 16777216) where
  read-limit : (s : Statement) (w : What) → Reads ds args s w → WhatInLimit w
  read-limit s w r =
      let size = read-size ds args s w r in
      (rw r.arguments (arguments-limit ds (signature s) (slice_get args) (λ k. arg_at args k h)), omega (arith, size, few))

  built-limit : (s : Statement) (o : Option What) → IfSome o (Reads ds args s) → IfSome o WhatInLimit
  built-limit s None r = tt
  built-limit s (Some w) r = read-limit s w r

  state-limit : (n : ℕ) (w : Option What) → IfSome w WhatInLimit → StmtsInLimit (state n w)
  state-limit n None f = tt
  state-limit n (Some w) f = (f, tt)

  call-limit : (n : ℕ) (name : List ℕ) (o : Option Statement) → statement_of name ≡ o → StmtsInLimit (state_if n ds name o args)
  call-limit n name None m = tt
  call-limit n name (Some s) m = state-limit n (what_of ds name s args) (built-limit s (what_of ds name s args) (reads ds args name s m))

decls-append : (ds es : List Decl) → DeclsInLimit ds → DeclsInLimit es → DeclsInLimit (ds ++ es)
decls-append [] es h k = k
decls-append (d ∷ ds) es h k = (h.0, decls-append ds es h.1 k)

stmts-append : (ss ts : List Stmt) → StmtsInLimit ss → StmtsInLimit ts → StmtsInLimit (ss ++ ts)
stmts-append [] ts h k = k
stmts-append (s ∷ ss) ts h k = (h.0, stmts-append ss ts h.1 k)

declarations_of-limit : (n : ℕ) (ds : List Decl) (x : Item) → ItemInLimit x → DeclsInLimit (declarations_of n ds x)
declarations_of-limit n ds (item.Call name args) h = if-limit ds args h n (statement_of name)
declarations_of-limit n ds (item.Goal k objective second) h = tt

item-limit : (n : ℕ) (ds : List Decl) (x : Item) → ItemInLimit x → item_terms x ≤ 16777216 → StmtsInLimit (statements_of n ds x)
item-limit n ds (item.Call name args) h few = call-limit ds args h few n name (statement_of name) refl
item-limit n ds (item.Goal k objective second) h few = tt

decls-limit : (n : ℕ) (ds : List Decl) (items : List Item) → DeclsInLimit ds → ItemsInLimit items → DeclsInLimit (decls_from n ds items)
unfolding decls_from
decls-limit n ds [] h k = h
decls-limit n ds (x ∷ items) h k = decls-limit (n + 1) (ds ++ declarations_of n ds x) items (decls-append ds (declarations_of n ds x) h (declarations_of-limit n ds x k.0)) k.1

stmts-limit : (n : ℕ) (ds : List Decl) (items : List Item) → ItemsInLimit items → terms_of items ≤ 16777216 → StmtsInLimit (stmts_from n ds items)
unfolding stmts_from
stmts-limit n ds [] k few = tt
stmts-limit n ds (x ∷ items) k few =
    let es = ds ++ declarations_of n ds x in
    stmts-append (statements_of n es x) _ (item-limit n es x k.0 (omega (arith, few))) (stmts-limit (n + 1) es items k.1 (omega (arith, few)))

pub InLimits-model_of : LimitLaw
InLimits-model_of items h few = (decls-limit 1 [] items tt h, stmts-limit 1 [] items h few)
