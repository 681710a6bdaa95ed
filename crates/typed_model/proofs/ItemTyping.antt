-- What an item without fault declares, states and seeks fits.
use Rattle.std.proofs.Common.{◌≡◌, ℕ, zero, suc, ◌+◌, ◌<◌, pos, Bool, true, false, not, List, [], ◌∷◌, ◌++◌, length, Option, Some, None, is_some, IsSomeAnd, arith, refl, sym, ◌∙◌, ap, subst}
use Rattle.std.specs.Prelude.{slice_get, IfSome, if◌then◌else◌}
use Rattle.std.specs.Str.{bytes_eq}
use Rattle.std.specs.Option.{option_and_then, option_map, option_map_or}
use Rattle.std.proofs.lemmas.Bool.{false≢true, and_parts}
use Rattle.std.proofs.lemmas.List.{append-nil}
use Rattle.std.proofs.lemmas.List.Quantifiers.{position-Some}
use Rattle.std.proofs.lemmas.Slice.Eq.{bytes_eq-Decides}
use Rattle.bumblebee_reader.specs.declared.syntax.Term.TheVariants as term
use Rattle.bumblebee_reader.specs.declared.syntax.Arg.{Arg}
use Rattle.bumblebee_reader.specs.declared.syntax.Arg.TheVariants as arg
use Rattle.model_meaning.specs.declared.wanted.Wanted.TheVariants as wanted
use Rattle.model_meaning.specs.declared.statement.Statement.{Statement}
use Rattle.model_meaning.specs.declared.statement.Statement.TheVariants as statement
use Rattle.model_meaning.specs.declared.model.Kind.{Kind}
use Rattle.model_meaning.specs.declared.model.Kind.TheVariants as kind
use Rattle.model_meaning.specs.declared.model.Decl.{Decl}
use Rattle.model_meaning.specs.Signatures.{signature}
use Rattle.model_meaning.specs.Names.{statement_of}
use Rattle.model_meaning.specs.Places.{place_of, is_constant}
use Rattle.typed_model.specs.Scope.{kind_of, is_bool, place_or_zero, truth}
use Rattle.typed_model.specs.Items.{declare_name, declare, declare_by, what_of, name_in, truth_in, number_in}
use Rattle.model_meaning.specs.Arguments.{Truth, Number}
use Rattle.model_meaning.specs.WellTyped.{IsInt, IsNumberAt, TruthFits, ArgumentsFit, WhatFits}
use Rattle.typed_model.proofs.TypingLaws.{AllBefore, ArgFits, fit-at, truth-fits, NoFault}
use Rattle.model_meaning.proofs.AppendLaws.{TruthFits-append}
use Rattle.typed_model.proofs.PlaceLaws.{truth-same, place_of-last}
use Rattle.typed_model.proofs.StatementLaws.{IsPlain, plain-fits}

some_at : {A : Type 0} (xs : List A) (p : ℕ) (P : A → Type 0) → p < length xs → ((x : A) → slice_get xs p ≡ Some x → P x) → IsSomeAnd (slice_get xs p) P
some_at [] p P h f = absurd (omega arith)
some_at (x ∷ xs) zero P h f = f x refl
some_at (x ∷ xs) (suc p) P h f = some_at xs p P (omega arith) f

at_end : {A : Type 0} (xs : List A) (x : A) (P : A → Type 0) → P x → IsSomeAnd (slice_get (xs ++ x ∷ []) (length xs)) P
at_end [] x P h = h
at_end (y ∷ xs) x P h = at_end xs x P h

-- a declared name that is no Boolean is an integer
not_bool : (k : Kind) → is_bool (Some k) ≡ false → IsInt k
not_bool kind.Bool e = absurd (false≢true (sym e))
not_bool (kind.Range low high) e = tt
not_bool (kind.Listed values) e = tt

number_before : (n : ℕ) (ds : List Decl) (p : ℕ) (P : Decl → Type 0) → AllBefore n ds → IsSomeAnd (slice_get ds p) P → IsSomeAnd (slice_get ds p) (λ d. (d.number < n + 1) × P d)
number_before n [] p P h s = s
number_before n (d ∷ ds) zero P h s = (omega (arith, h.0), s)
number_before n (d ∷ ds) (suc p) P h s = number_before n ds p P h.1 s

-- the place of a declared name is within
placed_within : (name : List ℕ) (ds : List Decl) (d : Decl) (k : ℕ) → place_of name ds ≡ Some k → k < length ds
placed_within name ds d k e = (position-Some (λ (d : Decl). bytes_eq name d.name) ds k d e).0

-- a `bool2int`'s integer, where it declares it
abbrev pub own_kind : Kind
own_kind = kind.Range (pos 0) (pos 1)

no_decl : Decl
no_decl = record { number = 0; name = []; kind = kind.Bool }

kind_at : (ds : List Decl) (k : ℕ) (d : Decl) → slice_get ds k ≡ Some d → is_bool (option_map (λ (d : Decl). d.kind) (slice_get ds k)) ≡ false → IsInt d.kind
kind_at ds k d g h = not_bool d.kind (rw g at h)

kind_found : (name : List ℕ) (ds : List Decl) (k : ℕ) → place_of name ds ≡ Some k → is_bool (kind_of name ds) ≡ false → is_bool (option_map (λ (d : Decl). d.kind) (slice_get ds k)) ≡ false
kind_found name ds k e h = sym (ap (λ (o : Option ℕ). is_bool (option_and_then (λ p. option_map (λ (d : Decl). d.kind) (slice_get ds p)) o)) e) ∙ h

-- `bool2int`: the integer is declared, before or here
integer_is : (n : ℕ) (ds : List Decl) (name : List ℕ) (o : Option ℕ) → place_of name ds ≡ o → AllBefore n ds → is_bool (kind_of name ds) ≡ false → IsNumberAt (ds ++ declare_name n ds name own_kind) (n + 1) (place_or_zero name (ds ++ declare_name n ds name own_kind))
integer_is n ds name None e before h =
    let d : Decl = record { number = n; name = name; kind = own_kind } in
    let made : declare_name n ds name own_kind ≡ d ∷ [] = ap (λ (o : Option ℕ). if is_some o then [] else d ∷ []) e in
    let last : place_of name (ds ++ d ∷ []) ≡ Some (length ds) = place_of-last name ds d e ((bytes_eq-Decides name name).1 refl) in
    let there : IsNumberAt (ds ++ d ∷ []) (n + 1) (length ds) = at_end ds d _ (omega arith, tt) in
    let placed : IsNumberAt (ds ++ d ∷ []) (n + 1) (place_or_zero name (ds ++ d ∷ [])) = subst (λ (o : Option ℕ). IsNumberAt (ds ++ d ∷ []) (n + 1) (option_map_or (λ p. p) o 0)) (sym last) there in
    subst (λ (es : List Decl). IsNumberAt (ds ++ es) (n + 1) (place_or_zero name (ds ++ es))) (sym made) placed
integer_is n ds name (Some k) e before h =
    let d : Decl = record { number = n; name = name; kind = own_kind } in
    let made : declare_name n ds name own_kind ≡ [] = ap (λ (o : Option ℕ). if is_some o then [] else d ∷ []) e in
    let there : IsNumberAt ds (n + 1) k = number_before n ds k (λ d. IsInt d.kind) before (some_at ds k (λ d. IsInt d.kind) (placed_within name ds no_decl k e) (λ x g. kind_at ds k x g (kind_found name ds k e h))) in
    let placed : IsNumberAt ds (n + 1) (place_or_zero name ds) = subst (λ (o : Option ℕ). IsNumberAt ds (n + 1) (option_map_or (λ p. p) o 0)) (sym e) there in
    let same : IsNumberAt (ds ++ []) (n + 1) (place_or_zero name (ds ++ [])) = subst (λ (es : List Decl). IsNumberAt es (n + 1) (place_or_zero name es)) (sym (append-nil ds)) placed in
    subst (λ (es : List Decl). IsNumberAt (ds ++ es) (n + 1) (place_or_zero name (ds ++ es))) (sym made) same

not_true : (b : Bool) → not b ≡ true → b ≡ false
not_true true e = absurd (false≢true e)
not_true false e = refl

-- the two arguments of a `bool2int`
bool2int-fits : (n : ℕ) (ds : List Decl) (a b : Option Arg) → AllBefore n ds → ArgFits ds wanted.Truth a → ArgFits ds wanted.NewInteger b → ArgumentsFit (ds ++ declare n ds (name_in b) own_kind) n (wanted.Truth ∷ wanted.NewInteger ∷ []) (Truth (truth_in (ds ++ declare n ds (name_in b) own_kind) a) ∷ Number (number_in (ds ++ declare n ds (name_in b) own_kind) b) ∷ [])
bool2int-fits n ds None b before h k = absurd h
bool2int-fits n ds (Some (arg.Many ts)) b before h k = absurd (false≢true h)
bool2int-fits n ds (Some (arg.One t)) None before h k = absurd k
bool2int-fits n ds (Some (arg.One t)) (Some (arg.One (term.Plain name))) before h k =
    let es = declare_name n ds name own_kind in
    let x : TruthFits (ds ++ es) n (truth ds t) = TruthFits-append ds es n (truth ds t) (truth-fits n ds before t h) in
    let y : TruthFits (ds ++ es) n (truth (ds ++ es) t) = subst (TruthFits (ds ++ es) n) (sym (truth-same ds es t h)) x in
    (y, (integer_is n ds name (place_of name ds) refl before (not_true _ (and_parts (not (is_constant name)) (not (is_bool (kind_of name ds))) k).1), tt))
bool2int-fits n ds (Some (arg.One t)) (Some (arg.One (term.Minus name))) before h k = absurd (false≢true k)
bool2int-fits n ds (Some (arg.One t)) (Some (arg.One (term.Number z))) before h k = absurd (false≢true k)
bool2int-fits n ds (Some (arg.One t)) (Some (arg.Many ts)) before h k = absurd (false≢true k)

-- most statements declare nothing
pub declare-none : (n : ℕ) (ds : List Decl) (s : Statement) (args : List Arg) → IsPlain s → declare_by n ds s args ≡ []
unfolding declare_by
declare-none n ds statement.NewBool args p = absurd p
declare-none n ds statement.NewInt args p = absurd p
declare-none n ds statement.BoolToInt args p = absurd p
declare-none n ds s args p = refl

module _ (n : ℕ) (ds : List Decl) (before : AllBefore n ds) (args : List Arg) (name : List ℕ) where
  plain-stated : (s : Statement) → IsPlain s → statement_of name ≡ Some s → NoFault ds s args → IfSome (what_of (ds ++ declare_by n ds s args) name s args) (WhatFits (ds ++ declare_by n ds s args) n)
  plain-stated s p m ok =
      let same : ds ++ declare_by n ds s args ≡ ds = ap (λ xs. ds ++ xs) (declare-none n ds s args p) ∙ append-nil ds in
      subst (λ (es : List Decl). IfSome (what_of es name s args) (WhatFits es n)) (sym same) (plain-fits n ds before args name s p m ok)

  pub statements_of-fits : (s : Statement) → statement_of name ≡ Some s → NoFault ds s args → IfSome (what_of (ds ++ declare_by n ds s args) name s args) (WhatFits (ds ++ declare_by n ds s args) n)
  unfolding what_of declare_by
  statements_of-fits statement.NewBool m ok = tt
  statements_of-fits statement.NewInt m ok = tt
  statements_of-fits statement.BoolToInt m ok =
      let F = λ (k : ℕ). fit-at ds (signature statement.BoolToInt) args k ok.fits in
      record { name = tt; arguments = bool2int-fits n ds (slice_get args 0) (slice_get args 1) before (F 0) (F 1); lengths = tt; values = tt }
  statements_of-fits s m ok = plain-stated s tt m ok
