-- The declared names of a model that a text says may be written.
use Rattle.std.proofs.Common.{rules, ◌≡◌, ℕ, zero, suc, ◌+◌, Bool, true, false, List, [], ◌∷◌, ◌++◌, map, refl, Option, Some, None, slice_get}
use Rattle.std.specs.Prelude.{IsFalse, is_some}
use Rattle.bumblebee_reader.specs.declared.syntax.Item.{Item}
use Rattle.bumblebee_reader.specs.declared.syntax.Item.TheVariants.{Call, Goal}
use Rattle.bumblebee_reader.specs.declared.syntax.Arg.{Arg}
use Rattle.bumblebee_reader.specs.declared.syntax.Arg.TheVariants.{One, Many}
use Rattle.bumblebee_reader.specs.declared.syntax.Term.{Term}
use Rattle.bumblebee_reader.specs.declared.syntax.Term.TheVariants.{Plain, Minus, Number}
use Rattle.bumblebee_reader.specs.Names.{is_name, IsDeclarable, IsNew, AreDeclared}
use Rattle.bumblebee_reader.specs.Spellable.{IsSpellableTerm, AreSpellableTerms, IsSpellableArg, AreSpellableArgs, IsSpellableItem, AreSpellableItems}
use Rattle.model_meaning.specs.declared.model.Kind.{Kind}
use Rattle.model_meaning.specs.declared.model.Kind.TheVariants as kind
use Rattle.model_meaning.specs.declared.model.Decl.{Decl}
use Rattle.model_meaning.specs.declared.statement.Statement.{Statement}
use Rattle.model_meaning.specs.declared.statement.Statement.TheVariants as statement
use Rattle.model_meaning.specs.Names.{statement_of}
use Rattle.model_meaning.specs.Places.{place_of, is_constant}
use Rattle.typed_model.specs.Items.{name_in, declare_name, declare, declare_by, declare_if, declarations_of, decls_from}
use Rattle.typed_model.specs.Limits.{TextTermInLimit, TextTermsInLimit, ArgInLimit, ArgsInLimit, ItemInLimit, ItemsInLimit}
use Rattle.model_meaning.specs.WellTyped.{IsFree, DeclsFit}

-- the numerals of what can be spelled are in the limit

term_limit : (t : Term) → IsSpellableTerm t → TextTermInLimit t
term_limit (Plain name) h = tt
term_limit (Minus name) h = tt
term_limit (Number n) h = h

terms_limit : (ts : List Term) → AreSpellableTerms ts → TextTermsInLimit ts
terms_limit [] h = tt
terms_limit (t ∷ ts) h = (term_limit t h.0, terms_limit ts h.1)

arg_limit : (a : Arg) → IsSpellableArg a → ArgInLimit a
arg_limit (One t) h = term_limit t h
arg_limit (Many ts) h = terms_limit ts h

args_limit : (args : List Arg) → AreSpellableArgs args → ArgsInLimit args
args_limit [] h = tt
args_limit (a ∷ args) h = (arg_limit a h.0, args_limit args h.1)

item_limit : (i : Item) → IsSpellableItem i → ItemInLimit i
item_limit (Call name args) h = args_limit args h.4
item_limit (Goal k objective second) h = tt

pub items_limit : (items : List Item) → AreSpellableItems items → ItemsInLimit items
items_limit [] h = tt
items_limit (i ∷ items) h = (item_limit i h.0, items_limit items h.1)

-- the names of declarations are names

abbrev AreNames : List Decl → Type 0
AreNames [] = Unit {0}
AreNames (d ∷ ds) = (is_name d.name ≡ true) × AreNames ds

names_append : (ds es : List Decl) → AreNames ds → AreNames es → AreNames (ds ++ es)
names_append [] es h k = k
names_append (d ∷ ds) es h k = (h.0, names_append ds es h.1 k)

abbrev NameIf : Option (List ℕ) → Type 0
NameIf None = Unit {0}
NameIf (Some name) = is_name name ≡ true

name_at : (args : List Arg) (k : ℕ) → AreSpellableArgs args → NameIf (name_in (slice_get args k))
name_at [] k h = tt
name_at (One (Plain name) ∷ args) zero h = h.0
name_at (One (Minus name) ∷ args) zero h = tt
name_at (One (Number n) ∷ args) zero h = tt
name_at (Many ts ∷ args) zero h = tt
name_at (a ∷ args) (suc k) h = name_at args k h.1

name_declared : (n : ℕ) (ds : List Decl) (name : List ℕ) (k : Kind) (b : Bool) → is_some (place_of name ds) ≡ b → is_name name ≡ true → AreNames (declare_name n ds name k)
name_declared n ds name k true e h = search (rules, e)
name_declared n ds name k false e h = search (rules, e, h)

as_declared : (n : ℕ) (ds : List Decl) (name : Option (List ℕ)) (k : Kind) → NameIf name → AreNames (declare n ds name k)
as_declared n ds None k h = tt
as_declared n ds (Some name) k h = name_declared n ds name k (is_some (place_of name ds)) refl h

by_declared : (n : ℕ) (ds : List Decl) (s : Statement) (args : List Arg) → AreSpellableArgs args → AreNames (declare_by n ds s args)
unfolding declare_by
by_declared n ds statement.NewBool args h = as_declared n ds (name_in (slice_get args 0)) kind.Bool (name_at args 0 h)
by_declared n ds statement.NewInt args h = as_declared n ds (name_in (slice_get args 0)) _ (name_at args 0 h)
by_declared n ds statement.BoolToInt args h = as_declared n ds (name_in (slice_get args 1)) _ (name_at args 1 h)
by_declared n ds s args h = tt

if_declared : (n : ℕ) (ds : List Decl) (s : Option Statement) (args : List Arg) → AreSpellableArgs args → AreNames (declare_if n ds s args)
if_declared n ds None args h = tt
if_declared n ds (Some s) args h = by_declared n ds s args h

item_declared : (n : ℕ) (ds : List Decl) (i : Item) → IsSpellableItem i → AreNames (declarations_of n ds i)
item_declared n ds (Call name args) h = if_declared n ds (statement_of name) args h.4
item_declared n ds (Goal k objective second) h = tt

pub names_from : (n : ℕ) (ds : List Decl) (items : List Item) → AreNames ds → AreSpellableItems items → AreNames (decls_from n ds items)
unfolding decls_from
names_from n ds [] h s = h
names_from n ds (i ∷ items) h s =
    names_from (n + 1) (ds ++ declarations_of n ds i) items (names_append ds (declarations_of n ds i) h (item_declared n ds i s.0)) s.1

-- a name that is none of the constants and is declared once may be written

declarable : (name : List ℕ) → is_name name ≡ true → IsFalse (is_constant name) → IsDeclarable name
declarable name h constant = record {
  spelled = h;
  not_true = λ e. absurd (search (rules, e, constant));
  not_false = λ e. absurd (search (rules, e, constant));
}

new_name : (name : List ℕ) (ds : List Decl) → IsFree name ds → IsNew name (map (λ (d : Decl). d.name) ds)
new_name name [] h = tt
new_name name (d ∷ ds) h = (λ e. absurd (search (rules, e, h)), new_name name ds (search (rules, h)))

pub are_declared : (n : ℕ) (ds : List Decl) → AreNames ds → DeclsFit n ds → AreDeclared (map (λ (d : Decl). d.name) ds)
are_declared n [] h f = tt
are_declared n (d ∷ ds) h f =
    (declarable d.name h.0 f.1.0, new_name d.name ds f.1.1.0, are_declared (d.number + 1) ds h.1 f.1.1.1.1)
