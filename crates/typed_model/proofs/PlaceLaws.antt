-- The place of a name among more declarations.
use Rattle.std.proofs.Common.{◌≡◌, ℕ, ◌+◌, Bool, true, false, cond, ◌||◌, List, [], ◌∷◌, ◌++◌, length, Option, Some, None, is_some, arith, refl, sym, ◌∙◌, ap}
use Rattle.std.specs.Prelude.{slice_get, if◌then◌else◌}
use Rattle.std.specs.Str.{bytes_eq}
use Rattle.std.specs.List.{position_from}
use Rattle.std.specs.Option.{option_and_then, option_map, option_map_or}
use Rattle.std.proofs.lemmas.Iterator.Adapters.{position_from-zero}
use Rattle.std.proofs.lemmas.Bool.{false≢true}
use Rattle.bumblebee_reader.specs.declared.syntax.Term.{Term}
use Rattle.bumblebee_reader.specs.declared.syntax.Term.TheVariants as term
use Rattle.model_meaning.specs.declared.what.BoolTerm.TheVariants as bool_term
use Rattle.model_meaning.specs.declared.model.Decl.{Decl}
use Rattle.model_meaning.specs.Places.{place_of, is_constant, is_true}
use Rattle.typed_model.specs.Scope.{kind_of, is_bool, place_or_zero, is_truth, truth}

from-append : {X : Type 0} (p : X → Bool) (i k : ℕ) (xs ys : List X) → position_from p i xs ≡ Some k → position_from p i (xs ++ ys) ≡ Some k
from-append p i k [] ys e = cc
from-append p i k (x ∷ xs) ys e = by_head (p x) i k (position_from p (i + 1) xs) (position_from p (i + 1) (xs ++ ys)) e (from-append p (i + 1) k xs ys)
  where
    by_head : (b : Bool) (i k : ℕ) (o q : Option ℕ) → cond b (Some i) o ≡ Some k → (o ≡ Some k → q ≡ Some k) → cond b (Some i) q ≡ Some k
    by_head true i k o q e f = e
    by_head false i k o q e f = f e

from-last : {X : Type 0} (p : X → Bool) (i : ℕ) (xs : List X) (y : X) → position_from p i xs ≡ None → p y ≡ true → position_from p i (xs ++ y ∷ []) ≡ Some (i + length xs)
from-last p i [] y e t = rw t (ap Some (omega arith))
from-last p i (x ∷ xs) y e t = by_head (p x) i (position_from p (i + 1) xs) (position_from p (i + 1) (xs ++ y ∷ [])) e (λ f. from-last p (i + 1) xs y f t ∙ ap Some (omega arith))
  where
    by_head : (b : Bool) (i : ℕ) (o q : Option ℕ) {k : ℕ} → cond b (Some i) o ≡ None → (o ≡ None → q ≡ Some k) → cond b (Some i) q ≡ Some k
    by_head true i o q e f = cc
    by_head false i o q e f = f e

pub place_of-append : (name : List ℕ) (ds es : List Decl) (k : ℕ) → place_of name ds ≡ Some k → place_of name (ds ++ es) ≡ Some k
place_of-append name ds es k e =
    position_from-zero (λ (d : Decl). bytes_eq name d.name) (ds ++ es) ∙ from-append _ 0 k ds es (sym (position_from-zero (λ (d : Decl). bytes_eq name d.name) ds) ∙ e)

pub place_of-last : (name : List ℕ) (ds : List Decl) (d : Decl) → place_of name ds ≡ None → bytes_eq name d.name ≡ true → place_of name (ds ++ d ∷ []) ≡ Some (length ds)
place_of-last name ds d e t =
    position_from-zero (λ (d : Decl). bytes_eq name d.name) (ds ++ d ∷ []) ∙ (from-last _ 0 ds d (sym (position_from-zero (λ (d : Decl). bytes_eq name d.name) ds) ∙ e) t ∙ ap Some (omega arith))

or_zero-same : (o q : Option ℕ) → ((k : ℕ) → o ≡ Some k → q ≡ Some k) → is_some o ≡ true → option_map_or (λ p. p) q 0 ≡ option_map_or (λ p. p) o 0
or_zero-same None q f e = absurd (false≢true e)
or_zero-same (Some k) q f e = rw (f k refl) refl

pub place_or_zero-append : (name : List ℕ) (ds es : List Decl) → is_some (place_of name ds) ≡ true → place_or_zero name (ds ++ es) ≡ place_or_zero name ds
place_or_zero-append name ds es e = or_zero-same (place_of name ds) (place_of name (ds ++ es)) (place_of-append name ds es) e

bool_is_placed : (ds : List Decl) (o : Option ℕ) → is_bool (option_and_then (λ p. option_map (λ (d : Decl). d.kind) (slice_get ds p)) o) ≡ true → is_some o ≡ true
bool_is_placed ds None e = absurd (false≢true e)
bool_is_placed ds (Some p) e = refl

plain-same : (name : List ℕ) (ds es : List Decl) (b : Bool) → (b || is_bool (kind_of name ds)) ≡ true → (if b then bool_term.Const (is_true name) else bool_term.Of (place_or_zero name (ds ++ es)) true) ≡ (if b then bool_term.Const (is_true name) else bool_term.Of (place_or_zero name ds) true)
plain-same name ds es true e = refl
plain-same name ds es false e = ap (λ p. bool_term.Of p true) (place_or_zero-append name ds es (bool_is_placed ds (place_of name ds) e))

pub truth-same : (ds es : List Decl) (t : Term) → is_truth ds t ≡ true → truth (ds ++ es) t ≡ truth ds t
truth-same ds es (term.Plain name) e = plain-same name ds es (is_constant name) e
truth-same ds es (term.Minus name) e = ap (λ p. bool_term.Of p false) (place_or_zero-append name ds es (bool_is_placed ds (place_of name ds) e))
truth-same ds es (term.Number z) e = refl
