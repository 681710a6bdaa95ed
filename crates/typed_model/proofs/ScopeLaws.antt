-- Looking up a name.
use Rattle.std.proofs.Common.{◌≡◌, ℕ, ◌+◌, Bool, true, false, not, cond, List, [], ◌∷◌, ◌++◌, map, position, slice_get, Option, Some, None, refl, sym, ◌∙◌, ap}
use Rattle.std.specs.Prelude.{if◌then◌else◌}
use Rattle.std.specs.List.{prefix_len, position_from}
use Rattle.std.specs.Map.{keys_of}
use Rattle.std.proofs.lemmas.Iterator.Adapters.{position_from-zero}
use Rattle.std.proofs.lemmas.List.{length-map, map-append}
use Rattle.std.proofs.lemmas.Option.{slice_get-map}
use Rattle.std.specs.Str.{bytes_eq}
use Rattle.indexmap.specs.IndexMap.{insert_entry}
use Rattle.typed_model.specs.declared.scope.Sort.{Sort}
use Rattle.model_meaning.specs.declared.model.Decl.{Decl}
use Rattle.model_meaning.specs.declared.model.Kind.{Kind}
use Rattle.model_meaning.specs.declared.model.Kind.TheVariants as kind
use Rattle.std.specs.Option.{option_map}
use Rattle.model_meaning.specs.Places.{place_of}
use Rattle.typed_model.specs.Scope.{entry_of, sort_of, sort_is_bool, sort_is_int, is_bool, is_int, kind_of}

module _ {X Y : Type 0} (f : X → Y) where
  prefix_len-map : (p : Y → Bool) (xs : List X) → prefix_len p (map f xs) ≡ prefix_len (λ x. p (f x)) xs
  prefix_len-map p [] = refl
  prefix_len-map p (x ∷ xs) = ap (λ n. cond (p (f x)) (1 + n) 0) (prefix_len-map p xs)

  position-map : (p : Y → Bool) (xs : List X) → position p (map f xs) ≡ position (λ x. p (f x)) xs
  position-map p xs = rw (prefix_len-map (λ y. not (p y)) xs, length-map xs f) refl

module _ (name : List ℕ) (es : List (List ℕ × Sort)) (ds : List Decl) (h : es ≡ map entry_of ds) where
  -- a name's place among the entries is its place among the declarations
  pub place_of-entries : position (bytes_eq name) (keys_of es) ≡ place_of name ds
  place_of-entries =
      ap (λ (xs : List (List ℕ × Sort)). position (bytes_eq name) (keys_of xs)) h
      ∙ (position-map (λ (e : List ℕ × Sort). e.0) (bytes_eq name) (map entry_of ds)
      ∙ position-map entry_of (λ (e : List ℕ × Sort). bytes_eq name e.0) ds)

  -- the entry at that place has the sort of what the name stands for
  pub sort_of-entry : (i : ℕ) (key : List ℕ) (s : Sort) → position (bytes_eq name) (keys_of es) ≡ Some i → slice_get es i ≡ Some (key, s) → option_map sort_of (kind_of name ds) ≡ Some s
  sort_of-entry i key s found at =
      rw (sym place_of-entries ∙ found) (by (slice_get ds i) (sym (slice_get-map entry_of ds i) ∙ (ap (λ xs. slice_get xs i) (sym h) ∙ at)))
    where
      by : (o : Option Decl) → option_map entry_of o ≡ Some (key, s) → option_map sort_of (option_map (λ d. d.kind) o) ≡ Some s
      by None q = absurd (cc)
      by (Some d) q = ap (option_map (λ (e : List ℕ × Sort). e.1)) q

  -- a name that has no place stands for nothing
  pub sort_of-absent : position (bytes_eq name) (keys_of es) ≡ None → option_map sort_of (kind_of name ds) ≡ None
  sort_of-absent absent = rw (sym place_of-entries ∙ absent) refl

-- the sort alone tells whether a Boolean or an integer is declared
pub is_bool-sort : (k : Option Kind) → sort_is_bool (option_map sort_of k) ≡ is_bool k
is_bool-sort None = refl
is_bool-sort (Some kind.Bool) = refl
is_bool-sort (Some (kind.Range low high)) = refl
is_bool-sort (Some (kind.Listed values)) = refl

pub is_int-sort : (k : Option Kind) → sort_is_int (option_map sort_of k) ≡ is_int k
is_int-sort None = refl
is_int-sort (Some kind.Bool) = refl
is_int-sort (Some (kind.Range low high)) = refl
is_int-sort (Some (kind.Listed values)) = refl

goes_on : {X : Type 0} (b : Bool) (i : ℕ) (o : Option ℕ) (e f : X) (es rest all : List X) → cond b (Some i) o ≡ None → (o ≡ None → rest ≡ all) → (if b then f ∷ es else e ∷ rest) ≡ e ∷ all
goes_on true i o e f es rest all absent h = absurd (cc)
goes_on false i o e f es rest all absent h = ap (λ xs. e ∷ xs) (h absent)

goes_last : (name : List ℕ) (s : Sort) (i : ℕ) (es : List (List ℕ × Sort)) → position_from (λ e. bytes_eq name e.0) i es ≡ None → insert_entry bytes_eq es name s ≡ es ++ (name, s) ∷ []
goes_last name s i [] absent = refl
goes_last name s i (e ∷ es) absent = goes_on (bytes_eq name e.0) i _ e (e.0, s) es _ _ absent (goes_last name s (i + 1) es)

-- the entry of a new name goes last, as its declaration does
pub entry-with_item : (d : Decl) (es with_item : List (List ℕ × Sort)) (ds : List Decl) → es ≡ map entry_of ds → place_of d.name ds ≡ None → with_item ≡ insert_entry bytes_eq es d.name (sort_of d.kind) → with_item ≡ map entry_of (ds ++ d ∷ [])
entry-with_item d es with_item ds h absent a =
    let p : position (λ (e : List ℕ × Sort). bytes_eq d.name e.0) es ≡ None =
    ap (position (λ (e : List ℕ × Sort). bytes_eq d.name e.0)) h ∙ (position-map entry_of (λ (e : List ℕ × Sort). bytes_eq d.name e.0) ds ∙ absent) in
    a ∙ (goes_last d.name (sort_of d.kind) 0 es (sym (position_from-zero (λ (e : List ℕ × Sort). bytes_eq d.name e.0) es) ∙ p)
    ∙ (ap (λ (xs : List (List ℕ × Sort)). xs ++ entry_of d ∷ []) h ∙ sym (map-append entry_of ds (d ∷ []))))
