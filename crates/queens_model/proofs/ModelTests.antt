-- What a model of ranges, sums and different members keeps to, as tests that compute.
use Rattle.std.proofs.Common.{◌≡◌, ℕ, zero, suc, ◌+◌, ◌<◌, ◌≤◌, ◌==◌, Bool, true, false, ◌&&◌, not, List, [], ◌∷◌, length, ℤ, pos, negsuc, ◌-ℤ◌, ◌≤ℤ◌, unsigned_abs, Option, Some, None, is_none, nat_lt, nat_le, slice_get, slice_index_or, codes, bytes_eq, refl, sym, subst, arith, IfSome, IsSomeAnd, IsFalse}
use Rattle.std.proofs.lemmas.Int.{ints}
use Rattle.std.proofs.lemmas.Bool.{false≢true, and_parts, leb-true, ltb-true, not-true, eqb-true}
use Rattle.model_meaning.specs.declared.model.Kind.{Kind}
use Rattle.model_meaning.specs.declared.model.Kind.TheVariants as kind
use Rattle.model_meaning.specs.declared.model.Decl.{Decl}
use Rattle.model_meaning.specs.declared.model.Stmt.{Stmt}
use Rattle.model_meaning.specs.declared.what.IntTerm.{IntTerm}
use Rattle.model_meaning.specs.declared.what.IntTerm.TheVariants as int_term
use Rattle.model_meaning.specs.Places.{is_constant, place_of}
use Rattle.model_meaning.specs.Limits.{InLimit, TermInLimit, TermsInLimit, KindInLimit, DeclsInLimit}
use Rattle.model_meaning.specs.WellTyped.{IsInt, IsNumberAt, NumberFits, NumbersFit, KindFits, DeclsFit, DeclaresPlace, SharesFit}

-- declarations

abbrev is_positive : ℤ → Bool
is_positive (pos n) = true
is_positive (negsuc n) = false

abbrev kind_test : Kind → Bool
kind_test kind.Bool = false
kind_test (kind.Range low high) = is_positive (high -ℤ low)
kind_test (kind.Listed values) = false

abbrev pub decls_test : ℕ → List Decl → Bool
decls_test n [] = true
decls_test n (d ∷ ds) = nat_le n d.number && (not (is_constant d.name) && (is_none (place_of d.name ds) && (kind_test d.kind && decls_test (d.number + 1) ds)))

at_most : (low high gap : ℤ) → gap ≡ high -ℤ low → is_positive gap ≡ true → low ≤ℤ high
at_most low high (pos n) e h = omega (arith, ints, e)
at_most low high (negsuc n) e h = absurd (false≢true h)

kind_fits : (k : Kind) → kind_test k ≡ true → KindFits k
kind_fits kind.Bool h = absurd (false≢true h)
kind_fits (kind.Range low high) h = at_most low high (high -ℤ low) refl h
kind_fits (kind.Listed values) h = absurd (false≢true h)

none_is : (o : Option ℕ) → is_none o ≡ true → o ≡ None
none_is None h = refl
none_is (Some n) h = absurd (false≢true h)

pub decls_fit : (n : ℕ) (ds : List Decl) → decls_test n ds ≡ true → DeclsFit n ds
decls_fit n [] h = tt
decls_fit n (d ∷ ds) h =
    let a = and_parts (nat_le n d.number) _ h in
    let b = and_parts (not (is_constant d.name)) _ a.1 in
    let e = and_parts (is_none (place_of d.name ds)) _ b.1 in
    let f = and_parts (kind_test d.kind) (decls_test (d.number + 1) ds) e.1 in
    (leb-true n d.number a.0, (not-true (is_constant d.name) b.0, (none_is (place_of d.name ds) e.0, (kind_fits d.kind f.0, decls_fit (d.number + 1) ds f.1))))

-- their bounds are in the limit

abbrev number_limit_test : ℤ → Bool
number_limit_test z = nat_le (unsigned_abs z) 1073741824

abbrev kind_limit_test : Kind → Bool
kind_limit_test kind.Bool = true
kind_limit_test (kind.Range low high) = number_limit_test low && number_limit_test high
kind_limit_test (kind.Listed values) = false

abbrev pub decls_limit_test : List Decl → Bool
decls_limit_test [] = true
decls_limit_test (d ∷ ds) = kind_limit_test d.kind && decls_limit_test ds

kind_in_limit : (k : Kind) → kind_limit_test k ≡ true → KindInLimit k
kind_in_limit kind.Bool h = tt
kind_in_limit (kind.Range low high) h =
    let a = and_parts (number_limit_test low) (number_limit_test high) h in
    (leb-true (unsigned_abs low) 1073741824 a.0, leb-true (unsigned_abs high) 1073741824 a.1)
kind_in_limit (kind.Listed values) h = absurd (false≢true h)

pub decls_in_limit : (ds : List Decl) → decls_limit_test ds ≡ true → DeclsInLimit ds
decls_in_limit [] h = tt
decls_in_limit (d ∷ ds) h =
    let a = and_parts (kind_limit_test d.kind) (decls_limit_test ds) h in
    (kind_in_limit d.kind a.0, decls_in_limit ds a.1)

-- terms that are integers of earlier items

abbrev is_integer : Kind → Bool
is_integer kind.Bool = false
is_integer (kind.Range low high) = true
is_integer (kind.Listed values) = true

abbrev declared_test : ℕ → Option Decl → Bool
declared_test n None = false
declared_test n (Some d) = nat_lt d.number n && is_integer d.kind

abbrev pub place_test : List Decl → ℕ → ℕ → Bool
place_test ds n place = declared_test n (slice_get ds place)

integer_is : (k : Kind) → is_integer k ≡ true → IsInt k
integer_is kind.Bool h = absurd (false≢true h)
integer_is (kind.Range low high) h = tt
integer_is (kind.Listed values) h = tt

declared_fits : (n : ℕ) (o : Option Decl) → declared_test n o ≡ true → IsSomeAnd o (λ d. (d.number < n) × IsInt d.kind)
declared_fits n None h = absurd (false≢true h)
declared_fits n (Some d) h =
    let a = and_parts (nat_lt d.number n) (is_integer d.kind) h in
    (ltb-true d.number n a.0, integer_is d.kind a.1)

pub place_fits : (ds : List Decl) (n place : ℕ) → place_test ds n place ≡ true → IsNumberAt ds n place
place_fits ds n place h = declared_fits n (slice_get ds place) h

-- lists of terms that are places

abbrev pub terms_test : List Decl → ℕ → List IntTerm → Bool
terms_test ds n [] = true
terms_test ds n (int_term.Number z ∷ terms) = false
terms_test ds n (int_term.Of place ∷ terms) = place_test ds n place && terms_test ds n terms

pub terms_fit : (ds : List Decl) (n : ℕ) (terms : List IntTerm) → terms_test ds n terms ≡ true → NumbersFit ds n terms
terms_fit ds n [] h = tt
terms_fit ds n (int_term.Number z ∷ terms) h = absurd (false≢true h)
terms_fit ds n (int_term.Of place ∷ terms) h =
    let a = and_parts (place_test ds n place) (terms_test ds n terms) h in
    (place_fits ds n place a.0, terms_fit ds n terms a.1)

pub terms_in_limit : (ds : List Decl) (n : ℕ) (terms : List IntTerm) → terms_test ds n terms ≡ true → TermsInLimit terms
terms_in_limit ds n [] h k = leb-true 0 1073741824 refl
terms_in_limit ds n (int_term.Number z ∷ terms) h k = absurd (false≢true h)
terms_in_limit ds n (int_term.Of place ∷ terms) h zero = tt
terms_in_limit ds n (int_term.Of place ∷ terms) h (suc k) = terms_in_limit ds n terms (and_parts (place_test ds n place) (terms_test ds n terms) h).1 k

-- no declaration has the number of a statement

abbrev others_test : ℕ → List Stmt → Bool
others_test n [] = true
others_test n (s ∷ ss) = not (n == s.number) && others_test n ss

abbrev pub apart_test : List Decl → List Stmt → Bool
apart_test [] ss = true
apart_test (d ∷ ds) ss = others_test d.number ss && apart_test ds ss

others_apart : (P : Stmt → Type 0) (n : ℕ) (ss : List Stmt) (q : ℕ) → others_test n ss ≡ true → IfSome (slice_get ss q) (λ s. n ≡ s.number → P s)
others_apart P n [] q h = tt
others_apart P n (s ∷ ss) zero h =
    let a = and_parts (not (n == s.number)) (others_test n ss) h in
    λ e. absurd (apart n s.number (not-true (n == s.number) a.0) e)
  where
    apart : (m k : ℕ) → (m == k) ≡ false → m ≡ k → ⊥
    apart m k t e = grind (arith, t, e)
others_apart P n (s ∷ ss) (suc q) h = others_apart P n ss q (and_parts (not (n == s.number)) (others_test n ss) h).1

shared : (all ds : List Decl) (ss : List Stmt) (p q : ℕ) → apart_test ds ss ≡ true
    → IfSome (slice_get ds p) (λ d. IfSome (slice_get ss q) (λ s. d.number ≡ s.number → DeclaresPlace all d s.what))
shared all [] ss p q h = tt
shared all (d ∷ ds) ss zero q h = others_apart (λ s. DeclaresPlace all d s.what) d.number ss q (and_parts (others_test d.number ss) (apart_test ds ss) h).0
shared all (d ∷ ds) ss (suc p) q h = shared all ds ss p q (and_parts (others_test d.number ss) (apart_test ds ss) h).1

pub shares_fit : (ds : List Decl) (ss : List Stmt) → apart_test ds ss ≡ true → SharesFit ds ss
shares_fit ds ss h p q = shared ds ds ss p q h
