-- Literals of a clause, in any order, and how it stands.
use Rattle.std.proofs.Common.{◌≡◌, ◌≢◌, ℕ, ◌≤◌, ◌<◌, true, false, List, ◌++◌, length, ap, sym, ◌∙◌, subst, Some, None}
use Rattle.std.specs.List.{Contains}
use Rattle.std.specs.List.Sorted.{IsPermutation}
use Rattle.std.proofs.lemmas.List.{get_or_default}
use Rattle.std.proofs.lemmas.List.Elements.{Contains-get_or}
use Rattle.std.proofs.lemmas.List.Sorted.{Contains-permutation, IsPermutation-sym}
use Rattle.order_ints.specs.declared.literal.Lit.{Lit}
use Rattle.literal_trail.specs.declared.entry.Entry.{Entry}
use Rattle.literal_trail.specs.Trail.{truth_in}
use Rattle.literal_trail.specs.Standing.{IsFalse, IsUnit, IsQuiet, HasTrue}
use Rattle.clause_arena.specs.Clauses.{lit_in, no_lit}
use Rattle.clause_rings.proofs.Entries.{entry-append, truth-append}

-- the literal at a place is one of the clause
pub contains-at : (ls : List Lit) (k : ℕ) → k < length ls → Contains ls (lit_in ls k)
contains-at ls k h = Contains-get_or ls k no_lit h

-- a literal of the clause stands at a place
pub place-of : (ls : List Lit) (l : Lit) → Contains ls l → (k : ℕ) × (k < length ls) × (lit_in ls k ≡ l)
place-of ls l h = (h.0, h.1, get_or_default ls h.0 no_lit l h.1 ∙ h.2)

pub false-permuted : (es : List Entry) (ls ms : List Lit) → IsPermutation ls ms → IsFalse es ls → IsFalse es ms
false-permuted es ls ms p h l is_in = h l (Contains-permutation ms ls l (IsPermutation-sym ls ms p) is_in)

pub unit-permuted : (es : List Entry) (ls ms : List Lit) (u : Lit) → IsPermutation ls ms → IsUnit es ls u → IsUnit es ms u
unit-permuted es ls ms u p h = record {
  is_in = Contains-permutation ls ms u p h.is_in;
  free = h.free;
  others = λ l is_in ne. h.others l (Contains-permutation ms ls l (IsPermutation-sym ls ms p) is_in) ne;
}

pub quiet-permuted : (es : List Entry) (ls ms : List Lit) → IsPermutation ls ms → IsQuiet es ls → IsQuiet es ms
quiet-permuted es ls ms p h = record {
  not_false = λ f. h.not_false (false-permuted es ms ls (IsPermutation-sym ls ms p) f);
  not_unit = λ u f. h.not_unit u (unit-permuted es ms ls u (IsPermutation-sym ls ms p) f);
}

pub true-permuted : (es : List Entry) (ls ms : List Lit) (k : ℕ) → IsPermutation ls ms → HasTrue es ls k → HasTrue es ms k
true-permuted es ls ms k p h = record {
  lit = h.lit;
  is_in = Contains-permutation ls ms h.lit p h.is_in;
  entry = h.entry;
  given = h.given;
  is_true = h.is_true;
  low = h.low;
}

pub true-append : (es more : List Entry) (ls : List Lit) (k : ℕ) → HasTrue es ls k → HasTrue (es ++ more) ls k
true-append es more ls k h = record {
  lit = h.lit;
  is_in = h.is_in;
  entry = h.entry;
  given = entry-append es more h.lit.var h.entry h.given;
  is_true = truth-append es more h.lit true h.is_true;
  low = h.low;
}

-- a clause with a true literal is neither false nor unit
pub true-quiet : (es : List Entry) (ls : List Lit) (k : ℕ) → HasTrue es ls k → IsQuiet es ls
true-quiet es ls k h = record {
  not_false = λ f. let no : Some true ≡ Some false = sym h.is_true ∙ f h.lit h.is_in in cc;
  not_unit = λ u f. differ u f;
}
  where
    differ : (u : Lit) → IsUnit es ls u → ⊥
    differ u f =
        let ne : h.lit ≢ u = λ e. let no : Some true ≡ None = sym h.is_true ∙ (ap (λ (l : Lit). truth_in es l) e ∙ f.free) in cc in
        let no : Some true ≡ Some false = sym h.is_true ∙ f.others h.lit h.is_in ne in
        cc

-- the literal at a place is in range
pub in_range-at : (vars : ℕ) (ls : List Lit) (k : ℕ) (l : Lit) → ((x : Lit) → Contains ls x → x.var ≤ vars) → k < length ls → l ≡ lit_in ls k → l.var ≤ vars
in_range-at vars ls k l h lt e = subst (λ (x : Lit). x.var ≤ vars) (sym e) (h (lit_in ls k) (contains-at ls k lt))
