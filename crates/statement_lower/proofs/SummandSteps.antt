-- The members of a linear statement, as they are made one by one.
use Rattle.std.proofs.Common.{◌≡◌, ℕ, ◌+◌, ◌*◌, ◌<◌, ◌≤◌, ℤ, pos, ◌+ℤ◌, Bool, true, false, cond, not, List, [], ◌∷◌, ◌++◌, length, get_or, drop, min, inl, inr, refl, sym, ap, subst, ◌∙◌, arith}
use Rattle.std.specs.Prelude.{◌==◌, unsigned_abs, filter, if◌then◌else◌}
use Rattle.std.proofs.lemmas.Bool.{cases_lt}
use Rattle.std.proofs.lemmas.Bool.Decides.{nat_tests}
use Rattle.std.proofs.lemmas.Int.{ints}
use Rattle.std.proofs.lemmas.List.{append-nil, append_assoc, drop_more, drop_all}
use Rattle.order_ints.specs.declared.atom.Atom.{Atom}
use Rattle.order_ints.specs.declared.order_int.OrdInt.{OrdInt}
use Rattle.order_ints.specs.declared.order_int.MapValue.{MapValue}
use Rattle.order_ints.specs.OrderMade.{integer_of_atom}
use Rattle.order_ints.specs.OrderChange.{scaled_of}
use Rattle.model_meaning.specs.declared.what.BoolTerm.{BoolTerm}
use Rattle.model_meaning.specs.declared.what.IntTerm.{IntTerm}
use Rattle.statement_lower.specs.Terms.{atom_of, integer_of}
use Rattle.statement_lower.specs.Linear.{scaled_each, has_steps, with_steps, constant_of_members, AreSummands}
use Rattle.statement_lower.specs.Lines.{scaled_truths, scaled_integers}

-- Multiples, one by one.

moved : (done left all pushed next : List OrdInt) (a : OrdInt) → left ≡ a ∷ next → pushed ≡ done ++ a ∷ [] → done ++ left ≡ all → pushed ++ next ≡ all
moved done left all pushed next a e f h = rw (f, append_assoc done (a ∷ []) next) (ap (λ xs. done ++ xs) (sym e) ∙ h)

finished : (done left all : List OrdInt) → left ≡ [] → done ++ left ≡ all → done ≡ all
finished done left all e h = sym (append-nil done) ∙ (ap (λ xs. done ++ xs) (sym e) ∙ h)

scaled-nil : (cs : List ℤ) → scaled_each cs [] ≡ []
scaled-nil [] = refl
scaled-nil (c ∷ cs) = refl

pub truths-moved : (entries : List MapValue) (cs : List ℤ) (xs : List BoolTerm) (i : ℕ) (c : ℤ) (d : BoolTerm) (done all pushed : List OrdInt)
    → i < length cs → i < length xs → pushed ≡ done ++ scaled_of (integer_of_atom (atom_of entries (get_or xs i d))) (get_or cs i c) ∷ []
    → done ++ scaled_truths entries (drop i cs) (drop i xs) ≡ all
    → pushed ++ scaled_truths entries (drop (i + 1) cs) (drop (i + 1) xs) ≡ all
truths-moved entries cs xs i c d done all pushed h k f e =
    moved done (scaled_truths entries (drop i cs) (drop i xs)) all pushed (scaled_truths entries (drop (i + 1) cs) (drop (i + 1) xs))
    (scaled_of (integer_of_atom (atom_of entries (get_or xs i d))) (get_or cs i c)) (rw (drop_more cs i c h, drop_more xs i d k) refl) f e

pub truths-finished : (entries : List MapValue) (cs : List ℤ) (xs : List BoolTerm) (i : ℕ) (done all : List OrdInt) → min (length cs) (length xs) ≤ i
    → done ++ scaled_truths entries (drop i cs) (drop i xs) ≡ all → done ≡ all
truths-finished entries cs xs i done all h e = finished done (scaled_truths entries (drop i cs) (drop i xs)) all none e
  where
    none : scaled_truths entries (drop i cs) (drop i xs) ≡ []
    none = elim (cases_lt i (length cs)) [
      | inl short ↦ ap (scaled_truths entries (drop i cs)) (drop_all i xs (omega arith)) ∙ scaled-nil (drop i cs)
      | inr past ↦ ap (λ ks. scaled_truths entries ks (drop i xs)) (drop_all i cs past)
    ]

pub integers-moved : (entries : List MapValue) (cs : List ℤ) (is : List IntTerm) (i : ℕ) (c : ℤ) (d : IntTerm) (done all pushed : List OrdInt)
    → i < length cs → i < length is → pushed ≡ done ++ scaled_of (integer_of entries (get_or is i d)) (get_or cs i c) ∷ []
    → done ++ scaled_integers entries (drop i cs) (drop i is) ≡ all
    → pushed ++ scaled_integers entries (drop (i + 1) cs) (drop (i + 1) is) ≡ all
integers-moved entries cs is i c d done all pushed h k f e =
    moved done (scaled_integers entries (drop i cs) (drop i is)) all pushed (scaled_integers entries (drop (i + 1) cs) (drop (i + 1) is))
    (scaled_of (integer_of entries (get_or is i d)) (get_or cs i c)) (rw (drop_more cs i c h, drop_more is i d k) refl) f e

pub integers-finished : (entries : List MapValue) (cs : List ℤ) (is : List IntTerm) (i : ℕ) (done all : List OrdInt) → min (length cs) (length is) ≤ i
    → done ++ scaled_integers entries (drop i cs) (drop i is) ≡ all → done ≡ all
integers-finished entries cs is i done all h e = finished done (scaled_integers entries (drop i cs) (drop i is)) all none e
  where
    none : scaled_integers entries (drop i cs) (drop i is) ≡ []
    none = elim (cases_lt i (length cs)) [
      | inl short ↦ ap (scaled_integers entries (drop i cs)) (drop_all i is (omega arith)) ∙ scaled-nil (drop i cs)
      | inr past ↦ ap (λ ks. scaled_integers entries ks (drop i is)) (drop_all i cs past)
    ]

-- Members with steps, and the others.

zero-false : (m : ℕ) → 1 ≤ m → (m == 0) ≡ false
zero-false m h = grind (arith, nat_tests)

pub steps-tell : (steps : List (Atom × ℕ)) → not (length steps == 0) ≡ has_steps steps
steps-tell [] = refl
steps-tell (s ∷ steps) = ap not (zero-false (length (s ∷ steps)) (omega arith))

pub filter-steps : (ints : List OrdInt) → filter (λ (a : OrdInt). has_steps a.steps) ints ≡ with_steps ints
filter-steps [] = refl
filter-steps (a ∷ ints) = by_test (has_steps a.steps) (filter-steps ints)
  where
    by_test : (b : Bool) → filter (λ (a : OrdInt). has_steps a.steps) ints ≡ with_steps ints
        → cond b (a ∷ filter (λ (a : OrdInt). has_steps a.steps) ints) (filter (λ (a : OrdInt). has_steps a.steps) ints) ≡ (if b then a ∷ with_steps ints else with_steps ints)
    by_test true e = ap (λ xs. a ∷ xs) e
    by_test false e = e

-- a sum, and what is still to be added
pub record Adding (sum : ℤ) (i : ℕ) (left : List OrdInt) (all : ℤ) : Type 0 where
  pub total : sum +ℤ constant_of_members left ≡ all
  pub summands : AreSummands left
  pub range : unsigned_abs sum ≤ i * 1152921504606846976

pub adding-start : (members : List OrdInt) → AreSummands members → Adding (pos 0) 0 members (constant_of_members members)
adding-start members h = record { total = omega (arith, ints); summands = h; range = omega (arith, ints) }

pub adding-end : (members : List OrdInt) (i : ℕ) (sum all : ℤ) → length members ≤ i → Adding sum i (drop i members) all → sum ≡ all
adding-end members i sum all h q =
    let e : sum +ℤ pos 0 ≡ all = rw (drop_all i members h) at q.total in
    omega (arith, ints, e)

module _ (members : List OrdInt) (i : ℕ) (a : OrdInt) (sum all : ℤ) (h : i < length members) (is : a ≡ get_or members i a) (q : Adding sum i (drop i members) all) where
  next : drop i members ≡ a ∷ drop (i + 1) members
  next = drop_more members i a h ∙ ap (λ x. x ∷ drop (i + 1) members) (sym is)

  here : AreSummands (a ∷ drop (i + 1) members)
  here = subst AreSummands next q.summands

  pub base-small : unsigned_abs a.base ≤ 1152921504606846976
  base-small = omega (arith, here.0.1)

  at_steps : (b : Bool) → has_steps a.steps ≡ b → sum +ℤ (if b then constant_of_members (drop (i + 1) members) else a.base +ℤ constant_of_members (drop (i + 1) members)) ≡ all
  at_steps b e = rw (← e) (subst (λ left. sum +ℤ constant_of_members left ≡ all) next q.total)

  -- one that has steps is passed
  pub adding-passed : (length a.steps == 0) ≡ false → Adding sum (i + 1) (drop (i + 1) members) all
  adding-passed some = record {
    total = at_steps true (sym (steps-tell a.steps) ∙ ap not some);
    summands = here.1;
    range = omega (arith, q.range);
  }

  -- and a constant is added
  pub adding-more : (later : ℤ) → (length a.steps == 0) ≡ true → later ≡ sum +ℤ a.base → Adding later (i + 1) (drop (i + 1) members) all
  adding-more later none e =
      let t : sum +ℤ (a.base +ℤ constant_of_members (drop (i + 1) members)) ≡ all = at_steps false (sym (steps-tell a.steps) ∙ ap not none) in
      record {
        total = omega (arith, ints, t, e);
        summands = here.1;
        range = omega (arith, ints, e, q.range, base-small);
      }
