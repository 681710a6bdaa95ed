-- Members that differ, and lists in order: the cores stand for the statements.
use Rattle.std.proofs.Common.{◌≡◌, ℕ, ◌+◌, ℤ, pos, ◌+ℤ◌, Bool, true, false, ◌&&◌, List, [], ◌∷◌, length, map, Option, Some, None, IsTrue, refl, sym, ap, ◌∙◌, lit<, arith}
use Rattle.std.specs.Prelude.{if◌then◌else◌}
use Rattle.std.specs.Bool.{beq}
use Rattle.std.specs.Option.{option_map}
use Rattle.std.proofs.lemmas.List.{length-map}
use Rattle.std.proofs.lemmas.Int.{ints}
use Rattle.order_ints.specs.declared.atom.Atom.{Atom}
use Rattle.order_ints.specs.declared.atom.Atom.TheVariants.{True}
use Rattle.order_ints.specs.declared.order_int.OrdInt.{OrdInt}
use Rattle.order_ints.specs.declared.order_int.MapValue.{MapValue}
use Rattle.order_ints.specs.Truth.{Valuation, atom_truth}
use Rattle.order_ints.specs.Place.{AtomBelow, AtomsBelow}
use Rattle.order_ints.specs.OrderMade.{integer_of_atom}
use Rattle.order_ints.specs.Numbers as numbers
use Rattle.core_forms.specs.declared.form.Core.TheVariants as core
use Rattle.core_forms.specs.Truths as forms
use Rattle.core_forms.specs.Values.{values, all_ordered}
use Rattle.core_forms.specs.Meaning.{core_truth}
use Rattle.core_forms.proofs.IntLists.{IntsBelow-append}
use Rattle.model_meaning.specs.declared.model.Decl.{Decl}
use Rattle.model_meaning.specs.declared.what.BoolTerm.{BoolTerm}
use Rattle.model_meaning.specs.declared.what.IntTerm.{IntTerm}
use Rattle.model_meaning.specs.declared.statement.AllDifferent.{AllDifferent}
use Rattle.model_meaning.specs.declared.statement.AllDifferent.TheVariants as all_different
use Rattle.model_meaning.specs.declared.wanted.Wanted.{Wanted}
use Rattle.model_meaning.specs.declared.wanted.Wanted.TheVariants as wanted
use Rattle.model_meaning.specs.Arguments.{Argument, Truth, Truths, Numbers, given}
use Rattle.model_meaning.specs.Signatures.{all_different_signature, lex_signature}
use Rattle.model_meaning.specs.Terms.{truth_of, number_of, truths_of, numbers_of, as_number}
use Rattle.model_meaning.specs.Lists as typed
use Rattle.model_meaning.specs.Holds.{same, reify, members_differ, truth_or_true, terms_or_none}
use Rattle.model_meaning.specs.Limits.{TermsInLimit, ArgumentsInLimit}
use Rattle.model_meaning.specs.WellTyped.{TruthFits, TruthsFit, NumbersFit, ArgumentsFit, LengthsFit}
use Rattle.statement_lower.specs.Terms.{atom_of, atoms_of, integer_of, integers_of, atom_or_true, word_of}
use Rattle.name_map.specs.Fits.{EntriesFit}
use Rattle.statement_lower.specs.Entries.{AreOrdered}
use Rattle.statement_lower.specs.Pairs.{difference_made}
use Rattle.statement_lower.specs.Lines.{different_made}
use Rattle.statement_lower.specs.Lowers.{Lowers}
use Rattle.statement_lower.proofs.MeaningLaws.{same_meanings}
use Rattle.statement_lower.proofs.EntryLaws.{SmallInteger, AreSmallIntegers, below-small, sound-small, atom_of-laws, atoms_of-truths, atoms_of-below, integers_of-values, integers_of-small, ordered-integers_of}
use Rattle.statement_lower.proofs.BooleanLines.{beq-same, true-beq}
use Rattle.statement_lower.proofs.LowersLaws.{lowers-one, lowers-same}
use Rattle.statement_lower.proofs.OrderedEntries.{AreOrdered-depends}
use Rattle.statement_lower.proofs.Pairs.{difference-lowers}

-- Members that differ.

only-test : (o t : Bool) → o ≡ true → (o && t) ≡ t
only-test o t e = rw e refl

all-true : (σ : Valuation) (ints : List OrdInt) → forms.truths σ (map (λ _. True) ints) ≡ map (λ _. true) (values σ ints)
all-true σ [] = refl
all-true σ (a ∷ ints) = ap (λ ts. true ∷ ts) (all-true σ ints)

true-below : (n : ℕ) (ints : List OrdInt) → AtomsBelow n (map (λ _. True) ints)
true-below n [] = tt
true-below n (a ∷ ints) = (tt, true-below n ints)

different-truth : (σ : Valuation) (ints : List OrdInt) → all_ordered σ ints ≡ true → core_truth σ (core.AllDiff ints (map (λ _. True) ints)) ≡ typed.all_differ (values σ ints)
different-truth σ ints h =
    only-test (all_ordered σ ints) _ h
    ∙ rw (all-true σ ints) (sym (same_meanings.all_differ (values σ ints)))

where-truth : (σ : Valuation) (ints : List OrdInt) (cs : List Atom) → all_ordered σ ints ≡ true → core_truth σ (core.AllDiff ints cs) ≡ typed.differ_where (values σ ints) (forms.truths σ cs)
where-truth σ ints cs h =
    only-test (all_ordered σ ints) _ h ∙ sym (same_meanings.differ_where (values σ ints) (forms.truths σ cs))

-- Lists in order.

both-ordered : (o p t : Bool) → o ≡ true → p ≡ true → ((o && p) && t) ≡ t
both-ordered o p t e f = rw (e, f) refl

-- a Boolean as an integer
pub bit-value : (t : Bool) → (pos 0 +ℤ pos ((if t then 1 else 0) + 0)) ≡ as_number t
bit-value true = omega (arith, ints)
bit-value false = omega (arith, ints)

pub bit-ordered : (t : Bool) → (if t then true else true) ≡ true
bit-ordered true = refl
bit-ordered false = refl

pub small-bit : (n : ℕ) (a : Atom) → AtomBelow n a → SmallInteger n (integer_of_atom a)
small-bit n a h = record { below = (h, tt); sound = ((lit< tt, lit< tt), (omega arith, tt)); small = omega (arith, ints) }

pub small-bits : (n : ℕ) (atoms : List Atom) → AtomsBelow n atoms → AreSmallIntegers n (map integer_of_atom atoms)
small-bits n [] h = tt
small-bits n (a ∷ atoms) h = (small-bit n a h.0, small-bits n atoms h.1)

pub ordered-bits : (σ : Valuation) (atoms : List Atom) → all_ordered σ (map integer_of_atom atoms) ≡ true
ordered-bits σ [] = refl
ordered-bits σ (a ∷ atoms) = rw (bit-ordered (atom_truth σ a), ordered-bits σ atoms) refl

pub values-bits : (σ : Valuation) (atoms : List Atom) → values σ (map integer_of_atom atoms) ≡ map as_number (forms.truths σ atoms)
values-bits σ [] = refl
values-bits σ (a ∷ atoms) = rw (bit-value (atom_truth σ a), values-bits σ atoms) refl

module _ (vars n : ℕ) (ds : List Decl) (entries : List MapValue) (h : EntriesFit (vars + 1) ds entries) where
  abbrev C : Valuation → Type 0
  C σ = AreOrdered σ entries

  abbrev env : Valuation → List ℤ
  env σ = numbers.numbers_of σ entries

  -- integers with these values
  record Word (word : List OrdInt) (numbers : Valuation → List ℤ) : Type 0 where
    small : AreSmallIntegers (vars + 1) word
    ordered : (σ : Valuation) → C σ → all_ordered σ word ≡ true
    values : (σ : Valuation) → values σ word ≡ numbers σ

  numbers-word : (is : List IntTerm) → NumbersFit ds n is → TermsInLimit is → Word (integers_of entries is) (λ σ. numbers_of (env σ) is)
  numbers-word is f l = record {
    small = integers_of-small (vars + 1) n ds entries is h f l;
    ordered = λ σ c. ordered-integers_of σ entries is c;
    values = λ σ. integers_of-values (vars + 1) n ds entries h σ is f;
  }

  truths-word : (xs : List BoolTerm) → TruthsFit ds n xs → Word (map integer_of_atom (atoms_of entries xs)) (λ σ. map as_number (truths_of (env σ) xs))
  truths-word xs f = record {
    small = small-bits (vars + 1) (atoms_of entries xs) (atoms_of-below (vars + 1) n ds entries xs h f);
    ordered = λ σ c. ordered-bits σ (atoms_of entries xs);
    values = λ σ. values-bits σ (atoms_of entries xs) ∙ ap (map as_number) (atoms_of-truths σ (vars + 1) n ds entries xs h f);
  }

  -- members that differ
  pub difference-stands : (d : AllDifferent) (is : List IntTerm) (z : Option BoolTerm) (xs : Option (List BoolTerm))
      → ArgumentsFit ds n (all_different_signature d) (given (Some (Numbers is) ∷ option_map Truth z ∷ option_map Truths xs ∷ []))
      → LengthsFit (given (Some (Numbers is) ∷ option_map Truth z ∷ option_map Truths xs ∷ [])) → TermsInLimit is
      → Lowers vars (different_made vars d (integers_of entries is) (atom_or_true entries z) (atoms_of entries (terms_or_none xs))).vars C (different_made vars d (integers_of entries is) (atom_or_true entries z) (atoms_of entries (terms_or_none xs))).cores
      (λ σ. IsTrue (members_differ d (numbers_of (env σ) is) (truth_or_true (env σ) z) (truths_of (env σ) (terms_or_none xs))))
  difference-stands all_different.Plain is z xs f k l =
      let w = numbers-word is f.0 l in
      let members : List OrdInt = integers_of entries is in
      lowers-one vars C (core.AllDiff members (map (λ _. True) members)) (λ σ. typed.all_differ (numbers_of (env σ) is))
      (true-below (vars + 1) members, below-small (vars + 1) members w.small) (sound-small (vars + 1) members w.small, sym (length-map members (λ _. True)))
      (λ σ c. different-truth σ members (w.ordered σ c) ∙ ap typed.all_differ (w.values σ))
  difference-stands all_different.Conditional is None (Some xs) f k l =
      let w = numbers-word is f.0 l in
      let members : List OrdInt = integers_of entries is in
      let conditions : List Atom = atoms_of entries xs in
      lowers-one vars C (core.AllDiff members conditions) (λ σ. typed.differ_where (numbers_of (env σ) is) (truths_of (env σ) xs))
      (atoms_of-below (vars + 1) n ds entries xs h f.1.0, below-small (vars + 1) members w.small)
      (sound-small (vars + 1) members w.small, length-map is _ ∙ (k ∙ sym (length-map xs (atom_of entries))))
      (λ σ c. where-truth σ members conditions (w.ordered σ c) ∙ rw (w.values σ, atoms_of-truths σ (vars + 1) n ds entries xs h f.1.0) refl)
  difference-stands all_different.Conditional is None None f k l = absurd f.1
  difference-stands all_different.Conditional is (Some z) None f k l = absurd f.1.0
  difference-stands all_different.Conditional is (Some z) (Some xs) f k l = absurd f.1.0
  difference-stands all_different.Reified is (Some x) xs f k l =
      let w = numbers-word is f.0 l in
      let members : List OrdInt = integers_of entries is in
      let truth = λ (σ : Valuation). atom_of-laws σ (vars + 1) n ds entries x h f.1.0 in
      let z : Atom = atom_of entries x in
      lowers-same vars (difference_made vars members z).vars C (difference_made vars members z).cores
      (λ σ. IsTrue (same (atom_truth σ z) (typed.all_differ (values σ members)))) (λ σ. IsTrue (same (truth_of (env σ) x) (typed.all_differ (numbers_of (env σ) is))))
      (λ σ c.
      let e : same (atom_truth σ z) (typed.all_differ (values σ members)) ≡ same (truth_of (env σ) x) (typed.all_differ (numbers_of (env σ) is)) =
      rw ((truth σ).0, w.values σ) refl in
      (λ t. sym e ∙ t, λ t. e ∙ t))
      (difference-lowers vars C members z (AreOrdered-depends (vars + 1) ds entries h) w.small (truth (λ _. false)).1 w.ordered)
  difference-stands all_different.Reified is None (Some xs) f k l = absurd f.1.0
  difference-stands all_different.Reified is None None f k l = absurd f.1

  -- words, and an atom that is the truth of their order
  order-stands : (strict : Bool) (r : Atom) (t : Valuation → Bool) (front back : List OrdInt) (v w : Valuation → List ℤ)
      → Word front v → Word back w → length front ≡ length back → AtomBelow (vars + 1) r → ((σ : Valuation) → atom_truth σ r ≡ t σ)
      → ((σ : Valuation) → length (v σ) ≡ length (w σ)) → (q : Valuation → Bool) → ((σ : Valuation) → beq (t σ) (typed.in_order strict (v σ) (w σ)) ≡ q σ)
      → Lowers vars vars C (core.Lex r strict front back ∷ []) (λ σ. IsTrue (q σ))
  order-stands strict r t front back v w f g long at e even q says =
      lowers-one vars C (core.Lex r strict front back) q
      ((at, tt), IntsBelow-append (vars + 1) front back (below-small (vars + 1) front f.small) (below-small (vars + 1) back g.small))
      (sound-small (vars + 1) front f.small, sound-small (vars + 1) back g.small, long)
      (λ σ c.
      both-ordered (all_ordered σ front) (all_ordered σ back) _ (f.ordered σ c) (g.ordered σ c)
      ∙ (rw (f.values σ, g.values σ, e σ, ← same_meanings.in_order strict (v σ) (w σ) (even σ)) refl ∙ says σ))

  -- What typing says of the lists that a statement has.

  abbrev given_words : Option (List BoolTerm) → Option (List BoolTerm) → Option (List IntTerm) → Option (List IntTerm) → Option BoolTerm → List Argument
  given_words xs ys is js z = given (option_map Truths xs ∷ option_map Truths ys ∷ option_map Numbers is ∷ option_map Numbers js ∷ option_map Truth z ∷ [])

  truth-lists : (rest : List Wanted) (xs ys : Option (List BoolTerm)) (is js : Option (List IntTerm)) (z : Option BoolTerm)
      → ArgumentsFit ds n (wanted.Truths ∷ wanted.Truths ∷ rest) (given_words xs ys is js z) → LengthsFit (given_words xs ys is js z)
      → TruthsFit ds n (terms_or_none xs) × TruthsFit ds n (terms_or_none ys) × (length (terms_or_none xs) ≡ length (terms_or_none ys))
  truth-lists rest (Some xs) (Some ys) is js z f k = (f.0, f.1.0, k)
  truth-lists rest (Some xs) None (Some is) js z f k = absurd f.1.0
  truth-lists rest (Some xs) None None (Some js) z f k = absurd f.1.0
  truth-lists rest (Some xs) None None None (Some z) f k = absurd f.1.0
  truth-lists rest (Some xs) None None None None f k = absurd f.1
  truth-lists rest None (Some ys) (Some is) js z f k = absurd f.1.0
  truth-lists rest None (Some ys) None (Some js) z f k = absurd f.1.0
  truth-lists rest None (Some ys) None None (Some z) f k = absurd f.1.0
  truth-lists rest None (Some ys) None None None f k = absurd f.1
  truth-lists rest None None (Some is) js z f k = absurd f.0
  truth-lists rest None None None (Some js) z f k = absurd f.0
  truth-lists rest None None None None (Some z) f k = absurd f.0
  truth-lists rest None None None None None f k = absurd f

  number-lists : (rest : List Wanted) (xs ys : Option (List BoolTerm)) (is js : Option (List IntTerm)) (z : Option BoolTerm)
      → ArgumentsFit ds n (wanted.Numbers ∷ wanted.Numbers ∷ rest) (given_words xs ys is js z) → LengthsFit (given_words xs ys is js z) → ArgumentsInLimit (given_words xs ys is js z)
      → (NumbersFit ds n (terms_or_none is) × TermsInLimit (terms_or_none is)) × (NumbersFit ds n (terms_or_none js) × TermsInLimit (terms_or_none js)) × (length (terms_or_none is) ≡ length (terms_or_none js))
  number-lists rest (Some xs) ys is js z f k l = absurd f.0
  number-lists rest None (Some ys) is js z f k l = absurd f.0
  number-lists rest None None (Some is) (Some js) z f k l = ((f.0, l.0), (f.1.0, l.1.0), k)
  number-lists rest None None (Some is) None (Some z) f k l = absurd f.1.0
  number-lists rest None None (Some is) None None f k l = absurd f.1
  number-lists rest None None None (Some js) (Some z) f k l = absurd f.1.0
  number-lists rest None None None (Some js) None f k l = absurd f.1
  number-lists rest None None None None (Some z) f k l = absurd f.0
  number-lists rest None None None None None f k l = absurd f

  -- the truth that may be left out fits
  abbrev MaybeFits : Option BoolTerm → Type 0
  MaybeFits None = Unit {0}
  MaybeFits (Some z) = TruthFits ds n z

  truth-behind_truths : (xs ys : Option (List BoolTerm)) (is js : Option (List IntTerm)) (z : Option BoolTerm)
      → ArgumentsFit ds n (wanted.Truths ∷ wanted.Truths ∷ wanted.Truth ∷ []) (given_words xs ys is js z) → MaybeFits z
  truth-behind_truths xs ys is js None f = tt
  truth-behind_truths (Some xs) (Some ys) (Some is) js (Some z) f = absurd f.1.1.0
  truth-behind_truths (Some xs) (Some ys) None (Some js) (Some z) f = absurd f.1.1.0
  truth-behind_truths (Some xs) (Some ys) None None (Some z) f = f.1.1.0
  truth-behind_truths (Some xs) None (Some is) js (Some z) f = absurd f.1.0
  truth-behind_truths (Some xs) None None (Some js) (Some z) f = absurd f.1.0
  truth-behind_truths (Some xs) None None None (Some z) f = absurd f.1.0
  truth-behind_truths None (Some ys) (Some is) js (Some z) f = absurd f.1.0
  truth-behind_truths None (Some ys) None (Some js) (Some z) f = absurd f.1.0
  truth-behind_truths None (Some ys) None None (Some z) f = absurd f.1.0
  truth-behind_truths None None (Some is) js (Some z) f = absurd f.0
  truth-behind_truths None None None (Some js) (Some z) f = absurd f.0
  truth-behind_truths None None None None (Some z) f = absurd f.0

  truth-behind_numbers : (xs ys : Option (List BoolTerm)) (is js : Option (List IntTerm)) (z : Option BoolTerm)
      → ArgumentsFit ds n (wanted.Numbers ∷ wanted.Numbers ∷ wanted.Truth ∷ []) (given_words xs ys is js z) → MaybeFits z
  truth-behind_numbers xs ys is js None f = tt
  truth-behind_numbers (Some xs) ys is js (Some z) f = absurd f.0
  truth-behind_numbers None (Some ys) is js (Some z) f = absurd f.0
  truth-behind_numbers None None (Some is) (Some js) (Some z) f = f.1.1.0
  truth-behind_numbers None None (Some is) None (Some z) f = absurd f.1.0
  truth-behind_numbers None None None (Some js) (Some z) f = absurd f.1.0
  truth-behind_numbers None None None None (Some z) f = absurd f.0

  maybe-truth : (z : Option BoolTerm) → MaybeFits z → (σ : Valuation) → atom_truth σ (atom_or_true entries z) ≡ truth_or_true (env σ) z
  maybe-truth None f σ = refl
  maybe-truth (Some z) f σ = (atom_of-laws σ (vars + 1) n ds entries z h f).0

  maybe-below : (z : Option BoolTerm) → MaybeFits z → AtomBelow (vars + 1) (atom_or_true entries z)
  maybe-below None f = tt
  maybe-below (Some z) f = (atom_of-laws (λ _. false) (vars + 1) n ds entries z h f).1

  -- The statements of the line, by what they order and whether they are reified.

  module _ (strict : Bool) (xs ys : Option (List BoolTerm)) (is js : Option (List IntTerm)) (z : Option BoolTerm) where
    abbrev test : Bool → Bool → Valuation → Bool
    test booleans reified σ =
        reify reified (truth_or_true (env σ) z)
        (typed.in_order strict (if booleans then map as_number (truths_of (env σ) (terms_or_none xs)) else numbers_of (env σ) (terms_or_none is)) (if booleans then map as_number (truths_of (env σ) (terms_or_none ys)) else numbers_of (env σ) (terms_or_none js)))

    abbrev Orders : Bool → Bool → Type 0
    Orders booleans reified =
        Lowers vars vars C (core.Lex (if reified then atom_or_true entries z else True) strict (word_of entries booleans (terms_or_none xs) (terms_or_none is)) (word_of entries booleans (terms_or_none ys) (terms_or_none js)) ∷ []) (λ σ. IsTrue (test booleans reified σ))

    truths-order : (r : Atom) (t : Valuation → Bool) → TruthsFit ds n (terms_or_none xs) × TruthsFit ds n (terms_or_none ys) × (length (terms_or_none xs) ≡ length (terms_or_none ys))
        → AtomBelow (vars + 1) r → ((σ : Valuation) → atom_truth σ r ≡ t σ)
        → (q : Valuation → Bool) → ((σ : Valuation) → beq (t σ) (typed.in_order strict (map as_number (truths_of (env σ) (terms_or_none xs))) (map as_number (truths_of (env σ) (terms_or_none ys)))) ≡ q σ)
        → Lowers vars vars C (core.Lex r strict (word_of entries true (terms_or_none xs) (terms_or_none is)) (word_of entries true (terms_or_none ys) (terms_or_none js)) ∷ [])
        (λ σ. IsTrue (q σ))
    truths-order r t f at e q says =
        order-stands strict r t (word_of entries true (terms_or_none xs) (terms_or_none is)) (word_of entries true (terms_or_none ys) (terms_or_none js))
        (λ σ. map as_number (truths_of (env σ) (terms_or_none xs))) (λ σ. map as_number (truths_of (env σ) (terms_or_none ys)))
        (truths-word (terms_or_none xs) f.0) (truths-word (terms_or_none ys) f.1)
        (omega (arith, length-map (atoms_of entries (terms_or_none xs)) integer_of_atom, length-map (terms_or_none xs) (atom_of entries), length-map (atoms_of entries (terms_or_none ys)) integer_of_atom, length-map (terms_or_none ys) (atom_of entries), f.2))
        at e
        (λ σ. omega (arith, length-map (truths_of (env σ) (terms_or_none xs)) as_number, length-map (terms_or_none xs) (truth_of (env σ)), length-map (truths_of (env σ) (terms_or_none ys)) as_number, length-map (terms_or_none ys) (truth_of (env σ)), f.2))
        q says

    numbers-order : (r : Atom) (t : Valuation → Bool) → (NumbersFit ds n (terms_or_none is) × TermsInLimit (terms_or_none is)) × (NumbersFit ds n (terms_or_none js) × TermsInLimit (terms_or_none js)) × (length (terms_or_none is) ≡ length (terms_or_none js))
        → AtomBelow (vars + 1) r → ((σ : Valuation) → atom_truth σ r ≡ t σ)
        → (q : Valuation → Bool) → ((σ : Valuation) → beq (t σ) (typed.in_order strict (numbers_of (env σ) (terms_or_none is)) (numbers_of (env σ) (terms_or_none js))) ≡ q σ)
        → Lowers vars vars C (core.Lex r strict (word_of entries false (terms_or_none xs) (terms_or_none is)) (word_of entries false (terms_or_none ys) (terms_or_none js)) ∷ [])
        (λ σ. IsTrue (q σ))
    numbers-order r t f at e q says =
        order-stands strict r t (word_of entries false (terms_or_none xs) (terms_or_none is)) (word_of entries false (terms_or_none ys) (terms_or_none js))
        (λ σ. numbers_of (env σ) (terms_or_none is)) (λ σ. numbers_of (env σ) (terms_or_none js))
        (numbers-word (terms_or_none is) f.0.0 f.0.1) (numbers-word (terms_or_none js) f.1.0 f.1.1)
        (omega (arith, length-map (terms_or_none is) (integer_of entries), length-map (terms_or_none js) (integer_of entries), f.2))
        at e
        (λ σ. omega (arith, length-map (terms_or_none is) (number_of (env σ)), length-map (terms_or_none js) (number_of (env σ)), f.2))
        q says

    pub words-stand : (booleans reified : Bool)
        → ArgumentsFit ds n (lex_signature (record { of_booleans = booleans; strict = strict; reified = reified })) (given_words xs ys is js z) → LengthsFit (given_words xs ys is js z) → ArgumentsInLimit (given_words xs ys is js z)
        → Orders booleans reified
    words-stand true true f k l =
        let t = truth-behind_truths xs ys is js z f in
        truths-order (atom_or_true entries z) (λ σ. truth_or_true (env σ) z) (truth-lists (wanted.Truth ∷ []) xs ys is js z f k) (maybe-below z t) (maybe-truth z t)
        (test true true) (λ σ. beq-same (truth_or_true (env σ) z) (typed.in_order strict (map as_number (truths_of (env σ) (terms_or_none xs))) (map as_number (truths_of (env σ) (terms_or_none ys)))))
    words-stand true false f k l =
        truths-order True (λ σ. true) (truth-lists [] xs ys is js z f k) tt (λ σ. refl)
        (test true false) (λ σ. true-beq (typed.in_order strict (map as_number (truths_of (env σ) (terms_or_none xs))) (map as_number (truths_of (env σ) (terms_or_none ys)))))
    words-stand false true f k l =
        let t = truth-behind_numbers xs ys is js z f in
        numbers-order (atom_or_true entries z) (λ σ. truth_or_true (env σ) z) (number-lists (wanted.Truth ∷ []) xs ys is js z f k l) (maybe-below z t) (maybe-truth z t)
        (test false true) (λ σ. beq-same (truth_or_true (env σ) z) (typed.in_order strict (numbers_of (env σ) (terms_or_none is)) (numbers_of (env σ) (terms_or_none js))))
    words-stand false false f k l =
        numbers-order True (λ σ. true) (number-lists [] xs ys is js z f k l) tt (λ σ. refl)
        (test false false) (λ σ. true-beq (typed.in_order strict (numbers_of (env σ) (terms_or_none is)) (numbers_of (env σ) (terms_or_none js))))
