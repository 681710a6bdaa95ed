-- Of words whose integers have one value none is first, and integers of one step are short.
use Rattle.std.proofs.Common.{◌≡◌, ℕ, Bool, true, cond, ltb, List, [], ◌∷◌, length, ℤ, refl, sym, ap, subst, ◌∙◌}
use Rattle.std.specs.Prelude.{Option, None, Some, int_lt}
use Rattle.std.specs.Option.{option_or}
use Rattle.std.proofs.lemmas.Bool.Decides.{Decides-int_eq}
use Rattle.order_ints.specs.declared.atom.Atom.{Atom}
use Rattle.order_ints.specs.declared.order_int.OrdInt.{OrdInt}
use Rattle.order_ints.specs.Truth.{Valuation, atom_truth}
use Rattle.order_ints.specs.OrderValue.{value_of}
use Rattle.core_forms.specs.Letters.{HaveOneStep, AllHave, AreAllOne}
use Rattle.table_rules.specs.Words.{are_short, which_first, is_the_told, is_told, AreEqualWhereTold}
use Rattle.table_rules.proofs.RowLaws.{true-and}

-- integers of one step are short
pub one-short : (ints : List OrdInt) → HaveOneStep ints → are_short ints ≡ true
one-short [] h = refl
one-short (a ∷ ints) h = true-and (ltb (length a.steps) 2) (are_short ints) (ap (λ (n : ℕ). ltb n 2) h.0) (one-short ints h.1)

-- of words whose integers have one value none is first
one-first : (σ : Valuation) (v : ℤ) (front back : List OrdInt) → AllHave σ v front → AllHave σ v back → which_first σ front back ≡ None
one-first σ v [] back f b = refl
one-first σ v (a ∷ front) [] f b = refl
one-first σ v (a ∷ front) (b ∷ back) f g =
    ap {B = Option Bool} (λ (t : Bool). cond t (which_first σ front back) (Some (int_lt (value_of σ a) (value_of σ b)))) ((Decides-int_eq (value_of σ a) (value_of σ b)).1 (f.0 ∙ sym g.0))
    ∙ one-first σ v front back f.1 g.1

-- so what is told of equal words is told of them
pub one-told : (σ : Valuation) (truth : Atom) (equal : Option Bool) (front back : List OrdInt) → AreAllOne σ front back
    → is_told σ truth equal front back ≡ is_the_told (atom_truth σ truth) equal
one-told σ truth equal front back one =
    ap (λ (o : Option Bool). is_the_told (atom_truth σ truth) (option_or o equal)) (one-first σ one.value front back one.first_have one.second_have)

-- what is told by words is told by equal words
pub told-by : (truth : Atom) (equal : Option Bool) (front back fore rear : List OrdInt) (p : Atom × Atom) → fore ≡ front → rear ≡ back
    → AreEqualWhereTold truth equal front back p → AreEqualWhereTold truth equal fore rear p
told-by truth equal front back fore rear p f b h =
    subst (λ (xs : List OrdInt). AreEqualWhereTold truth equal xs rear p) (sym f) (subst (λ (ys : List OrdInt). AreEqualWhereTold truth equal front ys p) (sym b) h)
