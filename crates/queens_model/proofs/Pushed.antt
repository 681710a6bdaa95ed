-- Members that are pushed one after another.
use Rattle.std.proofs.Common.{◌≡◌, ℕ, zero, suc, ◌+◌, ◌*◌, List, [], ◌∷◌, ◌++◌, refl, sym, ap, ◌∙◌, append_assoc, arith}
use Rattle.model_meaning.specs.declared.what.IntTerm.TheVariants.{Of}
use Rattle.queens_model.specs.Queens.{row_integers, integers_of, row_sums, sums_of, members_of}

pub two_pushed : {A : Type 0} (o m n : List A) (a b x y : A) → m ≡ o ++ a ∷ [] → n ≡ m ++ b ∷ [] → a ≡ x → b ≡ y → n ≡ o ++ x ∷ y ∷ []
two_pushed o m n a b x y e f p q =
    f ∙ ap (λ l. l ++ b ∷ []) e ∙ append_assoc o (a ∷ []) (b ∷ []) ∙ (λ i. o ++ p i ∷ q i ∷ [])

pub three_pushed : {A : Type 0} (o m n r : List A) (a b d x y z : A) → m ≡ o ++ a ∷ [] → n ≡ m ++ b ∷ [] → r ≡ n ++ d ∷ [] → a ≡ x → b ≡ y → d ≡ z → r ≡ o ++ x ∷ y ∷ z ∷ []
three_pushed o m n r a b d x y z e f g p q s =
    g ∙ ap (λ l. l ++ d ∷ []) (two_pushed o m n a b x y e f p q) ∙ append_assoc o (x ∷ y ∷ []) (d ∷ []) ∙ (λ i. o ++ x ∷ y ∷ s i ∷ [])

-- one row more

pub integers_next : (size k : ℕ) → integers_of size (k + 1) ≡ integers_of size k ++ row_integers size k
integers_next size k =
    let e : k + 1 ≡ suc k = omega arith in
    ap (integers_of size) e

pub sums_next : (k : ℕ) → sums_of (k + 1) ≡ sums_of k ++ row_sums k
sums_next k =
    let e : k + 1 ≡ suc k = omega arith in
    ap sums_of e

pub members_next : (letter k : ℕ) → members_of letter (k + 1) ≡ members_of letter k ++ Of (3 * k + letter) ∷ []
members_next letter k =
    let e : k + 1 ≡ suc k = omega arith in
    ap (members_of letter) e
