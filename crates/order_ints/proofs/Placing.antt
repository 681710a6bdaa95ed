-- Where a member is put among members in order.
use Rattle.std.proofs.Common.{◌≡◌, Bool, true, false, cond, List, ◌∷◌, ap, ◌∙◌}
use Rattle.order_ints.specs.Placing.{placed_by}

-- how two members stand to each other, with what the tests say of them
pub data Stand {A : Type 0} (same less : A → A → Bool) (Same Less : A → A → Type 0) (x y : A) : Type 0 where
  as_one : Same x y → same x y ≡ true → Stand same less Same Less x y
  in_front : Less x y → same x y ≡ false → less x y ≡ true → Stand same less Same Less x y
  behind : Less y x → same x y ≡ false → less x y ≡ false → Stand same less Same Less x y

-- where a member is put
pub data PutBy {A : Type 0} (same less : A → A → Bool) (Same Less : A → A → Type 0) (x y : A) (ys : List A) : Type 0 where
  here : Same x y → placed_by same less x (y ∷ ys) ≡ y ∷ ys → PutBy same less Same Less x y ys
  before : Less x y → placed_by same less x (y ∷ ys) ≡ x ∷ y ∷ ys → PutBy same less Same Less x y ys
  after : Less y x → placed_by same less x (y ∷ ys) ≡ y ∷ placed_by same less x ys → PutBy same less Same Less x y ys

pub put_by : {A : Type 0} (same less : A → A → Bool) (Same Less : A → A → Type 0) (x y : A) (ys : List A) → Stand same less Same Less x y
    → PutBy same less Same Less x y ys
put_by {A} same less Same Less x y ys = by
  where
    chosen : (a b : List A) (t : Bool) → t ≡ true → cond t a b ≡ a
    chosen a b t e = ap (λ x. cond x a b) e

    left : (a b : List A) (t : Bool) → t ≡ false → cond t a b ≡ b
    left a b t e = ap (λ x. cond x a b) e

    by : Stand same less Same Less x y → PutBy same less Same Less x y ys
    by (as_one e s) = here e (chosen (y ∷ ys) _ (same x y) s)
    by (in_front l s t) = before l (left (y ∷ ys) _ (same x y) s ∙ chosen (x ∷ y ∷ ys) (y ∷ placed_by same less x ys) (less x y) t)
    by (behind l s t) = after l (left (y ∷ ys) _ (same x y) s ∙ left (x ∷ y ∷ ys) (y ∷ placed_by same less x ys) (less x y) t)
