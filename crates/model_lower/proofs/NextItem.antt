-- The next item: a statement that stands before the first declaration, or that declaration.
use Rattle.std.proofs.Common.{◌≡◌, List, [], ◌∷◌, ◌++◌, Option, Some, None, length, refl, ap, subst, sym, ◌∙◌, arith}
use Rattle.std.specs.Prelude.{◌-◌, slice_get, MatchOption, reverse}
use Rattle.std.specs.Option.{option_to_list}
use Rattle.std.proofs.lemmas.List.{reverse-append, reverse-reverse, length-append}
use Rattle.std.proofs.lemmas.Grind.{reverse_onto}
use Rattle.model_meaning.specs.declared.model.Decl.{Decl}
use Rattle.model_meaning.specs.declared.model.Stmt.{Stmt}
use Rattle.model_items.specs.Items.{Statement, Definition, declared_item, behind_declared, items_of}
use Rattle.model_lower.specs.Walk.{DeclarationFirst, Defines}

module _ (old new : List Stmt) (r : Option Stmt) (s : Stmt) (e : old ≡ new ++ option_to_list r) (is : r ≡ Some s) where
  -- the last of the statements in reverse order is the first one
  parts : reverse old ≡ s ∷ reverse new
  parts = ap reverse (e ∙ ap (λ (o : Option Stmt). new ++ option_to_list o) is) ∙ reverse-append new (s ∷ [])

  -- it stands before the declarations
  pub taken-first : (N : Type 0) (ds : List Decl) → ((ss : List Stmt) → items_of ds (s ∷ ss) ≡ Statement s ∷ items_of ds ss)
      → MatchOption r N (λ s. items_of ds (reverse old) ≡ Statement s ∷ items_of ds (reverse new))
  taken-first N ds first = rw is (ap (items_of ds) parts ∙ first (reverse new))

  -- it declares the integer of a declaration
  pub taken-defining : (N : Type 0) (d : Decl) → ((ss : List Stmt) → declared_item d (s ∷ ss) ≡ Definition d s) → ((ss : List Stmt) → behind_declared d (s ∷ ss) ≡ ss)
      → MatchOption r N (λ s. Defines d s (reverse old) (reverse new))
  taken-defining N d defines behind =
      rw is (ap (declared_item d) parts ∙ defines (reverse new), ap (behind_declared d) parts ∙ behind (reverse new))

-- The last of the statements in reverse order.

at-last : (xs : List Stmt) (r : Stmt) → slice_get (xs ++ r ∷ []) (length (xs ++ r ∷ []) - 1) ≡ Some r
at-last xs r =
    let n : length (xs ++ r ∷ []) - 1 ≡ length xs = omega (arith, length-append xs (r ∷ [])) in
    ap (slice_get (xs ++ r ∷ [])) n ∙ behind xs
  where
    behind : (xs : List Stmt) → slice_get (xs ++ r ∷ []) (length xs) ≡ Some r
    behind [] = refl
    behind (x ∷ xs) = behind xs

last-of : (left rs : List Stmt) (r : Stmt) → reverse (r ∷ rs) ≡ left → slice_get left (length left - 1) ≡ Some r
last-of left rs r f =
    subst (λ (l : List Stmt). slice_get l (length l - 1) ≡ Some r) (sym (reverse_onto rs r []) ∙ f) (at-last (reverse rs) r)

pub last-first : (left : List Stmt) (s : Stmt) → slice_get left (length left - 1) ≡ Some s → (ss : List Stmt) × (reverse left ≡ s ∷ ss)
last-first left s e = by_reverse (reverse left) (reverse-reverse left)
  where
    some-same : (x y : Stmt) → Some x ≡ Some y → x ≡ y
    some-same x y e = cc

    by_reverse : (rs : List Stmt) → reverse rs ≡ left → (ss : List Stmt) × (rs ≡ s ∷ ss)
    by_reverse [] f = let g : slice_get [] 0 ≡ Some s = subst (λ (l : List Stmt). slice_get l (length l - 1) ≡ Some s) (sym f) e in absurd (cc)
    by_reverse (r ∷ rs) f = (rs, ap (λ (x : Stmt). x ∷ rs) (some-same r s (sym (last-of left rs r f) ∙ e)))

pub no-last : (left : List Stmt) → slice_get left (length left - 1) ≡ None → reverse left ≡ []
no-last left e = by_reverse (reverse left) (reverse-reverse left)
  where
    by_reverse : (rs : List Stmt) → reverse rs ≡ left → rs ≡ []
    by_reverse [] f = refl
    by_reverse (r ∷ rs) f = let g : Some r ≡ None = sym (last-of left rs r f) ∙ e in absurd (cc)

pub declaration-next : (ds others : List Decl) (d : Decl) (ss : List Stmt) → ds ≡ d ∷ others → DeclarationFirst ds ss → items_of ds ss ≡ declared_item d ss ∷ items_of others (behind_declared d ss)
declaration-next ds others d ss e h =
    let g : DeclarationFirst (d ∷ others) ss = subst (λ (ds : List Decl). DeclarationFirst ds ss) e h in
    ap (λ (ds : List Decl). items_of ds ss) e ∙ g
