-- What the members of a sum add up to, where one comes or goes.
use Rattle.std.proofs.Common.{◌≡◌, ℕ, ◌+◌, ◌<◌, ◌≤◌, ◌==◌, false, List, [], ◌∷◌, ◌++◌, length, get_or, drop, Option, None, Some, IfSome, ℤ, ◌+ℤ◌, refl, sym, ap, subst, ◌∙◌, arith}
use Rattle.std.proofs.lemmas.Int.{ints}
use Rattle.std.proofs.lemmas.Bool.{true≢false}
use Rattle.std.proofs.lemmas.List.{at_drop_more}
use Rattle.order_ints.specs.declared.order_int.OrdInt.{OrdInt}
use Rattle.order_ints.specs.OrderRange.{weights}
use Rattle.core_forms.specs.declared.summands.Totals.{Totals}
use Rattle.core_forms.specs.Totals.{lows, widths, before_last, AreNarrow, AreTotals}

-- ---- the last member

pub before_last-behind : (xs : List OrdInt) (a : OrdInt) → before_last (xs ++ a ∷ []) ≡ xs
before_last-behind [] a = refl
before_last-behind (x ∷ []) a = refl
before_last-behind (x ∷ y ∷ xs) a = ap (λ (zs : List OrdInt). x ∷ zs) (before_last-behind (y ∷ xs) a)

-- a list that ends with a member is what is before its last one, and that
pub ends-with : (xs rest : List OrdInt) (a : OrdInt) → xs ≡ rest ++ a ∷ [] → xs ≡ before_last xs ++ a ∷ []
ends-with xs rest a e = e ∙ ap (λ (ys : List OrdInt). ys ++ a ∷ []) (sym (before_last-behind rest a) ∙ ap before_last (sym e))

-- a list with a first member has a last one
pub has-last : (a : OrdInt) (xs : List OrdInt) → (last : OrdInt) × (a ∷ xs ≡ before_last (a ∷ xs) ++ last ∷ [])
has-last a [] = (a, refl)
has-last a (b ∷ xs) = let rest = has-last b xs in (rest.0, ap (λ (ys : List OrdInt). a ∷ ys) rest.1)

pub last-there : (xs : List OrdInt) → (length xs == 0) ≡ false → (last : OrdInt) × (xs ≡ before_last xs ++ last ∷ [])
last-there [] e = absurd (true≢false e)
last-there (a ∷ xs) e = has-last a xs

-- ---- sums

lows-behind : (xs : List OrdInt) (a : OrdInt) → lows (xs ++ a ∷ []) ≡ lows xs +ℤ a.base
lows-behind [] a = omega (arith, ints)
lows-behind (x ∷ xs) a = omega (arith, ints, lows-behind xs a)

widths-behind : (xs : List OrdInt) (a : OrdInt) → widths (xs ++ a ∷ []) ≡ widths xs + weights a.steps
widths-behind [] a = omega arith
widths-behind (x ∷ xs) a = omega (arith, widths-behind xs a)

-- ---- how wide

narrow-more : (n m : ℕ) (xs : List OrdInt) → n ≤ m → AreNarrow n xs → AreNarrow m xs
narrow-more n m [] le h = tt
narrow-more n m (a ∷ xs) le h = (omega (arith, le, h.0), narrow-more n m xs le h.1)

narrow-behind : (n : ℕ) (xs : List OrdInt) (a : OrdInt) → AreNarrow n xs → weights a.steps ≤ n → AreNarrow n (xs ++ a ∷ [])
narrow-behind n [] a h le = (le, tt)
narrow-behind n (x ∷ xs) a h le = (h.0, narrow-behind n xs a h.1 le)

narrow-before : (n : ℕ) (xs : List OrdInt) → AreNarrow n xs → AreNarrow n (before_last xs)
narrow-before n [] h = tt
narrow-before n (a ∷ []) h = tt
narrow-before n (a ∷ b ∷ xs) h = (h.0, narrow-before n (b ∷ xs) h.1)

narrow-rest : (n : ℕ) (a : OrdInt) (xs : List OrdInt) → AreNarrow n (before_last (a ∷ xs)) → AreNarrow n (before_last xs)
narrow-rest n a [] h = tt
narrow-rest n a (b ∷ xs) h = h.1

-- ---- totals

-- with one more behind members none of which is wider than is noted
pub totals-with : (r : Option Totals) (xs : List OrdInt) (a : OrdInt) (t : Totals)
    → t.low ≡ lows xs → t.width ≡ widths xs → AreNarrow t.widest xs
    → IfSome r (λ now. now.low ≡ t.low +ℤ a.base) → IfSome r (λ now. now.width ≡ t.width + weights a.steps) → IfSome r (λ now. now.widest ≡ t.widest)
    → IfSome r (AreTotals (xs ++ a ∷ []))
totals-with None xs a t low width narrow l w m = tt
totals-with (Some now) xs a t low width narrow l w m = record {
  low = l ∙ ap (λ (z : ℤ). z +ℤ a.base) low ∙ sym (lows-behind xs a);
  width = w ∙ ap (λ (n : ℕ). n + weights a.steps) width ∙ sym (widths-behind xs a);
  narrow = subst (λ (n : ℕ). AreNarrow n (before_last (xs ++ a ∷ []))) (sym m) (subst (AreNarrow t.widest) (sym (before_last-behind xs a)) narrow);
}

-- with one more behind a last one
pub totals-behind : (r : Option Totals) (xs : List OrdInt) (last a : OrdInt) (t b : Totals)
    → AreTotals xs t → xs ≡ before_last xs ++ last ∷ []
    → b.low ≡ t.low → b.width ≡ t.width → t.widest ≤ b.widest → weights last.steps ≤ b.widest
    → IfSome r (λ now. now.low ≡ b.low +ℤ a.base) → IfSome r (λ now. now.width ≡ b.width + weights a.steps) → IfSome r (λ now. now.widest ≡ b.widest)
    → IfSome r (AreTotals (xs ++ a ∷ []))
totals-behind r xs last a t b h e low width others this l w m =
    totals-with r xs a b (low ∙ h.low) (width ∙ h.width)
    (subst (AreNarrow b.widest) (sym e) (narrow-behind b.widest (before_last xs) last (narrow-more t.widest b.widest (before_last xs) others h.narrow) this))
    l w m

-- without the last one
pub totals-before : (r : Option Totals) (xs : List OrdInt) (last : OrdInt) (t : Totals) → AreTotals xs t → xs ≡ before_last xs ++ last ∷ []
    → IfSome r (λ now. now.low +ℤ last.base ≡ t.low) → IfSome r (λ now. now.width + weights last.steps ≡ t.width) → IfSome r (λ now. now.widest ≡ t.widest)
    → IfSome r (AreTotals (before_last xs))
totals-before None xs last t h e l w m = tt
totals-before (Some now) xs last t h e l w m =
    let lows-are : lows xs ≡ lows (before_last xs) +ℤ last.base = ap lows e ∙ lows-behind (before_last xs) last in
    let widths-are : widths xs ≡ widths (before_last xs) + weights last.steps = ap widths e ∙ widths-behind (before_last xs) last in
    record {
      low = omega (arith, ints, l, h.low, lows-are);
      width = omega (arith, w, h.width, widths-are);
      narrow = subst (λ (n : ℕ). AreNarrow n (before_last (before_last xs))) (sym m) (narrow-before t.widest (before_last xs) h.narrow);
    }

-- without the first one
totals-rest : (a : OrdInt) (xs : List OrdInt) (t now : Totals) → AreTotals (a ∷ xs) t
    → now.low +ℤ a.base ≡ t.low → now.width + weights a.steps ≡ t.width → now.widest ≡ t.widest → AreTotals xs now
totals-rest a xs t now h l w m = record {
  low = omega (arith, ints, l, h.low);
  width = omega (arith, w, h.width);
  narrow = subst (λ (n : ℕ). AreNarrow n (before_last xs)) (sym m) (narrow-rest t.widest a xs h.narrow);
}

pub totals-next : (xs : List OrdInt) (i : ℕ) (a : OrdInt) (t now : Totals) → i < length xs → a ≡ get_or xs i a → AreTotals (drop i xs) t
    → now.low +ℤ a.base ≡ t.low → now.width + weights a.steps ≡ t.width → now.widest ≡ t.widest → AreTotals (drop (i + 1) xs) now
totals-next xs i a t now lt is h l w m =
    let first : drop i xs ≡ a ∷ drop (i + 1) xs =
    at_drop_more (λ (ys : List OrdInt). ys) xs i a lt ∙ ap (λ (b : OrdInt). b ∷ drop (i + 1) xs) (sym is) in
    totals-rest a (drop (i + 1) xs) t now (subst (λ (ys : List OrdInt). AreTotals ys t) first h) l w m

-- ---- what a change leaves

pub dropped-totals : (r : Option Totals) (old new : List OrdInt) → (length old == 0) ≡ false
    → ((members : List OrdInt) (last : OrdInt) → old ≡ members ++ last ∷ [] → new ≡ members)
    → IfSome r (AreTotals (before_last old)) → IfSome r (AreTotals new)
dropped-totals r old new e is h =
    let there = last-there old e in
    subst (λ (ys : List OrdInt). IfSome r (AreTotals ys)) (sym (is (before_last old) there.0 there.1)) h

pub replaced-totals : (r : Option Totals) (old new : List OrdInt) (a : OrdInt) (gave : Option OrdInt) → (length old == 0) ≡ false
    → ((members : List OrdInt) (last : OrdInt) → old ≡ members ++ last ∷ [] → (new ≡ members ++ a ∷ []) × (gave ≡ Some last))
    → IfSome r (AreTotals (before_last old ++ a ∷ [])) → IfSome r (AreTotals new)
replaced-totals r old new a gave e is h =
    let there = last-there old e in
    subst (λ (ys : List OrdInt). IfSome r (AreTotals ys)) (sym (is (before_last old) there.0 there.1).0) h
