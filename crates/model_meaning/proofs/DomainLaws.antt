-- Which numbers are in a domain.
use Rattle.std.proofs.Common.{◌≡◌, ℕ, zero, suc, ◌-◌, ◌<◌, ◌≤◌, nat_eq, length, ◌⊎◌, ℤ, pos, negsuc, ◌+ℤ◌, ◌-ℤ◌, ◌≤ℤ◌, ◌<ℤ◌, Bool, true, false, ◌&&◌, ◌||◌, List, [], ◌∷◌, arith, inl, inr, refl, ap, subst, ◌∙◌}
use Rattle.std.specs.Prelude.{int_le, int_lt}
use Rattle.std.specs.Bool.{Decides}
use Rattle.std.specs.List.{list_any}
use Rattle.std.specs.Ordering.{int_eq}
use Rattle.std.proofs.lemmas.Bool.{false≢true, and_parts}
use Rattle.std.proofs.lemmas.Bool.Decides.{nat_tests, Decides-int_eq, Decides-or, Decides-and, Decides-like, same_from_decides}
use Rattle.std.proofs.lemmas.Int.{ints, by_lt_z}
use Rattle.model_meaning.specs.Integers.{is_member}
use Rattle.model_meaning.specs.Domains.{numbers_from, at_least_zero, domain, in_domains}
use Rattle.model_meaning.specs.Limits.{InLimit, AllInLimit, KindInLimit, DeclsInLimit}
use Rattle.model_meaning.specs.declared.model.Decl.{Decl}
use Rattle.model_meaning.specs.declared.model.Kind.{Kind}
use Rattle.model_meaning.specs.declared.model.Kind.TheVariants as kind

pub Decides-int_le : (a b : ℤ) → Decides (int_le a b) (a ≤ℤ b)
Decides-int_le a b = (λ e. grind (arith, ints), λ h. grind (arith, ints))

pub Decides-int_lt : (a b : ℤ) → Decides (int_lt a b) (a <ℤ b)
Decides-int_lt a b = (λ e. grind (arith, ints), λ h. grind (arith, ints))

to_range : (low v : ℤ) (n : ℕ) → (low ≡ v) ⊎ (((low +ℤ pos 1) ≤ℤ v) × (v <ℤ (low +ℤ pos 1 +ℤ pos n))) → (low ≤ℤ v) × (v <ℤ (low +ℤ pos (suc n)))
to_range low v n (inl e) = (omega (arith, ints, e), omega (arith, ints, e))
to_range low v n (inr h) = (omega (arith, ints, h.0), omega (arith, ints, h.1))

from_range : (low v : ℤ) (n : ℕ) → (low ≤ℤ v) × (v <ℤ (low +ℤ pos (suc n))) → (low ≡ v) ⊎ (((low +ℤ pos 1) ≤ℤ v) × (v <ℤ (low +ℤ pos 1 +ℤ pos n)))
from_range low v n h = by_lt_z low v (λ l. inr (omega (arith, ints, l), omega (arith, ints, h.1))) (λ l. inl (omega (arith, ints, l, h.0)))

pub is_member-numbers_from : (n : ℕ) (low v : ℤ) → Decides (is_member v (numbers_from n low)) ((low ≤ℤ v) × (v <ℤ (low +ℤ pos n)))
is_member-numbers_from zero low v = (λ e. absurd (false≢true e), λ h. absurd (omega (arith, ints, h.0, h.1)))
is_member-numbers_from (suc n) low v =
    Decides-like _ (to_range low v n) (from_range low v n) (Decides-or (int_eq low v) _ (Decides-int_eq low v) (is_member-numbers_from n (low +ℤ pos 1) v))

to_bounds : (z low high v : ℤ) → z ≡ high -ℤ low +ℤ pos 1 → (low ≤ℤ v) × (v <ℤ (low +ℤ pos (at_least_zero z))) → (low ≤ℤ v) × (v ≤ℤ high)
to_bounds (pos n) low high v e h = (h.0, omega (arith, ints, e, h.1))
to_bounds (negsuc n) low high v e h = (h.0, absurd (omega (arith, ints, h.0, h.1)))

from_bounds : (z low high v : ℤ) → z ≡ high -ℤ low +ℤ pos 1 → (low ≤ℤ v) × (v ≤ℤ high) → (low ≤ℤ v) × (v <ℤ (low +ℤ pos (at_least_zero z)))
from_bounds (pos n) low high v e h = (h.0, omega (arith, ints, e, h.1))
from_bounds (negsuc n) low high v e h = (h.0, absurd (omega (arith, ints, e, h.0, h.1)))

-- a number is from low to high where it is in that domain
pub Decides-domain : (low high v : ℤ) → Decides (is_member v (domain (kind.Range low high))) ((low ≤ℤ v) × (v ≤ℤ high))
unfolding domain
Decides-domain low high v = Decides-like _ (to_bounds _ low high v refl) (from_bounds _ low high v refl) (is_member-numbers_from _ low v)

pub is_member-int : (low high v : ℤ) → (int_le low v && int_le v high) ≡ is_member v (domain (kind.Range low high))
is_member-int low high v = same_from_decides _ _ (Decides-and _ _ (Decides-int_le low v) (Decides-int_le v high)) (Decides-domain low high v)

pub is_member-bool : (v : ℤ) → (int_le (pos 0) v && int_le v (pos 1)) ≡ is_member v (domain kind.Bool)
unfolding domain
is_member-bool v = same_from_decides _ _ (Decides-and _ _ (Decides-int_le (pos 0) v) (Decides-int_le v (pos 1))) (Decides-like _ (λ h. (h.0, omega (arith, ints, h.1))) (λ h. (h.0, omega (arith, ints, h.1))) (is_member-numbers_from 2 (pos 0) v))

-- a listed domain has the values that some test of the list finds
pub is_member-listed : (vs : List ℤ) (v : ℤ) → list_any (λ w. int_eq w v) vs ≡ is_member v (domain (kind.Listed vs))
unfolding domain
is_member-listed vs v = among vs
  where
    among : (vs : List ℤ) → list_any (λ w. int_eq w v) vs ≡ is_member v vs
    among [] = refl
    among (w ∷ vs) = ap (λ b. int_eq w v || b) (among vs)

pub ruleset domains = (is_member-int, is_member-bool, is_member-listed)

-- The end of two lists that go along with each other.
pub in_domains-values_end : (ds : List Decl) (vs : List ℤ) → 0 < length ds → length vs ≡ 0 → in_domains ds vs ≡ false
in_domains-values_end [] vs h k = absurd (omega arith)
in_domains-values_end (d ∷ ds) [] h k = refl
in_domains-values_end (d ∷ ds) (v ∷ vs) h k = absurd (omega arith)

pub in_domains-decls_end : (ds : List Decl) (vs : List ℤ) (m n : ℕ) → length ds ≡ 0 → length vs ≡ n - m → m ≤ n → nat_eq m n ≡ in_domains ds vs
in_domains-decls_end [] [] m n h k l = grind (arith, nat_tests)
in_domains-decls_end [] (v ∷ vs) m n h k l = grind (arith, nat_tests)
in_domains-decls_end (d ∷ ds) vs m n h k l = absurd (omega arith)

-- Where the bounds of the domains are in the limit, so are the values.
InLimit-member : (vs : List ℤ) (v : ℤ) → AllInLimit vs → is_member v vs ≡ true → InLimit v
InLimit-member [] v h e = absurd (false≢true e)
InLimit-member (w ∷ vs) v h e = by (int_eq w v) refl e (InLimit-member vs v (λ k. h (suc k)))
  where
    by : (b : Bool) → int_eq w v ≡ b → (b || is_member v vs) ≡ true → (is_member v vs ≡ true → InLimit v) → InLimit v
    by true same f rest = let P : ℤ → Type 0 = λ z. InLimit z in subst P ((Decides-int_eq w v).0 same) (h 0)
    by false same f rest = rest f

InLimit-listed : (vs : List ℤ) (v : ℤ) → AllInLimit vs → is_member v (domain (kind.Listed vs)) ≡ true → InLimit v
unfolding domain
InLimit-listed vs v h e = InLimit-member vs v h e

InLimit-domain : (k : Kind) (v : ℤ) → KindInLimit k → is_member v (domain k) ≡ true → InLimit v
InLimit-domain kind.Bool v h e =
    let b : (pos 0 ≤ℤ v) × (v ≤ℤ pos 1) = (Decides-and _ _ (Decides-int_le (pos 0) v) (Decides-int_le v (pos 1))).0 (is_member-bool v ∙ e) in
    omega (arith, ints, b.0, b.1)
InLimit-domain (kind.Range low high) v h e =
    let b : (low ≤ℤ v) × (v ≤ℤ high) = (Decides-domain low high v).0 e in
    omega (arith, ints, b.0, b.1, h.0, h.1)
InLimit-domain (kind.Listed values) v h e = InLimit-listed values v h.0 e

pub AllInLimit-in_domains : (ds : List Decl) (vs : List ℤ) → DeclsInLimit ds → in_domains ds vs ≡ true → AllInLimit vs
AllInLimit-in_domains [] [] h e k = omega arith
AllInLimit-in_domains [] (v ∷ vs) h e k = absurd (false≢true e)
AllInLimit-in_domains (d ∷ ds) [] h e k = absurd (false≢true e)
AllInLimit-in_domains (d ∷ ds) (v ∷ vs) h e zero = InLimit-domain d.kind v h.0 (and_parts _ _ e).0
AllInLimit-in_domains (d ∷ ds) (v ∷ vs) h e (suc k) = AllInLimit-in_domains ds vs h.1 (and_parts (is_member v (domain d.kind)) _ e).1 k
