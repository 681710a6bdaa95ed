-- Which statements of a part hold.
use Rattle.std.proofs.Common.{◌≡◌, ◌↔◌, ℕ, ℤ, Bool, true, false, List, [], ◌∷◌, refl, arith}
use Rattle.std.specs.Prelude.{◌==◌, IsTrue, IsFalse, if◌then◌else◌}
use Rattle.model_meaning.specs.declared.model.Stmt.{Stmt}
use Rattle.model_meaning.specs.declared.model.Model.{Model}
use Rattle.model_meaning.specs.Domains.{in_domains}
use Rattle.model_meaning.specs.Holds.{Holds}
use Rattle.model_meaning.specs.Solutions.{AllHold, IsSolution}
use Rattle.model_parts.specs.Only.{is_listed, chosen, only, all_but}
use Rattle.model_parts.specs.PartLaws.{ChosenHold, IsWithin}

pub all-chosen : (part : List ℕ) (a : List ℤ) (ss : List Stmt) → AllHold a (chosen part ss) ↔ ChosenHold part a ss
all-chosen part a [] = (λ h. tt, λ h. tt)
all-chosen part a (s ∷ ss) = by_test (is_listed s.number part) (all-chosen part a ss)
  where
    by_test : (b : Bool) → AllHold a (chosen part ss) ↔ ChosenHold part a ss
        → AllHold a (if b then s ∷ chosen part ss else chosen part ss) ↔ ((IsTrue b → Holds a s.what) × ChosenHold part a ss)
    by_test true k = (λ h. (λ _. h.0, k.0 h.1), λ h. (h.0 refl, k.1 h.1))
    by_test false k = (λ h. (λ e. absurd (cc), k.0 h), λ h. k.1 h.1)

pub only-solutions : (model : Model) (part : List ℕ) (a : List ℤ) → IsSolution (only model part) a ↔ (IsTrue (in_domains model.decls a) × ChosenHold part a model.stmts)
only-solutions model part a = (
  λ h. (h.in_domains, (all-chosen part a model.stmts).0 h.holds),
  λ h. record { in_domains = h.0; holds = (all-chosen part a model.stmts).1 h.1 },
)

pub fewer-hold : (part fewer : List ℕ) (a : List ℤ) (ss : List Stmt) → IsWithin fewer part → ChosenHold part a ss → ChosenHold fewer a ss
fewer-hold part fewer a [] w h = tt
fewer-hold part fewer a (s ∷ ss) w h = (λ e. h.0 (w s.number e), fewer-hold part fewer a ss w h.1)

pub others-hold : (part fewer : List ℕ) (n : ℕ) (a : List ℤ) (ss : List Stmt) → IsWithin fewer part → IsFalse (is_listed n fewer)
    → AllHold a (all_but n (chosen part ss)) → ChosenHold fewer a ss
others-hold part fewer n a [] w lacks h = tt
others-hold part fewer n a (s ∷ ss) w lacks h = by_test (is_listed s.number part) (s.number == n) refl refl (others-hold part fewer n a ss w lacks) h
  where
    same : (x y : ℕ) → (x == y) ≡ true → x ≡ y
    same x y e = grind arith

    lacking : (x : ℕ) → x ≡ n → IsTrue (is_listed x fewer) → Holds a s.what
    lacking x e listed = let f : is_listed n fewer ≡ true = rw e at listed in absurd (cc)

    by_test : (b t : Bool) → is_listed s.number part ≡ b → (s.number == n) ≡ t → (AllHold a (all_but n (chosen part ss)) → ChosenHold fewer a ss)
        → AllHold a (all_but n (if b then s ∷ chosen part ss else chosen part ss)) → ChosenHold fewer a (s ∷ ss)
    by_test true true e f rest k = (lacking s.number (same s.number n f), rest (rw f at k))
    by_test true false e f rest k =
        let both : Holds a s.what × AllHold a (all_but n (chosen part ss)) = rw f at k in
        (λ listed. both.0, rest both.1)
    by_test false t e f rest k = (λ listed. let g : is_listed s.number part ≡ true = w s.number listed in absurd (cc), rest k)
