-- Statements that are divided by marks, and put together again.
use Rattle.std.proofs.Common.{◌≡◌, ℕ, ◌+◌, ◌≤◌, Bool, true, false, List, [], ◌∷◌, map, Result, Ok, Err, refl, ap, sym, ◌∙◌, arith}
use Rattle.std.specs.Prelude.{◌==◌, not, IfOk, if◌then◌else◌}
use Rattle.std.specs.declared.alloc.AllocError.{AllocError}
use Rattle.model_meaning.specs.declared.model.Stmt.{Stmt}
use Rattle.model_meaning.specs.declared.model.Model.{Model}
use Rattle.model_meaning.specs.WellTyped.{WellTyped}
use Rattle.model_parts.specs.declared.divided.DividedModel.{DividedModel}
use Rattle.model_parts.specs.Only.{is_listed, numbers_of, chosen, only}
use Rattle.model_parts.specs.Sides.{kept_of, left_of, woven, IsDivided, IsMoved}
use Rattle.model_parts.proofs.Chosen.{Rise, fit-rise}

none : (ms : List Bool) → woven ms [] [] ≡ []
none [] = refl
none (true ∷ ms) = none ms
none (false ∷ ms) = none ms

pub woven-sides : (marks : List Bool) (ss : List Stmt) → woven marks (kept_of marks ss) (left_of marks ss) ≡ ss
woven-sides [] ss = refl
woven-sides (true ∷ ms) [] = none ms
woven-sides (false ∷ ms) [] = none ms
woven-sides (true ∷ ms) (s ∷ ss) = ap (λ (ts : List Stmt). s ∷ ts) (woven-sides ms ss)
woven-sides (false ∷ ms) (s ∷ ss) = ap (λ (ts : List Stmt). s ∷ ts) (woven-sides ms ss)

pub marked-chosen : (part : List ℕ) (ss : List Stmt) → kept_of (map (λ (s : Stmt). not (is_listed s.number part)) ss) ss ≡ chosen part ss
marked-chosen part [] = refl
marked-chosen part (s ∷ ss) = by_test (is_listed s.number part) (marked-chosen part ss)
  where
    by_test : (b : Bool) → kept_of (map (λ (s : Stmt). not (is_listed s.number part)) ss) ss ≡ chosen part ss
        → kept_of (not b ∷ map (λ (s : Stmt). not (is_listed s.number part)) ss) (s ∷ ss) ≡ (if b then s ∷ chosen part ss else chosen part ss)
    by_test true e = ap (λ (ts : List Stmt). s ∷ ts) e
    by_test false e = e

-- Those that are kept are those whose numbers they have.

unlisted-all : (n m : ℕ) (ss : List Stmt) → n + 1 ≤ m → Rise m ss → is_listed n (numbers_of ss) ≡ false
unlisted-all n m [] l r = refl
unlisted-all n m (s ∷ ss) l r =
    let k : m ≤ s.number = r.0 in
    let e : (n == s.number) ≡ false = grind arith in
    rw e (unlisted-all n (s.number + 1) ss (omega arith) r.1)

unlisted-kept : (n m : ℕ) (marks : List Bool) (ss : List Stmt) → n + 1 ≤ m → Rise m ss → is_listed n (numbers_of (kept_of marks ss)) ≡ false
unlisted-kept n m [] ss l r = unlisted-all n m ss l r
unlisted-kept n m (b ∷ ms) [] l r = refl
unlisted-kept n m (false ∷ ms) (s ∷ ss) l r =
    let k : m ≤ s.number = r.0 in
    let e : (n == s.number) ≡ false = grind arith in
    rw e (unlisted-kept n (s.number + 1) ms ss (omega arith) r.1)
unlisted-kept n m (true ∷ ms) (s ∷ ss) l r = let k : m ≤ s.number = r.0 in unlisted-kept n (s.number + 1) ms ss (omega arith) r.1

-- a number in front that none of the statements has changes nothing
chosen-beyond : (n m : ℕ) (part : List ℕ) (ss : List Stmt) → n + 1 ≤ m → Rise m ss → chosen (n ∷ part) ss ≡ chosen part ss
chosen-beyond n m part [] l r = refl
chosen-beyond n m part (s ∷ ss) l r =
    let k : m ≤ s.number = r.0 in
    let e : (s.number == n) ≡ false = grind arith in
    rw (e, chosen-beyond n (s.number + 1) part ss (omega arith) r.1) refl

chosen-first : (m : ℕ) (s : Stmt) (ks ss : List Stmt) → Rise m (s ∷ ss) → chosen (numbers_of ks) ss ≡ ks → chosen (numbers_of (s ∷ ks)) (s ∷ ss) ≡ s ∷ ks
chosen-first m s ks ss r h =
    let e : (s.number == s.number) ≡ true = grind arith in
    rw (e, chosen-beyond s.number (s.number + 1) (numbers_of ks) ss (omega arith) r.1) (ap (λ (ts : List Stmt). s ∷ ts) h)

chosen-all : (m : ℕ) (ss : List Stmt) → Rise m ss → chosen (numbers_of ss) ss ≡ ss
chosen-all m [] r = refl
chosen-all m (s ∷ ss) r = chosen-first m s ss ss r (chosen-all (s.number + 1) ss r.1)

pub kept-chosen : (m : ℕ) (marks : List Bool) (ss : List Stmt) → Rise m ss → chosen (numbers_of (kept_of marks ss)) ss ≡ kept_of marks ss
kept-chosen m [] ss r = chosen-all m ss r
kept-chosen m (b ∷ ms) [] r = refl
kept-chosen m (false ∷ ms) (s ∷ ss) r = chosen-first m s (kept_of ms ss) ss r (kept-chosen (s.number + 1) ms ss r.1)
kept-chosen m (true ∷ ms) (s ∷ ss) r =
    rw (unlisted-kept s.number (s.number + 1) ms ss (omega arith) r.1) (kept-chosen (s.number + 1) ms ss r.1)

model-same : (a b : Model) → a.decls ≡ b.decls → a.stmts ≡ b.stmts → a.goal ≡ b.goal → a ≡ b
model-same a b d s g = λ i. record { decls = d i; stmts = s i; goal = g i }

pub part-only : (model : Model) (d : DividedModel) → WellTyped model → IsDivided model d → d.part ≡ only model (numbers_of d.part.stmts)
part-only model d typed h =
    let kept : chosen (numbers_of d.part.stmts) model.stmts ≡ d.part.stmts =
    rw h.kept (kept-chosen 1 d.out.items model.stmts (fit-rise model.decls 1 model.stmts typed.stmts)) in
    model-same d.part (only model (numbers_of d.part.stmts)) h.decls (sym kept) h.goal

pub marked-only : (model : Model) (d : DividedModel) (part : List ℕ)
    → d.out.items ≡ map (λ (s : Stmt). not (is_listed s.number part)) model.stmts → IsDivided model d → d.part ≡ only model part
marked-only model d part e h =
    model-same d.part (only model part) h.decls (h.kept ∙ (ap (λ (ms : List Bool). kept_of ms model.stmts) e ∙ marked-chosen part model.stmts)) h.goal

pub moved-divided : (model : Model) (old : DividedModel) (out : List Bool) (r : Result DividedModel AllocError) → IfOk r (IsMoved old out) → IsDivided model old → IfOk r (IsDivided model)
moved-divided model old out (Err e) moved h = tt
moved-divided model old out (Ok d) moved h =
    let whole : woven old.out.items old.part.stmts old.left.items ≡ model.stmts = rw (h.kept, h.left) (woven-sides old.out.items model.stmts) in
    record {
      decls = moved.decls ∙ h.decls;
      goal = moved.goal ∙ h.goal;
      kept = moved.kept ∙ (ap (kept_of out) whole ∙ ap (λ (ms : List Bool). kept_of ms model.stmts) (sym moved.out));
      left = moved.left ∙ (ap (left_of out) whole ∙ ap (λ (ms : List Bool). left_of ms model.stmts) (sym moved.out));
    }
