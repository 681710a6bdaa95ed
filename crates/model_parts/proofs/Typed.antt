-- A model with a part of its statements is well typed and in the limits.
use Rattle.std.proofs.Common.{◌≡◌, ℕ, zero, suc, ◌+◌, ◌≤◌, Bool, true, false, List, [], ◌∷◌, Option, Some, None, refl, subst, arith}
use Rattle.std.specs.Prelude.{slice_get, IfSome, if◌then◌else◌}
use Rattle.model_meaning.specs.declared.model.Decl.{Decl}
use Rattle.model_meaning.specs.declared.model.Stmt.{Stmt}
use Rattle.model_meaning.specs.declared.model.Model.{Model}
use Rattle.model_meaning.specs.Limits.{StmtsInLimit, InLimits}
use Rattle.model_meaning.specs.WellTyped.{StmtsFit, DeclaresPlace, SharesFit, WellTyped}
use Rattle.model_parts.specs.Only.{is_listed, chosen, only}

fit-less : (ds : List Decl) (m n : ℕ) (ss : List Stmt) → StmtsFit ds m ss → n ≤ m → StmtsFit ds n ss
fit-less ds m n [] h l = tt
fit-less ds m n (s ∷ ss) h l = let k : m ≤ s.number = h.0 in (omega arith, h.1)

pub chosen-fit : (ds : List Decl) (part : List ℕ) (n : ℕ) (ss : List Stmt) → StmtsFit ds n ss → StmtsFit ds n (chosen part ss)
chosen-fit ds part n [] h = tt
chosen-fit ds part n (s ∷ ss) h = by_test (is_listed s.number part) (chosen-fit ds part (s.number + 1) ss h.1.1)
  where
    by_test : (b : Bool) → StmtsFit ds (s.number + 1) (chosen part ss) → StmtsFit ds n (if b then s ∷ chosen part ss else chosen part ss)
    by_test true k = (h.0, (h.1.0, k))
    by_test false k = let l : n ≤ s.number = h.0 in fit-less ds (s.number + 1) n (chosen part ss) k (omega arith)

pub chosen-limit : (part : List ℕ) (ss : List Stmt) → StmtsInLimit ss → StmtsInLimit (chosen part ss)
chosen-limit part [] h = tt
chosen-limit part (s ∷ ss) h = by_test (is_listed s.number part) (chosen-limit part ss h.1)
  where
    by_test : (b : Bool) → StmtsInLimit (chosen part ss) → StmtsInLimit (if b then s ∷ chosen part ss else chosen part ss)
    by_test true k = (h.0, k)
    by_test false k = k

-- each chosen statement stands somewhere among all
chosen-place : (part : List ℕ) (ss : List Stmt) (q : ℕ) (s : Stmt) → slice_get (chosen part ss) q ≡ Some s → (r : ℕ) × (slice_get ss r ≡ Some s)
chosen-place part [] q s e = (q, e)
chosen-place part (t ∷ ss) q s e = by_test (is_listed t.number part) (λ q f. chosen-place part ss q s f) q e
  where
    behind : (r : ℕ) × (slice_get ss r ≡ Some s) → (r : ℕ) × (slice_get (t ∷ ss) r ≡ Some s)
    behind (r, f) = (suc r, f)

    by_test : (b : Bool) → ((q : ℕ) → slice_get (chosen part ss) q ≡ Some s → (r : ℕ) × (slice_get ss r ≡ Some s))
        → (q : ℕ) → slice_get (if b then t ∷ chosen part ss else chosen part ss) q ≡ Some s → (r : ℕ) × (slice_get (t ∷ ss) r ≡ Some s)
    by_test true rest zero f = (zero, f)
    by_test true rest (suc q) f = behind (rest q f)
    by_test false rest q f = behind (rest q f)

module _ (ds : List Decl) where
  abbrev SharedAt : Option Decl → Option Stmt → Type 0
  SharedAt d s = IfSome d (λ d. IfSome s (λ s. d.number ≡ s.number → DeclaresPlace ds d s.what))

  no-stmt : (d : Option Decl) → SharedAt d None
  no-stmt None = tt
  no-stmt (Some d) = tt

  pub chosen-shares : (part : List ℕ) (ss : List Stmt) → SharesFit ds ss → SharesFit ds (chosen part ss)
  chosen-shares part ss h p q = by_place (slice_get (chosen part ss) q) refl
    where
      by_place : (o : Option Stmt) → slice_get (chosen part ss) q ≡ o → SharedAt (slice_get ds p) o
      by_place None e = no-stmt (slice_get ds p)
      by_place (Some s) e =
          let at = chosen-place part ss q s e in
          subst (λ (o : Option Stmt). SharedAt (slice_get ds p) o) at.1 (h p at.0)

pub only-typed : (model : Model) (part : List ℕ) → WellTyped model → WellTyped (only model part)
only-typed model part h = record {
  decls = h.decls;
  stmts = chosen-fit model.decls part 1 model.stmts h.stmts;
  shares = chosen-shares model.decls part model.stmts h.shares;
  goal = tt;
}

pub only-limits : (model : Model) (part : List ℕ) → InLimits model → InLimits (only model part)
only-limits model part h = (h.0, chosen-limit part model.stmts h.1)
