-- What a part of a model weighs.
use Rattle.std.proofs.Common.{◌≡◌, ℕ, zero, suc, ◌+◌, ◌≤◌, Bool, true, false, List, [], ◌∷◌, ◌++◌, map, refl, sym, subst, arith}
use Rattle.std.specs.Prelude.{◌==◌, nat_lt, slice_get, IfSome, if◌then◌else◌}
use Rattle.model_meaning.specs.declared.what.What.{What}
use Rattle.model_meaning.specs.declared.what.What.TheVariants.{BoolToInt}
use Rattle.model_meaning.specs.declared.what.IntTerm.TheVariants.{Of}
use Rattle.model_meaning.specs.declared.model.Kind.{Kind}
use Rattle.model_meaning.specs.declared.model.Decl.{Decl}
use Rattle.model_meaning.specs.declared.model.Stmt.{Stmt}
use Rattle.model_meaning.specs.declared.model.Model.{Model}
use Rattle.model_meaning.specs.WellTyped.{DeclaresPlace, WellTyped}
use Rattle.model_items.specs.Items.{ModelItem, Declaration, Statement, Definition, stmts_before, stmts_from, declared_item, behind_declared, items_of}
use Rattle.model_weight.specs.Weight.{weight_of_declaration, weight_of_item, weight_of_items, weight_of}
use Rattle.model_weight.proofs.ItemSums.{weights-append}
use Rattle.model_parts.specs.Only.{is_listed, chosen, only}
use Rattle.model_parts.specs.CoreWeight.{definitions_at, definitions_in, core_weight}
use Rattle.model_parts.proofs.Chosen.{Rise, fit-rise, rise-less, chosen-rise, from-rises, chosen-from, chosen-before}

definitions-append : (xs ys : List ModelItem) → definitions_in (xs ++ ys) ≡ definitions_in xs + definitions_in ys
definitions-append [] ys = omega arith
definitions-append (x ∷ xs) ys = omega (arith, definitions-append xs ys)

-- a declaration that shares its number with one of the statements weighs no more than 1
abbrev pub LightBeside : Decl → List Stmt → Type 0
LightBeside d [] = Unit {0}
LightBeside d (s ∷ ss) = (d.number ≡ s.number → weight_of_declaration d.kind ≤ 1) × LightBeside d ss

abbrev pub AllLight : List Decl → List Stmt → Type 0
AllLight [] ss = Unit {0}
AllLight (d ∷ ds) ss = LightBeside d ss × AllLight ds ss

declared-light : (ds : List Decl) (d : Decl) (w : What) → DeclaresPlace ds d w → weight_of_declaration d.kind ≤ 1
declared-light ds d (BoolToInt x (Of place)) h = subst (λ (k : Kind). weight_of_declaration k ≤ 1) (sym h.1) (omega arith)
declared-light ds d w h = elim h [ ]

light-beside : (ds : List Decl) (d : Decl) (ss : List Stmt) → ((q : ℕ) → IfSome (slice_get ss q) (λ s. d.number ≡ s.number → DeclaresPlace ds d s.what)) → LightBeside d ss
light-beside ds d [] h = tt
light-beside ds d (s ∷ ss) h = (λ e. declared-light ds d s.what (h zero e), light-beside ds d ss (λ q. h (suc q)))

all-light : (all ds : List Decl) (ss : List Stmt)
    → ((p q : ℕ) → IfSome (slice_get ds p) (λ d. IfSome (slice_get ss q) (λ s. d.number ≡ s.number → DeclaresPlace all d s.what))) → AllLight ds ss
all-light all [] ss h = tt
all-light all (d ∷ ds) ss h = (light-beside all d ss (h zero), all-light all ds ss (λ p. h (suc p)))

light-from : (d : Decl) (n : ℕ) (ss : List Stmt) → LightBeside d ss → LightBeside d (stmts_from n ss)
light-from d n [] h = tt
light-from d n (s ∷ ss) h = by_test (nat_lt s.number n) (light-from d n ss h.1)
  where
    by_test : (b : Bool) → LightBeside d (stmts_from n ss) → LightBeside d (if b then stmts_from n ss else s ∷ ss)
    by_test true k = k
    by_test false k = h

light-behind : (d e : Decl) (ss : List Stmt) → LightBeside d ss → LightBeside d (behind_declared e ss)
light-behind d e [] h = tt
light-behind d e (s ∷ ss) h = by_test (s.number == e.number)
  where
    by_test : (b : Bool) → LightBeside d (if b then ss else s ∷ ss)
    by_test true = h.1
    by_test false = h

rest-light : (ds : List Decl) (e : Decl) (ss : List Stmt) → AllLight ds ss → AllLight ds (behind_declared e (stmts_from e.number ss))
rest-light [] e ss h = tt
rest-light (d ∷ ds) e ss h = (light-behind d e (stmts_from e.number ss) (light-from d e.number ss h.0), rest-light ds e ss h.1)

behind-rises : (d : Decl) (n : ℕ) (ss : List Stmt) → Rise n ss → Rise n (behind_declared d ss)
behind-rises d n [] h = tt
behind-rises d n (s ∷ ss) h = by_test (s.number == d.number)
  where
    by_test : (b : Bool) → Rise n (if b then ss else s ∷ ss)
    by_test true = let l : n ≤ s.number = h.0 in rise-less (s.number + 1) n ss (omega arith) h.1
    by_test false = h

module _ (all : List Decl) (part : List ℕ) where
  statements-weight : (ss : List Stmt) → weight_of_items all (map Statement (chosen part ss)) ≤ weight_of_items all (map Statement ss)
  statements-weight [] = omega arith
  statements-weight (s ∷ ss) = by_test (is_listed s.number part) (statements-weight ss)
    where
      by_test : (b : Bool) → weight_of_items all (map Statement (chosen part ss)) ≤ weight_of_items all (map Statement ss)
          → weight_of_items all (map Statement (if b then s ∷ chosen part ss else chosen part ss)) ≤ weight_of_items all (map Statement (s ∷ ss))
      by_test true k = omega arith
      by_test false k = omega arith

  -- a declaration before statements that ascend from its number on
  record IsLightened (d : Decl) (ss : List Stmt) : Type 0 where
    pub weight : weight_of_item all (declared_item d (chosen part ss)) ≤ weight_of_item all (declared_item d ss) + definitions_at (declared_item d ss)
    pub behind : behind_declared d (chosen part ss) ≡ chosen part (behind_declared d ss)

  record IsAlone (d : Decl) (ss : List Stmt) : Type 0 where
    pub item : declared_item d ss ≡ Declaration d
    pub behind : behind_declared d ss ≡ ss

  alone : (d : Decl) (ss : List Stmt) → Rise (d.number + 1) ss → IsAlone d ss
  alone d [] h = record { item = refl; behind = refl }
  alone d (s ∷ ss) h =
      let l : d.number + 1 ≤ s.number = h.0 in
      let e : (s.number == d.number) ≡ false = grind arith in
      record { item = rw e refl; behind = rw e refl }

  lightened : (d : Decl) (ss : List Stmt) → Rise d.number ss → LightBeside d ss → IsLightened d ss
  lightened d [] r h = record { weight = omega arith; behind = refl }
  lightened d (s ∷ ss) r h = by_tests (is_listed s.number part) (s.number == d.number) refl refl
    where
      same : (x y : ℕ) → (x == y) ≡ true → x ≡ y
      same x y e = grind arith

      rest : Rise (s.number + 1) (chosen part ss)
      rest = chosen-rise part (s.number + 1) ss r.1

      behind-rest : IsAlone d (chosen part ss)
      behind-rest = let l : d.number ≤ s.number = r.0 in alone d (chosen part ss) (rise-less (s.number + 1) (d.number + 1) (chosen part ss) (omega arith) rest)

      Lightened : (t : Bool) → List Stmt → Type 0
      Lightened t ks =
          (weight_of_item all (declared_item d ks) ≤ weight_of_item all (if t then Definition d s else Declaration d) + definitions_at (if t then Definition d s else Declaration d))
          × (behind_declared d ks ≡ chosen part (if t then ss else s ∷ ss))

      by_tests : (b t : Bool) → is_listed s.number part ≡ b → (s.number == d.number) ≡ t → IsLightened d (s ∷ ss)
      by_tests true true e f = record { weight = rw (e, f) (omega arith); behind = rw (e, f) refl }
      by_tests true false e f = record { weight = rw (e, f) (omega arith); behind = rw (e, f, e) refl }
      by_tests false true e f =
          let light : weight_of_declaration d.kind ≤ 1 = h.0 (sym (same s.number d.number f)) in
          record { weight = rw (e, f, behind-rest.item) light; behind = rw (e, f) behind-rest.behind }
      by_tests false false e f = record { weight = rw (e, f, behind-rest.item) (omega arith); behind = rw (e, f, e) behind-rest.behind }

  -- one declaration more, and the statements before it
  weight-step : (n : ℕ) (d : Decl) (ds : List Decl) (ss : List Stmt) → Rise n ss → AllLight (d ∷ ds) ss
      → weight_of_items all (items_of ds (chosen part (behind_declared d (stmts_from d.number ss))))
      ≤ weight_of_items all (items_of ds (behind_declared d (stmts_from d.number ss))) + definitions_in (items_of ds (behind_declared d (stmts_from d.number ss)))
      → weight_of_items all (items_of (d ∷ ds) (chosen part ss)) ≤ weight_of_items all (items_of (d ∷ ds) ss) + definitions_in (items_of (d ∷ ds) ss)
  weight-step n d ds ss r h more =
      let before : List Stmt = stmts_before d.number ss in
      let from : List Stmt = stmts_from d.number ss in
      let left : List Stmt = behind_declared d from in
      let light : IsLightened d from = lightened d from (from-rises n d.number ss r) (light-from d d.number ss h.0) in
      rw (chosen-before part n d.number ss r, chosen-from part n d.number ss r, light.behind)
      (sums
      (weight_of_items all (map Statement (chosen part before))) (weight_of_items all (map Statement before))
      (weight_of_item all (declared_item d (chosen part from))) (weight_of_item all (declared_item d from)) (definitions_at (declared_item d from))
      (weight_of_items all (items_of ds (chosen part left))) (weight_of_items all (items_of ds left)) (definitions_in (items_of ds left))
      (definitions_in (map Statement before))
      (weight_of_items all (map Statement (chosen part before) ++ (declared_item d (chosen part from) ∷ items_of ds (chosen part left))))
      (weight_of_items all (map Statement before ++ (declared_item d from ∷ items_of ds left)))
      (definitions_in (map Statement before ++ (declared_item d from ∷ items_of ds left)))
      (weights-append all (map Statement (chosen part before)) (declared_item d (chosen part from) ∷ items_of ds (chosen part left)))
      (weights-append all (map Statement before) (declared_item d from ∷ items_of ds left))
      (definitions-append (map Statement before) (declared_item d from ∷ items_of ds left))
      (statements-weight before) light.weight more)
    where
      sums : (bc b ic i t rc r u v whole_c whole defs : ℕ) → whole_c ≡ bc + (ic + rc) → whole ≡ b + (i + r) → defs ≡ v + (t + u) → bc ≤ b → ic ≤ i + t → rc ≤ r + u → whole_c ≤ whole + defs
      sums bc b ic i t rc r u v whole_c whole defs p q s x y z = omega (arith, p, q, s, x, y, z)

  pub chosen-weight : (n : ℕ) (ds : List Decl) (ss : List Stmt) → Rise n ss → AllLight ds ss
      → weight_of_items all (items_of ds (chosen part ss)) ≤ weight_of_items all (items_of ds ss) + definitions_in (items_of ds ss)
  chosen-weight n [] ss r h = let k = statements-weight ss in omega arith
  chosen-weight n (d ∷ ds) ss r h =
      weight-step n d ds ss r h
      (chosen-weight d.number ds (behind_declared d (stmts_from d.number ss)) (behind-rises d d.number (stmts_from d.number ss) (from-rises n d.number ss r)) (rest-light ds d ss h.1))

pub only-weight : (model : Model) (part : List ℕ) → WellTyped model → weight_of (only model part) ≤ core_weight model
only-weight model part h =
    chosen-weight model.decls part 1 model.decls model.stmts (fit-rise model.decls 1 model.stmts h.stmts) (all-light model.decls model.decls model.stmts h.shares)
