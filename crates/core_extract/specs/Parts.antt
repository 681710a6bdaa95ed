-- A divided model, its parts by marks, and what is asked of a part.
use Rattle.std.specs.Prelude.{◌≡◌, ℕ, zero, suc, Bool, true, false, List, [], ◌∷◌, IsTrue}
use Rattle.model_meaning.specs.declared.model.Goal.TheVariants.{Satisfy}
use Rattle.model_meaning.specs.declared.model.Stmt.{Stmt}
use Rattle.model_meaning.specs.declared.model.Model.{Model}
use Rattle.model_meaning.specs.declared.model.Assignment.{Assignment}
use Rattle.model_meaning.specs.Domains.{in_domains}
use Rattle.model_meaning.specs.Solutions.{AllHold}
use Rattle.model_meaning.specs.Limits.{InLimits}
use Rattle.model_meaning.specs.WellTyped.{WellTyped}
use Rattle.model_parts.specs.declared.divided.DividedModel.{DividedModel}
use Rattle.model_parts.specs.Only.{all_but}
use Rattle.model_parts.specs.Sides.{kept_of, woven, IsDivided}

-- a model for which any solution serves
abbrev pub satisfying : Model → Model
satisfying model = record { decls = model.decls; stmts = model.stmts; goal = Satisfy }

-- the model that is divided; any solution serves
abbrev pub whole_of : DividedModel → Model
whole_of d = record {
  decls = d.part.decls;
  stmts = woven d.out.items d.part.stmts d.left.items;
  goal = Satisfy;
}

-- the part by marks, one for each place
abbrev pub part_of : Model → List Bool → Model
part_of model out = record { decls = model.decls; stmts = kept_of out model.stmts; goal = Satisfy }

-- a divided model of which queries may be made
pub record IsFit (d : DividedModel) : Type 0 where
  pub divided : IsDivided (whole_of d) d
  pub typed : WellTyped (whole_of d)
  pub limits : InLimits (whole_of d)

-- it was divided by other marks
pub record IsAnew (old : DividedModel) (marks : List Bool) (d : DividedModel) : Type 0 where
  pub fit : IsFit d
  pub whole : whole_of d ≡ whole_of old
  pub out : d.out.items ≡ marks

-- an assignment in the domains meets all statements but that of a number
pub record MeetsOthers (part : Model) (n : ℕ) (a : Assignment) : Type 0 where
  pub in_domains : IsTrue (in_domains part.decls a.values)
  pub others : AllHold a.values (all_but n part.stmts)

-- each of these numbers has such an assignment
abbrev pub AreFound : Model → List ℕ → List Assignment → Type 0
AreFound part [] [] = Unit {0}
AreFound part [] (a ∷ given) = ⊥
AreFound part (n ∷ ns) [] = ⊥
AreFound part (n ∷ ns) (a ∷ given) = MeetsOthers part n a × AreFound part ns given

-- the numbers of the statements that are kept among so many at the front
abbrev pub numbers_before : ℕ → List Bool → List Stmt → List ℕ
numbers_before zero out ss = []
numbers_before (suc i) out [] = []
numbers_before (suc i) [] (s ∷ ss) = s.number ∷ numbers_before i [] ss
numbers_before (suc i) (true ∷ ms) (s ∷ ss) = numbers_before i ms ss
numbers_before (suc i) (false ∷ ms) (s ∷ ss) = s.number ∷ numbers_before i ms ss
