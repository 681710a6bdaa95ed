-- A solution has a value for each name.
use Rattle.std.proofs.Common.{◌≡◌, ℕ, suc, List, [], ◌∷◌, length, refl, sym, ap, ◌∙◌, subst, ℤ}
use Rattle.std.specs.Prelude.{true, IsTrue}
use Rattle.std.proofs.lemmas.Bool.{false≢true, and_parts}
use Rattle.model_meaning.specs.declared.model.Decl.{Decl}
use Rattle.model_meaning.specs.declared.model.Goal.{Goal}
use Rattle.model_meaning.specs.Integers.{is_member}
use Rattle.model_meaning.specs.Domains.{domain, in_domains}
use Rattle.decode_minimize.specs.Heard.{HearsAll}
use Rattle.bee_cli.specs.Progress.{AreOfSolution}

in_domains-length : (ds : List Decl) (a : List ℤ) → in_domains ds a ≡ true → length ds ≡ length a
in_domains-length [] [] h = refl
in_domains-length [] (v ∷ a) h = absurd (false≢true h)
in_domains-length (d ∷ ds) [] h = absurd (false≢true h)
in_domains-length (d ∷ ds) (v ∷ a) h = ap suc (in_domains-length ds a (and_parts (is_member v (domain d.kind)) (in_domains ds a) h).1)

pub as_many : (decls : List Decl) (goal : Goal) (a : List ℤ) → AreOfSolution decls goal a → length decls ≡ length a
as_many decls goal a is = ap length (sym is.decls_are) ∙ in_domains-length is.model.decls a is.solution.in_domains

-- whatever is told of a model is of one of its solutions
pub hears_all : HearsAll AreOfSolution
hears_all model typed limits a solution = record { model = model; typed = typed; limits = limits; decls_are = refl; goal_is = refl; solution = solution }
