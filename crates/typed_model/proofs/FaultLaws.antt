-- The end of a list of arguments.
use Rattle.std.proofs.Common.{◌≡◌, ◌<◌, nat_eq, List, [], ◌∷◌, length, refl, arith}
use Rattle.bumblebee_reader.specs.declared.syntax.Arg.{Arg}
use Rattle.std.proofs.lemmas.Bool.Decides.{nat_tests}
use Rattle.model_meaning.specs.declared.model.Decl.{Decl}
use Rattle.model_meaning.specs.declared.wanted.Wanted.{Wanted}
use Rattle.typed_model.specs.Faults.{fit}

pub fit-end : (ds : List Decl) (ws : List Wanted) (rest : List Arg) → length rest < 1 → nat_eq (length ws) 0 ≡ fit ds ws rest
fit-end ds [] [] h = refl
fit-end ds (w ∷ ws) [] h = grind (arith, nat_tests)
fit-end ds ws (a ∷ rest) h = absurd (omega arith)
