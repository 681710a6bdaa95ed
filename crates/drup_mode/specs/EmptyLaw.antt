-- What comes of an empty proof.
use Rattle.std.specs.Prelude.{◌≡◌, []}
use Rattle.order_ints.specs.declared.cnf.Cnf.{Cnf}
use Rattle.sat_front.specs.HeldCnfs.{HoldsCnf}
use Rattle.drup_check.specs.DrupLines.{ShowEmpty}
use Rattle.text_modes.specs.TwoTexts.{Texts}
use Rattle.text_modes.specs.declared.ends.Outcome.TheVariants.{Done, Refused}
use Rattle.text_modes.specs.declared.ends.End.TheVariants.{Wrote}
use Rattle.drup_mode.specs.DrupMode.{HaveEnd}

-- an empty proof is valid where the clauses of the CNF show the empty one, and else it is refused at line 1
pub record EmptyEnds (texts : Texts) (cnf : Cnf) : Type 0 where
  pub valid : ShowEmpty cnf.clauses → HaveEnd texts (Wrote Done)
  pub refused : (ShowEmpty cnf.clauses → ⊥) → HaveEnd texts (Wrote (Refused 1))

-- so it is where the second text is empty, as it is where it has the name of the first
abbrev pub EmptyShows : Type 0
EmptyShows = (texts : Texts) (cnf : Cnf) → HoldsCnf texts.first cnf → texts.second ≡ [] → EmptyEnds texts cnf
