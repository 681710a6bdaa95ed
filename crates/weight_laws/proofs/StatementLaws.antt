-- The laws of a statement's size, by the entries of declarations.
use Rattle.weight_laws.specs.StatementLaws.{StatementSizeLaw, StatementExactLaw}
use Rattle.weight_laws.proofs.Integers.{entries-fit}
use Rattle.weight_laws.proofs.Statements.{statement-size}
use Rattle.weight_laws.proofs.ExactStatements.{statement-same}

pub statement-sizes : StatementSizeLaw
statement-sizes vars m n ds more entries w h fit = statement-size vars ds more entries (entries-fit m ds entries h) n w fit

pub statements-exact : StatementExactLaw
statements-exact vars m n ds more entries w h fit none = statement-same vars n ds more entries (entries-fit m ds entries h) w fit none
