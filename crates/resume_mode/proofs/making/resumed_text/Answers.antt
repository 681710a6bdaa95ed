use Rattle.std.proofs.Common.{List, sym, subst}
use Rattle.model_meaning.specs.declared.model.Decl.{Decl}
use Rattle.model_meaning.specs.Limits.{DeclsInLimit}
use Rattle.model_texts.proofs.ModelShapes.{limited}
use Rattle.resume_mode.proofs.making.resumed_text.Goals as goal

pub read_wish-requires : goal.read_wish-requires
read_wish-requires g c = subst DeclsInLimit (sym c.as_slice.ensures) (limited c.requires.held.0 c.args.model c.requires.held.1.within c.requires.held.1.says).0
