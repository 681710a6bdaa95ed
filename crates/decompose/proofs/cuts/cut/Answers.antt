use Rattle.decompose.proofs.CutLaws.{cut_ok}
use Rattle.decompose.proofs.cuts.cut.Goals as goal

pub returns : goal.returns
returns c = cut_ok c.form_cut.result c.args.core.now c.args.next_var c.form_cut.ensures
