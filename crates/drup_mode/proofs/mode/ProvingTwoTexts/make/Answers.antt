use Rattle.std.proofs.lemmas.Result.{IfOk-weaker}
use Rattle.sat_front.proofs.Reading.{read_in_range, read_in_order}
use Rattle.drup_mode.proofs.Ends.{given_text}
use Rattle.drup_mode.proofs.mode.ProvingTwoTexts.make.Goals as goal

pub check_text-requires-clause-few : goal.check_text-requires-clause-few
check_text-requires-clause-few c = (read_in_range c.requires.0 c.args.held c.requires.1.is).1

pub check_text-requires-clause-in_range : goal.check_text-requires-clause-in_range
check_text-requires-clause-in_range c = (read_in_range c.requires.0 c.args.held c.requires.1.is).0

pub check_text-requires-clause-ascend : goal.check_text-requires-clause-ascend
check_text-requires-clause-ascend c = (read_in_order c.requires.0 c.args.held c.requires.1.is).0

pub returns : goal.returns
returns c =
    IfOk-weaker c.check_text.result _ _ (λ made is first held. given_text first c.args.proof.now made.1.items c.args.held made.0 is held) c.check_text.ensures
