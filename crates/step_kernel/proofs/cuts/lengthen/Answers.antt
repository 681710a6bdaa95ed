use Rattle.step_kernel.proofs.cuts.lengthen.Goals as goal

pub returns-in-Err-grow-clause-back : goal.returns-in-Err-grow-clause-back
returns-in-Err-grow-clause-back c = c.take_behind.ensures c.args.coming c.args.core c.requires.comes c.in-Ok.ensures.longer
