use Rattle.compile_mode.proofs.Ends.{given_text}
use Rattle.compile_mode.proofs.mode.CompilingOneText.make.Goals as goal

pub returns-in-Ok : goal.returns-in-Ok
returns-in-Ok c = given_text c.args.text.now c.in-Ok.written.items c.requires c.in-Ok.ensures.compiled
