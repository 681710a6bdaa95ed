use Rattle.core_forms.proofs.LastMembers.{put-with}
use Rattle.core_forms.proofs.edges.put_last.Goals as goal

pub returns-clause-put : goal.returns-clause-put
returns-clause-put c =
    let is = c.replace_last.ensures in
    put-with c.args.ints.now c.replace_last.new.self c.args.a c.replace_last.result is.replaced (λ e. (is.none e).0)
