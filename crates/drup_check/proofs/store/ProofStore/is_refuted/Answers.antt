use Rattle.std.proofs.Common.{refl}
use Rattle.drup_check.proofs.Started.{shown-refuted, still-stands, refuted-as}
use Rattle.drup_check.proofs.store.ProofStore.is_refuted.Goals as goal

pub returns-then-self : goal.returns-then-self
returns-then-self c = λ cs st. ((λ _. shown-refuted c.args.self.now.refuted c.args.self.now.tiers c.if-self.true cs st), (λ _. refl))

pub bring_back-requires : goal.bring_back-requires
bring_back-requires c = record { stands = (c.requires.stands.0, still-stands c.args.self.now.refuted c.args.self.now.tiers c.if-self.false c.requires.stands.0 c.requires.stands.1) }

pub returns : goal.returns
returns c = λ cs st.
    refuted-as c.in_ok-refuted.refuted c.bring_back.new.self cs (c.in_ok-refuted.ensures.stands cs (still-stands c.args.self.now.refuted c.args.self.now.tiers c.if-self.false cs st))
