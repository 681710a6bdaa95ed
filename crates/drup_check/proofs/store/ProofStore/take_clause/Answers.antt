use Rattle.std.proofs.Common.{subst}
use Rattle.drup_check.specs.Standing.{IsTried}
use Rattle.drup_check.specs.declared.tiers.Trial.{Trial}
use Rattle.drup_check.proofs.Started.{any-shown, all-shown, still-stands}
use Rattle.drup_check.proofs.store.ProofStore.take_clause.Goals as goal

pub returns-then-self-clause-taken : goal.returns-then-self-clause-taken
returns-then-self-clause-taken c = any-shown c.args.self.now.refuted c.args.self.now.tiers c.args.lits.now c.if-self.true

pub try_clause-requires-clause-stands : goal.try_clause-requires-clause-stands
try_clause-requires-clause-stands c = (c.requires.stands.0, still-stands c.args.self.now.refuted c.args.self.now.tiers c.if-self.false c.requires.stands.0 c.requires.stands.1)

pub keep-requires-clause-stands : goal.keep-requires-clause-stands
keep-requires-clause-stands c =
    let cs = c.requires.stands.0 in
    let st = still-stands c.args.self.now.refuted c.args.self.now.tiers c.if-self.false cs c.requires.stands.1 in
    let tried = subst (λ (t : Trial). IsTried t c.try_clause.new.self cs c.args.lits.now) c.in-Shown.is (c.in_ok-try_clause.ensures.tried cs st) in
    (cs, tried.1)

pub returns-in-Missing-clause-taken : goal.returns-in-Missing-clause-taken
returns-in-Missing-clause-taken c = λ cs st.
    subst (λ (t : Trial). IsTried t c.try_clause.new.self cs c.args.lits.now) c.in-Missing.is
    (c.in_ok-try_clause.ensures.tried cs (still-stands c.args.self.now.refuted c.args.self.now.tiers c.if-self.false cs st))

pub returns-in-Refuted-clause-taken : goal.returns-in-Refuted-clause-taken
returns-in-Refuted-clause-taken c = λ cs st.
    all-shown cs c.args.lits.now
    (subst (λ (t : Trial). IsTried t c.try_clause.new.self cs c.args.lits.now) c.in-Refuted.is
    (c.in_ok-try_clause.ensures.tried cs (still-stands c.args.self.now.refuted c.args.self.now.tiers c.if-self.false cs st)))

pub returns-in_ok-self-in-Shown-clause-taken : goal.returns-in_ok-self-in-Shown-clause-taken
returns-in_ok-self-in-Shown-clause-taken c = λ cs st.
    let tried = subst (λ (t : Trial). IsTried t c.try_clause.new.self cs c.args.lits.now) c.in-Shown.is
    (c.in_ok-try_clause.ensures.tried cs (still-stands c.args.self.now.refuted c.args.self.now.tiers c.if-self.false cs st)) in
    (tried.0, c.in_ok-self-in-Shown.ensures.stands cs tried.1)
