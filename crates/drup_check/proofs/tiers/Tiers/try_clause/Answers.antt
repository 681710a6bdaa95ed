use Rattle.drup_check.proofs.Started.{brought-refuted, brought-all}
use Rattle.drup_check.proofs.tiers.Tiers.try_clause.Goals as goal

pub returns-then-shows-clause-tried : goal.returns-then-shows-clause-tried
returns-then-shows-clause-tried c = λ cs st. (c.shows.ensures.shown cs st c.if-shows.true, c.shows.ensures.stands cs st)

pub bring_back-requires : goal.bring_back-requires
bring_back-requires c = record { stands = (c.requires.stands.0, c.shows.ensures.stands c.requires.stands.0 c.requires.stands.1) }

pub returns-then-branch-clause-tried : goal.returns-then-branch-clause-tried
returns-then-branch-clause-tried c = λ cs st.
    brought-refuted c.in_ok-bring_back.field-0 c.bring_back.new.self cs c.if-branch.true (c.in_ok-bring_back.ensures.stands cs (c.shows.ensures.stands cs st))

pub try_all-trial-requires-clause-stands : goal.try_all-trial-requires-clause-stands
try_all-trial-requires-clause-stands c =
    let st = c.shows.ensures.stands c.requires.stands.0 c.requires.stands.1 in
    (c.requires.stands.0, (brought-all c.in_ok-bring_back.field-0 c.bring_back.new.self c.requires.stands.0 c.if-branch.false (c.in_ok-bring_back.ensures.stands c.requires.stands.0 st)).0)

pub try_all-trial-requires-clause-all : goal.try_all-trial-requires-clause-all
try_all-trial-requires-clause-all c =
    let st = c.shows.ensures.stands c.requires.stands.0 c.requires.stands.1 in
    (brought-all c.in_ok-bring_back.field-0 c.bring_back.new.self c.requires.stands.0 c.if-branch.false (c.in_ok-bring_back.ensures.stands c.requires.stands.0 st)).1

pub returns-clause-tried : goal.returns-clause-tried
returns-clause-tried c = λ cs st.
    c.try_all-trial.ensures.tried cs (brought-all c.in_ok-bring_back.field-0 c.bring_back.new.self cs c.if-branch.false (c.in_ok-bring_back.ensures.stands cs (c.shows.ensures.stands cs st))).0
