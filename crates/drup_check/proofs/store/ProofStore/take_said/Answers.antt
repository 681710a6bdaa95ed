use Rattle.std.proofs.Common.{sym, ◌∙◌}
use Rattle.std.proofs.lemmas.Bool.{true≢false}
use Rattle.std.proofs.lemmas.Result.{IfOk-weaker}
use Rattle.bee_text.specs.Gaps.{words_of}
use Rattle.drup_check.proofs.Taken.{spelled-below, said-taken, deletion-taken}
use Rattle.drup_check.proofs.store.ProofStore.take_said.Goals as goal

pub take_clause-requires-clause-lits : goal.take_clause-requires-clause-lits
take_clause-requires-clause-lits c =
    spelled-below c.args.self.now.tiers.db.trail.vars c.vars-vars.result (words_of c.args.line.now) c.in-Some.lits.items c.as_slice.result.now c.vars-vars.ensures.count c.as_slice.ensures.value
    (rw c.in-Some.is at c.in_ok-lits.ensures)

pub returns-then-is_word-clause-taken : goal.returns-then-is_word-clause-taken
returns-then-is_word-clause-taken c =
    deletion-taken c.args.self.now.tiers.db.trail.vars (words_of c.args.line.now) c.args.first.now (words_of c.args.behind.now) c.requires.words (c.is_word.ensures.0 c.if-is_word.true)
    c.args.self.now.refuted c.args.self.now.tiers c.take_deletion.new.self.refuted c.take_deletion.new.self.tiers c.in_ok-taken.taken c.in_ok-taken.ensures.spelled c.in_ok-taken.ensures.stands

pub returns-in-Some-clause-taken : goal.returns-in-Some-clause-taken
returns-in-Some-clause-taken c =
    IfOk-weaker c.take_clause.result _ _
    (λ taken h.
    said-taken c.args.self.now.tiers.db.trail.vars c.vars-vars.result (words_of c.args.line.now) c.in-Some.lits.items c.as_slice.result.now c.vars-vars.ensures.count c.as_slice.ensures.value
    (rw c.in-Some.is at c.in_ok-lits.ensures) c.requires.few c.args.first.now (words_of c.args.behind.now) c.requires.words (λ e. true≢false (sym (c.is_word.ensures.1 e) ∙ c.if-is_word.false))
    c.args.self.now.refuted c.args.self.now.tiers c.take_clause.new.self.refuted c.take_clause.new.self.tiers taken h)
    c.take_clause.ensures.taken
