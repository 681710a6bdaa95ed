use Rattle.std.proofs.Common.{sym, ◌∙◌}
use Rattle.std.proofs.lemmas.Bool.{true≢false}
use Rattle.bee_text.specs.Gaps.{words_of}
use Rattle.drup_check.proofs.Spelled.{no_end, spelled_literal, not_last, no_literal, none_some}
use Rattle.drup_check.proofs.words.read_clause.Goals as goal

pub returns-in-Some-next_word : goal.returns-in-Some-next_word
returns-in-Some-next_word c =
    not_last c.args.vars c.requires (words_of c.args.text.now) c.loop-word.lits.items (words_of c.loop-word.rest.now) c.loop-word.invariant c.in-Some.word.now (words_of c.in-Some.behind.now) c.in-Some.ensures.words
    (c.is_word.ensures.0 c.if-is_word.true) c.in-Some-next_word.field-0.0.now (words_of c.in-Some-next_word.field-0.1.now) c.in-Some-next_word.ensures.words

pub returns-in_default-literal_within : goal.returns-in_default-literal_within
returns-in_default-literal_within c =
    no_literal c.args.vars c.requires (words_of c.args.text.now) c.loop-word.lits.items (words_of c.loop-word.rest.now) c.loop-word.invariant c.in-Some.word.now (words_of c.in-Some.behind.now) c.in-Some.ensures.words
    (λ e. true≢false (sym (c.is_word.ensures.1 e) ∙ c.if-is_word.false)) (λ l below e. none_some c.literal_within.result l c.in_default-literal_within.is (c.literal_within.ensures.complete l below e))

pub loop-word-preserved : goal.loop-word-preserved
loop-word-preserved c =
    spelled_literal c.args.vars c.requires (words_of c.args.text.now) c.loop-word.lits.items (words_of c.loop-word.rest.now) c.loop-word.invariant c.in-Some.word.now (words_of c.in-Some.behind.now) c.in-Some.ensures.words
    c.push.new.self.items c.in-Some-literal_within.literal c.in-Some-literal_within.ensures.read.0 c.in-Some-literal_within.ensures.read.1 c.in_ok-push.ensures.items

pub returns : goal.returns
returns c = no_end c.args.vars c.requires (words_of c.args.text.now) c.loop-word.lits.items (words_of c.loop-word.rest.now) c.loop-word.invariant c.in_default.ensures.words
