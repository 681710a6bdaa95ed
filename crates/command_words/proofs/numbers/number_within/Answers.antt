use Rattle.std.proofs.Common.{rules, ◌≢◌, get_or, sym}
use Rattle.command_words.proofs.Numerals.{read, unread}
use Rattle.command_words.proofs.numbers.number_within.Goals as goal

pub returns-in-Err : goal.returns-in-Err
returns-in-Err c =
    let plain : get_or c.args.word.now 0 0 ≢ 43 = search (rules, c.if-starts_with.ensures.byte) in
    sym (unread c.args.least c.args.greatest c.args.word.now _ _ (search rules) c.parse.ensures.value.0 plain c.in-Err.is)

pub returns-then-number-greatest : goal.returns-then-number-greatest
returns-then-number-greatest c =
    let plain : get_or c.args.word.now 0 0 ≢ 43 = search (rules, c.if-starts_with.ensures.byte) in
    search (rules, read c.args.least c.args.greatest c.args.word.now _ _ c.parse.ensures.value.0 plain c.in-Ok.is)

pub returns-else-least-number : goal.returns-else-least-number
returns-else-least-number c =
    let plain : get_or c.args.word.now 0 0 ≢ 43 = search (rules, c.if-starts_with.ensures.byte) in
    search (rules, read c.args.least c.args.greatest c.args.word.now _ _ c.parse.ensures.value.0 plain c.in-Ok.is)
