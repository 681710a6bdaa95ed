use Rattle.std.proofs.Common.{rules, w64, to_z, of_z, ◌≡◌, ◌≢◌, ◌∙◌, get_or, ap, sym, Some}
use Rattle.command_words.proofs.Numerals.{signed_read, signed_unread}
use Rattle.command_words.proofs.numbers.bound.Goals as goal

pub returns-in-Ok : goal.returns-in-Ok
returns-in-Ok c =
    let plain : get_or c.args.word.now 0 0 ≢ 43 = search (rules, c.if-starts_with.ensures.byte) in
    let same : to_z w64 (of_z w64 c.in-Ok.number) ≡ c.in-Ok.number = search rules in
    ap (λ z. Some z) same ∙ sym (signed_read c.args.word.now _ c.parse.ensures.value.0 _ plain c.in-Ok.is)

pub returns-in-Err : goal.returns-in-Err
returns-in-Err c =
    let plain : get_or c.args.word.now 0 0 ≢ 43 = search (rules, c.if-starts_with.ensures.byte) in
    sym (signed_unread c.args.word.now _ c.parse.ensures.value.0 _ plain c.in-Err.is)
