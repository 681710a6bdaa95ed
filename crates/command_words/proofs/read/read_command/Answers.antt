use Rattle.std.proofs.Common.{ap, subst, ◌≡◌, ◌≢◌, ◌∙◌, [], map, string_bytes, sym, Global}
use Rattle.clap.specs.Words.{App, HasKind, app_of, is_simple, is_simple_and_free, fault_of, matches_of, found_of, rows_of, kind_of}
use Rattle.command_words.specs.Line.{bee}
use Rattle.command_words.proofs.Taken.{simple, free, found, refused, some_fault}
use Rattle.command_words.proofs.read.read_command.Goals as goal

pub returns-in-Ok : goal.returns-in-Ok
returns-in-Ok c =
    let words = map (string_bytes {Z = Global}) c.args.words.now in
    let same : app_of c.in_ok-bee.field-0 ≡ bee = c.in_ok-bee.ensures in
    let rows : rows_of (found_of c.in-Ok.matches) ≡ matches_of bee words =
    (c.in-Ok.ensures.matches (ap is_simple same ∙ simple)).0 ∙ ap (λ a. matches_of a words) same in
    let none : fault_of bee words ≡ [] =
    ap (λ a. fault_of a words) (sym same) ∙ c.in-Ok.ensures.kinds (ap is_simple_and_free same ∙ free) in
    c.found_command.ensures ∙ found (found_of c.in-Ok.matches) words rows none

pub returns : goal.returns
returns c =
    let words = map (string_bytes {Z = Global}) c.args.words.now in
    let same : app_of c.in_ok-bee.field-0 ≡ bee = c.in_ok-bee.ensures in
    let has : HasKind (fault_of (app_of c.in_ok-bee.field-0) words) c.in-Err.error =
    c.in-Err.ensures.kinds (ap is_simple_and_free same ∙ free) in
    let other : kind_of c.in-Err.error ≢ _ = λ e. c.in_default.not-OutOfMemory (c.kind.ensures ∙ e) in
    sym (refused words (some_fault words c.in-Err.error (subst (λ (a : App). HasKind (fault_of a words) c.in-Err.error) same has) other))
