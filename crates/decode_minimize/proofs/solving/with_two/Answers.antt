use Rattle.std.proofs.Common.{◌≡◌, rules, w64, to_z, of_z}
use Rattle.decode_minimize.proofs.solving.with_two.Goals as goal

pub returns : goal.returns
returns c =
    let first : to_z w64 (of_z w64 c.args.number) ≡ c.args.number = search rules in
    let second : to_z w64 (of_z w64 c.args.progress.best.number) ≡ c.args.progress.best.number = search rules in
    let values = rw c.as_slice.ensures at c.in_ok-solved.ensures in
    let verdict = rw c.verdict_on-verdict.ensures at values in
    let numbered = rw first at verdict in
    let both = rw second at numbered in
    rw c.into_lines-second.ensures at both
