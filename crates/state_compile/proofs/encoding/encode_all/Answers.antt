use Rattle.std.proofs.Common.{◌≡◌, inr, Some, None, rules}
use Rattle.ledger_text.specs.declared.line.Line.TheVariants.{Encode}
use Rattle.step_kernel.specs.Least.{least_of}
use Rattle.state_compile.proofs.Encodings.{encoded-running, encoded-closed, encoded-none, fewer-pending}
use Rattle.state_compile.proofs.Found.{all-gone, basic-there}
use Rattle.state_compile.proofs.InOrder.{adds-line, adds-more}
use Rattle.state_compile.proofs.encoding.encode_all.Goals as goal

pub encode-requires-clause-basic : goal.encode-requires-clause-basic
encode-requires-clause-basic g c =
    let least : least_of c.loop-id.runner.kernel ≡ Some c.in-Some.id = search rules in
    basic-there c.loop-id.runner.kernel c.in-Some.id c.loop-id.invariant.none least

pub loop-id-smaller : goal.loop-id-smaller
loop-id-smaller g c =
    let least : least_of c.loop-id.runner.kernel ≡ Some c.in-Some.id = search rules in
    let basic = basic-there c.loop-id.runner.kernel c.in-Some.id c.loop-id.invariant.none least in
    fewer-pending c.loop-id.runner.kernel c.encode.new.self.kernel c.in-Some.id basic.0 basic.1 c.in_ok-encode.ensures.step

pub loop-id-preserved : goal.loop-id-preserved
loop-id-preserved g c =
    let told = g.F.Oracle.told in
    let k = c.loop-id.runner.kernel in
    let new = c.encode.new.self.kernel in
    let h = c.loop-id.invariant in
    let least : least_of c.loop-id.runner.kernel ≡ Some c.in-Some.id = search rules in
    let basic = basic-there k c.in-Some.id h.none least in
    let made = c.in_ok-encode.ensures.step in
    record {
      running = encoded-running told k new c.in-Some.id basic.0 basic.1 made;
      closed = encoded-closed told k new c.in-Some.id basic.0 basic.1 made h.closed;
      none = encoded-none told k new c.in-Some.id basic.0 basic.1 made h.none;
      adds = adds-more told c.args.runner.now.ledger c.loop-id.runner.ledger c.encode.new.self.ledger c.args.runner.now.kernel k new h.adds
          (adds-line told c.loop-id.runner.ledger c.encode.new.self.ledger k new (Encode c.in-Some.id) made (h.closed, h.none, least) c.in_ok-encode.ensures.ledger);
    }

pub returns-clause-end : goal.returns-clause-end
returns-clause-end g c =
    let none : None ≡ least_of c.loop-id.runner.kernel = search rules in
    inr (all-gone c.loop-id.runner.kernel none)
