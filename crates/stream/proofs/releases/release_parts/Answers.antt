use Rattle.std.proofs.Common.{◌≤◌, length, sym, ◌∙◌, arith}
use Rattle.std.proofs.lemmas.List.Edits.{length-between}
use Rattle.stream.proofs.Outputs.{Given, priced, low, enough, out_more, out_all}
use Rattle.stream.proofs.releases.release_parts.Goals as goal

pub loop-j-preserved : goal.loop-j-preserved
loop-j-preserved c =
    let inv = c.loop-j.invariant in
    let j = c.loop-j.j in
    let l = c.loop-j-test.true in
    let now = c.loop-j.list in
    let n = c.loop-j.n in
    let room : n ≤ length now = omega arith in
    let entered = c.enter-number.ensures in
    record {
      window = entered.window ∙ inv.window;
      out = λ m g k es given.
          let out = inv.out m g k es given in
          let loss = priced given j l c.loop-j.ledger now n room out _ in
          let e = entered.entered m g (given.window ∙ sym inv.window) out.kept loss (low given j l c.loop-j.ledger now n room out) in
          let w = c.write_part-n.ensures.written (enough given j l c.loop-j.ledger now n room out) in
          out_more given j l c.loop-j.ledger now n room out _ c.enter-number.new.self c.write_part-n.new.list c.enter-number.result c.write_part-n.result e entered.counted w;
      fits = omega (arith, c.write_part-n.ensures.fits, length-between now n (length now));
    }

pub returns : goal.returns
returns c =
    let inv = c.loop-j.invariant in
    record {
      window = inv.window;
      out = λ m g k es crowd parted window kept numbers room.
          let given : Given m g k es c.args.members.now c.args.parts.now c.args.ledger.now c.args.list.now = record { crowd = crowd; parted = parted; window = window; kept = kept; numbers = numbers; room = room } in
          out_all given c.loop-j.j c.loop-j.ledger c.loop-j.list c.loop-j.n c.loop-j-test.false (inv.out m g k es given);
      fits = inv.fits;
    }
