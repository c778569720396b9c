use Rattle.std.proofs.Common.{◌≡◌, ◌<◌, length, drop, refl, arith, length-drop}
use Rattle.report.proofs.Advance.{stays}
use Rattle.report.proofs.Outcomes.{taken, at_end}
use Rattle.report.proofs.Written.{reads_back}
use Rattle.report.proofs.reader.Reader.next_line.Goals as goal

pub returns-then-self : goal.returns-then-self
returns-then-self c =
    let self = c.args.self.now in
    let xs = drop self.place self.text.now in
    let none : length xs ≡ 0 = omega (arith, length-drop self.place self.text.now) in
    let s = stays xs none in
    record {
      answer = at_end self.width.count self.lines self.place xs none;
      behind = record {
        text = refl;
        width = refl;
        lines = omega (arith, s.lines);
        place = omega (arith, s.size_is);
        unread = s.rest;
      };
      numbers = reads_back;
    }

pub returns : goal.returns
returns c =
    let self = c.args.self.now in
    let start : self.place < length self.text.now = omega arith in
    record { answer = taken self.width.count self.lines self.place (drop self.place self.text.now) c.take.result (omega (arith, length-drop self.place self.text.now)) c.take.ensures.answer; behind = c.take.ensures.behind; numbers = reads_back }
