use Rattle.std.proofs.Common.{◌+◌, ◌<◌, length, drop, sym, refl, ap, ◌∙◌, arith, length-drop}
use Rattle.report.specs.Readers.{place_behind}
use Rattle.report.proofs.Advance.{moved, counted}
use Rattle.report.proofs.reader.Reader.lex.Goals as goal

pub invariant_of-self : goal.invariant_of-self
invariant_of-self c =
    let self = c.args.self.now in
    let all = self.text.now in
    let start : self.place < length all = c.requires in
    let m = moved all (self.lines + 1) self.place c.place_behind-self.result (omega arith) (c.place_behind-self.ensures ∙ ap (place_behind all) c.read_line-read.ensures.answer) in
    let n = m.further start in
    let k = self.counted in
    record { within = m.within; counted = omega arith }

pub returns : goal.returns
returns c =
    let self = c.args.self.now in
    let all = self.text.now in
    let start : self.place < length all = c.requires in
    let m = moved all (self.lines + 1) self.place c.place_behind-self.result (omega arith) (c.place_behind-self.ensures ∙ ap (place_behind all) c.read_line-read.ensures.answer) in
    record {
      answer = c.read_line-read.ensures.answer;
      fields = c.read_line-read.ensures.fields;
      behind = record {
        text = refl;
        width = refl;
        lines = ap (λ n. self.lines + n) (sym (counted (drop self.place all) (omega (arith, length-drop self.place all))));
        place = m.place_is;
        unread = m.unread;
      };
    }
