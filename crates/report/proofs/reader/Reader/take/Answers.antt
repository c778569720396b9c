use Rattle.std.proofs.Common.{◌≡◌, suc, ◌+◌, ◌<◌, length, drop, Err, sym, ap, ◌∙◌, arith, length-drop}
use Rattle.rfc4180.specs.Grammar.{with_commas}
use Rattle.rfc4180.specs.Reading.{read_line}
use Rattle.rfc4180.specs.Told.{fields_of}
use Rattle.report.specs.declared.faults.LineFault.TheVariants.{FieldCount}
use Rattle.report.specs.Columns.{columns, of_columns}
use Rattle.report.proofs.Outcomes.{was_cut, another_count, right_count, all_shown, room}
use Rattle.report.proofs.reader.Reader.take.Goals as goal

pub returns-then-line-wanted : goal.returns-then-line-wanted
returns-then-line-wanted c =
    let self = c.args.self.now in
    let told = c.in_ok-line.ensures in
    let w = was_cut _ _ _ (read_line (drop self.place self.text.now)) c.in_ok-line.line told.answer in
    let wanted : c.count-width.result ≡ self.width.count = c.count-width.ensures in
    record {
      answer =
          ap (λ k. Err (FieldCount (record { line = self.lines + 1; column = k + 1; byte = self.place }))) (c.min.ensures ∙ ap (λ n. Prim.Native.Nat.min c.in_ok-line.line.fields (n + 2)) wanted)
          ∙ another_count w self.width.count (self.lines + 1) self.place (λ e. c.if-line-wanted.true (e ∙ ap (λ n. n + 2) (sym wanted)));
      behind = told.behind;
    }

pub invariant_of-row : goal.invariant_of-row
invariant_of-row c =
    let self = c.args.self.now in
    let told = c.in_ok-line.ensures in
    let xs = drop self.place self.text.now in
    let w = was_cut _ _ _ (read_line xs) c.in_ok-line.line told.answer in
    let wanted : c.count-width.result ≡ self.width.count = c.count-width.ensures in
    let few = self.width.few in
    let eight : length c.lex.new.fields ≡ 8 = omega arith in
    let size = ap (λ l. length (with_commas l)) (all_shown w _ c.lex.new.fields (c.count-width.result + 2) told.fields (omega arith) (omega arith)) in
    let fit = room xs _ w in
    let long = length-drop self.place self.text.now in
    let start : self.place < length self.text.now = c.requires in
    record { fits = omega arith }

pub returns : goal.returns
returns c =
    let self = c.args.self.now in
    let told = c.in_ok-line.ensures in
    let xs = drop self.place self.text.now in
    let w = was_cut _ _ _ (read_line xs) c.in_ok-line.line told.answer in
    let wanted : c.count-width.result ≡ self.width.count = c.count-width.ensures in
    let few = self.width.few in
    let eight : length c.lex.new.fields ≡ 8 = omega arith in
    let shown = all_shown w _ c.lex.new.fields (c.count-width.result + 2) told.fields (omega arith) (omega arith) in
    record {
      answer =
          c.report.ensures
          ∙ ap (λ l. of_columns (self.lines + 1) self.place l (columns (suc c.count-width.result) l)) shown
          ∙ ap (λ n. of_columns (self.lines + 1) self.place (fields_of (read_line xs)) (columns (suc n) (fields_of (read_line xs)))) wanted
          ∙ right_count w self.width.count (self.lines + 1) self.place (omega arith);
      behind = told.behind;
    }
