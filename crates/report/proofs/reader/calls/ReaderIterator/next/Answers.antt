use Rattle.report.proofs.ReadOn.{goes}
use Rattle.report.proofs.reader.calls.ReaderIterator.next.Goals as goal

pub returns-clause-goes : goal.returns-clause-goes
returns-clause-goes c = goes _ _ _ (record { answer = c.next_line.ensures.answer; behind = c.next_line.ensures.behind })
