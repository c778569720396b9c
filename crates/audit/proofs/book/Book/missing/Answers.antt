use Rattle.std.proofs.Common.{◌≡◌, position, is_none, rules, tests}
use Rattle.std.proofs.lemmas.Iterator.{YieldsList-from_slice}
use Rattle.std.proofs.lemmas.Iterator.Search.{position_from_yields_List}
use Rattle.audit.proofs.book.Book.missing.Goals as goal

pub returns : goal.returns
returns c =
    let found : c.position-unwritten.result ≡ position (λ e. is_none e.written) c.args.self.now.entries =
    position_from_yields_List (λ e. is_none e.written) _ _ _ c.position-unwritten.ensures.ran (YieldsList-from_slice c.args.self.now.entries cc) (λ x b q k. search (rules, tests)) in
    search (rules, found)
