use Rattle.std.proofs.Common.{◌≡◌, false, [], vec_items, sym, refl, ap, ◌∙◌, subst}
use Rattle.rules.specs.States.{State, start}
use Rattle.rules.specs.Runs.{Run, opened}
use Rattle.ledger.specs.Ledgers.{ledger_boxes}
use Rattle.pool.specs.Tables.{table}
use Rattle.stream.proofs.Steps.{promise}
use Rattle.stream.proofs.stream.Stream.open.Goals as goal

pub returns : goal.returns
returns g c =
    let m = g.D.Domain.meaning c.args.domain in
    let pool = c.in_ok-pool.ensures in
    let ledger = c.in_ok-ledger.ensures in
    let here : State = record { held = vec_items c.in_ok-pool.pool.held; boxes = ledger_boxes c.in_ok-ledger.ledger; accepted = 0; suppressed = 0; closed = false } in
    let empty : start ≡ here = ap (λ hs. record { held = hs; boxes = start.boxes; accepted = 0; suppressed = 0; closed = false }) (sym pool.none_held) ∙ ap (λ b. record { held = vec_items c.in_ok-pool.pool.held; boxes = b; accepted = 0; suppressed = 0; closed = false }) (sym ledger.nothing) in
    let run : Run m c.args.settings [] here = subst (Run m c.args.settings []) empty (opened (sym c.in_default.ensures)) in
    record {
      domain = refl;
      settings = refl;
      leads = record {
        run = run;
        stands = record { table = pool.none_open ∙ sym (ap (table m) pool.none_held); kept = ledger.well m; window = ledger.window; room = pool.roomy };
      };
      promise = promise run;
    }
