use Rattle.std.proofs.Common.{◌≡◌, ◌+◌, ◌-◌, [], ◌++◌, length, get_or, take, pos, None, vec_items, sym, ap, ◌∙◌, subst, arith}
use Rattle.rules.specs.Refusals.{open_refusal}
use Rattle.std.proofs.lemmas.Result.{err_from_is_err_and}
use Rattle.rules.specs.Runs.{History}
use Rattle.stream.specs.declared.replays.Call.{Call}
use Rattle.stream.specs.declared.replays.Call.TheVariants.{Feed}
use Rattle.stream.specs.Replays.{call_of, Made}
use Rattle.stream.specs.Views.{Leads}
use Rattle.stream.proofs.Calling.{run_open}
use Rattle.stream.proofs.Replaying.{Plays, plays_more, plays_all}
use Rattle.stream.proofs.replays.replay_calls.Goals as goal

-- any call
abbrev no_call : Call
no_call = Feed (record { owner = 0; values = []; reading = pos 0 })

pub returns-in_err-extend_from_slice : goal.returns-in_err-extend_from_slice
returns-in_err-extend_from_slice g c =
    let p = err_from_is_err_and c.from_residual-in_err-extend_from_slice.result c.from_residual-in_err-extend_from_slice.ensures.1 in
    let opened = c.in_ok-stream.ensures in
    rw (p.1, p.2) (subst (λ x. open_refusal (g.D.Domain.meaning c.args.domain) x ≡ None) opened.settings (run_open opened.leads.run))

pub loop-call-preserved : goal.loop-call-preserved
loop-call-preserved g c =
    let inv = c.loop-call.invariant in
    let s = c.loop-call.stream in
    let t = c.make-n.new.stream in
    let terms = c.make-n.ensures.terms in
    let start = c.in_ok-stream.stream in
    let m = g.D.Domain.meaning start.domain in
    let room : length c.loop-call.list ≡ length c.args.list.now = inv.1 in
    let made = subst (λ r. (h : History) → Leads (g.D.Domain.meaning s.domain) h s → Made (g.D.Domain.meaning s.domain) h (call_of r (get_or c.args.calls.now c.loop-call.call-index no_call)) c.make-n.new.list c.make-n.result t) room c.make-n.ensures.made in
    let more = plays_more m start.settings c.args.calls.now (length c.args.list.now) c.loop-call.call-index no_call (g.D.Domain.meaning s.domain) s t (vec_items c.loop-call.lines) c.make-n.new.list c.make-n.result c.loop-call-test.true (ap g.D.Domain.meaning inv.0) terms inv.2 made in
    let from_start : c.make-n.result ≡ c.make-n.result - 0 = omega arith in (
      terms.domain ∙ inv.0,
      c.make-n.auto.list ∙ room,
      subst (λ xs. Plays m start.settings c.args.calls.now (length c.args.list.now) (c.loop-call.call-index + 1) t xs) (sym c.in_ok-extend_from_slice.ensures.items)
          (subst (λ k. Plays m start.settings c.args.calls.now (length c.args.list.now) (c.loop-call.call-index + 1) t (vec_items c.loop-call.lines ++ take k c.make-n.new.list)) from_start more),
    )

pub returns : goal.returns
returns g c =
    let opened = c.in_ok-stream.ensures in
    let inv = c.loop-call.invariant in
    let m = g.D.Domain.meaning c.args.domain in
    let start = c.in_ok-stream.stream in
    let played = subst (λ d. Plays (g.D.Domain.meaning d) start.settings c.args.calls.now (length c.args.list.now) c.loop-call.call-index c.loop-call.stream (vec_items c.loop-call.lines)) opened.domain inv.2 in
    let told = subst (λ x. Plays m x c.args.calls.now (length c.args.list.now) c.loop-call.call-index c.loop-call.stream (vec_items c.loop-call.lines)) opened.settings played in
    plays_all m c.args.settings c.args.calls.now (length c.args.list.now) c.loop-call.call-index (record { stream = c.loop-call.stream; lines = c.loop-call.lines }) c.loop-call-test.false told
