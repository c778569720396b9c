use Rattle.std.proofs.Common.{◌≡◌, suc, ◌+◌, ◌-◌, ◌<◌, length, vec_items, ap, ◌∙◌, subst, inl, inr, arith, rules, tests}
use Rattle.std.proofs.lemmas.List.{nil_from_length}
use Rattle.std.proofs.lemmas.List.Edits.{length-between}
use Rattle.stream.proofs.Emptying.{Empties, empties_more, empties_end}
use Rattle.stream.proofs.stream.Stream.drain.Goals as goal

pub loop-preserved : goal.loop-preserved
loop-preserved g c =
    let inv = c.loop.invariant in
    let start = c.args.self.now in
    let s = c.loop.self in
    let m = g.D.Domain.meaning start.domain in
    let list = c.loop.list in
    let end = c.len-end.result in
    let terms = c.turn-n.ensures.terms in
    let some : 0 < length (vec_items s.pool.held) = search (rules, tests) in
    let next : end - c.loop.counter ≡ suc (end - (c.loop.counter + 1)) = omega arith in
    record {
      terms = record { domain = terms.domain ∙ inv.terms.domain; settings = terms.settings ∙ inv.terms.settings };
      empties = λ f.
          let e = subst (λ r. Empties m start c.args.list.now end r s list c.loop.n) next (inv.empties f) in
          empties_more m start c.args.list.now end (end - (c.loop.counter + 1)) (g.D.Domain.meaning s.domain) s c.turn-n.new.self list c.turn-n.new.list c.loop.n c.turn-n.result
          f (ap g.D.Domain.meaning inv.terms.domain) inv.terms some e (omega arith) c.loop.auto.list c.turn-n.ensures.comes;
      fits = omega (arith, c.turn-n.ensures.fits, length-between list c.loop.n (length list));
    }

pub returns-after-loop : goal.returns-after-loop
returns-after-loop g c =
    let start = c.args.self.now in
    let inv = c.loop.invariant in
    let end = c.len-end.result in
    record {
      terms = inv.terms;
      drained = λ taken between stands room.
          empties_end (g.D.Domain.meaning start.domain) start c.args.list.now end (end - c.loop.counter) c.loop.self c.loop.list c.loop.n (c.len-end.ensures ∙ start.pool.held.ok.0) (inl (omega arith))
          (inv.empties (record { taken = taken; between = between; stands = stands; room = room }));
      fits = inv.fits;
    }

pub returns-then-is_empty : goal.returns-then-is_empty
returns-then-is_empty g c =
    let start = c.args.self.now in
    let s = c.loop.self in
    let inv = c.loop.invariant in
    let end = c.len-end.result in
    let none : length (vec_items s.pool.held) ≡ 0 = search (rules, tests) in
    record {
      terms = inv.terms;
      drained = λ taken between stands room.
          empties_end (g.D.Domain.meaning start.domain) start c.args.list.now end (end - c.loop.counter) s c.loop.list c.loop.n (c.len-end.ensures ∙ start.pool.held.ok.0) (inr (nil_from_length (vec_items s.pool.held) none))
          (inv.empties (record { taken = taken; between = between; stands = stands; room = room }));
      fits = inv.fits;
    }
