use Rattle.std.proofs.Common.{◌<◌, length, vec_items, sym, refl, ap, ◌∙◌, subst, inl, inr, ⊎_elim, arith}
use Rattle.rules.specs.declared.Held.{Held}
use Rattle.rules.specs.Turn as turns
use Rattle.rules.proofs.Opened.{is_open}
use Rattle.rules.proofs.Refused.{lawful}
use Rattle.stream.specs.Views.{view}
use Rattle.stream.specs.Within.{Comes, rule_of}
use Rattle.stream.proofs.Turning.{same_read, in_place, large_turn, suppressed_turn, joining_turn}
use Rattle.stream.proofs.stream.Stream.turn.Goals as goal

pub returns-in-Large : goal.returns-in-Large
returns-in-Large g c = record {
  terms = c.release.ensures.terms;
  comes = λ t is taken between stands room.
      let s = c.args.self.now in
      let m = g.D.Domain.meaning s.domain in
      let hs = vec_items s.pool.held in
      let x : Held = c.index.result.now in
      let l : c.args.at < length hs = omega (arith, s.pool.held.ok.0) in
      let same = same_read hs c.args.at x t l c.index.ensures is in
      subst (λ y. Comes m (turns.turn m s.settings (view s) y) c.args.list.now c.release.new.list c.release.result c.release.new.self) same
      (large_turn m s x (in_place hs c.args.at x l (sym c.index.ensures)) taken between stands c.args.list.now room c.release.new.list c.release.result c.release.new.self (c.in-Large.ensures stands) c.release.ensures.comes);
  fits = c.release.ensures.fits;
}

pub returns-in-Outnumbered : goal.returns-in-Outnumbered
returns-in-Outnumbered g c = record {
  terms = c.suppress.ensures.terms;
  comes = λ t is taken between stands room.
      let s = c.args.self.now in
      let m = g.D.Domain.meaning s.domain in
      let hs = vec_items s.pool.held in
      let x : Held = c.index.result.now in
      let l : c.args.at < length hs = omega (arith, s.pool.held.ok.0) in
      let same = same_read hs c.args.at x t l c.index.ensures is in
      let limits = lawful m s.settings taken in
      let which = ⊎_elim (λ e. inl (ap rule_of e)) (λ e. inr (ap rule_of e)) c.in-Outnumbered.is in
      let gone = c.suppress.ensures.comes x refl (sym c.index.ensures) (omega (arith, l, s.pool.held.ok.0)) (omega (arith, l, room)) (omega (arith, between.few_suppressed, limits.most_delay)) between.by_position stands in
      subst (λ y. Comes m (turns.turn m s.settings (view s) y) c.args.list.now c.suppress.new.list c.suppress.result c.suppress.new.self) same
      (subst (λ o. Comes m o c.args.list.now c.suppress.new.list c.suppress.result c.suppress.new.self)
      (suppressed_turn m s x (in_place hs c.args.at x l (sym c.index.ensures)) taken between stands c.args.list.now room (rule_of c.rule.result) (c.rule.ensures stands) which) gone);
  fits = c.suppress.ensures.fits;
}

pub returns-in-Joining : goal.returns-in-Joining
returns-in-Joining g c = record {
  terms = record { domain = c.release-in-Joining.ensures.terms.domain ∙ c.grow.ensures.terms.domain; settings = c.release-in-Joining.ensures.terms.settings ∙ c.grow.ensures.terms.settings };
  comes = λ t is taken between stands room.
      let s = c.args.self.now in
      let s' = c.grow.new.self in
      let m = g.D.Domain.meaning s.domain in
      let hs = vec_items s.pool.held in
      let x : Held = c.index.result.now in
      let l : c.args.at < length hs = omega (arith, s.pool.held.ok.0) in
      let same = same_read hs c.args.at x t l c.index.ensures is in
      let i = in_place hs c.args.at x l (sym c.index.ensures) in
      let grown = c.grow.ensures.grown stands between.fit (is_open x.label hs x i refl) in
      subst (λ y. Comes m (turns.turn m s.settings (view s) y) c.args.list.now c.release-in-Joining.new.list c.release-in-Joining.result c.release-in-Joining.new.self) same
      (joining_turn m s x i taken between stands c.args.list.now room (g.D.Domain.meaning s'.domain) s' c.release-in-Joining.new.self c.release-in-Joining.new.list c.release-in-Joining.result
      (c.in-Joining.ensures stands) (ap g.D.Domain.meaning c.grow.ensures.terms.domain) c.grow.ensures.terms grown c.release-in-Joining.ensures.comes);
  fits = c.release-in-Joining.ensures.fits;
}
