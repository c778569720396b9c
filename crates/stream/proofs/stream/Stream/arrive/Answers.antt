use Rattle.std.proofs.Common.{◌≡◌, ◌+◌, ◌<◌, ◌⊎◌, List, [], ◌∷◌, ◌++◌, length, IfSome, IfNone, vec_items, vec_len, sym, refl, ap, ◌∙◌, subst}
use Rattle.rules.specs.declared.Entry.{Entry}
use Rattle.rules.specs.Clusters.{entered}
use Rattle.rules.proofs.Bounds.{facts}
use Rattle.rules.proofs.Refused.{feeds}
use Rattle.ledger.specs.Ledgers.{ledger_boxes}
use Rattle.pool.specs.declared.Cluster.{Cluster}
use Rattle.choice.specs.Places.{home_of}
use Rattle.stream.specs.Views.{view}
use Rattle.stream.proofs.Arriving.{has_place, roomy_after}
use Rattle.stream.proofs.stream.Stream.arrive.Goals as goal

pub returns : goal.returns
returns g c = record {
  terms = record { domain = refl; settings = refl };
  arrives = λ h room leads taken.
      let s = c.args.self.now in
      let m = g.D.Domain.meaning s.domain in
      let e : Entry = entered (s.accepted + 1) c.args.fed in
      let p = s.pool in
      let run = leads.run in
      let stands = leads.stands in
      let o = c.taker-home.result in
      let cs : List Cluster = c.as_slice-clusters.result.now in
      let long : length cs ≡ vec_len p.clusters = c.as_slice-clusters.ensures.len in
      let same : cs ≡ vec_items p.clusters = c.as_slice-clusters.ensures.value in
      let l = subst (λ n. IfSome o (λ i. i < n)) long c.taker-home.ensures.within in
      let r = subst (λ n. IfNone o ((n < s.settings.beta) ⊎ (n ≡ 0))) long c.taker-home.ensures.room in
      let housed = c.house.ensures.housed stands.table (has_place run p refl stands.room e refl o l r) in
      let home = c.taker-home.ensures.home s.settings (view s) e (same ∙ stands.table) c.mean-mean.ensures refl refl (facts run).ordered.fit (feeds m (view s) c.args.fed room taken).values in
      let label = home ∙ ap (λ ys. home_of o ys (s.accepted + 1)) same in
      record {
        state = ap (λ hs. record { held = hs; boxes = ledger_boxes s.ledger; accepted = s.accepted + 1; suppressed = s.suppressed; closed = s.closed })
            (housed.held ∙ ap (λ n. vec_items p.held ++ record { entry = e; label = n } ∷ []) (sym label));
        stands = record { table = housed.faithful; kept = stands.kept; window = stands.window; room = roomy_after p c.house.new.pool c.house.ensures.memory stands.room };
      };
}
