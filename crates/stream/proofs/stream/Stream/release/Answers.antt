use Rattle.std.proofs.Common.{◌≡◌, ◌≤◌, List, length, vec_items, sym, refl, ap, ◌∙◌, arith}
use Rattle.std.proofs.lemmas.List.{length-map}
use Rattle.std.proofs.lemmas.Bool.{false≢true}
use Rattle.rules.specs.declared.Held.{Held}
use Rattle.rules.specs.Clusters.{members, others}
use Rattle.ledger.specs.Ledgers.{ledger_boxes}
use Rattle.rules.specs.Split.{parts}
use Rattle.rules.proofs.Choices.{clusters_law}
use Rattle.rules.proofs.Refused.{lawful}
use Rattle.pool.specs.declared.Cluster.{Cluster}
use Rattle.pool.specs.Tables.{label_at, cluster_of}
use Rattle.pool.proofs.Rows.{row_at}
use Rattle.pool.proofs.Scans.{members_le}
use Rattle.split.specs.Parted.{part_of, Parted}
use Rattle.stream.proofs.Arriving.{roomy_after}
use Rattle.stream.proofs.Outputs.{few_parts, parted_at}
use Rattle.stream.proofs.stream.Stream.release.Goals as goal

pub returns-in_default : goal.returns-in_default
returns-in_default g c = record {
  terms = record { domain = refl; settings = refl };
  comes = λ taken between stands is_open large room.
      let s = c.args.self.now in
      let m = g.D.Domain.meaning s.domain in
      let hs = vec_items s.pool.held in
      let r = (clusters_law hs).some_held c.args.label is_open in
      absurd (false≢true (c.in_default.ensures.held m hs r.0 (c.as_slice.ensures.value ∙ stands.table) r.1 r.2));
  fits = omega arith;
}

pub returns : goal.returns
returns g c = record {
  terms = record { domain = refl; settings = refl };
  comes = λ taken between stands is_open large room.
      let s = c.args.self.now in
      let m = g.D.Domain.meaning s.domain in
      let label = c.args.label in
      let hs = vec_items s.pool.held in
      let xs = vec_items s.pool.clusters in
      let k = s.settings.k in
      let limits = lawful m s.settings taken in
      let found = c.in-Some.ensures.first in
      let at = c.in-Some.at in
      let same = c.as_slice.ensures.value in
      let x : Cluster = c.index.result.now in
      let labelled : label_at xs at ≡ label = ap (λ ys. label_at ys at) (sym same) ∙ found.labelled in
      let row : x ≡ cluster_of m hs label = c.index.ensures ∙ row_at m hs xs at x stands.table (omega (arith, found.within, ap length same)) ∙ ap (cluster_of m hs) labelled in
      let own : x.label ≡ label = ap (λ (y : Cluster). y.label) row in
      let second = c.as_slice-2.ensures.value in
      let es = members label hs in
      let one = c.part.ensures.parted (row ∙ ap (λ (hs : List Held). cluster_of m hs label) (sym second) ∙ ap (cluster_of m c.as_slice-2.result.now) (sym own)) (omega (arith, ap length second, between.few, limits.most_delay)) limits.crowd limits.most_crowd in
      let parted : Parted m k es c.members.result.now c.parts.result.now = parted_at m k (ap (λ d. members d c.as_slice-2.result.now) own ∙ ap (members label) second) (sym c.members.ensures) (sym c.parts.ensures) one in
      let few : length c.parts.result.now ≤ length es = omega (arith, ap length parted.told, length-map (parts m k es) (part_of m), few_parts m k es (omega (arith, limits.crowd)) large) in
      let fewer : length es ≤ length hs = members_le label hs in
      let shown = c.release_parts-n.ensures.out m s.settings k es (omega (arith, limits.crowd)) parted (sym stands.window) stands.kept (omega (arith, few, fewer, between.numbers, limits.most_delay)) (omega (arith, fewer, room)) in
      record {
        holds = record {
          state = ap (λ ys. record { held = ys; boxes = ledger_boxes c.release_parts-n.new.ledger; accepted = s.accepted; suppressed = s.suppressed; closed = s.closed }) c.close_cluster.ensures.held
              ∙ ap (λ b. record { held = others label hs; boxes = b; accepted = s.accepted; suppressed = s.suppressed; closed = s.closed }) shown.boxes;
          stands = record {
            table = c.close_cluster.ensures.faithful m stands.table;
            kept = shown.kept;
            window = c.release_parts-n.ensures.window ∙ stands.window;
            room = roomy_after s.pool c.close_cluster.new.self c.close_cluster.ensures.memory stands.room;
          };
        };
        writes = shown.writes;
      };
  fits = c.release_parts-n.ensures.fits;
}
