use Rattle.std.proofs.Common.{◌≡◌, true, not, eqb, ltb, Some, vec_items, vec_len, sym, ap, ◌∙◌, inr, arith}
use Rattle.std.proofs.lemmas.Bool.{false≢true, lt-leb, lt-ltb, and_from, ne_eqb, not_from_false}
use Rattle.rules.specs.Clusters.{size, members}
use Rattle.rules.specs.Turn as turns
use Rattle.rules.proofs.Choices.{clusters_law}
use Rattle.pool.specs.Tables.{label_at}
use Rattle.stream.proofs.stream.Stream.next_merger.Goals as goal

pub returns-in_err-taker : goal.returns-in_err-taker
returns-in_err-taker g c = record {
  apart = rw c.from_residual.ensures tt;
  next = λ stands fit is_open.
      let m = g.D.Domain.meaning c.args.self.now.domain in
      let hs = vec_items c.args.self.now.pool.held in
      let r = (clusters_law hs).some_held c.args.label is_open in
      absurd (false≢true (c.in_err-taker.ensures.held m hs r.0 (c.as_slice-clusters.ensures.value ∙ stands.table) r.1 r.2));
}

pub returns-in_err-other : goal.returns-in_err-other
returns-in_err-other g c = rw c.from_residual-in_err-other.ensures
    (record {
      apart = tt;
      next = λ stands fit is_open.
          let m = g.D.Domain.meaning c.args.self.now.domain in
          let hs = vec_items c.args.self.now.pool.held in
          let found = c.in_ok-taker.ensures.first in
          inr (ap (λ l. turns.easiest m l hs) (sym found.labelled) ∙ c.in_err-other.ensures.rule hs (c.as_slice-clusters.ensures.value ∙ stands.table) fit found.within);
    })

pub returns : goal.returns
returns g c =
    let s = c.args.self.now in
    let m = g.D.Domain.meaning s.domain in
    let hs = vec_items s.pool.held in
    let same = c.as_slice-clusters.ensures.value in
    let long = c.as_slice-clusters.ensures.len in
    let found = c.in_ok-taker.ensures.first in
    let other = c.in_ok-other.ensures.other in
    let i = c.in_ok-taker.taker in
    let j = c.in_ok-other.other in
    let n = vec_len s.pool.clusters in
    let one : ltb i n ≡ true = lt-ltb i n (omega (arith, found.within, long)) in
    let two : ltb j n ≡ true = lt-ltb j n (omega (arith, other.0, long)) in
    let apart : not (eqb i j) ≡ true = not_from_false (eqb i j) (ne_eqb i j (λ e. other.1 (sym e))) in
    record {
      apart = (and_from (ltb i n) _ one (and_from (ltb j n) _ two apart), ap (λ ys. label_at ys i) (sym same) ∙ found.labelled);
      next = λ stands fit is_open. (
        lt-leb s.settings.k (size (members c.args.label hs)) (omega (arith, c.size_of.ensures stands, c.crowd.ensures, c.if-size_of-crowd.false)),
        ap (λ l. turns.easiest m l hs) (sym found.labelled) ∙ c.in_ok-other.ensures.rule hs (same ∙ stands.table) fit found.within ∙ ap (λ ys. Some (label_at ys j)) same,
      );
    }
