use Rattle.std.proofs.Common.{◌≡◌, ℕ, cond, ltb, [], length, filter, ap, ◌∙◌, arith}
use Rattle.std.proofs.lemmas.List.Filters.{length-filter_more}
use Rattle.std.proofs.lemmas.List.{take_all}
use Rattle.std.proofs.lemmas.Bool.{lt-ltb, le-ltb}
use Rattle.choice.proofs.Labels.{row, larger_table}
use Rattle.choice.proofs.rows.larger.Goals.{then-cluster-size, else-cluster-size}
use Rattle.choice.proofs.rows.larger.Goals as goal

pub loop-cluster-preserved : goal.loop-cluster-preserved
loop-cluster-preserved c =
    let cs = c.args.clusters.now in
    let i = c.loop-cluster.cluster-index in
    let n = c.args.size in
    let more = length-filter_more (λ x. ltb n x.size) cs i (record { label = 0; size = 0; loss = 0; bounds = [] }) c.loop-cluster-test.true in
    elim c.if-cluster-size.branch [
      | then-cluster-size w ↦
          let t = ap {B = ℕ} (λ b. cond b 1 0) (lt-ltb n (row cs i).size w.if-cluster-size.true) in
          (omega (arith, w.n-is), omega (arith, w.n-is, more, t))
      | else-cluster-size w ↦
          let t = ap {B = ℕ} (λ b. cond b 1 0) (le-ltb n (row cs i).size w.if-cluster-size.false) in
          (omega (arith, w.n-is), omega (arith, w.n-is, more, t))
    ]

pub returns : goal.returns
returns c =
    let cs = c.args.clusters.now in
    let n = c.args.size in
    let all : c.loop-cluster.n ≡ length (filter (λ x. ltb n x.size) cs) =
    c.loop-cluster.invariant.1 ∙ ap (λ xs. length (filter (λ x. ltb n x.size) xs)) (take_all c.loop-cluster.cluster-index cs c.loop-cluster-test.false) in
    record { count = all; few = omega arith; rule = λ m hs c' e s. all ∙ larger_table m hs c' n cs e s }
