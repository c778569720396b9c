use Rattle.std.proofs.Common.{not, eqb, sym, ap, ◌∙◌, rules}
use Rattle.std.proofs.lemmas.Fn.{filter_same}
use Rattle.std.proofs.lemmas.Bool.{eq-eqb, cond-true}
use Rattle.rules.specs.Clusters.{size, members}
use Rattle.pool.proofs.Pool.renew.Goals as goal

pub returns-then-row-eq0-clause-clusters : goal.returns-then-row-eq0-clause-clusters
returns-then-row-eq0-clause-clusters g c =
    filter_same _ (λ x. not (eqb x.label c.args.label)) _ (λ x b f' k. search rules) _ _ c.retain.ensures.filtered
    ∙ sym (cond-true _ _ _ (eq-eqb _ _ (sym (ap (λ x. x.size) c.cluster_of-row.ensures ∙ ap (λ ks. size (members c.args.label ks)) c.as_slice.ensures.value) ∙ c.if-row-eq0.true)))
