use Rattle.std.proofs.Common.{◌≡◌, ℕ, ◌-◌, List, length, drop, sym, ap, ◌∙◌, subst, arith, ltb-true, rules}
use Rattle.std.proofs.lemmas.List.{nil_from_length}
use Rattle.rfc4180.specs.Laws.{Resumes}
use Rattle.rfc4180.specs.Reading.{behind_line_end}
use Rattle.rfc4180.proofs.LineSteps.{behind_is}
use Rattle.rfc4180.proofs.Damages.{resumes}
use Rattle.rfc4180.proofs.lines.next_line.Goals as goal

-- a place from which on the text is what is behind the first line end
told : (text : List ℕ) (from r : ℕ) → r ≡ length text - length (behind_line_end (drop from text)) → Resumes (drop from text) (drop r text)
told text from r e = subst (Resumes (drop from text)) (sym (behind_is text from) ∙ ap (λ k. drop k text) (sym e)) (resumes (drop from text))

pub returns-in-empty-clause-first : goal.returns-in-empty-clause-first
returns-in-empty-clause-first c =
    let none = nil_from_length c.loop-rest.rest.now (omega (arith, ltb-true)) in
    let same = sym (ap behind_line_end none) ∙ c.loop-rest.invariant.0 in
    told c.args.text.now c.args.from _ (omega (arith, ap length same))

pub returns-in-13-clause-first : goal.returns-in-13-clause-first
returns-in-13-clause-first c = told c.args.text.now c.args.from _ (search rules)
