use Rattle.std.proofs.Common.{◌≡◌, ◌++◌, ap, ◌∙◌, rules}
use Rattle.std.specs.List.{repeat}
use Rattle.std.proofs.lemmas.List.Elements.{same_from_all_zip}
use Rattle.edges.specs.declared.TheConstants.{SOUND}
use Rattle.edges.proofs.torn.Goals as goal

pub returns : goal.returns
returns c =
    let copies : c.in_ok-repeat.field-0.items ≡ repeat 100 SOUND.now = same_from_all_zip _ _ _ c.in_ok-repeat.ensures.items (λ x y e. e) in
    let sound : c.extend_from_slice-2.new.self.items ≡ c.args.line.now ++ c.in_ok-repeat.field-0.items = search rules in
    sound ∙ ap (λ ys. c.args.line.now ++ ys) copies
