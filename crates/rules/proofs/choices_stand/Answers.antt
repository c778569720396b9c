use Rattle.rules.proofs.Choices.{choices}
use Rattle.rules.proofs.choices_stand.Goals as goal

pub returns : goal.returns
returns c = choices
