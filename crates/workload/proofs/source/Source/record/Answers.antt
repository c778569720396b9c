use Rattle.std.proofs.Common.{◌≡◌, ℕ, ◌+◌, min, length, ap, ◌∙◌, subst, arith, w32, SFits, rules}
use Rattle.std.proofs.lemmas.Int.{to_z-of_z}
use Rattle.workload.specs.Draws.{ahead, part, next}
use Rattle.workload.specs.Records.{Values, reading_of}
use Rattle.workload.proofs.Moves.{ahead_add}
use Rattle.workload.proofs.source.Source.record.Goals as goal

-- the source before the reading is drawn, and after
behind : (c : goal.After-reading-reading) → c.values-values.new.self.x ≡ ahead (min (length c.args.sizes.now) 6 + 1) c.args.self.now.x
behind c =
    c.values-values.ensures.source ∙ ap (ahead (min (length c.args.sizes.now) 6)) c.owner-owner.ensures.source
    ∙ ahead_add (min (length c.args.sizes.now) 6) 1 c.args.self.now.x

last : (c : goal.After-reading-reading) → ahead 1 c.values-values.new.self.x ≡ ahead (min (length c.args.sizes.now) 6 + 2) c.args.self.now.x
last c =
    ap next (behind c) ∙ ahead_add 1 (min (length c.args.sizes.now) 6 + 1) c.args.self.now.x
    ∙ ap (λ j. ahead j c.args.self.now.x) (omega arith)

pub returns : goal.returns
returns c =
    let fits : SFits w32 c.reading-reading.result = search rules in
    let same = to_z-of_z w32 c.reading-reading.result fits in
    let P : ℕ → Type 0 = λ x. Values x c.args.sizes.now c.values-values.result in
    record {
      value = record {
        owner = c.owner-owner.ensures.value;
        values = subst P c.owner-owner.ensures.source c.values-values.ensures.value;
        reading = same ∙ c.reading-reading.ensures.value ∙ ap (λ x. reading_of (part 20001 x)) (last c);
      };
      source = c.reading-reading.ensures.source ∙ last c;
    }
