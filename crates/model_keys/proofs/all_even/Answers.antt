-- `all_even` looks at the lowest bits of all digits at once.
use Rattle.model_keys.specs.KeyIntegralLaws.{word_even}
use Rattle.model_keys.proofs.all_even.Goals as goal

pub returns : goal.returns
returns c = word_even c.args.key
