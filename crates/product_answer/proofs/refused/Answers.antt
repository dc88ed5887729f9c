-- `refused` answers zeros beside the refusal.
use mathlib.Core.Path.{refl}
use Rattle.calculus.specs.Shares.{no_shares}
use Rattle.model_types.specs.SharesStruct.{stored_shares}
use Rattle.product_answer.specs.KeptProduct.{kept_refused}
use Rattle.product_answer.proofs.refused.Goals as goal

pub returns : goal.returns
unfolding kept_refused stored_shares no_shares
returns c = refl
