-- `refused` answers the zero model, ends 0, q and r 0.
use mathlib.Core.Path.{refl}
use Rattle.calculus.specs.Model.{most_terms, zero_model}
use Rattle.model_types.specs.Arrays.{padded}
use Rattle.model_types.specs.ModelStruct.{pack}
use Rattle.sheet_book.specs.SummaryStruct.{refused_summary}
use Rattle.sheet_summary.proofs.refused.Goals as goal

pub returns : goal.returns
unfolding refused_summary pack zero_model padded most_terms
returns c = refl
