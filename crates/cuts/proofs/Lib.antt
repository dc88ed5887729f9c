pub mod PieceLaws
pub mod UncutLaws
pub mod CutLaws
pub mod CutRefusalLaws
-- The claim, and facts beside it.
pub mod CutClaimProof
pub mod CutFacts
