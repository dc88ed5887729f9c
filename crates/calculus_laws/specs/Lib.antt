-- Laws: of tests and answers, of monomials and keys, of terms.
pub mod FilledLaws
pub mod TestLaws
pub mod RefusalLaws
pub mod MonomialLaws
pub mod KeyLaws
pub mod MonomialKeyLaws
pub mod TermsLaws
pub mod SumLaws
pub mod CanonicalLaws
pub mod TurnedLaws
pub mod ProductLaws
pub mod FitsLaws
pub mod GrowthLaws
pub mod LoopLaws
-- Soundness of results.
pub mod SoundLaws
pub mod EachLaws
pub mod BookLaws
pub mod BookSoundLaws
-- Enclosure.
pub mod ChainLaws
pub mod UnitLaws
pub mod ValueLaws
pub mod EnclosureLaws
pub mod RangeLaws
pub mod RangeInsideLaws
pub mod SubstituteLaws
pub mod QuotientLaws
pub mod AntiderivativeEnclosureLaws
pub mod EvaluateLaws
pub mod IntegralEndsLaws
pub mod DenominatorLaws
pub mod ExactIntegralLaws
-- Where a radius came from.
pub mod ShareLaws
pub mod ShareRunLaws
-- A mirrored factor.
pub mod MirrorLaws
pub mod MirrorStepLaws
