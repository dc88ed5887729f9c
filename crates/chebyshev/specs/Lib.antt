-- Definitions, in order of reading.
pub mod Recurrence
pub mod RingIntegers
pub mod Coefficients
pub mod PowerRows
pub mod Tables
pub mod Curve
pub mod CurveOperations
pub mod CurveCalls
pub mod CurveClaim
-- Facts by computation.
pub mod Computing
pub mod ChebyshevEdges
-- What is proved of them.
pub mod RingIntegersLaws
pub mod RecurrenceLaws
