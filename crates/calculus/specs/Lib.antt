-- Definitions, in order of reading.
pub mod Monomial
pub mod Key
pub mod Terms
pub mod Model
pub mod Refusal
pub mod Operations
pub mod Functions
pub mod Tests
pub mod Calls
pub mod Book
pub mod Shares
pub mod SymmetricRange
pub mod Forms
pub mod FunctionEdges
pub mod Edges
pub mod CallEdges
pub mod QuotientEdges
pub mod ShareEdges
pub mod IntegralEdges
-- Lists of definitions that facts by computation open.
pub mod Computing
