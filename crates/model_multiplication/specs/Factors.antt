-- What is asked of the factors of a product.
-- defined below, beside the answer of a product, and handed on to what stands above
pub use Rattle.product_answer.specs.ProductFactors.{Factors}
