-- What products in slices ask, and what they answer: handed on to the face of the layer.
pub use Rattle.product_room.specs.ProductTerms.{ScratchRoom, KeptRoom}
pub use Rattle.product_room.specs.ProductTermsLaws.{scratch_room, fewer_room, free_room}
-- the answer of a product in arrays is one that callers look into
unfoldable pub use Rattle.product_answer.specs.KeptProduct.{kept_model, kept_accounted}
pub use Rattle.product_answer.specs.KeptProduct.{KeptReady}
