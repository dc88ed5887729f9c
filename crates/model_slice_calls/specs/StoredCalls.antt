-- What a call leaves in slices: handed on to the face of the layer.
pub use Rattle.model_slice_answers.specs.StoredAnswers.{Stored}
