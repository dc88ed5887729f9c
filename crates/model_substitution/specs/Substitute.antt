-- What a substitution asks: handed on from the crate that makes it in slices.
pub use Rattle.model_substitution_slices.specs.Substituting.{Substitution}
