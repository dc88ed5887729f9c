-- Laws that callers of the operations use, handed on from the crates that make them.
pub use Rattle.model_soundness.specs.SoundPassLaws.{many_not}
pub use Rattle.model_soundness.specs.SliceSoundLaws.{borrowed_own, handed_own}
pub use Rattle.model_types.specs.ResultLaws.{sound_order, Holds, held_vars, held_view, held_sound, Got, got}
pub use Rattle.model_keys.specs.KeyExponentLaws.{monomial_place}
pub use Rattle.model_range.specs.RangeSizeLaws.{below_within, above_within}
pub use Rattle.model_integral.specs.IntegralPartsLaws.{ends_within, exact_within, exact_remainder}
pub use Rattle.model_call_tests.specs.CallStructLaws.{vars_view}
pub use Rattle.product_calls.specs.SliceContracts.{scratch_room, fewer_room, free_room}
pub use Rattle.model_quotient_room.specs.model_multiplication.FactorRoomLaws.{factors_room}
pub use Rattle.model_quotient_room.specs.model_proposal.SliceFormLaws.{products_most}
pub use Rattle.model_quotient_room.specs.model_quotient.LentLaws.{copied_proposal, bare_proposal, bare_quotient}
pub use Rattle.product_calls.specs.KeptModelLaws.{kept_vars, kept_counted, kept_radius, refused_vars, refused_count}
pub use Rattle.product_calls.specs.KeptModelLaws.{refused_radius}
