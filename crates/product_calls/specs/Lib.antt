pub mod MultiplyCallLaws
pub mod KeptModelLaws
pub mod SliceCallLaws
pub mod SliceContracts
