-- Laws of stepping through a sheet: handed on from the room that steps.
pub use Rattle.sheet_records.proofs.RecordsLaws.{opening_number, opening_place}
pub use Rattle.sheet_records.proofs.RecordsLaws.{not_empty, stepping_hands_out, stepping_kind, stepping_none}
