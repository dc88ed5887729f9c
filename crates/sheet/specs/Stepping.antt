-- What stepping through a sheet hands out: handed on from the room that steps.
-- where opening begins, with its verdict
pub use Rattle.sheet_records.specs.Records.{start_answer}
-- what the record at a place is, its bytes, and the place of the next; the bytes of record i, counted from 0, empty
-- where there is none
unfoldable pub use Rattle.sheet_records.specs.Records.{kind_at, bytes_at, next_at, record_bytes}
