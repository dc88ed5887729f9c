-- What walks by hand share.
mod Apart
-- The theorems about stepping by the struct.
pub mod RecordsLaws
