-- Definitions: tests 1 to 4 alone.
pub mod Headed
-- Laws: the tests by what the walks answer.
pub mod HeadedLaws
pub mod RecordTestLaws
