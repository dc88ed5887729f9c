pub mod SliceTestLaws
