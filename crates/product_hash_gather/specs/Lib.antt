pub mod GatheringContracts
