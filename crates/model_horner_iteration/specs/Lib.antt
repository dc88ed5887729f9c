pub mod HornerIteration
pub mod IterationLaws
pub mod SliceHornerLaws
