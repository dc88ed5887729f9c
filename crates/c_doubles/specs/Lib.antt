pub mod HandedDoubles
