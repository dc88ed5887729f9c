pub mod AddendsLaws
