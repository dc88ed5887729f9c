pub mod PowerLoopLaws
