-- `sound_slices` is the test of all rules: terms that pass leave the rest to decide, and the span is known as far as
-- the cap.
use Rattle.model_slices.specs.HandedModels.{handed}
use Rattle.model_soundness.specs.SoundPassLaws.{Passed}
use Rattle.model_soundness.proofs.sound_slices.Given as goal

abbrev pub invariant-loop-i : goal.invariant-loop-i
invariant-loop-i l =
    Passed l.d (handed l.n l.count l.radius l.keys l.coefficients) l.span l.least l.i
