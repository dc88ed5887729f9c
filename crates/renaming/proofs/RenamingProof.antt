-- THEOREMS: a reordering of the variables throughout a book or a sheet renames its answer.
use Rattle.std.proofs.Common.{◌∙◌, ap}
use Rattle.std.specs.Prelude.{length}
use Rattle.algebra.proofs.RationalOrder.{ℚO}
use Rattle.polynomial.proofs.BoxLaws.{box_length}
use Rattle.calculus_laws.specs.SoundLaws.{sound_parts}
use Rattle.format.specs.Format.{sheet_bytes}
use Rattle.format.proofs.WriteBackLaws.{read_passes, read_sheet}
use Rattle.format.proofs.WrittenBytesLaws.{sheet_all}
use Rattle.renaming.specs.RenamingClaim.{EveryModelRenames, EveryBookRenames, EveryHeldRenames}
use Rattle.renaming.specs.RenamingClaim.{EverySheetRenames}
use Rattle.renaming.proofs.RenamedValueLaws.{box_renamed, value_renamed}
use Rattle.renaming.proofs.RenamedTestLaws.{renamed_passes}
use Rattle.renaming.proofs.RenamedRunLaws.{renamed_run}
use Rattle.renaming.proofs.RenamedShareLaws.{renamed_rows}
use Rattle.renaming.proofs.InverseLaws.{book_there_and_back}
use Rattle.renaming.proofs.RenamedHeldLaws.{held_renamed_passes, view_book_renamed}
use Rattle.renaming.proofs.HeldInverseLaws.{held_there_and_back, sheet_length_renamed}
use Rattle.renaming.proofs.RenamedSheetLaws.{renamed_read, renamed_sheet, renamed_sheet_rows}

pub every_model_renames : EveryModelRenames
every_model_renames d m h ρ = record {
  renamed_point = box_renamed m.vars ρ;
  same_value = λ x b. value_renamed m.vars d m (sound_parts d m h).0 ρ x (box_length ℚO b);
}

pub every_book_renames : EveryBookRenames
every_book_renames b p ρ = record {
  passes = renamed_passes b p ρ;
  renamed_run = renamed_run b p ρ;
  same_rows = renamed_rows b p ρ;
  renamed_back = book_there_and_back b ρ p;
}

pub every_held_renames : EveryHeldRenames
every_held_renames h p ρ = record {
  passes = held_renamed_passes h p ρ;
  renamed_view = view_book_renamed h p ρ;
  renamed_back = held_there_and_back h p ρ;
}

pub every_sheet_renames : EverySheetRenames
every_sheet_renames sheet y h e ρ = record {
  bytes = sheet_all _ (held_renamed_passes h (read_passes sheet h e) ρ);
  renamed_read = renamed_read sheet h e ρ;
  same_length = sheet_length_renamed h (read_passes sheet h e) ρ ∙ ap length (read_sheet sheet h e y);
  renamed_run = renamed_sheet sheet h e ρ;
  same_rows = renamed_sheet_rows sheet h e ρ;
  renamed_back = ap sheet_bytes (held_there_and_back h (read_passes sheet h e) ρ) ∙ read_sheet sheet h e y;
}
