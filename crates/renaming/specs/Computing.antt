-- A named list of definitions: a fact that computes opens all of them by `unfolding` one name.
use Rattle.calculus.specs.Key as K
use Rattle.format.specs.Computing as F
use Rattle.renaming.specs.Reordering as R

-- renaming, and what a sheet is read, written and run by
unfoldable pub renames : Unit {0}
unfolding
    F.writes K.encode
    R.inverse R.tabulate R.rename R.rename_variable R.rename_terms R.rename_model R.rename_step R.rename_book
    R.rename_summary R.rename_result
    R.held_term R.names_variable R.rename_held_model R.rename_field R.rename_held_step R.rename_held
renames = tt
