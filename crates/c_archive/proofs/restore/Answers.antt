-- `restore` makes the call.
use Rattle.c_archive.specs.ArchiveCalls.{restored_call}
use Rattle.c_archive.proofs.restore.Goals as goal

pub returns : goal.returns
unfolding restored_call
returns c = c.restore.ensures
