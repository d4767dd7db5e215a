-- Statements that need no room.
use Rattle.np_acl_read.specs.declared.declared.Declared.{Declared}
use Rattle.np_acl_read.specs.declared.statement.Statement.{Statement}
use Rattle.np_acl_read.specs.declared.statement.Statement.TheVariants as statement
use Rattle.np_acl_read.specs.Adding.{Fits, NeedsNoRoom}

-- such a statement fits after everything
pub fits_anywhere : (declared : Declared) (s : Statement) → NeedsNoRoom s → Fits declared s
fits_anywhere declared (statement.Interface name) free = tt
fits_anywhere declared (statement.Section list kind) free = tt
fits_anywhere declared (statement.Remark list) free = tt
fits_anywhere declared (statement.ListEntry entry) free = absurd free
fits_anywhere declared (statement.SectionEntry entry) free = absurd free
fits_anywhere declared (statement.Group interface way list) free = tt
fits_anywhere declared statement.Other free = tt
