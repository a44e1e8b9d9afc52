-- What is done ahead of requests.
use Rattle.std.specs.Prelude.{Option, Some, IfSome, ◌≡◌}
use Rattle.dep_types.specs.State.{State}
use Rattle.dep_types.specs.declared.rows.ObjectRow.{ObjectRow}
use Rattle.dep_row_maps.specs.Stored.{HasRow}
use Rattle.dep_files.specs.Ahead.{AddsFiles, AreFilesAhead}
use Rattle.dep_objects.specs.Ahead.{AreReadAhead}
use Rattle.dep_staging.specs.HashedAhead.{AreRunning}
use Rattle.dep_views.specs.declared.ahead.RowsAhead.{RowsAhead}
use Rattle.dep_views.specs.declared.ahead.WorkAhead.{WorkAhead}

-- what was read of objects are their texts and files
pub record AreRowsAhead (s : State) (rows : RowsAhead) : Type 0 where
  pub texts : AreReadAhead s rows.texts
  pub files : AreFilesAhead s rows.files

-- what was hashed of uploads was received, and what was read of objects is theirs
pub record IsAhead (s : State) (ahead : WorkAhead) : Type 0 where
  pub hashes : AreRunning s ahead.hashes
  pub rows : AreRowsAhead s ahead.rows

-- where both rows are known of an object, it has the first in the first state and the second in the
-- second one, and files were added to it at most
abbrev pub AddsTo : (s t : State) → (before after : Option ObjectRow) → Type 0
AddsTo s t before after = (was now : ObjectRow) → before ≡ Some was → after ≡ Some now
    → HasRow s was × HasRow t now × AddsFiles s t was.object
