-- How a store stands, as those who serve it see it.
use Rattle.sqlite.specs.State as db
use Rattle.sqlite.specs.Held.{Held, state}
use Rattle.sqlite.specs.Tree.{Trees}
use Rattle.sqlite_trees.specs.declared.store.Store.{Ghosts}
use Rattle.dep_types.specs.Conditions.{Condition}
use Rattle.dep_transactions.specs.States.{StoreRepresents, IsLeftAs}

-- what its database shows
abbrev pub shown_by : db.State → Condition
shown_by d = record {
  is_open = d.is_open;
  is_honest = db.HasCleanDisk d;
  keeps = StoreRepresents d;
  Image = Trees;
  may_leave = d.may_leave;
  is_left_as = IsLeftAs;
  open_if_kept = λ s represents. represents.represents.is_open;
  sound_if_kept = λ s represents. represents.means.sound;
}

-- how a store stands: what its database shows
abbrev pub condition_of : {S : Type 0} → (g : Ghosts S) → Held S → Condition
condition_of g store = shown_by (state g store)
