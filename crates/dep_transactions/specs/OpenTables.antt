-- What a transaction and a crash leave of the tables.
use Rattle.std.specs.Prelude.{◌≡◌, ◌⊎◌, true, false, IsTrue, Result}
use Rattle.std.specs.Borrow.{MutBor}
use Rattle.sqlite.specs.Schema.{Schema}
use Rattle.sqlite.specs.Tree.{Trees}
use Rattle.sqlite.specs.State.{State, HasCleanDisk, Survives, Commits, IsRolledBack}
use Rattle.sqlite.specs.Held.{Held, state}
use Rattle.sqlite.specs.Steps.{FailsToCommit}
use Rattle.sqlite.specs.declared.error.Error.{Error}
use Rattle.sqlite_trees.specs.declared.store.Store.{Ghosts}
use Rattle.dep_tables.specs.Tables.{Tables, tables_in, tables_of, AreOf, IsOf}
use Rattle.dep_tables.specs.Clauses.{StaysInside, StaysWithin}
use Rattle.dep_tables.specs.Schema.{our_schema, older_schema}

-- what a crash may leave, and the next `open` find
pub record HoldsOf (its : Schema) (trees : Trees) (tables : Tables) : Type 0 where
  pub ours : AreOf its trees
  pub rows : tables_in trees ≡ tables

-- the trees hold these tables, of version 2
abbrev pub Holds : Trees → Tables → Type 0
Holds = HoldsOf our_schema

-- the same of version 1
abbrev pub HoldsOlder : Trees → Tables → Type 0
HoldsOlder = HoldsOf older_schema

-- between transactions, with the store open and these tables
pub record IsOpenWithOf (its : Schema) (s : State) (tables : Tables) : Type 0 where
  pub is_open : IsTrue s.is_open
  pub settled : s.in_transaction ≡ false
  pub committed : s.now ≡ s.committed
  pub ours : IsOf its s
  pub rows : tables_of s ≡ tables

-- an open store between transactions, with these tables of version 2
abbrev pub StaysFile : State → Tables → Type 0
StaysFile = IsOpenWithOf our_schema

-- the same of version 1
abbrev pub IsOpenWithOlder : State → Tables → Type 0
IsOpenWithOlder = IsOpenWithOf older_schema

-- back at the last commit
abbrev pub IsBack : State → State → Type 0
IsBack old new = (new.now ≡ old.committed) × (new.committed ≡ old.committed)

-- what every call on a transaction of this connection keeps
abbrev pub StaysOn : {S A E : Type 0} (g : Ghosts S) (old new : MutBor (Held S))
    → Result A E → Type 0
StaysOn {S} g old new =
    StaysWithin (λ (conn : MutBor (Held S)). conn.ghost_name)
    (λ (conn : MutBor (Held S)). state g conn.now) old new

-- how a transaction ends: committed, by a commit that failed, or given up
abbrev pub EndsTransaction : State → State → Type 0
EndsTransaction inside new = Commits inside new
    ⊎ (((e : Error) × FailsToCommit inside new e) ⊎ IsRolledBack inside new)

-- a transaction from its beginning to its end, as the clauses of the statements and of its end say it
pub record WholeTransaction {S : Type 0} (g : Ghosts S) (old inside new : Held S) : Type 0 where
  pub kept : StaysInside (state g (record old { in_transaction = true })) (state g inside)
  pub survives : Survives (state g inside) (state g new) (λ trees. trees ≡ (state g inside).now.trees)
  pub ends : HasCleanDisk (state g new) → EndsTransaction (state g inside) (state g new)

-- the connection once a transaction was begun
abbrev pub begun : {S : Type 0} → Held S → Held S
begun h = record h { in_transaction = true }
