-- What the clauses of the statements say of the states before and after.
use Rattle.std.specs.Prelude.{◌≡◌, ◌≢◌, ◌⊎◌, ◌≤◌, ⊤, ℕ, List, [], All, IsTrue, Result, Ok, Err, OnOk, OnErr, IfOk, IfErr, length, map}
use Rattle.sqlite.specs.Order.{Row}
use Rattle.sqlite.specs.declared.error.Error.{Error}
use Rattle.sqlite.specs.State.{State, HasCleanDisk, KeepsCommit, IsUnchanged, IsRolledBack, Survives, ExecutesInside, FailsToQuery, IsTooLate, Shown}
use Rattle.sqlite.specs.Given.{IsPlain}
use Rattle.sqlite.specs.Listing.{understood}
use Rattle.dep_tables.specs.Rowids.{columns_from}
use Rattle.dep_types.specs.declared.store_fault.StoreFault.{StoreFault}
use Rattle.dep_types.specs.declared.store_fault.StoreFault.TheVariants.{Store, Memory}
use Rattle.dep_tables.specs.Faults.{fault_for}
use Rattle.dep_tables.specs.Tables.{Tables, tables_of, IsOurs, Leads}

module _ {A E : Type 0} (old new : State) (result : Result A E) where
  -- inside a transaction over our tables, an Ok makes this of them
  abbrev pub Changes : (Tables → Tables) → Type 0
  Changes change = HasCleanDisk new → IsTrue old.in_transaction → IsOurs old
      → OnOk result (Leads old new (change (tables_of old)))

  -- there an Ok says this of what they were
  abbrev pub Shows : (Tables → Type 0) → Type 0
  Shows reported = HasCleanDisk new → IsTrue old.in_transaction → IsOurs old
      → OnOk result (reported (tables_of old))

  -- what is read of our tables
  abbrev pub Reads : (Tables → A → Type 0) → Type 0
  Reads reported = HasCleanDisk new → IsOurs old → IfOk result (reported (tables_of old))

  -- reading changes nothing
  abbrev pub ReadsOnly : Type 0
  ReadsOnly = HasCleanDisk new → IsOurs old → OnOk result (IsUnchanged old new)

  -- a failure has done nothing, or has ended the transaction as it began
  abbrev pub FailsWhole : Type 0
  FailsWhole = HasCleanDisk new → IsTrue old.in_transaction → IsTrue new.is_open
      → OnErr result (IsUnchanged old new ⊎ IsRolledBack old new)

  -- the same of a function that reads our tables
  abbrev pub FailsReading : Type 0
  FailsReading = HasCleanDisk new → IsTrue old.in_transaction → IsOurs old → IsTrue new.is_open
      → OnErr result (IsUnchanged old new ⊎ IsRolledBack old new)

  -- a failure has committed nothing: the transaction goes on, for its owner to give back, or has
  -- ended as it began
  abbrev pub FailsInside : Type 0
  FailsInside = HasCleanDisk new → IsTrue old.in_transaction → IsTrue new.is_open
      → OnErr result ((new.committed ≡ old.committed)
      × (IsTrue new.in_transaction ⊎ (new.now ≡ old.committed)))

  -- after an Ok the transaction goes on
  abbrev pub TransactionGoesOn : Type 0
  TransactionGoesOn = HasCleanDisk new → IsTrue old.in_transaction → OnOk result (IsTrue new.in_transaction)

module _ (old new : State) where
  -- inside a transaction nothing is committed
  abbrev pub StaysInside : Type 0
  StaysInside = HasCleanDisk new → IsTrue old.in_transaction → KeepsCommit old new

  -- a crash leaves nothing that it did not leave before
  abbrev pub CommitsNothing : Type 0
  CommitsNothing = Survives old new (λ _. ⊥)

module _ {T L A E : Type 0} (lenders : T → L) (state : T → State) (old new : T) (result : Result A E) where
  -- what every call on a transaction keeps, whatever it returns
  pub record StaysWithin : Type 0 where
    -- it is the same transaction, over the same connection
    pub same_reference : lenders new ≡ lenders old
    pub survives : CommitsNothing (state old) (state new)
    pub inside : TransactionGoesOn (state old) (state new) result
    pub kept : StaysInside (state old) (state new)
    pub fails : FailsInside (state old) (state new) result

  -- what one that runs a single statement keeps
  pub record RunsWithin : Type 0 where
    pub stays : StaysWithin
    pub err : FailsWhole (state old) (state new) result

  -- what one keeps that only reads
  pub record ReadsWithin : Type 0 where
    pub stays : StaysWithin
    pub same : ReadsOnly (state old) (state new) result
    pub err : FailsReading (state old) (state new) result

  -- what one keeps that only reads, if anything
  pub record MayReadWithin : Type 0 where
    pub stays : StaysWithin
    pub same : IsTrue (state old).is_open → ReadsOnly (state old) (state new) result
    pub err : FailsReading (state old) (state new) result

-- the statement of this text was run, and failed with an error for which this fault is returned
abbrev pub FailsToRun : List ℕ → Row → State → State → StoreFault → Type 0
FailsToRun sql params old new fault =
    (e : Error) × ExecutesInside 0 sql params old new (Err e) × (fault ≡ fault_for e)

-- the query of this text was asked, and failed with an error for which this fault is returned
abbrev pub FailsToAsk : List ℕ → Row → State → State → StoreFault → Type 0
FailsToAsk sql params old new fault =
    (e : Error) × (FailsToQuery sql params old new e ⊎ IsTooLate sql params old new e)
    × (fault ≡ fault_for e)

-- each row is one of these, and there is one at most
abbrev pub AtMostOne : (Row → Type 0) → List Row → Type 0
AtMostOne is_ours rows = All is_ours rows × (length rows ≤ 1)

-- there is just one row, which is one of these
abbrev pub JustOne : (Row → Type 0) → List Row → Type 0
JustOne is_ours rows = All is_ours rows × (length rows ≡ 1)

-- Rows that are not ours are a fault of the store. For ours only memory can be wanting, where there are
-- some, and where what is read of them is copied.
abbrev pub IsFaultAt : Type 0 → (List Row → Type 0) → List Row → StoreFault → Type 0
IsFaultAt copies are_ours rows fault =
    ((are_ours rows → ⊥) × (fault ≡ Store))
    ⊎ (copies × are_ours rows × (rows ≢ []) × (fault ≡ Memory))

-- the query failed, or the fault is one at the rows that it showed
abbrev pub FailsWithRows : Type 0 → (List Row → Type 0) → List ℕ → Row → State → State → StoreFault
    → Type 0
FailsWithRows copies are_ours sql params old new fault =
    FailsToAsk sql params old new fault
    ⊎ ((rows : List Row) × Shown sql params old new rows × IsFaultAt copies are_ours rows fault)

-- the same of rows that are copied, for which memory can be wanting
abbrev pub FailsToRead : (List Row → Type 0) → List ℕ → Row → State → State → StoreFault → Type 0
FailsToRead = FailsWithRows ⊤

-- the same of a row of numbers and digests, for which no memory is taken
abbrev pub FailsToReadNumbers : (List Row → Type 0) → List ℕ → Row → State → State → StoreFault
    → Type 0
FailsToReadNumbers = FailsWithRows ⊥

-- the query of this text showed rows, whose first columns are these values
abbrev pub ShowsColumns : List ℕ → Row → State → State → ℕ → List Row → Type 0
ShowsColumns sql params old new width values =
    (rows : List Row) × Shown sql params old new rows × (values ≡ map (columns_from 0 width) rows)

-- the text is a query with no RETURNING and no clock
abbrev pub IsPlainIn : State → List ℕ → Type 0
IsPlainIn s sql = IsPlain (understood s.now.schema sql)

module _ {T L A E : Type 0} (lenders : T → L) (state : T → State) (sql : List ℕ) (old new : T)
    (result : Result A E) where
  -- what a call keeps that asks a query, which only reads where it is a plain one
  pub record AsksWithin : Type 0 where
    pub stays : StaysWithin lenders state old new result
    pub same : HasCleanDisk (state new) → IsPlainIn (state old) sql
        → OnOk result (IsUnchanged (state old) (state new))
    pub err : IsPlainIn (state old) sql → FailsWhole (state old) (state new) result

module _ {A : Type 0} (old new : State) (result : Result A StoreFault) where
  -- Where a number is none of SQL's, that is a fault of the store, and nothing is done.
  abbrev pub RefusesNumbers : Type 0 → Type 0
  RefusesNumbers storable = (storable → ⊥)
      → (result ≡ Err Store) × (IsTrue old.is_open → IsUnchanged old new)

  -- Where all are, only the statement fails.
  abbrev pub FailsByRunning : Type 0 → List ℕ → Row → Type 0
  FailsByRunning storable sql params = storable → HasCleanDisk new → IsTrue old.in_transaction
      → IfErr result (FailsToRun sql params old new)

  -- the same of a query, which fails at the rows that it showed too
  abbrev pub FailsByReading : Type 0 → List ℕ → Row → (List Row → Type 0) → Type 0
  FailsByReading storable sql params are_ours = storable → HasCleanDisk new
      → IfErr result (FailsToRead are_ours sql params old new)

  -- and of one whose rows are numbers and digests
  abbrev pub FailsByReadingNumbers : Type 0 → List ℕ → Row → (List Row → Type 0) → Type 0
  FailsByReadingNumbers storable sql params are_ours = storable → HasCleanDisk new
      → IfErr result (FailsToReadNumbers are_ours sql params old new)

-- a statement that shows no rows
pub record Statement : Type 1 where
  -- its numbers are below 2^63, as SQL's are
  pub storable : Type 0
  -- what SQLite runs
  pub text : List ℕ
  -- what its parameters are bound to
  pub values : Row
  -- what it makes of our tables
  pub change : Tables → Tables

-- a statement that shows rows, of which such a value is read
pub record Query (A : Type 0) : Type 1 where
  -- its numbers are below 2^63, as SQL's are
  pub storable : Type 0
  -- what SQLite is asked
  pub text : List ℕ
  -- what its parameters are bound to
  pub values : Row
  -- the rows that it shows of our tables
  pub are_ours : List Row → Type 0
  -- whether what is read of them is copied, which takes memory
  pub copies : Type 0
  -- what the value says of our tables
  pub reported : Tables → A → Type 0

-- what SQLite does of the statement is what it makes of our tables
abbrev pub Makes : State → State → Statement → Type 0
Makes old new statement = (count : ℕ) → IsOurs old
    → ExecutesInside 0 statement.text statement.values old new (Ok count)
    → Leads old new (statement.change (tables_of old))

module _ {T L A : Type 0} (lenders : T → L) (state : T → State) (old new : T)
    (result : Result A StoreFault) where
  -- what a call does that runs this statement
  pub record Writes (statement : Statement) : Type 0 where
    pub ok : Changes (state old) (state new) result statement.change
    pub numbers : RefusesNumbers (state old) (state new) result statement.storable
    pub cause : FailsByRunning (state old) (state new) result statement.storable statement.text
        statement.values
    pub keeps : RunsWithin lenders state old new result

  -- What a call does that asks a query only where its numbers are below 2^63, and reads these columns of the
  -- rows that it shows.
  pub record AsksWhere (storable : Type 0) (text : List ℕ) (params : Row) (width : ℕ)
      (values : A → List Row) (copies : Type 0) (are_ours : List Row → Type 0) : Type 0 where
    pub shown : HasCleanDisk (state new)
        → IfOk result (λ found. ShowsColumns text params (state old) (state new) width (values found))
    pub numbers : RefusesNumbers (state old) (state new) result storable
    pub cause : storable → HasCleanDisk (state new)
        → IfErr result (FailsWithRows copies are_ours text params (state old) (state new))
    pub keeps : AsksWithin lenders state text old new result

  -- what a call does that asks this query
  pub record Queries (query : Query A) : Type 0 where
    pub ok : Reads (state old) (state new) result query.reported
    pub numbers : RefusesNumbers (state old) (state new) result query.storable
    pub cause : query.storable → HasCleanDisk (state new)
        → IfErr result (FailsWithRows query.copies query.are_ours query.text query.values
        (state old) (state new))
    pub keeps : ReadsWithin lenders state old new result
