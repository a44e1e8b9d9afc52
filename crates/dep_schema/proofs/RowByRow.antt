-- Rows that are read one at a time, by a query that only shows, whose bytes are hashed.
use Rattle.std.proofs.Common.{◌≡◌, ◌++◌, ◌+◌, ◌-◌, ◌^◌, ◌≤◌, ℕ, refl, length, length-append, ap, ◌∙◌, List, [], ◌∷◌, Option, Some, None, Result, Ok, Err, IfErr, OnErr, inl, subst, sym}
use Rattle.std.specs.Borrow.{Bor}
use Rattle.dep_fixity.specs.Fixity.{HashesMessage, digests_of}
use Rattle.dep_fixity.specs.declared.hasher.Digests.{Digests}
use Rattle.dep_fixity.specs.declared.hasher.Hasher.{Hasher}
use Rattle.sqlite.specs.Order.{Row, column}
use Rattle.sqlite.specs.State.{State, HasCleanDisk, Survives, FailsToQuery, IsUnchanged}
use Rattle.sqlite.specs.Held.{Held, state}
use Rattle.sqlite.specs.Given.{HasGiven, IsPlain, IsRefused}
use Rattle.sqlite.specs.Listing.{understood}
use Rattle.sqlite.specs.Next.{HasMoved}
use Rattle.sqlite.specs.declared.error.Error.{Error}
use Rattle.sqlite.specs.declared.rows.stream.Rows.{Rows}
use Rattle.sqlite_trees.specs.declared.store.Store.{Ghosts}
use Rattle.dep_schema.specs.Sent.{blob_of, joined_blobs}
use Rattle.dep_schema.specs.Clauses.{OnlyReads, OnlyShows, StaysOver, ReportsSeen, ReadsOverTables, FailsOver, FindsOver}
use Rattle.dep_schema.proofs.NextRow.{clean_before, refused_stays, stays_on, unchanged_on}
use Rattle.dep_schema.proofs.SendingLemmas.{begins_from, fails_from, joined_push}
use Rattle.dep_types.specs.declared.store_fault.StoreFault.{StoreFault}
use Rattle.dep_types.specs.declared.store_fault.StoreFault.TheVariants.{Store}
use Rattle.dep_tables.specs.Faults.{fault_for}
use Rattle.dep_tables.specs.Rows.{IsBytesValue, owner_values}
use Rattle.dep_tables.specs.Tables.{IsKnown}
use Rattle.dep_tables.specs.Texts.{blocks_of_text}
use Rattle.dep_tables.specs.declared.owner.BlockOwner.{BlockOwner}
use Rattle.dep_tables.proofs.Results.{if_then, if_err}
use Rattle.sqlite.proofs.Callers.{given_begin}
use Rattle.dep_schema.specs.Causes.{FailsToGive, FailsToGiveBlocks}
use Rattle.dep_schema.specs.Causes.FailsToGive.{query_failed, unread, uncounted}
use Rattle.dep_schema.specs.Causes.FailsToGiveBlocks.{not_given}
use Rattle.dep_schema.specs.Fixity.{AreDigestsOf, HashesShown}
use Rattle.dep_schema.proofs.KnownTables.{blocks_plain, blocks_in_order}
use Rattle.dep_schema.proofs.ShownFrom.{shown_from}

-- the hasher holds the rows that were given so far
abbrev pub Hashed : {S : Type 0} → Ghosts S → List ℕ → Row → State → Held S → ℕ → Hasher → Type 0
Hashed g sql params first now count hasher =
    (given : List Row) × HasGiven g sql params now given × IsUnchanged first (state g now) × HashesMessage hasher (joined_blobs given) × (length given ≡ count)

-- what the hashing of a query's rows leaves, by what it answers
pub record EndsHashing {S : Type 0} (g : Ghosts S) (sql : List ℕ) (params : Row) (first new : Held S) (result : Result Digests StoreFault) : Type 0 where
  pub hashes : ReportsSeen (OnlyShows sql) g first new result (HashesShown sql params)
  pub cause : FailsOver (OnlyShows sql) g first new result (FailsToGive sql params None)
  pub reads : ReadsOverTables g first new result

-- the same of an owner's blocks, over a connection that is given back
pub owner_hashed : {S : Type 0} {g : Ghosts S} {first now back : Held S} {result : Result Digests StoreFault} (o : BlockOwner)
    → now ≡ back → EndsHashing g blocks_of_text (owner_values o) first now result → FindsOver IsKnown g first back result (λ t. AreDigestsOf t o) (FailsToGiveBlocks o None)
owner_hashed {g = g} {first} {now} {result = result} o is ended =
    subst (λ h. FindsOver IsKnown g first h result (λ t. AreDigestsOf t o) (FailsToGiveBlocks o None)) is (record {
      ok = λ clean known. if_then result (ended.hashes clean (blocks_plain (state g first) known))
          (λ digests it. record { rows = it.rows; ordered = blocks_in_order (state g first) o known it.rows it.shown; are = it.are });
      cause = λ clean known. if_err result (ended.cause clean (blocks_plain (state g first) known)) (λ fault it. not_given it);
      reads = ended.reads;
    })

-- no query began
pub not_begun : {S X : Type 0} (g : Ghosts S) (sql : List ℕ) (params : Row) → OnlyReads sql → (old new : Held S) (result : Result X Error) (error : Error) (fault : StoreFault)
    → OnErr result (IsRefused g sql params old result new) → result ≡ Err error → fault ≡ fault_for error → EndsHashing g sql params old new (Err fault)
not_begun {X = X} g sql params reads old new result error fault left is of =
    let it : IsRefused g sql params old result new = subst (λ (r : Result X Error). OnErr r (IsRefused g sql params old result new)) is left in
    record {
      hashes = λ late plain. tt;
      cause = λ late plain. query_failed (error, inl (subst (λ (r : Result X Error). IfErr r (FailsToQuery sql params (state g old) (state g new))) is (it.err late)), of);
      reads = record { stays = refused_stays g sql params old new reads result error it is; same = λ late. tt };
    }

module _ {S : Type 0} (g : Ghosts S) (old new : Rows S g) (result : Result (Option (Bor Row)) Error) (moved : HasMoved g old result new) where
  earlier : HasCleanDisk (state g new.conn.now) → HasCleanDisk (state g old.conn.now)
  earlier = clean_before g old new result moved

  unchanged : (first : State) (next : Option (Bor Row)) → result ≡ Ok next → HasCleanDisk (state g new.conn.now)
      → IsUnchanged first (state g old.conn.now) → IsUnchanged first (state g new.conn.now)
  unchanged = unchanged_on g old new result moved

  module _ (sql : List ℕ) (params : Row) (first : State) (count : ℕ) (hasher : Hasher) (was : Hashed g sql params first old.conn.now count hasher) (late : HasCleanDisk (state g new.conn.now)) where
    pub hashed_all : result ≡ Ok None → IsPlain (understood first.now.schema sql) → (digests : Digests)
        → ((message : List ℕ) → HashesMessage hasher message → digests ≡ digests_of message) → HashesShown sql params first digests
    hashed_all is plain digests made =
        let shown = (rw is at (moved.ok late)) sql params was.0 was.1 in record {
          rows = was.0;
          shown = shown_from sql params first (state g old.conn.now) (state g new.conn.now) was.0 was.2 plain shown;
          are = made (joined_blobs was.0) was.3;
        }

    pub hashed_more : (row : Bor Row) (after : Hasher) → result ≡ Ok (Some row)
        → ((message : List ℕ) → HashesMessage hasher message → HashesMessage after (message ++ blob_of row.now)) → Hashed g sql params first new.conn.now (count + 1) after
    hashed_more row after is more = (
      was.0 ++ row.now ∷ [],
      (rw is at (moved.ok late)) sql params was.0 was.1,
      unchanged first (Some row) is late was.2,
      subst (HashesMessage after) (sym (joined_push was.0 row.now)) (more (joined_blobs was.0) was.3),
      length-append was.0 (row.now ∷ []) ∙ ap (λ n. n + 1) was.4,
    )

    failed : (error : Error) → result ≡ Err error → FailsToQuery sql params (state g old.conn.now) (state g new.conn.now) error
    failed error is = (rw is at (moved.err late)) sql params was.0 was.1

    pub why_failed : (error : Error) → result ≡ Err error → (fault : StoreFault) → fault ≡ fault_for error → IsPlain (understood first.now.schema sql) → Survives first (state g old.conn.now) (λ _. ⊥)
        → FailsToGive sql params None first (state g new.conn.now) fault
    why_failed error is fault of plain kept = query_failed (error, inl (fails_from sql params first (state g old.conn.now) (state g new.conn.now) error plain was.2 kept (failed error is)), of)

    pub why_refused : (row : Bor Row) → result ≡ Ok (Some row) → (fault : StoreFault) → (¬ (IsBytesValue (column row.now 2))) × (fault ≡ Store) → FailsToGive sql params None first (state g new.conn.now) fault
    why_refused row is fault none =
        unread was.0 row.now (begins_from sql params first (state g new.conn.now) (was.0 ++ row.now ∷ []) (unchanged first (Some row) is late was.2)
        (given_begin g sql params new.conn.now (was.0 ++ row.now ∷ []) ((rw is at (moved.ok late)) sql params was.0 was.1))) (inl none.0) none.1

  module _ (sql : List ℕ) (params : Row) (first : Held S) (count : ℕ) (hasher : Hasher) (before : StaysOver g first old.conn.now)
      (was : HasCleanDisk (state g old.conn.now) → Hashed g sql params (state g first) old.conn.now count hasher) where
    pub stays : StaysOver g first new.conn.now
    stays = stays_on g old new result moved first before (λ late. (was late).2)

    -- all rows were hashed
    pub ends_whole : result ≡ Ok None → (digests : Digests) → ((message : List ℕ) → HashesMessage hasher message → digests ≡ digests_of message)
        → EndsHashing g sql params first new.conn.now (Ok digests)
    ends_whole is digests made = record {
      hashes = λ late plain. hashed_all sql params (state g first) count hasher (was (earlier late)) late is plain digests made;
      cause = λ late plain. tt;
      reads = record { stays = stays; same = λ late. unchanged (state g first) None is late (was (earlier late)).2 };
    }

    -- one was not given
    pub ends_failed : (error : Error) → result ≡ Err error → (fault : StoreFault) → fault ≡ fault_for error
        → EndsHashing g sql params first new.conn.now (Err fault)
    ends_failed error is fault of = record {
      hashes = λ late plain. tt;
      cause = λ late plain. why_failed sql params (state g first) count hasher (was (earlier late)) late error is fault of plain before.survives;
      reads = record { stays = stays; same = λ late. tt };
    }

    -- one has no bytes
    pub ends_refused : (row : Bor Row) → result ≡ Ok (Some row) → (fault : StoreFault) → (¬ (IsBytesValue (column row.now 2))) × (fault ≡ Store)
        → EndsHashing g sql params first new.conn.now (Err fault)
    ends_refused row is fault none = record {
      hashes = λ late plain. tt;
      cause = λ late plain. why_refused sql params (state g first) count hasher (was (earlier late)) late row is fault none;
      reads = record { stays = stays; same = λ late. tt };
    }

-- no more rows can be counted
pub ends_uncounted : {S : Type 0} (g : Ghosts S) (sql : List ℕ) (params : Row) (first now : Held S) (count : ℕ) (hasher : Hasher) → StaysOver g first now
    → (HasCleanDisk (state g now) → Hashed g sql params (state g first) now count hasher) → 2 ^ 64 - 1 ≤ count → EndsHashing g sql params first now (Err Store)
ends_uncounted g sql params first now count hasher kept was full = record {
  hashes = λ late plain. tt;
  cause = λ late plain.
      let x = was late in
      uncounted x.0 (begins_from sql params (state g first) (state g now) x.0 x.2 (given_begin g sql params now x.0 x.1)) (subst (λ n. 2 ^ 64 - 1 ≤ n) (sym x.4) full) refl;
  reads = record { stays = kept; same = λ late. tt };
}
