-- What an audit and an export tell of the database in which the store was opened.
use Rattle.std.proofs.Common.{◌≡◌, ℕ, List, [], inl, inr, IsTrue, refl}
use Rattle.std.proofs.lemmas.List.Elements.{All-nil}
use Rattle.sqlite.specs.State as db
use Rattle.sqlite.specs.State.{HasCleanDisk}
use Rattle.std.specs.declared.io.ErrorKind.{ErrorKind}
use Rattle.std.specs.declared.io.ErrorKind.TheVariants.{OutOfMemory}
use Rattle.dep_types.specs.State.{State, empty_state}
use Rattle.dep_tables.specs.Tables.{Tables}
use Rattle.dep_tables.specs.Versions.{our_version, older_version, HasVersion}
use Rattle.dep_transactions.specs.OpenTables.{Holds, HoldsOlder, StaysFile}
use Rattle.dep_schema.specs.Openable.{HoldsNone}
use Rattle.dep_migrations.specs.FirstTables.{new_store_tables}
use Rattle.dep_transactions.specs.States.{StoreRepresents, IsLeftAs, DatabaseLeaves}
use Rattle.dep_commands.specs.Audits.{Audits, HasAuditedSome, object_rows}
use Rattle.dep_schema.proofs.Version.{not_older}
use Rattle.dep_store.proofs.Opened.{first_means, version_is}
use Rattle.dep_store.specs.Migrating.{IsUpgraded, OpensOlder}
use Rattle.dep_store.proofs.Tries.{represents_still}
use Rattle.dep_program.specs.Folders.{without_folder}
use Rattle.dep_program.specs.declared.outcome.Outcome.{Outcome}
use Rattle.dep_program.specs.declared.outcome.Outcome.TheVariants.{StoreFault}
use Rattle.dep_application.specs.Databases.{IsNotOpened}
use Rattle.dep_application.specs.Examinations.{AuditsDatabase, ExportsDatabase, ExportsInto}
use Rattle.dep_application.proofs.DatabaseLemmas.{kept_still}

-- of no object anything was written
none_begun : (t : Tables) → HasAuditedSome t []
none_begun t = record {
  rows = [];
  others = object_rows t;
  first = refl;
  found = [];
  are = record { objects = refl; audits = All-nil _ };
  front = inl (record { rest = []; joined = refl });
}

-- no folder was filled
pub unfilled : (s : State) (object : ℕ) (kind : ErrorKind) → ExportsInto s object [] (without_folder kind)
unfilled s object OutOfMemory = inl (inl refl)
unfilled s object _ = inr (refl, refl)

-- a database that was not opened
module _ (old new : db.State) (refused : IsNotOpened old new) where
  pub audits_none : AuditsDatabase old new [] StoreFault
  audits_none = record {
    fresh = λ honest none. (new_store_tables, first_means, none_begun new_store_tables);
    found = λ honest t holds. none_begun t;
    older = λ honest t holds reported. inr (refl, refl);
    stays = inr (refl, refused);
    tables = inr (refl, refused);
  }

  pub exports_none : (object : ℕ) → ExportsDatabase old new object StoreFault
  exports_none object = record {
    given = [];
    fresh = λ honest none. inl (inl refl);
    found = λ honest s left. inl (inl refl);
    stays = inr (refl, refused);
  }

-- tables of which version 1 is told are of version 2 then
renewed : (t : Tables) (mid : db.State) → HasVersion older_version t → OpensOlder t mid → (after : Tables) × StaysFile mid after × IsUpgraded t after
renewed t mid reported (inl it) = it.1
renewed t mid reported (inr it) = absurd (not_older (version_is t our_version older_version it.0 reported))

-- a store that was opened
module _ (given mid new : db.State) (clean : IsTrue new.is_open → HasCleanDisk new) (honest : HasCleanDisk new → HasCleanDisk mid)
    (fresh : HasCleanDisk mid → HoldsNone given.now.trees → StoreRepresents mid empty_state)
    (found : HasCleanDisk mid → (s : State) → IsLeftAs given.now.trees s → StoreRepresents mid s) where
  pub audits_all : (written : List ℕ) (outcome : Outcome)
      → (HasCleanDisk mid → (t : Tables) → Holds given.now.trees t → HasVersion our_version t × StaysFile mid t)
      → (HasCleanDisk mid → (t : Tables) → HoldsOlder given.now.trees t → OpensOlder t mid)
      → (HasCleanDisk new → (t : Tables) → StaysFile mid t → Audits t written outcome)
      → (IsTrue new.is_open → (t : Tables) → StaysFile mid t → StaysFile new t)
      → (HasCleanDisk new → (s : State) → StoreRepresents mid s → DatabaseLeaves new (λ left. left ≡ s))
      → AuditsDatabase given new written outcome
  audits_all written outcome tables older writes still stop = record {
    fresh = λ is_honest none.
        let at = fresh (honest is_honest) none in (at.tables, at.means, writes is_honest at.tables at.represents);
    found = λ is_honest t holds. writes is_honest t (tables (honest is_honest) t holds).1;
    older = λ is_honest t holds reported.
        let after = renewed t mid reported (older (honest is_honest) t holds) in inl (after.0, after.2, writes is_honest after.0 after.1);
    stays = inl (kept_still given mid new clean honest fresh found
        (λ is_open s at. represents_still s at (still is_open at.tables at.represents)) stop);
    tables = inl (record {
      newest = λ is_open t holds.
          let at = tables (honest (clean is_open)) t holds in (at.0, still is_open t at.1);
      older = λ is_open t holds reported.
          let after = renewed t mid reported (older (honest (clean is_open)) t holds) in (after.0, still is_open after.0 after.1, after.2);
    });
  }

  pub exports_into : (object : ℕ) (sent : List ℕ) (outcome : Outcome)
      → (HasCleanDisk new → (s : State) → StoreRepresents mid s → ExportsInto s object sent outcome)
      → (IsTrue new.is_open → (s : State) → StoreRepresents mid s → StoreRepresents new s)
      → (HasCleanDisk new → (s : State) → StoreRepresents mid s → DatabaseLeaves new (λ left. left ≡ s))
      → ExportsDatabase given new object outcome
  exports_into object sent outcome gives still stop = record {
    given = sent;
    fresh = λ is_honest none. gives is_honest empty_state (fresh (honest is_honest) none);
    found = λ is_honest s left. gives is_honest s (found (honest is_honest) s left);
    stays = inl (kept_still given mid new clean honest fresh found still stop);
  }
