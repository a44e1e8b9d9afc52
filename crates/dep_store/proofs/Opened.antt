-- What an open finds of a database that represented a state, in either version.
use Rattle.std.proofs.Common.{◌≡◌, ◌⊎◌, inl, inr, ℕ, [], ◌∷◌, false, IsTrue, Result, refl, sym, ap, subst, ◌∙◌}
use Rattle.sqlite.specs.Effect.{Database}
use Rattle.sqlite.specs.Schema.{Schema}
use Rattle.sqlite.specs.State as db
use Rattle.sqlite.specs.State.{HasCleanDisk, IsLive, Survives}
use Rattle.sqlite.specs.Tree.{Trees}
use Rattle.dep_types.specs.State.{State, empty_state}
use Rattle.dep_types.proofs.EmptySound.{empty_sound}
use Rattle.dep_tables.specs.Rows.{stored_format}
use Rattle.dep_row_maps.proofs.Whole.{first_stands}
use Rattle.dep_tables.specs.Schema.{our_schema, older_schema}
use Rattle.dep_tables.specs.Tables.{Tables, tables_in, HasTablesOf, IsKnownSchema}
use Rattle.dep_tables.specs.Versions.{our_version, older_version, HasVersion}
use Rattle.dep_migrations.specs.FirstTables.{new_store_tables}
use Rattle.dep_transactions.specs.OpenTables.{HoldsOf, IsOpenWithOf, IsBack}
use Rattle.dep_schema.specs.Openable.{HoldsNone, CommitsOpen, IsOpenable}
use Rattle.dep_schema.proofs.Again.{sees_trees}
use Rattle.dep_transactions.proofs.Transacting.{IsSettled}
use Rattle.dep_schema.proofs.Version.{not_older}
use Rattle.dep_transactions.specs.States.{TablesRepresent, StoreRepresents, OlderRepresents, IsLeftAs}
use Rattle.dep_store.specs.Migrating.{Migrates, Stood, OpenLeaves}
use Rattle.dep_store.proofs.Migrated.{stop_states}

-- tables have one version
pub version_is : (t : Tables) (v w : ℕ) → HasVersion v t → HasVersion w t → v ≡ w
version_is t v w one two = let same = sym one ∙ two in cc

-- by the version that was found, the tables of one version or of the other
pub opened_stood : (old new : db.State) (found : ℕ) (s : State) → ((its : Schema) → IsKnownSchema its → (t : Tables) → HoldsOf its old.now.trees t → HasVersion found t × IsOpenWithOf its new t)
    → IsLeftAs old.now.trees s → ((found ≡ our_version) × StoreRepresents new s) ⊎ ((found ≡ older_version) × OlderRepresents new s)
opened_stood old new found s finds (inl (t, holds, means)) =
    let it = finds our_schema (inl refl) t holds in inl (version_is t found our_version it.0 means.are.common.format, record { tables = t; represents = it.1; means = means })
opened_stood old new found s finds (inr (t, holds, means)) =
    let it = finds older_schema (inr refl) t holds in inr (version_is t found older_version it.0 means.are.common.format, record { tables = t; represents = it.1; means = means })

-- the tables of a new store represent the empty archive
pub first_means : TablesRepresent new_store_tables empty_state
first_means = record { are = first_stands (stored_format our_version ∷ []) refl; sound = empty_sound }

-- between transactions a crash leaves what is there
module _ (d : db.State) (settled : IsTrue d.is_open → IsSettled d) (between : IsTrue d.is_open → d.now ≡ d.committed) where
  left_now : (is_open : IsTrue d.is_open) → (trees : Trees) → d.may_leave trees → trees ≡ d.now.trees
  left_now is_open trees h = settled is_open trees h ∙ ap (λ (b : Database). b.trees) (sym (between is_open))

  -- so it is of a database that is left alone
  pub leaves_alone : OpenLeaves d d
  leaves_alone = record {
    fresh = λ clean is_open none trees h. inl (subst HoldsNone (sym (left_now is_open trees h)) none);
    found = λ clean is_open s left trees h. (s, subst (λ (t : Trees). IsLeftAs t s) (sym (left_now is_open trees h)) left, refl);
  }

-- a crash leaves what was committed before, or what the open commits
pub leaves_opened : (old new : db.State) → (IsTrue old.is_open → IsSettled old) → (IsTrue old.is_open → old.now ≡ old.committed) → Survives old new (CommitsOpen old) → OpenLeaves old new
leaves_opened old new settled between survives = record {
  fresh = λ clean is_open none trees h. elim (survives.crash clean trees h) [
    | inl earlier ↦ inl (subst HoldsNone (sym (still is_open trees earlier)) none)
    | inr made ↦ inr (inl (new_store_tables, made.new is_open none, first_means))
  ];
  found = λ clean is_open s left trees h. (
    s,
    elim (survives.crash clean trees h) [
      | inl earlier ↦ subst (λ (x : Trees). IsLeftAs x s) (sym (still is_open trees earlier)) left
      | inr made ↦ elim left [
        | inl (t, holds, means) ↦ inl (t, made.found is_open our_schema (inl refl) t holds, means)
        | inr (t, holds, means) ↦ inr (t, made.found is_open older_schema (inr refl) t holds, means)
      ]
    ],
    refl,
  );
}
  where
    still : IsTrue old.is_open → (trees : Trees) → old.may_leave trees → trees ≡ old.now.trees
    still is_open trees earlier = settled is_open trees earlier ∙ ap (λ (b : Database). b.trees) (sym (between is_open))

-- or what the migration of tables of version 1 leaves, which an empty database hasn't
pub leaves_migrated : {A E : Type 0} (old mid new : db.State) (result : Result A E) (found : ℕ) → found ≡ older_version
    → (HasCleanDisk mid → (its : Schema) → IsKnownSchema its → (t : Tables) → HoldsOf its old.now.trees t → HasVersion found t × IsOpenWithOf its mid t)
    → (HasCleanDisk mid → HoldsNone old.now.trees → found ≡ our_version) → Migrates mid new result → OpenLeaves old new
leaves_migrated old mid new result found one finds fresh it = record {
  fresh = λ clean is_open none trees h. absurd (not_older (sym (fresh (it.honest clean) none) ∙ one));
  found = λ clean is_open s left trees h. (
    s,
    elim (opened_stood old mid found s (finds (it.honest clean)) left) [
      | inl newest ↦ absurd (not_older (sym newest.0 ∙ one))
      | inr older ↦ stop_states mid new result it clean s older.1 trees h
    ],
    refl,
  );
}

pub is_openable : (old : db.State) → IsLive old → IsTrue old.is_open → (s : State) → IsLeftAs old.now.trees s → IsOpenable old
is_openable old live is_open s (inl (t, holds, means)) =
    let sees = sees_trees our_schema old (live is_open).0 t holds in
    inr (inr ((our_schema, inl refl, sees.ours), (our_version, inl refl, subst (HasVersion our_version) (sym sees.rows) means.are.common.format)))
is_openable old live is_open s (inr (t, holds, means)) =
    let sees = sees_trees older_schema old (live is_open).0 t holds in
    inr (inr ((older_schema, inr refl, sees.ours), (older_version, inr refl, subst (HasVersion older_version) (sym sees.rows) means.are.common.format)))

-- back at the last commit, it stands as it did
module _ (old new : db.State) (live : IsLive old) (was_open : IsTrue old.is_open) (between : old.now ≡ old.committed) (back : IsBack old new) (is_open : IsTrue new.is_open) (settled : new.in_transaction ≡ false) where
  pub represents_back : (its : Schema) (t : Tables) → HoldsOf its old.now.trees t → IsOpenWithOf its new t
  represents_back its t holds =
      let sees = sees_trees its old (live was_open).0 t holds in
      let same : new.now ≡ old.now = back.0 ∙ sym between in
      record {
        is_open = is_open;
        settled = settled;
        committed = back.0 ∙ sym back.1;
        ours = subst (HasTablesOf its) (sym same) sees.ours;
        rows = ap (λ (b : Database). tables_in b.trees) same ∙ sees.rows;
      }

  pub stood_back : (s : State) → IsLeftAs old.now.trees s → Stood new s
  stood_back s (inl (t, holds, means)) = inl (record { tables = t; represents = represents_back our_schema t holds; means = means })
  stood_back s (inr (t, holds, means)) = inr (record { tables = t; represents = represents_back older_schema t holds; means = means })
