-- A migration, call by call.
use Rattle.std.proofs.Common.{◌≡◌, inl, inr, IsTrue, Result, Ok, Err, OnOk, OnErr, IfOk, refl, sym, ap, subst, ◌∙◌}
use Rattle.sqlite.specs.Effect.{Database}
use Rattle.sqlite.specs.Schema.{Schema}
use Rattle.sqlite.specs.State as db
use Rattle.sqlite.specs.State.{HasCleanDisk, Survives, IsUnchanged}
use Rattle.sqlite.specs.Tree.{Trees}
use Rattle.dep_types.specs.State.{State}
use Rattle.dep_tables.specs.Rowids.{IsOrdered}
use Rattle.dep_tables.specs.Schema.{our_schema, older_schema}
use Rattle.dep_tables.specs.Tables.{Tables, tables_in, tables_of, HasTablesOf, IsKnown}
use Rattle.dep_row_maps.specs.Sha512s.{upgraded}
use Rattle.dep_transactions.specs.OpenTables.{IsBack, StaysFile, IsOpenWithOf, IsOpenWithOlder}
use Rattle.dep_transactions.specs.Transactions.{TransactsTo}
use Rattle.dep_transactions.proofs.Transactions.{represents_left}
use Rattle.dep_transactions.proofs.Transacting.{IsSettled, left_still}
use Rattle.dep_schema.specs.Reading.{StaysOrRollsBack}
use Rattle.dep_schema.specs.Sha512s.{AreValuesOf}
use Rattle.dep_schema.proofs.Upgraded.{stand_upgraded}
use Rattle.dep_transactions.specs.States.{TablesRepresent, OlderTablesRepresent, StoreRepresents, OlderRepresents, IsLeftAs}
use Rattle.dep_store.specs.Migrating.{IsUpgraded, Migrates}

pub known_older : (d : db.State) (t : Tables) → IsOpenWithOlder d t → IsKnown d
known_older d t represents = (older_schema, inr refl, represents.ours)

-- nothing was changed
pub represents_same : {its : Schema} (a b : db.State) (t : Tables) → IsOpenWithOf its a t → IsUnchanged a b → IsOpenWithOf its b t
represents_same {its} a b t represents same = record {
  is_open = same.0.is_open;
  settled = same.0.mode ∙ represents.settled;
  committed = same.0.now_is ∙ represents.committed ∙ sym same.0.committed_is;
  ours = subst (HasTablesOf its) (sym same.0.now_is) represents.ours;
  rows = ap (λ (d : Database). tables_in d.trees) same.0.now_is ∙ represents.rows;
}

-- a call that only reads has left all as it was, or has ended no transaction
pub tables_kept : {its : Schema} (a b : db.State) (t : Tables) → IsOpenWithOf its a t → IsTrue b.is_open → StaysOrRollsBack a b → IsOpenWithOf its b t
tables_kept a b t represents is_open kept =
    elim (kept is_open) [
      | inl same ↦ represents_same a b t represents same
      | inr back ↦ represents_left a b t represents is_open back.autocommit (back.undone is_open).0 (back.undone is_open).1
    ]

module _ (old new : db.State) (settled : IsTrue old.is_open → IsSettled old) (shut : IsTrue new.is_open → HasCleanDisk new) where
  -- the values were not all computed
  pub not_computed : {A E : Type 0} (e : E) → (HasCleanDisk new → IsKnown old → StaysOrRollsBack old new) → (HasCleanDisk new → HasCleanDisk old)
      → (HasCleanDisk new → IsKnown old → Survives old new (λ _. ⊥)) → Migrates {A = A} old new (Err e)
  not_computed e kept clean survives = record {
    ok = λ late t represents. tt;
    err = λ is_open t represents. tables_kept old new t represents is_open (kept (shut is_open) (known_older old t represents));
    honest = clean;
    stop = λ late t represents trees h. inl (left_still old new t (settled represents.is_open) represents (survives late (known_older old t represents)) late trees h);
  }

-- the values were computed, and a transaction was tried
pub was_tried : {E : Type 0} (old mid new : db.State) (values : _) (result : Result (Unit {0}) E)
    → (HasCleanDisk mid → IsKnown old → AreValuesOf (tables_of old) values)
    → (HasCleanDisk mid → IsKnown old → IsUnchanged old mid)
    → (IsTrue mid.is_open → HasCleanDisk mid) → (HasCleanDisk mid → HasCleanDisk old)
    → TransactsTo older_schema our_schema mid new result (λ t _ after. after ≡ upgraded values t)
    → Migrates old new result
was_tried {E} old mid new values result are same shut clean it = record {
  ok = λ late t represents. each result (it.ok late t (represents_mid (it.honest late) t represents)) (λ _. made (it.honest late) t represents);
  err = λ is_open t represents. it.err is_open t (represents_mid (shut (it.was_open is_open)) t represents);
  honest = λ late. clean (it.honest late);
  stop = λ late t represents trees h. elim (it.stop late t (represents_mid (it.honest late) t represents) trees h) [
    | inl earlier ↦ inl earlier
    | inr (answer, after, holds, is) ↦ inr (after, holds, record { values = values; are = made (it.honest late) t represents; is = is })
  ];
}
  where
    represents_mid : HasCleanDisk mid → (t : Tables) → IsOpenWithOlder old t → IsOpenWithOlder mid t
    represents_mid late t represents = represents_same old mid t represents (same late (known_older old t represents))

    made : HasCleanDisk mid → (t : Tables) → IsOpenWithOlder old t → AreValuesOf t values
    made late t represents = subst (λ (x : Tables). AreValuesOf x values) represents.rows (are late (known_older old t represents))

    each : {t : Tables} (r : Result (Unit {0}) E) → IfOk r (λ _. (after : Tables) × StaysFile new after × (after ≡ upgraded values t)) → (Unit {0} → AreValuesOf t values)
        → OnOk r ((after : Tables) × StaysFile new after × IsUpgraded t after)
    each (Ok x) (after, stand, is) all = (after, stand, record { values = values; are = all x; is = is })
    each (Err e) h all = tt

-- ---- states

-- the rowids of the files rise
pub files_rise : (d : db.State) (t : Tables) → IsOpenWithOlder d t → IsOrdered t.files
files_rise d t represents = subst (λ (x : Tables). IsOrdered x.files) represents.rows represents.ours.trees.ordered.1.1.1.1.0

-- the tables that gained their values represent the same state
pub upgraded_means : (t after : Tables) (s : State) → IsOrdered t.files → OlderTablesRepresent t s → IsUpgraded t after → TablesRepresent after s
upgraded_means t after s up means is =
    subst (λ (x : Tables). TablesRepresent x s) (sym is.is) (record { are = stand_upgraded t s means.are means.sound up is.values is.are; sound = means.sound })

module _ {A E : Type 0} (old new : db.State) (result : Result A E) (it : Migrates old new result) where
  pub ok_states : HasCleanDisk new → (s : State) → OlderRepresents old s → OnOk result (StoreRepresents new s)
  ok_states clean s stood = each result (it.ok clean stood.tables stood.represents)
    where
      each : (r : Result A E) → OnOk r ((after : Tables) × StaysFile new after × IsUpgraded stood.tables after) → OnOk r (StoreRepresents new s)
      each (Ok x) (after, stand, is) = record { tables = after; represents = stand; means = upgraded_means stood.tables after s (files_rise old stood.tables stood.represents) stood.means is }
      each (Err e) h = tt

  pub err_states : IsTrue new.is_open → (s : State) → OlderRepresents old s → OnErr result (OlderRepresents new s)
  err_states is_open s stood = each result (it.err is_open stood.tables stood.represents)
    where
      each : (r : Result A E) → OnErr r (IsOpenWithOlder new stood.tables) → OnErr r (OlderRepresents new s)
      each (Ok x) h = tt
      each (Err e) stand = record { tables = stood.tables; represents = stand; means = stood.means }

  pub stop_states : HasCleanDisk new → (s : State) → OlderRepresents old s → (trees : Trees) → new.may_leave trees → IsLeftAs trees s
  stop_states clean s stood trees h = elim (it.stop clean stood.tables stood.represents trees h) [
    | inl earlier ↦ inr (stood.tables, earlier, stood.means)
    | inr (after, holds, is) ↦ inl (after, holds, upgraded_means stood.tables after s (files_rise old stood.tables stood.represents) stood.means is)
  ]

-- ---- back at the last commit

-- a call that only reads
pub kept_back : (old new : db.State) → old.now ≡ old.committed → StaysOrRollsBack old new → IsTrue new.is_open → IsBack old new
kept_back old new between kept is_open =
    elim (kept is_open) [
      | inl same ↦ (same.0.now_is ∙ between, same.0.committed_is)
      | inr back ↦ back.undone is_open
    ]

-- one behind it that fell back
pub back_behind : (old mid new : db.State) → IsUnchanged old mid → IsBack mid new → IsBack old new
back_behind old mid new same back = (back.0 ∙ same.0.committed_is, back.1 ∙ same.0.committed_is)
