-- What the calls make of the state that the tables represent.
use Rattle.std.proofs.Common.{◌≡◌, ℕ, ◌≤◌, min, Option, Some, None, Result, Ok, Err, IfOk, IfErr, OnOk, OnErr, inl, IsTrue, true, refl, sym, ap, subst, arith}
use Rattle.std.specs.FinMap as map
use Rattle.std.specs.Prelude.{⊤}
use Rattle.std.specs.Result.{result_and}
use Rattle.sqlite.specs.State as db
use Rattle.sqlite.specs.State.{HasCleanDisk, IsUnchanged, Commits, Survives}
use Rattle.sqlite.specs.Effect.{Database}
use Rattle.sqlite.specs.Held.{Held, state}
use Rattle.sqlite.specs.declared.transaction.Transaction.{Transaction}
use Rattle.sqlite_trees.specs.declared.store.Store.{Ghosts}
use Rattle.dep_types.specs.State.{State, Upload, tick}
use Rattle.dep_types.specs.Sound.{IsSound}
use Rattle.dep_types.specs.Limits.{greatest_moment}
use Rattle.dep_types.specs.declared.config.Config.{Config}
use Rattle.dep_types.specs.declared.store_fault.StoreFault.{StoreFault}
use Rattle.dep_types.proofs.TickSound.{keeps_sound}
use Rattle.dep_tables.specs.Schema.{our_schema}
use Rattle.dep_tables.specs.Tables.{Tables, tables_in, tables_of, HasOurTables, IsOurs}
use Rattle.dep_row_maps.specs.TablesAre.{TablesAre}
use Rattle.dep_row_maps.specs.Clauses.{FromMaps}
use Rattle.dep_schema.specs.Reading.{StaysOrRollsBack}
use Rattle.dep_tables.specs.Clauses.{ReadsWithin}
use Rattle.dep_transactions.specs.OpenTables.{StaysFile}
use Rattle.dep_transactions.proofs.Transacting.{IsMade, Works, began_open, committed, uncommitted}
use Rattle.dep_transactions.specs.States.{StoreRepresents}
use Rattle.dep_transactions.specs.Transactions.{FailsToEnd, OnlyReports, OverStates}
use Rattle.dep_store.specs.ReadTransactions.{ReportsFrom}
use Rattle.dep_store.specs.Tasks.{MakesTables, TransactsIfOpen}
use Rattle.dep_store.proofs.Migrated.{represents_same, tables_kept}

-- no upload of a sound state has the number 0
pub none_at_0 : (s : State) → IsSound s → map.get s.uploads 0 ≡ None
none_at_0 s sound = either (map.get s.uploads 0) refl
  where
    either : (found : Option Upload) → map.get s.uploads 0 ≡ found → found ≡ None
    either None e = refl
    either (Some u) e = absurd (omega (arith, (sound.uploads 0 u e).number_given.least))

-- a clock of a sound state is shown whole
pub shown_whole : (clock reported shown : ℕ) → shown ≡ min clock greatest_moment → clock ≡ reported → reported ≤ greatest_moment → shown ≡ reported
shown_whole clock reported shown is same least = omega arith

-- a tick inside a transaction keeps the state sound
pub ticks : (old new : db.State) (config : Config) (moment clock shown : ℕ) → shown ≡ min clock greatest_moment
    → FromMaps old new (λ s. map.get s.uploads 0 ≡ None → (clock ≡ (tick config s moment).clock) × TablesAre (tables_of new) (tick config s moment))
    → (HasCleanDisk new → IsTrue old.in_transaction → IsOurs old → IsOurs new)
    → HasCleanDisk new → IsTrue old.in_transaction → IsOurs old
    → IsOurs new × OverStates (λ s n. n ≡ (tick config s moment).clock) (λ s. tick config s moment) (tables_of old) shown (tables_of new)
ticks old new config moment clock shown is reported ours clean inside are_ours = (
  ours clean inside are_ours,
  λ s means.
      let it = reported clean inside are_ours s means.are (none_at_0 s means.sound) in
      let sound = keeps_sound config s moment means.sound in
      (shown_whole clock (tick config s moment).clock shown is it.0 sound.clock, record { are = it.1; sound = sound }),
)

-- what reads alone, inside a transaction
pub reports : {T L A E : Type 0} (lenders : T → L) (state : T → db.State) (old new : T) (r : Result A E) (reported : Tables → A → Type 0)
    → (HasCleanDisk (state new) → IsTrue (state old).in_transaction → IsOurs (state old) → IfOk r (reported (tables_of (state old))))
    → ReadsWithin lenders state old new r → MakesTables lenders state old new r (OnlyReports reported)
reports {T} {L} {A} {E} lenders state old new r reported asks keeps = record {
  made = λ clean inside ours. each r ours (asks clean inside ours) (keeps.same clean ours);
  stays = keeps.stays;
}
  where
    each : (r : Result A E) → IsOurs (state old) → IfOk r (reported (tables_of (state old))) → OnOk r (IsUnchanged (state old) (state new))
        → IfOk r (λ answer. IsOurs (state new) × OnlyReports reported (tables_of (state old)) answer (tables_of (state new)))
    each (Ok answer) ours read same = let still = same.0.now_is in (subst HasOurTables (sym still) ours, (read, ap (λ (d : Database). tables_in d.trees) still))
    each (Err e) ours read same = tt

-- it told the same of each state
pub of_each : {A E : Type 0} (r : Result A E) (is : State → Type 0) (reported : State → A → Type 0) → ((s : State) → is s → IfOk r (reported s))
    → IfOk r (λ answer. (s : State) → is s → reported s answer)
of_each (Ok answer) is reported each = each
of_each (Err e) is reported each = tt

pub ok_leaves : {A E P Q : Type 0} (r : Result A E) → OnOk r P → (P → Q) → IfOk r (λ answer. Q)
ok_leaves (Ok answer) p f = f p
ok_leaves (Err e) p f = tt

-- what it told of the state that the database represents
pub reported_then : {S : Type 0} (g : Ghosts S) (old begun : Held S) (inside last : Transaction S) (reported : State → Type 0) → begun ≡ record old { in_transaction = true } → inside ≡ last
    → ReportsFrom (state g begun) (state g inside.conn.now) reported → HasCleanDisk (state g last.conn.now) → (s : State) → StoreRepresents (state g old) s → reported s
reported_then g old begun inside last reported is left reads clean s was =
    let inside_clean = subst (λ (tx : Transaction _). HasCleanDisk (state g tx.conn.now)) (sym left) clean in
    subst (λ (h : Held _). ReportsFrom (state g h) (state g inside.conn.now) reported) is reads
    was.represents.is_open inside_clean refl was.represents.ours s (subst (λ (t : Tables). TablesAre t s) (sym was.represents.rows) was.means.are) was.means.sound

-- what an Ok made of the tables inside the transaction that was begun
pub made_inside : {S A : Type 0} (g : Ghosts S) (old begun : Held S) (inside last : Transaction S) (makes : Tables → A → Tables → Type 0) (answer : A)
    → begun ≡ record old { in_transaction = true } → inside ≡ last
    → (HasCleanDisk (state g inside.conn.now) → IsTrue (state g begun).in_transaction → IsOurs (state g begun) → IsOurs (state g inside.conn.now) × makes (tables_of (state g begun)) answer (tables_of (state g inside.conn.now)))
    → IsMade our_schema our_schema g old last.conn.now makes answer
made_inside g old begun inside last makes answer is left made =
    subst (λ (tx : Transaction _). IsMade our_schema our_schema g old tx.conn.now makes answer) left
    (λ clean. subst (λ (h : Held _). IsTrue (state g h).in_transaction → IsOurs (state g h) → IsOurs (state g inside.conn.now) × makes (tables_of (state g h)) answer (tables_of (state g inside.conn.now))) is (made clean) refl)

-- it was committed, or its commit failed
module _ {S A : Type 0} (g : Ghosts S) (old inside new last : Held S) (makes : Tables → A → Tables → Type 0) (answer : A) where
  pub ended_by : (r : Result ⊤ StoreFault) → Works g old inside new → IsMade our_schema our_schema g old inside makes answer → (HasCleanDisk (state g inside) → IsTrue (state g inside).in_transaction)
      → (HasCleanDisk (state g new) → OnOk r (Commits (state g inside) (state g new))) → (HasCleanDisk (state g new) → IfErr r (FailsToEnd (state g inside) (state g new)))
      → Survives (state g inside) (state g new) (λ trees. trees ≡ (state g inside).now.trees) → new ≡ last → TransactsIfOpen (state g old) (state g last) (result_and r (Ok answer)) makes
  ended_by (Ok ended) work made goes_on commits fails survives same = record {
    transacts = committed g old inside new makes answer work made commits survives last same;
    opened = began_open g old inside new work commits survives last same;
  }
  ended_by (Err fault) work made goes_on commits fails survives same = record {
    transacts = uncommitted g old inside new makes answer fault work made goes_on fails survives last same;
    opened = λ clean. tt;
  }

-- ---- what reads alone, outside a transaction

-- it told this of the tables
pub ok_reported : {A E : Type 0} (old new : db.State) (r : Result A E) (reported : Tables → A → Type 0) (t : Tables) → StaysFile old t → OnOk r (IsUnchanged old new) → IfOk r (reported (tables_of old))
    → IfOk r (λ answer. reported t answer × StaysFile new t)
ok_reported old new (Ok answer) reported t represents still its = (subst (λ (now : Tables). reported now answer) represents.rows its, represents_same old new t represents still)
ok_reported old new (Err e) reported t represents still its = tt

pub represents_kept : (old new : db.State) (s : State) → StoreRepresents old s → IsTrue new.is_open → StaysOrRollsBack old new → StoreRepresents new s
represents_kept old new s represents is_open kept =
    record { tables = represents.tables; represents = tables_kept old new represents.tables represents.represents is_open kept; means = represents.means }

pub err_kept : {A E : Type 0} (old new : db.State) (r : Result A E) (s : State) → StoreRepresents old s → IsTrue new.is_open → StaysOrRollsBack old new → OnErr r (StoreRepresents new s)
err_kept old new (Ok x) s represents is_open kept = tt
err_kept old new (Err e) s represents is_open kept = represents_kept old new s represents is_open kept

pub ok_unchanged : {A E : Type 0} (old new : db.State) (r : Result A E) (s : State) → StoreRepresents old s → OnOk r (IsUnchanged old new) → OnOk r (StoreRepresents new s)
ok_unchanged old new (Ok x) s represents still = represents_kept old new s represents still.0.is_open (λ _. inl still)
ok_unchanged old new (Err e) s represents still = tt
