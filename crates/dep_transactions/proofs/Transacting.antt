-- One transaction from its beginning to its end, over whatever tables the store has.
use Rattle.std.proofs.Common.{◌≡◌, ◌⊎◌, ℕ, List, inl, inr, true, false, Result, Ok, Err, IfOk, OnOk, OnErr, IsErr, IsTrue, refl, sym, ap, subst, ◌∙◌, arith}
use Rattle.std.specs.Borrow.{GName, MutBor}
use Rattle.sqlite.specs.Effect.{Database}
use Rattle.sqlite.specs.Order.{Row}
use Rattle.sqlite.specs.State.{IsNotRun, IsUnchanged, HasCleanDisk, IsRolledBack, Commits, Shows, Survives}
use Rattle.sqlite.specs.State as db
use Rattle.sqlite.specs.Held.{Held, state}
use Rattle.sqlite.specs.Steps.{FailsToCommit}
use Rattle.sqlite.specs.Tree.{Trees}
use Rattle.sqlite.specs.Schema.{Schema}
use Rattle.sqlite.specs.declared.error.Error.{Error}
use Rattle.sqlite.specs.declared.transaction.Transaction.{Transaction}
use Rattle.sqlite_trees.specs.declared.store.Store.{Ghosts}
use Rattle.dep_types.specs.State.{State}
use Rattle.dep_types.specs.declared.store_fault.StoreFault.{StoreFault}
use Rattle.dep_tables.specs.Tables.{Tables, tables_in, tables_of, AreOf, HasTablesOf, HasOurTables, IsOf}
use Rattle.dep_tables.specs.Clauses.{CommitsNothing, StaysInside}
use Rattle.dep_tables.proofs.Results.{if_failed, if_then}
use Rattle.dep_transactions.specs.OpenTables.{Holds, HoldsOf, StaysFile, IsOpenWithOf, EndsTransaction, StaysOn}
use Rattle.dep_transactions.specs.declared.lending.Lent.{Lent}
use Rattle.sqlite.proofs.Callers.{survives_begin}
use Rattle.sqlite.proofs.StateLemmas.{survives_then}
use Rattle.dep_transactions.proofs.Asking.{LentStays}
use Rattle.dep_transactions.proofs.Transactions.{begins_open, represents_left}
use Rattle.dep_transactions.specs.States.{TablesRepresent, StoreRepresents, DatabaseLeaves}
use Rattle.dep_transactions.specs.Transactions.{TransactsTo, Transacts, FailsToEnd, OnlyReports, IsBackAt, IsGivenBack}

-- what a crash leaves while nothing is left to be settled
abbrev pub IsSettled : db.State → Type 0
IsSettled d = (trees : Trees) → d.may_leave trees → trees ≡ d.committed.trees

-- the last commit has what the tables do
held_as_was : {its : Schema} (d : db.State) (t : Tables) → IsOpenWithOf its d t → (trees : Trees) → trees ≡ d.committed.trees → HoldsOf its trees t
held_as_was {its} d t represents trees e =
    let same : trees ≡ d.now.trees = e ∙ ap (λ (b : Database). b.trees) (sym represents.committed) in
    record { ours = subst (AreOf its) (sym same) represents.ours.trees; rows = ap tables_in same ∙ represents.rows }

pub left_as_was : {its : Schema} (d : db.State) (t : Tables) → IsSettled d → IsOpenWithOf its d t → (trees : Trees) → d.may_leave trees → HoldsOf its trees t
left_as_was d t settled represents trees h = held_as_was d t represents trees (settled trees h)

-- nothing was committed since
pub left_still : {its : Schema} (old new : db.State) (t : Tables) → IsSettled old → IsOpenWithOf its old t → Survives old new (λ _. ⊥) → HasCleanDisk new → (trees : Trees) → new.may_leave trees → HoldsOf its trees t
left_still old new t settled represents survives clean trees h = elim (survives.crash clean trees h) [
  | inl earlier ↦ left_as_was old t settled represents trees earlier
  | inr none ↦ absurd none
]

pub leaves_as_was : (d : db.State) (s : State) → IsSettled d → StoreRepresents d s → DatabaseLeaves d (λ left. left ≡ s)
leaves_as_was d s settled represents trees h =
    (s, inl (represents.tables, left_as_was d represents.tables settled represents.represents trees h, represents.means), refl)

pub leaves_still : (old new : db.State) (s : State) → IsSettled old → StoreRepresents old s → Survives old new (λ _. ⊥) → HasCleanDisk new → DatabaseLeaves new (λ left. left ≡ s)
leaves_still old new s settled represents survives clean trees h =
    (s, inl (represents.tables, left_still old new represents.tables settled represents.represents survives clean trees h, represents.means), refl)

-- a commit that fails in a transaction has ended it as it began
pub undone_by_commit : (inside new : db.State) (e : Error) → IsTrue inside.in_transaction → FailsToCommit inside new e → IsRolledBack inside new
undone_by_commit inside new e within (inl fails) = fails.3
undone_by_commit inside new e within (inr (_, ended, _)) = absurd (let it = (sym within) ∙ ended in cc)

pub nothing_reported : {A E : Type 0} (result : Result A E) (P : Type 0) → IsErr result → OnOk result P
nothing_reported (Ok answer) P failed = cc failed
nothing_reported (Err e) P failed = tt

-- what an Ok inside has made of the tables
abbrev pub IsMade : (one two : Schema) {S A : Type 0} (g : Ghosts S) (old inside : Held S) → (Tables → A → Tables → Type 0) → A → Type 0
IsMade one two g old inside Makes answer =
    HasCleanDisk (state g inside) → IsOf one (state g old) → IsOf two (state g inside) × Makes (tables_of (state g old)) answer (tables_of (state g inside))

module _ {S : Type 0} (g : Ghosts S) (old inside new : Held S) where
  -- what is known of its beginning and of the work inside
  pub record Works : Type 0 where
    pub settled : IsTrue (state g old).is_open → IsSettled (state g old)
    pub shut : IsTrue (state g new).is_open → HasCleanDisk (state g new)
    pub kept : StaysInside (state g (record old { in_transaction = true })) (state g inside)
    pub survives : CommitsNothing (state g (record old { in_transaction = true })) (state g inside)

  clean_inside : (P : Trees → Type 0) → Survives (state g inside) (state g new) P → HasCleanDisk (state g new) → HasCleanDisk (state g inside)
  clean_inside P survives clean = omega (arith, clean, survives.clean)

  was_honest : (P : Trees → Type 0) → Works → Survives (state g inside) (state g new) P → HasCleanDisk (state g new) → HasCleanDisk (state g old)
  was_honest P it survives clean = omega (arith, clean, survives.clean, it.survives.clean)

  was_open : Works → Survives (state g inside) (state g new) (λ trees. trees ≡ (state g inside).now.trees)
      → (HasCleanDisk (state g new) → EndsTransaction (state g inside) (state g new)) → IsTrue (state g new).is_open → IsTrue (state g old).is_open
  was_open it survives ends is_open =
      begins_open g old inside new (record { kept = it.kept; survives = survives; ends = ends }) (it.shut is_open) is_open

  -- it was given back
  back_at : {its : Schema} (P : Trees → Type 0) → Works → Survives (state g inside) (state g new) P → (HasCleanDisk (state g new) → IsRolledBack (state g inside) (state g new))
      → IsTrue (state g new).is_open → (t : Tables) → IsOpenWithOf its (state g old) t → IsOpenWithOf its (state g new) t
  back_at P it survives undone is_open t represents =
      let clean = it.shut is_open in
      let ended = undone clean in
      let back = ended.undone is_open in
      let kept = (it.kept (clean_inside P survives clean) refl).committed (ended.was_open is_open) in
      represents_left (state g old) (state g new) t represents is_open ended.autocommit (back.0 ∙ kept) (back.1 ∙ kept)

  -- a crash before its commit
  left_before : {its : Schema} → Works → (t : Tables) → IsOpenWithOf its (state g old) t → HasCleanDisk (state g inside) → (trees : Trees) → (state g inside).may_leave trees → HoldsOf its trees t
  left_before it t represents clean trees earlier = elim (it.survives.crash clean trees earlier) [
    | inl first ↦ left_as_was (state g old) t (it.settled represents.is_open) represents trees first
    | inr none ↦ absurd none
  ]

  -- the same end, for what may leave more
  wider : (P : Trees → Type 0) → Survives (state g inside) (state g new) (λ _. ⊥) → Survives (state g inside) (state g new) P
  wider P survives = record {
    clean = survives.clean;
    shield = survives.shield;
    counts = survives.counts;
    limit = survives.limit;
    closes = survives.closes;
    crash = λ clean trees h. elim (survives.crash clean trees h) [ inl earlier ↦ inl earlier | inr none ↦ absurd none ];
  }

  -- it is as it was, where it was given back
  pub back_by_rollback : Works → (HasCleanDisk (state g new) → IsRolledBack (state g inside) (state g new)) → Survives (state g inside) (state g new) (λ _. ⊥)
      → (IsTrue (state g old).is_open → (state g old).now ≡ (state g old).committed) → (last : Held S) → new ≡ last → IsBackAt (state g old) (state g last)
  back_by_rollback it undone survives between last same = subst (λ (h : Held S). IsBackAt (state g old) (state g h)) same (λ is_open.
      let clean = it.shut is_open in
      let ended = undone clean in
      let back = ended.undone is_open in
      let kept = it.kept (clean_inside (λ _. ⊥) survives clean) refl in
      let was = kept.was_open (ended.was_open is_open) in
      let committed = kept.committed (ended.was_open is_open) in
      (was, back.0 ∙ committed ∙ sym (between was), back.1 ∙ committed, ended.autocommit))

  -- and nothing was committed
  pub none_by_rollback : Works → Survives (state g inside) (state g new) (λ _. ⊥) → (last : Held S) → new ≡ last → Survives (state g old) (state g last) (λ _. ⊥)
  none_by_rollback it survives last same = subst (λ (h : Held S). Survives (state g old) (state g h) (λ _. ⊥)) same (survives_begin g old (state g new) _
      (survives_then (state g (record old { in_transaction = true })) (state g inside) (state g new) _ _ _ (λ clean trees none. none) (λ clean trees none. none) it.survives survives))

  -- so it began over an open store
  pub began_open : Works → (HasCleanDisk (state g new) → Commits (state g inside) (state g new)) → Survives (state g inside) (state g new) (λ trees. trees ≡ (state g inside).now.trees)
      → (last : Held S) → new ≡ last → HasCleanDisk (state g last) → IsTrue (state g old).is_open
  began_open it commits survives last same = subst (λ (h : Held S). HasCleanDisk (state g h) → IsTrue (state g old).is_open) same
      (λ clean. was_open it survives (λ clean. inl (commits clean)) (commits clean).0.is_open)

  module _ {one two : Schema} {A : Type 0} (Makes : Tables → A → Tables → Type 0) where
    -- the work failed, and the transaction was dropped
    pub gave_up : {E : Type 0} (result : Result A E) → IsErr result → Works → (HasCleanDisk (state g new) → IsRolledBack (state g inside) (state g new)) → Survives (state g inside) (state g new) (λ _. ⊥)
        → (last : Held S) → new ≡ last → TransactsTo one two (state g old) (state g last) result Makes
    gave_up {E} (Ok answer) failed it undone survives last same = nothing_reported {E = E} (Ok answer) _ failed
    gave_up (Err fault) failed it undone survives last same = subst (λ (h : Held S). TransactsTo one two (state g old) (state g h) (Err fault) Makes) same (record {
      ok = λ clean t represents. tt;
      err = back_at (λ _. ⊥) it survives undone;
      honest = was_honest (λ _. ⊥) it survives;
      was_open = was_open it (wider (λ trees. trees ≡ (state g inside).now.trees) survives) (λ clean. inr (inr (undone clean)));
      stop = λ clean t represents trees h. elim (survives.crash clean trees h) [
        | inl earlier ↦ inl (left_before it t represents (clean_inside (λ _. ⊥) survives clean) trees earlier)
        | inr none ↦ absurd none
      ];
    })

    module _ (answer : A) where
      made_of : IsMade one two g old inside Makes answer → HasCleanDisk (state g inside) → (t : Tables) → IsOpenWithOf one (state g old) t → IsOf two (state g inside) × Makes t answer (tables_of (state g inside))
      made_of made clean t represents =
          let it = made clean represents.ours in
          (it.0, subst (λ (was : Tables). Makes was answer (tables_of (state g inside))) represents.rows it.1)

      left_after : Works → IsMade one two g old inside Makes answer → Survives (state g inside) (state g new) (λ trees. trees ≡ (state g inside).now.trees) → HasCleanDisk (state g new)
          → (t : Tables) → IsOpenWithOf one (state g old) t → (trees : Trees) → (state g new).may_leave trees
          → HoldsOf one trees t ⊎ ((reported : A) × (after : Tables) × HoldsOf two trees after × Makes t reported after)
      left_after it made survives clean t represents trees h =
          let then = clean_inside (λ trees. trees ≡ (state g inside).now.trees) survives clean in
          elim (survives.crash clean trees h) [
            | inl earlier ↦ inl (left_before it t represents then trees earlier)
            | inr same ↦
                let now = made_of made then t represents in
                inr (answer, tables_of (state g inside), record { ours = subst (AreOf two) (sym same) now.0.trees; rows = ap tables_in same }, now.1)
          ]

      -- it was committed
      pub committed : {E : Type 0} → Works → IsMade one two g old inside Makes answer → (HasCleanDisk (state g new) → Commits (state g inside) (state g new)) → Survives (state g inside) (state g new) (λ trees. trees ≡ (state g inside).now.trees)
          → (last : Held S) → new ≡ last → TransactsTo one two {E = E} (state g old) (state g last) (Ok answer) Makes
      committed {E} it made commits survives last same = subst (λ (h : Held S). TransactsTo one two {E = E} (state g old) (state g h) (Ok answer) Makes) same (record {
        ok = λ clean t represents.
            let now = made_of made (clean_inside (λ trees. trees ≡ (state g inside).now.trees) survives clean) t represents in (
              tables_of (state g inside),
              represents_committed (commits clean).0 now.0,
              now.1,
            );
        err = λ is_open t represents. tt;
        honest = was_honest (λ trees. trees ≡ (state g inside).now.trees) it survives;
        was_open = was_open it survives (λ clean. inl (commits clean));
        stop = left_after it made survives;
      })
        where
          represents_committed : Shows (state g inside) (state g new) (state g inside).now (state g inside).now false → IsOf two (state g inside) → IsOpenWithOf two (state g new) (tables_of (state g inside))
          represents_committed shows ours = record {
            is_open = shows.is_open;
            settled = shows.mode;
            committed = shows.now_is ∙ sym shows.committed_is;
            ours = subst (HasTablesOf two) (sym shows.now_is) ours;
            rows = ap (λ (d : Database). tables_in d.trees) shows.now_is;
          }

      -- its commit failed
      pub uncommitted : (fault : StoreFault) → Works → IsMade one two g old inside Makes answer → (HasCleanDisk (state g inside) → IsTrue (state g inside).in_transaction)
          → (HasCleanDisk (state g new) → FailsToEnd (state g inside) (state g new) fault) → Survives (state g inside) (state g new) (λ trees. trees ≡ (state g inside).now.trees)
          → (last : Held S) → new ≡ last → TransactsTo one two (state g old) (state g last) (Err fault) Makes
      uncommitted fault it made goes_on fails survives last same = subst (λ (h : Held S). TransactsTo one two (state g old) (state g h) (Err fault) Makes) same (record {
        ok = λ clean t represents. tt;
        err = back_at (λ trees. trees ≡ (state g inside).now.trees) it survives undone;
        honest = was_honest (λ trees. trees ≡ (state g inside).now.trees) it survives;
        was_open = was_open it survives (λ clean. inr (inl ((fails clean).0, (fails clean).1)));
        stop = left_after it made survives;
      })
        where
          undone : HasCleanDisk (state g new) → IsRolledBack (state g inside) (state g new)
          undone clean = undone_by_commit (state g inside) (state g new) (fails clean).0 (goes_on (clean_inside (λ trees. trees ≡ (state g inside).now.trees) survives clean)) (fails clean).1

-- a call on the transaction that was begun, and lent to it, does such work
module _ {S : Type 0} {begun inside : Lent S} {last : Transaction S} (g : Ghosts S) (old : Held S) where
  pub works_within : {A E : Type 0} {r : Result A E} (new : Held S) → LentStays g begun inside r
      → begun.tx.now.conn.now ≡ record old { in_transaction = true } → inside.tx.now ≡ last
      → (IsTrue (state g old).is_open → IsSettled (state g old)) → (IsTrue (state g new).is_open → HasCleanDisk (state g new))
      → Works g old last.conn.now new
  works_within new stays is left settled shut = subst (λ (tx : Transaction S). Works g old tx.conn.now new) left (record {
    settled = settled;
    shut = shut;
    kept = subst (λ (h : Held S). StaysInside (state g h) (state g inside.tx.now.conn.now)) is stays.kept;
    survives = subst (λ (h : Held S). CommitsNothing (state g h) (state g inside.tx.now.conn.now)) is stays.survives;
  })

  -- and after an Ok the transaction goes on
  pub still_inside : {A E : Type 0} {x : A} → LentStays {A = A} {E = E} g begun inside (Ok x)
      → begun.tx.now.conn.now ≡ record old { in_transaction = true } → inside.tx.now ≡ last
      → HasCleanDisk (state g last.conn.now) → IsTrue (state g last.conn.now).in_transaction
  still_inside stays is left = subst (λ (tx : Transaction S). HasCleanDisk (state g tx.conn.now) → IsTrue (state g tx.conn.now).in_transaction) left
      (λ clean. stays.inside clean (subst (λ (h : Held S). IsTrue h.in_transaction) (sym is) refl))

-- so does a call on the transaction that was begun
module _ {S A E : Type 0} {begun inside : MutBor (Held S)} {r : Result A E} (g : Ghosts S) (old : Held S) where
  pub works_on : (new : Held S) → StaysOn g begun inside r → begun.now ≡ record old { in_transaction = true }
      → (IsTrue (state g old).is_open → IsSettled (state g old)) → (IsTrue (state g new).is_open → HasCleanDisk (state g new))
      → Works g old inside.now new
  works_on new stays is settled shut = record {
    settled = settled;
    shut = shut;
    kept = subst (λ (h : Held S). StaysInside (state g h) (state g inside.now)) is stays.kept;
    survives = subst (λ (h : Held S). CommitsNothing (state g h) (state g inside.now)) is stays.survives;
  }

-- and after an Ok the transaction goes on
pub still_on : {S A E : Type 0} {begun inside : MutBor (Held S)} {x : A} (g : Ghosts S) (old : Held S) → StaysOn {A = A} {E = E} g begun inside (Ok x)
    → begun.now ≡ record old { in_transaction = true } → HasCleanDisk (state g inside.now) → IsTrue (state g inside.now).in_transaction
still_on g old stays is clean = stays.inside clean (subst (λ (h : Held _). IsTrue h.in_transaction) (sym is) refl)

-- it is the connection that was lent to the transaction
pub on_connection : {S A E : Type 0} {begun inside : MutBor (Held S)} {r : Result A E} {name : GName} (g : Ghosts S) → StaysOn g begun inside r
    → begun.ghost_name ≡ name → name ≡ inside.ghost_name
on_connection g stays is = sym is ∙ sym stays.same_reference

-- ---- what it says of states

pub err_state : {A E : Type 0} (old new : db.State) (result : Result A E) (Makes : Tables → A → Tables → Type 0)
    → Transacts old new result Makes → IsTrue new.is_open → (s : State) → StoreRepresents old s → OnErr result (StoreRepresents new s)
err_state {A} {E} old new result Makes it is_open s represents = each result (it.err is_open represents.tables represents.represents)
  where
    each : (r : Result A E) → OnErr r (StaysFile new represents.tables) → OnErr r (StoreRepresents new s)
    each (Ok answer) h = tt
    each (Err e) stand = record { tables = represents.tables; represents = stand; means = represents.means }

module _ {A E : Type 0} (old new : db.State) (result : Result A E) (Makes : Tables → A → Tables → Type 0)
    (reported : State → A → Type 0) (next : State → State) where
  -- where it makes that of this state
  abbrev pub IsOver : State → Type 0
  IsOver s = (t : Tables) (answer : A) (after : Tables) → Makes t answer after → TablesRepresent t s → reported s answer × TablesRepresent after (next s)

  pub ok_over_states : Transacts old new result Makes → HasCleanDisk new → (s : State) → IsOver s → StoreRepresents old s
      → IfOk result (λ answer. reported s answer × StoreRepresents new (next s))
  ok_over_states it clean s over represents = if_then result (it.ok clean represents.tables represents.represents) (λ answer does.
      let made = over represents.tables answer does.0 does.2 represents.means in
      (made.0, record { tables = does.0; represents = does.1; means = made.1 }))

  pub stop_over_states : Transacts old new result Makes → HasCleanDisk new → (s : State) → IsOver s → StoreRepresents old s
      → DatabaseLeaves new (λ left. (left ≡ s) ⊎ (left ≡ next s))
  stop_over_states it clean s over represents trees h = elim (it.stop clean represents.tables represents.represents trees h) [
    | inl earlier ↦ (s, inl (represents.tables, earlier, represents.means), inl refl)
    | inr (answer, after, holds, makes) ↦ (
      next s,
      inl (after, holds, (over represents.tables answer after makes represents.means).1),
      inr refl,
    )
  ]

-- ---- where nothing was done

-- the connection is as it was
pub unmoved : {A E : Type 0} (d : db.State) (result : Result A E) (Makes : Tables → A → Tables → Type 0) → (IsTrue d.is_open → IsSettled d)
    → ((t : Tables) → StaysFile d t → IfOk result (λ answer. Makes t answer t)) → Transacts d d result Makes
unmoved d result Makes settled made = record {
  ok = λ clean t represents. if_then result (made t represents) (λ answer it. (t, represents, it));
  err = λ is_open t represents. if_failed result represents;
  honest = λ clean. clean;
  was_open = λ is_open. is_open;
  stop = λ clean t represents trees h. inl (left_as_was d t (settled represents.is_open) represents trees h);
}

-- all was given back, and the store is open
pub tables_back : {its : Schema} (old new : db.State) (t : Tables) → IsBackAt old new → IsTrue new.is_open → IsOpenWithOf its old t → IsOpenWithOf its new t
tables_back old new t back is_open represents =
    let it = back is_open in
    represents_left old new t represents is_open it.3 (it.1 ∙ represents.committed) it.2

-- all was given back before it
pub after_back : {A E : Type 0} (old mid new : db.State) (result : Result A E) (Makes : Tables → A → Tables → Type 0) → (IsTrue old.is_open → IsSettled old)
    → (IsTrue mid.is_open → HasCleanDisk mid) → IsBackAt old mid → Survives old mid (λ _. ⊥) → (HasCleanDisk mid → IsTrue mid.is_open)
    → Transacts mid new result Makes → Transacts old new result Makes
after_back old mid new result Makes settled shut back survives opened it = record {
  ok = λ clean t represents. it.ok clean t (tables_back old mid t back (opened (it.honest clean)) represents);
  err = λ is_open t represents. it.err is_open t (tables_back old mid t back (it.was_open is_open) represents);
  honest = λ clean. let before = it.honest clean in omega (arith, before, survives.clean);
  was_open = λ is_open. (back (it.was_open is_open)).0;
  stop = λ clean t represents trees h. it.stop clean t (tables_back old mid t back (opened (it.honest clean)) represents) trees h;
}

-- it failed, and all was given back
pub fails_back : {its : Schema} {A E : Type 0} (old new : db.State) (r : Result A E) (Makes : Tables → A → Tables → Type 0) → IsErr r → (IsTrue old.is_open → IsSettled old)
    → IsBackAt old new → Survives old new (λ _. ⊥) → TransactsTo its its old new r Makes
fails_back old new (Ok answer) Makes failed settled back survives = cc failed
fails_back old new (Err e) Makes failed settled back survives = record {
  ok = λ clean t represents. tt;
  err = λ is_open t represents. tables_back old new t back is_open represents;
  honest = λ clean. omega (arith, clean, survives.clean);
  was_open = λ is_open. (back is_open).0;
  stop = λ clean t represents trees h. inl (left_still old new t (settled represents.is_open) represents survives clean trees h);
}

-- it was given back, and makes the tables that were there
pub given_back : {A E : Type 0} (old new : db.State) (answer : A) (Makes : Tables → A → Tables → Type 0) → (IsTrue old.is_open → IsSettled old) → IsGivenBack old new
    → (HasCleanDisk new → (t : Tables) → StaysFile old t → Makes t answer t) → Transacts {E = E} old new (Ok answer) Makes
given_back old new answer Makes settled it made = record {
  ok = λ clean t represents. (t, tables_back old new t it.back (it.opened clean) represents, made clean t represents);
  err = λ is_open t represents. tt;
  honest = λ clean. omega (arith, clean, it.survives.clean);
  was_open = λ is_open. (it.back is_open).0;
  stop = λ clean t represents trees h. inl (left_still old new t (settled represents.is_open) represents it.survives clean trees h);
}

-- what it represents now, it represented then
pub stood_before : (old new : db.State) → IsBackAt old new → old.in_transaction ≡ false → (s : State) → StoreRepresents new s → StoreRepresents old s
stood_before old new back settled s represents =
    let it = back represents.represents.is_open in
    record {
      tables = represents.tables;
      represents = record {
        is_open = it.0;
        settled = settled;
        committed = sym it.1 ∙ represents.represents.committed ∙ it.2;
        ours = subst HasOurTables it.1 represents.represents.ours;
        rows = ap (λ (d : Database). tables_in d.trees) (sym it.1) ∙ represents.represents.rows;
      };
      means = represents.means;
    }

pub back_then : (old mid new : db.State) → IsBackAt old mid → IsBackAt mid new → IsBackAt old new
back_then old mid new one two is_open =
    let later = two is_open in
    let first = one later.0 in
    (first.0, later.1 ∙ first.1, later.2 ∙ first.2, later.3)

pub none_then : (old mid new : db.State) → Survives old mid (λ _. ⊥) → Survives mid new (λ _. ⊥) → Survives old new (λ _. ⊥)
none_then old mid new = survives_then old mid new _ _ _ (λ clean trees none. none) (λ clean trees none. none)

-- all was given back before it was
pub given_back_then : (old mid new : db.State) → IsBackAt old mid → Survives old mid (λ _. ⊥) → IsGivenBack mid new → IsGivenBack old new
given_back_then old mid new back survives it = record {
  opened = it.opened;
  back = back_then old mid new back it.back;
  survives = none_then old mid new survives it.survives;
}

-- nothing was done, or it was given back
pub back_by_statement : (old new : db.State) → (IsTrue old.is_open → old.now ≡ old.committed) → old.in_transaction ≡ false
    → IsUnchanged old new ⊎ IsRolledBack old new → IsBackAt old new
back_by_statement old new between settled (inl still) is_open =
    (still.0.was_open, still.0.now_is, still.0.committed_is, still.0.mode ∙ settled)
back_by_statement old new between settled (inr undone) is_open =
    let was = undone.was_open is_open in
    let back = undone.undone is_open in
    (was, back.0 ∙ sym (between was), back.1, undone.autocommit)

pub not_run : (old new : db.State) (sql : List ℕ) (params : Row) (e : Error) → IsNotRun old new sql params e → IsUnchanged old new ⊎ IsRolledBack old new
unfolding IsNotRun
not_run old new sql params e (inl none) = inl none.1
not_run old new sql params e (inr fails) = inr fails.3

-- ---- what it says where it only tells

module _ {A E : Type 0} (old new : db.State) (result : Result A E) (reported : Tables → A → Type 0) where
  pub ok_reports : Transacts old new result (OnlyReports reported) → HasCleanDisk new → (t : Tables) → StaysFile old t
      → IfOk result (λ answer. reported t answer × StaysFile new t)
  ok_reports it clean t represents = if_then result (it.ok clean t represents) (λ answer does. (does.2.0, subst (StaysFile new) does.2.1 does.1))

  pub still_reports : Transacts old new result (OnlyReports reported) → (IsTrue new.is_open → HasCleanDisk new) → IsTrue new.is_open
      → (t : Tables) → StaysFile old t → StaysFile new t
  still_reports it shut is_open t represents = each result (ok_reports it (shut is_open) t represents) (it.err is_open t represents)
    where
      each : (r : Result A E) → IfOk r (λ answer. reported t answer × StaysFile new t) → OnErr r (StaysFile new t) → StaysFile new t
      each (Ok answer) h none = h.1
      each (Err e) none h = h

  pub left_reports : Transacts old new result (OnlyReports reported) → HasCleanDisk new → (t : Tables) → StaysFile old t
      → (trees : Trees) → new.may_leave trees → Holds trees t
  left_reports it clean t represents trees h = elim (it.stop clean t represents trees h) [
    | inl earlier ↦ earlier
    | inr (answer, after, holds, made) ↦ subst (Holds trees) made.1 holds
  ]

-- ---- one part of what an Ok says

pub reported_alone : {A E : Type 0} (r : Result A E) (P : A → Type 0) (Q : Type 0) → IfOk r (λ answer. P answer × Q) → IfOk r P
reported_alone (Ok answer) P Q h = h.0
reported_alone (Err e) P Q h = tt

pub kept_alone : {A E : Type 0} (r : Result A E) (P : A → Type 0) (Q : Type 0) → IfOk r (λ answer. P answer × Q) → OnOk r Q
kept_alone (Ok answer) P Q h = h.1
kept_alone (Err e) P Q h = tt
