-- Rows that are read one at a time, by a query that only shows, whose bytes are sent.
use Rattle.std.proofs.Common.{◌≡◌, ◌≢◌, ◌⊎◌, ◌++◌, ◌+◌, ◌-◌, ◌^◌, ◌<◌, ◌≤◌, ℕ, List, [], ◌∷◌, length, Option, Some, None, Result, Ok, Err, IfErr, OnErr, false, inl, inr, refl, sym, subst, ap, length-append, ◌∙◌, arith}
use Rattle.std.specs.Borrow.{Bor}
use Rattle.std.specs.Io.KnownBytes.{Appends}
use Rattle.std.proofs.KnownBytes.{Appends-nil, Appends-trans}
use Rattle.sqlite.specs.Order.{Row, column}
use Rattle.sqlite.specs.State.{State, HasCleanDisk, Survives, CommitsShowing, FailsToQuery, IsUnchanged, Begins}
use Rattle.sqlite.specs.Held.{Held, state}
use Rattle.sqlite.specs.Given.{HasGiven, HasBegun, IsRefused}
use Rattle.sqlite.specs.Next.{HasMoved}
use Rattle.sqlite.specs.declared.error.Error.{Error}
use Rattle.sqlite.specs.declared.rows.stream.Rows.{Rows}
use Rattle.sqlite.proofs.Callers.{given_begin}
use Rattle.sqlite_trees.specs.declared.store.Store.{Ghosts}
use Rattle.dep_types.specs.Writing.{HasRisen}
use Rattle.dep_schema.specs.Clauses.{OnlyReads, OnlyShows, StaysOver, ReadsOverTables, LeavesOver, FailsOver, GivesOver}
use Rattle.dep_types.specs.declared.store_fault.StoreFault.{StoreFault}
use Rattle.dep_types.specs.declared.store_fault.StoreFault.TheVariants as store
use Rattle.dep_tables.specs.Faults.{fault_for}
use Rattle.dep_tables.specs.Rows.{IsBytesValue, owner_values}
use Rattle.dep_tables.specs.Tables.{IsOurs}
use Rattle.dep_tables.specs.Texts.{blocks_of_text}
use Rattle.dep_tables.specs.declared.owner.BlockOwner.{BlockOwner}
use Rattle.dep_tables.proofs.Leading.{plain_here}
use Rattle.dep_tables.proofs.Results.{if_err, ok_then}
use Rattle.dep_schema.specs.Causes.{FailsToGive, FailsToGiveBlocks, FailsToSend, FailsToSendBlocks}
use Rattle.dep_schema.specs.Causes.FailsToGiveBlocks.{not_given}
use Rattle.dep_schema.specs.Causes.FailsToGive.{query_failed, too_few, unread, uncounted}
use Rattle.dep_schema.specs.Faults.{BlamesOutlet, IsStoppedBy}
use Rattle.dep_schema.specs.Sent.{blob_of, joined_blobs, GivesSized, StopsBetween, SendsBlocksOf, SendsSized}
use Rattle.dep_types.specs.StoreFaults.{stream_fault_for}
use Rattle.dep_types.specs.declared.stream_fault.StreamFault.{StreamFault}
use Rattle.dep_types.specs.declared.stream_fault.StreamFault.TheVariants.{Writer, Store, Memory, NoSuchFile}
use Rattle.dep_schema.proofs.NextRow as row
use Rattle.dep_schema.proofs.NextRow.{begun_stays, refused_stays}
use Rattle.dep_schema.proofs.Stills.{begun_reads}
use Rattle.dep_schema.proofs.ShownFrom.{shown_from}
use Rattle.dep_schema.proofs.FaultsReported.{asked_failed, asked_there, stopped_for, stopped_more}
use Rattle.dep_schema.proofs.OrderedBlocks.{sends_owner, owner_is}
use Rattle.dep_schema.proofs.SendingLemmas.{all_sent, begins_from, cut_sized, fails_from, joined_more, less_left, some_left, stops_sized}

-- what the sending of a query's rows leaves, by what it answers
pub record EndsSending {S : Type 0} (g : Ghosts S) (sql : List ℕ) (params : Row) (first new : Held S) (size : ℕ) (start taken : Option (List ℕ)) (were are : ℕ) (result : Result (Unit {0}) StreamFault) : Type 0 where
  pub streams : GivesOver (OnlyShows sql) g first new start taken (λ s sent. SendsSized sql params s size sent result)
  pub why : FailsOver (OnlyShows sql) g first new result (FailsToSend sql params size)
  pub reads : ReadsOverTables g first new result
  pub outlet : BlamesOutlet Writer were are result
  pub there : result ≢ Err NoSuchFile

-- what the sending of an owner's blocks leaves
pub record EndsBlocks {S : Type 0} (g : Ghosts S) (o : BlockOwner) (first new : Held S) (size : ℕ) (start taken : Option (List ℕ)) (were are : ℕ) (result : Result (Unit {0}) StreamFault) : Type 0 where
  pub streams : GivesOver IsOurs g first new start taken (SendsBlocksOf o size result)
  pub why : FailsOver IsOurs g first new result (FailsToSendBlocks o size)
  pub leaves : LeavesOver g first new result
  pub outlet : BlamesOutlet Writer were are result
  pub there : result ≢ Err NoSuchFile

shows : (s : State) → IsOurs s → OnlyShows blocks_of_text s
shows s ours = plain_here s blocks_of_text ours owner_is.plain

-- over a connection that is given back
pub owner_sent : {S : Type 0} {g : Ghosts S} {o : BlockOwner} {first now back : Held S} {size : ℕ} {start taken : Option (List ℕ)} {were are : ℕ} {result : Result (Unit {0}) StreamFault}
    → now ≡ back → EndsSending g blocks_of_text (owner_values o) first now size start taken were are result → EndsBlocks g o first back size start taken were are result
owner_sent {g = g} {o} {first} {now} {size = size} {start} {taken} {were} {are} {result} is ended =
    subst (λ h. EndsBlocks g o first h size start taken were are result) is (record {
      streams = (ended.streams.0, ended.streams.1, λ clean ours. sends_owner (state g first) o size ended.streams.0 result ours (ended.streams.2 clean (shows (state g first) ours)));
      why = λ clean ours. if_err result (ended.why clean (shows (state g first) ours))
          (λ fault. stopped_more (FailsToGive blocks_of_text (owner_values o) (Some size) (state g first) (state g now)) (FailsToGiveBlocks o (Some size) (state g first) (state g now)) fault (λ of it. not_given it));
      leaves = record { stays = ended.reads.stays; same = λ clean. ok_then result (ended.reads.same clean) (λ same. inr same) };
      outlet = ended.outlet;
      there = ended.there;
    })

-- the rows so far were sent, and there is more to send
pub record HasSent {S : Type 0} (g : Ghosts S) (sql : List ℕ) (params : Row) (first now : Held S) (size left count : ℕ) (start taken : Option (List ℕ)) (were are : ℕ) : Type 0 where
  pub some : 0 < left
  pub sent : List ℕ
  pub counted : left + length sent ≡ size
  pub appended : Appends start taken sent
  pub shown : HasCleanDisk (state g now)
      → (given : List Row) × HasGiven g sql params now given × IsUnchanged (state g first) (state g now) × (sent ≡ joined_blobs given) × (length given ≡ count)
  pub stays : StaysOver g first now
  pub same : are ≡ were

-- ---- faults

abbrev fails : (A : Type 0) → StreamFault → Result A StreamFault
fails A fault = Err fault

fault_is : (A : Type 0) (fault other : StreamFault) → fails A fault ≡ fails A other → fault ≡ other
fault_is A fault other e = cc

no_fault : (A : Type 0) (x : A) (fault : StreamFault) → Ok x ≢ fails A fault
no_fault A x fault e = cc

-- a fault of the store behind whole rows
stopped : {S : Type 0} (g : Ghosts S) (sql : List ℕ) (params : Row) (first new : Held S) (size : ℕ) (start taken : Option (List ℕ)) (were are : ℕ) (sent : List ℕ) (fault : StoreFault)
    → length sent < size → Appends start taken sent → are ≡ were
    → (HasCleanDisk (state g new) → OnlyShows sql (state g first) → StopsBetween sql params (state g first) sent)
    → (HasCleanDisk (state g new) → OnlyShows sql (state g first) → FailsToGive sql params (Some size) (state g first) (state g new) fault)
    → StaysOver g first new → EndsSending g sql params first new size start taken were are (Err (stream_fault_for fault))
stopped g sql params first new size start taken were are sent fault low appended same between why stays = record {
  streams = (sent, appended, λ late plain. stops_sized sql params (state g first) size sent fault low (between late plain));
  why = λ late plain. stopped_for (FailsToGive sql params (Some size) (state g first) (state g new)) fault (why late plain);
  reads = record { stays = stays; same = λ late. tt };
  outlet = record { kept = tt; cause = λ is. absurd (asked_failed fault is); others = λ _. same };
  there = asked_there fault;
}

-- ---- before the first row

-- no query began
pub not_begun : {S X : Type 0} (g : Ghosts S) (sql : List ℕ) (params : Row) → OnlyReads sql → (old new : Held S) (size : ℕ) (taken : Option (List ℕ)) (are : ℕ) (result : Result X Error) (error : Error) (fault : StoreFault)
    → 0 < size → fault ≡ fault_for error → OnErr result (IsRefused g sql params old result new) → result ≡ Err error
    → EndsSending g sql params old new size taken taken are are (Err (stream_fault_for fault))
not_begun {X = X} g sql params reads old new size taken are result error fault some of left is =
    let it : IsRefused g sql params old result new = subst (λ (r : Result X Error). OnErr r (IsRefused g sql params old result new)) is left in
    stopped g sql params old new size taken taken are are [] fault some (Appends-nil taken) refl
    (λ late plain. record { given = []; begins = inl refl; sends = refl })
    (λ late plain. query_failed (error, inl (subst (λ (r : Result X Error). IfErr r (FailsToQuery sql params (state g old) (state g new))) is (it.err late)), of))
    (refused_stays g sql params old new reads result error it is)

all_left : (size : ℕ) → size + 0 ≡ size
all_left size = omega arith

-- one began, and nothing was sent
pub none_sent : {S : Type 0} (g : Ghosts S) (sql : List ℕ) (params : Row) → OnlyReads sql → (old new : Held S) (size : ℕ) (taken : Option (List ℕ)) (are : ℕ)
    → 0 < size → (HasCleanDisk (state g new) → HasBegun g sql params old new) → (old.in_transaction ≡ false → new.in_transaction ≡ false)
    → Survives (state g old) (state g new) (CommitsShowing sql params (state g old)) → HasSent g sql params old new size size 0 taken taken are are
none_sent g sql params reads old new size taken are some begun mode survives = record {
  some = some;
  sent = [];
  counted = all_left size;
  appended = Appends-nil taken;
  shown = λ clean. let none = begun_reads g sql params old new reads (begun clean) in ([], none.0, none.1, refl, refl);
  stays = begun_stays g sql params old new reads begun mode survives;
  same = refl;
}

-- ---- at a row

one_longer : (given : List Row) (row : Row) (count : ℕ) → length given ≡ count → length (given ++ row ∷ []) ≡ count + 1
one_longer given row count is = length-append given (row ∷ []) ∙ ap (λ n. n + 1) is

more_than : (left sent all size more : ℕ) → left < more → left + sent ≡ size → all ≡ sent + more → size < all
more_than left sent all size more over is sum = omega arith

-- not for want of the file
cut_there : (fault : StreamFault) (old next : Option (List ℕ)) (bytes : List ℕ) → GivesSized old next bytes (Err fault) → fails (Unit {0}) fault ≢ fails (Unit {0}) NoSuchFile
cut_there Writer old next bytes gave e = cc
cut_there Store old next bytes gave e = cc
cut_there Memory old next bytes gave e = cc
cut_there NoSuchFile old next bytes gave e = gave

-- why a row was not sent
cut_why : (sql : List ℕ) (params : Row) (first new : State) (size left : ℕ) (sent : List ℕ) (given : List Row) (it : Row) (fault : StreamFault) (old next : Option (List ℕ))
    → GivesSized old next (blob_of it) (Err fault) → (fails ℕ fault ≡ fails ℕ Store → (¬ (IsBytesValue (column it 2))) ⊎ (left < length (blob_of it)))
    → left + length sent ≡ size → sent ≡ joined_blobs given → Begins sql params first (given ++ it ∷ []) → IsStoppedBy (FailsToGive sql params (Some size) first new) fault
cut_why sql params first new size left sent given it Writer old next gave refused counted is begins = tt
cut_why sql params first new size left sent given it Memory old next gave refused counted is begins = absurd gave
cut_why sql params first new size left sent given it NoSuchFile old next gave refused counted is begins = absurd gave
cut_why sql params first new size left sent given it Store old next gave refused counted is begins = unread given it begins (go (refused refl)) refl
  where
    go : (¬ (IsBytesValue (column it 2))) ⊎ (left < length (blob_of it)) → (¬ (IsBytesValue (column it 2))) ⊎ (size < length (joined_blobs (given ++ it ∷ [])))
    go (inl none) = inl none
    go (inr over) = inr (more_than left (length sent) (length (joined_blobs (given ++ it ∷ []))) size (length (blob_of it)) over counted
        (ap length (sym (joined_more sent given it is)) ∙ length-append sent (blob_of it)))

begun : {S : Type 0} (g : Ghosts S) (sql : List ℕ) (params : Row) (first now : Held S) (given : List Row) → HasGiven g sql params now given → IsUnchanged (state g first) (state g now) → Begins sql params (state g first) given
begun g sql params first now given has same = begins_from sql params (state g first) (state g now) given same (given_begin g sql params now given has)

module _ {S : Type 0} {g : Ghosts S} {sql : List ℕ} {params : Row} {first : Held S} {size left count : ℕ} {start taken : Option (List ℕ)} {were are : ℕ} where
  low : {now : Held S} (was : HasSent g sql params first now size left count start taken were are) → length was.sent < size
  low was = some_left left was.sent size was.some was.counted

  -- no more rows can be counted
  pub ends_uncounted : (now : Held S) → HasSent g sql params first now size left count start taken were are → 2 ^ 64 - 1 ≤ count → EndsSending g sql params first now size start taken were are (Err Store)
  ends_uncounted now was full = stopped g sql params first now size start taken were are was.sent store.Store (low was) was.appended was.same
      (λ late plain. let x = was.shown late in record { given = x.0; begins = inr (begun g sql params first now x.0 x.1 x.2); sends = x.3 })
      (λ late plain. let x = was.shown late in uncounted x.0 (begun g sql params first now x.0 x.1 x.2) (subst (λ n. 2 ^ 64 - 1 ≤ n) (sym x.4) full) refl) was.stays

  module _ (old new : Rows S g) (result : Result (Option (Bor Row)) Error) (moved : HasMoved g old result new)
      (was : HasSent g sql params first old.conn.now size left count start taken were are) where
    earlier : HasCleanDisk (state g new.conn.now) → HasCleanDisk (state g old.conn.now)
    earlier = row.clean_before g old new result moved

    stays : StaysOver g first new.conn.now
    stays = row.stays_on g old new result moved first was.stays (λ late. (was.shown late).2)

    -- the rows before this one, and it
    more : (it : Bor Row) → result ≡ Ok (Some it) → HasCleanDisk (state g new.conn.now)
        → (given : List Row) × HasGiven g sql params old.conn.now given × IsUnchanged (state g first) (state g old.conn.now) × (was.sent ≡ joined_blobs given)
        × HasGiven g sql params new.conn.now (given ++ it.now ∷ []) × IsUnchanged (state g first) (state g new.conn.now) × (length given ≡ count)
    more it is late =
        let x = was.shown (earlier late) in (
          x.0,
          x.1,
          x.2,
          x.3,
          (rw is at (moved.ok late)) sql params x.0 x.1,
          row.unchanged_on g old new result moved (state g first) (Some it) is late x.2,
          x.4,
        )

    between : HasCleanDisk (state g new.conn.now) → OnlyShows sql (state g first) → StopsBetween sql params (state g first) was.sent
    between late plain =
        let x = was.shown (earlier late) in record { given = x.0; begins = inr (begun g sql params first old.conn.now x.0 x.1 x.2); sends = x.3 }

    -- it was not given
    pub ends_failed : (error : Error) → result ≡ Err error → (fault : StoreFault) → fault ≡ fault_for error
        → EndsSending g sql params first new.conn.now size start taken were are (Err (stream_fault_for fault))
    ends_failed error is fault of =
        stopped g sql params first new.conn.now size start taken were are was.sent fault (low was) was.appended was.same between
        (λ late plain. let x = was.shown (earlier late) in
        query_failed (
          error,
          inl (fails_from sql params (state g first) (state g old.conn.now) (state g new.conn.now) error plain x.2 was.stays.survives ((rw is at (moved.err late)) sql params x.0 x.1)),
          of,
        ))
        stays

    -- there is none
    pub ends_short : result ≡ Ok None → EndsSending g sql params first new.conn.now size start taken were are (Err Store)
    ends_short is =
        stopped g sql params first new.conn.now size start taken were are was.sent store.Store (low was) was.appended was.same between
        (λ late plain. let x = was.shown (earlier late) in
        too_few x.0 (shown_from sql params (state g first) (state g old.conn.now) (state g new.conn.now) x.0 x.2 plain ((rw is at (moved.ok late)) sql params x.0 x.1))
        (subst (λ (l : List ℕ). length l < size) x.3 (low was)) refl) stays

    module _ (it : Bor Row) (is : result ≡ Ok (Some it)) (next : Option (List ℕ)) (later : ℕ) where
      -- it was not sent, or in part
      pub ends_cut : (fault : StreamFault) → GivesSized taken next (blob_of it.now) (Err fault)
          → (fails ℕ fault ≡ fails ℕ Store → (¬ (IsBytesValue (column it.now 2))) ⊎ (left < length (blob_of it.now)))
          → BlamesOutlet Writer are later (fails ℕ fault)
          → EndsSending g sql params first new.conn.now size start next were later (Err fault)
      ends_cut fault gave refused blames = record {
        streams = cut_sized sql params (state g first) size start taken next was.sent it.now (HasCleanDisk (state g new.conn.now)) (OnlyShows sql (state g first)) fault was.appended gave (low was)
            (λ late plain. let x = more it is late in (x.0, begun g sql params first old.conn.now x.0 x.1 x.2, begun g sql params first new.conn.now (x.0 ++ it.now ∷ []) x.4 x.5, x.3));
        why = λ late plain.
            let x = more it is late in
            cut_why sql params (state g first) (state g new.conn.now) size left was.sent x.0 it.now fault _ _ gave refused was.counted x.3 (begun g sql params first new.conn.now (x.0 ++ it.now ∷ []) x.4 x.5);
        reads = record { stays = stays; same = λ late. tt };
        outlet = record {
          kept = tt;
          cause = λ e. subst (λ (n : ℕ). HasRisen n later) was.same (blames.cause (ap (fails ℕ) (fault_is (Unit {0}) fault Writer e)));
          others = λ not. blames.others (λ e. not (ap (fails (Unit {0})) (fault_is ℕ fault Writer e))) ∙ was.same;
        };
        there = cut_there fault taken next (blob_of it.now) gave;
      }

      module _ (n : ℕ) (gave : GivesSized taken next (blob_of it.now) (Ok n)) (fits : n ≤ left) (kept : later ≡ are) where
        -- it was sent, and is the last
        pub ends_whole : left - n ≡ 0 → EndsSending g sql params first new.conn.now size start next were later (Ok tt)
        ends_whole none = record {
          streams = (
            was.sent ++ blob_of it.now,
            Appends-trans start taken next was.sent (blob_of it.now) was.appended gave.0,
            λ late plain. let x = more it is late in (
              record { given = x.0 ++ it.now ∷ []; begins = inr (begun g sql params first new.conn.now (x.0 ++ it.now ∷ []) x.4 x.5); sends = joined_more was.sent x.0 it.now x.3 },
              all_sent left n size was.sent (blob_of it.now) none fits gave.1 was.counted,
            ),
          );
          why = λ late plain. tt;
          reads = record { stays = stays; same = λ late. (more it is late).5 };
          outlet = record { kept = kept ∙ was.same; cause = λ e. absurd (no_fault (Unit {0}) tt Writer e); others = λ _. kept ∙ was.same };
          there = no_fault (Unit {0}) tt NoSuchFile;
        }

        -- it was sent, and is not the last
        pub one_more : 0 < left - n → HasSent g sql params first new.conn.now size (left - n) (count + 1) start next were later
        one_more some = record {
          some = some;
          sent = was.sent ++ blob_of it.now;
          counted = less_left left n size was.sent (blob_of it.now) fits gave.1 was.counted;
          appended = Appends-trans start taken next was.sent (blob_of it.now) was.appended gave.0;
          shown = λ late. let x = more it is late in (x.0 ++ it.now ∷ [], x.4, x.5, joined_more was.sent x.0 it.now x.3, one_longer x.0 it.now count x.6);
          stays = stays;
          same = kept ∙ was.same;
        }
