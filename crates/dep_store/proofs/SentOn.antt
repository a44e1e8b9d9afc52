-- A few blocks more of a content that are sent, by what was read of it.
use Rattle.std.proofs.Common.{◌≡◌, ◌≢◌, ◌∙◌, ℕ, ◌+◌, ◌≤◌, arith, List, [], ◌++◌, length, drop, Option, Some, None, Result, Ok, Err, OnOk, OnErr, IsErr, IsTrue, refl, sym, ap, subst, append_assoc, append-nil}
use Rattle.std.proofs.KnownBytes.{Appends-nil}
use Rattle.std.proofs.lemmas.List.{drop_all, length-append}
use Rattle.std.specs.Prelude.{⊤, option_map}
use Rattle.std.specs.Result.{result_and}
use Rattle.std.specs.Io.KnownBytes.{Appends}
use Rattle.sqlite.specs.State as db
use Rattle.sqlite.specs.State.{HasCleanDisk}
use Rattle.dep_types.specs.Rows.{file_row}
use Rattle.dep_types.specs.State.{State, File}
use Rattle.dep_types.specs.declared.rows.FileRow.{FileRow}
use Rattle.dep_types.specs.declared.stream_fault.StreamFault.{StreamFault}
use Rattle.dep_types.specs.declared.stream_fault.StreamFault.TheVariants.{Writer, Store, Memory, NoSuchFile}
use Rattle.dep_answers.specs.declared.performed.StoredFile.{StoredFile}
use Rattle.dep_staging.specs.NextBytes.{IsNextIn}
use Rattle.dep_transactions.specs.States.{StoreRepresents}
use Rattle.dep_transactions.specs.Transactions.{FindsOpen, IsRestored}
use Rattle.dep_transactions.proofs.Transacting.{IsSettled, back_then, leaves_still, none_then}
use Rattle.dep_exchange.specs.Archives.{KeepsState}
use Rattle.dep_exchange.specs.Owing.{HasBehind, IsPrefixBehind, IsSentOn, StreamsOn, TakesFew}
use Rattle.dep_store.specs.Archive.{shown_by}
use Rattle.dep_store.specs.Caching.{HasSize}
use Rattle.dep_store.specs.ReadTransactions.{ReadsOpen}
use Rattle.dep_store.specs.SendingOn.{AreFew, GivesNext}
use Rattle.dep_store.specs.Shut.{StaysOpen}
use Rattle.dep_store.proofs.ShutLemmas.{state_back, was_open_then}
use Rattle.dep_store.proofs.Tries.{honest_back, keeps_state}

-- the row of a file has its size
pub sized_row : (o : Option File) (object file : ℕ) (row : FileRow) → Some row ≡ option_map (file_row object file) o → (its : File) × (o ≡ Some its) × (row.size ≡ length its.content)
sized_row None object file row is = absurd (cc is)
sized_row (Some its) object file row is = let same : row ≡ file_row object file its = cc is in (its, refl, ap (λ (r : FileRow). r.size) same)

-- nothing of it was sent
pub nothing_sent : (s : State) (it : StoredFile) (start : ℕ) (r : Result (Option ℕ) StreamFault) → IsErr r → IsSentOn s it start [] r
nothing_sent s it start (Ok answer) failed = absurd (cc failed)
nothing_sent s it start (Err fault) failed = λ file held. (drop start file.content, refl)

-- all of it was sent before
pub all_sent : (s : State) (it : StoredFile) (start size : ℕ) → size ≤ start → HasSize s it.object it.file size → HasBehind s it start []
all_sent s it start size all has = record { file = has.0; held = has.1; is = drop_all start has.0.content (omega (arith, has.2)) }

-- the file is there, with so many bytes, of which these come next
abbrev pub Comes : State → StoredFile → (start size : ℕ) → List ℕ → Type 0
Comes s it start size bytes = HasSize s it.object it.file size × IsNextIn s it.file start bytes

module _ (s : State) (it : StoredFile) (start size : ℕ) (bytes : List ℕ) (comes : Comes s it start size bytes) where
  abbrev its : File
  its = comes.0.0

  abbrev behind : List ℕ
  behind = drop (start + length bytes) its.content

  on : drop start its.content ≡ bytes ++ behind
  on = (comes.1 it.object its comes.0.1).on

  front_sent : (part rest : List ℕ) → bytes ≡ part ++ rest → IsPrefixBehind s it start part
  front_sent part rest is file held =
      let next = comes.1 it.object file held in
      let last = drop (start + length bytes) file.content in
      (rest ++ last, next.on ∙ (ap (λ l. l ++ last) is ∙ append_assoc part rest last))

  last_sent : start + length bytes ≡ size → HasBehind s it start bytes
  last_sent all =
      let none : behind ≡ [] = drop_all (start + length bytes) its.content (omega (arith, all, comes.0.2)) in
      record { file = its; held = comes.0.1; is = on ∙ (ap (λ l. bytes ++ l) none ∙ append-nil bytes) }

  more_sent : (place : ℕ) → bytes ≢ [] → place ≡ start + length bytes → IsSentOn s it start bytes (Ok (Some place))
  more_sent place some is = (
    behind,
    record { file = its; held = comes.0.1; is = ap (λ n. drop n its.content) is },
    record { file = its; held = comes.0.1; is = on },
    some,
  )

module _ (old new : db.State) (taken takes : Option (List ℕ)) (it : StoredFile) (start size : ℕ) (bytes : List ℕ)
    (reports : HasCleanDisk new → (s : State) → StoreRepresents old s → Comes s it start size bytes) where
  pub streams_on : (r : Result (Option ℕ) StreamFault) → GivesNext taken takes bytes start size r → StreamsOn (shown_by old) (shown_by new) taken takes it start r
  streams_on (Ok None) (few, all, appends) = (bytes, appends, λ clean s represents. last_sent s it start size bytes (reports clean s represents) all)
  streams_on (Ok (Some place)) (few, some, is, appends) = (bytes, appends, λ clean s represents. more_sent s it start size bytes (reports clean s represents) place some is)
  streams_on (Err Writer) (few, (part, front, appends)) =
      (part, appends, λ clean s represents. front_sent s it start size bytes (reports clean s represents) part front.rest front.joined)
  streams_on (Err Store) same = ([], subst (λ t. Appends taken t []) (sym same) (Appends-nil taken), λ clean s represents. nothing_sent s it start (Err Store) refl)
  streams_on (Err Memory) none = absurd none
  streams_on (Err NoSuchFile) none = absurd none

few_of_front : (bytes part rest : List ℕ) → bytes ≡ part ++ rest → AreFew bytes → AreFew part
few_of_front bytes part rest is few = omega (arith, few, ap length is, length-append part rest)

pub none_taken : (taken : Option (List ℕ)) → TakesFew taken taken
none_taken taken = ([], omega arith, Appends-nil taken)

pub takes_few : (taken takes : Option (List ℕ)) (bytes : List ℕ) (start size : ℕ) (r : Result (Option ℕ) StreamFault) → GivesNext taken takes bytes start size r → TakesFew taken takes
takes_few taken takes bytes start size (Ok None) (few, all, appends) = (bytes, few, appends)
takes_few taken takes bytes start size (Ok (Some place)) (few, some, is, appends) = (bytes, few, appends)
takes_few taken takes bytes start size (Err Writer) (few, (part, front, appends)) = (part, few_of_front bytes part front.rest front.joined few, appends)
takes_few taken takes bytes start size (Err Store) same = subst (TakesFew taken) (sym same) (none_taken taken)
takes_few taken takes bytes start size (Err Memory) none = absurd none
takes_few taken takes bytes start size (Err NoSuchFile) none = absurd none

on_ok_any : {A E : Type 0} (r : Result A E) (P : Type 0) → P → OnOk r P
on_ok_any (Ok answer) P h = h
on_ok_any (Err e) P h = tt

on_err_any : {A E : Type 0} (r : Result A E) (P : Type 0) → P → OnErr r P
on_err_any (Ok answer) P h = tt
on_err_any (Err e) P h = h

-- what was given back, once and again
pub restored_then : (old mid new : db.State) → IsRestored old mid → IsRestored mid new → IsRestored old new
restored_then old mid new one two = record {
  back = back_then old mid new one.back two.back;
  mode = two.mode;
  survives = none_then old mid new one.survives two.survives;
}

-- what was read, and then a look whether the store is open
pub read_open : {A E : Type 0} (old mid new : db.State) (r : Result ⊤ E) (answer : A) (reported : Result A E → State → Type 0)
    → (IsTrue mid.is_open → (s : State) → StoreRepresents old s → reported (Ok answer) s) → IsRestored old mid → FindsOpen mid new r → ReadsOpen old new reported (result_and r (Ok answer))
read_open old mid new (Ok is_open) answer reported reports restored found = record {
  reports = λ clean s represents. reports (found.restored.back (found.opened clean)).0 s represents;
  finds = record { opened = found.opened; restored = restored_then old mid new restored found.restored };
}
read_open old mid new (Err fault) answer reported reports restored found =
    record { reports = tt; finds = record { opened = λ clean. tt; restored = restored_then old mid new restored found.restored } }

-- what was given back over a store that is open, whatever is returned then
module _ (old new : db.State) (restored : IsRestored old new) (opened : HasCleanDisk new → IsTrue new.is_open) where
  pub keeps_open : {A E : Type 0} (r : Result A E) → (IsTrue old.is_open → IsSettled old) → KeepsState (shown_by old) (shown_by new) r
  keeps_open r settled =
      keeps_state old new r
      (λ clean s at. on_ok_any r _ (state_back old new s restored.back (opened clean) at))
      (λ is_open s at. on_err_any r _ (state_back old new s restored.back is_open at))
      (honest_back old new restored.survives)
      (λ is_open. (restored.back is_open).0)
      (λ clean s at. leaves_still old new s (settled at.represents.is_open) at restored.survives clean)

  pub stays_open : {A E : Type 0} (r : Result A E) → StaysOpen old new r
  stays_open r = record {
    shut = was_open_then old new r (λ clean. (restored.back (opened clean)).0);
    back = on_ok_any r _ restored.back;
    opened = λ clean. on_ok_any r _ (opened clean);
  }
