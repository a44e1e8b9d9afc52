-- Why nothing is opened.
use Rattle.std.proofs.Common.{◌≡◌, ◌≢◌, ◌⊎◌, inl, inr, ℕ, ◌≤◌, Bool, true, false, List, [], length, IsSome, Option, Some, None, IfSome, Result, Ok, Err, OnOk, IfOk, IsErrAnd, MatchOption, MatchResult, refl, sym, ap, subst, subst₂, ◌∙◌, arith}
use Rattle.std.proofs.lemmas.Bool.{both_ways}
use Rattle.sqlite_tied.specs.Compute.{everything}
use Rattle.sqlite.specs.Order.{Row}
use Rattle.sqlite.specs.Schema.{Schema}
use Rattle.sqlite.specs.Tree.{Trees}
use Rattle.sqlite.specs.Effect.{Database, RefusesToRead, RefusesQuery}
use Rattle.sqlite.specs.Listing.{understood, reads_listing, IsSourceOf}
use Rattle.sqlite.specs.Clock.{timed}
use Rattle.sqlite.specs.State.{State, HasCleanDisk, Shown, Fails, HasCause, FailsToQuery, IsNotRun, FailsToShow, IsUnchanged, store_error}
use Rattle.sqlite.specs.Held.{Held, state}
use Rattle.sqlite.specs.declared.error.Error.{Error}
use Rattle.sqlite.specs.declared.error.Error.TheVariants.{SqliteFailure, SqlInputError}
use Rattle.sqlite.specs.declared.error.ErrorCode.TheVariants.{OperationInterrupted}
use Rattle.sqlite.specs.Command.{Command}
use Rattle.sqlite.specs.Command.TheVariants.{Select}
use Rattle.sqlite.proofs.Callers.{IsPlain, command_of, survives_begin}
use Rattle.sqlite_trees.specs.declared.store.Store.{Ghosts}
use Rattle.sqlite_trees.specs.declared.error.StoreError.{StoreError}
use Rattle.sqlite_trees.specs.declared.error.StoreError.TheVariants.{OutOfMemory, Io, Corrupt, Full, Broken, Unstorable}
use Rattle.sqlite_resolve.specs.declared.error.CompileError.{CompileError}
use Rattle.sqlite_resolve.specs.declared.error.CompileError.TheVariants.{NoSuchTable}
use Rattle.sqlite_resolve.specs.declared.compiled.Compiled.{Compiled}
use Rattle.sqlite_resolve.specs.Lowering.{Checked}
use Rattle.dep_types.specs.declared.store_fault.StoreFault.{StoreFault}
use Rattle.dep_tables.specs.Clauses.{CommitsNothing}
use Rattle.dep_tables.specs.Schema.{our_schema, older_schema}
use Rattle.dep_tables.specs.Tables.{tables_of, IsOf, IsKnownSchema, IsKnown}
use Rattle.dep_tables.specs.Versions.{IsKnownVersion, HasVersion}
use Rattle.dep_tables.proofs.Results.{if_ok}
use Rattle.dep_tables.proofs.Asked.{asks_on}
use Rattle.dep_migrations.specs.Beside.{LacksFormat}
use Rattle.dep_schema.specs.Openable.{HasKnownVersion}
use Rattle.dep_schema.specs.Texts.{find_format_text}
use Rattle.dep_tables.specs.Faults.{fault_for}
use Rattle.dep_schema.specs.OpenFaults.{open_fault_for, version_reported_by, ReportsError, FindsVersion, ShowsVersion, ShowsNone, FailsToFindFormat, FailsToFind, FailsToFindOrMake, GivesOut, RefusesKnown}
use Rattle.dep_transactions.specs.OpenTables.{begun}
use Rattle.dep_migrations.specs.Faults.{FailsToMake}
use Rattle.dep_transactions.specs.declared.lending.Lent.{Lent}
use Rattle.dep_schema.specs.declared.opening.OpenFault.{OpenFault}
use Rattle.dep_schema.specs.declared.opening.OpenFault.TheVariants.{UnknownVersion}
use Rattle.dep_schema.proofs.Version.{asked, names, Finds, finds_in, found_version, none_had, ours_asked, missing_only, named_fault}

pub some_is_not_none : {A : Type 0} (a : A) → Some a ≡ None → ⊥
some_is_not_none a is = cc

-- what is known of the version that was found, and that none was found
pub of_found : (H : ℕ → Type 0) (o : Option ℕ) (version : ℕ) → o ≡ Some version → (v : ℕ) × (o ≡ Some v) × H v → H version
of_found H o version is (v, was, has) = let both : Some v ≡ Some version = sym was ∙ is in let same : v ≡ version = cc in subst H same has

pub none_found : (H : ℕ → Type 0) (o : Option ℕ) → o ≡ None → (v : ℕ) × (o ≡ Some v) × H v → ⊥
none_found H o none (v, was, has) = some_is_not_none v (sym was ∙ none)

-- where something is found, and where nothing is
pub matched_some : {A : Type 0} (P : Type 0) (Q : A → Type 0) (o : Option A) (a : A) → o ≡ Some a → MatchOption o P Q → Q a
matched_some P Q o a is p = subst (λ x. MatchOption x P Q) is p

pub matched_none : {A : Type 0} (P : Type 0) (Q : A → Type 0) (o : Option A) → o ≡ None → MatchOption o P Q → P
matched_none P Q o is p = subst (λ x. MatchOption x P Q) is p

-- a fault that is passed on
pub match_err : {A E : Type 0} (P : A → Type 0) (Q : E → Type 0) (r : Result A E) (fault : E) → IsErrAnd r (λ e. e ≡ fault) → Q fault → MatchResult r P Q
match_err P Q (Ok x) fault is q = absurd is
match_err P Q (Err e) fault is q = subst Q (sym is) q

-- ---- what rows tell of the version

pub version_told : (rows : List Row) (r : Result (Option ℕ) OpenFault) → FindsVersion rows r → IfOk r (λ found. IfSome found IsKnownVersion)
version_told rows (Ok found) it = subst (λ (o : Option ℕ). IfSome o IsKnownVersion) (sym it.1) it.2
version_told rows (Err fault) it = tt

module _ (old new : State) (rows : List Row) (shown : Shown find_format_text [] old new rows) where
  pub known_told : (r : Result (Option ℕ) OpenFault) → FindsVersion rows r → IsKnown old
      → MatchResult r (λ found. (version : ℕ) × (found ≡ Some version) × HasVersion version (tables_of old)) (λ fault. fault ≡ UnknownVersion → HasKnownVersion (tables_of old) → ⊥)
  known_told (Ok found) it known = (it.0, it.1, (found_version it.0 old new rows known shown).0 it.3)
  known_told (Err fault) it known = λ said. none_had old new rows known shown it.1

  pub finds_told : (r : Result (Option ℕ) OpenFault) → FindsVersion rows r → MatchResult r (λ found. MatchOption found (ShowsNone old new) (ShowsVersion old new)) (FailsToFind old new)
  finds_told (Ok found) it = subst (λ (o : Option ℕ). MatchOption o (ShowsNone old new) (ShowsVersion old new)) (sym it.1) (rows, shown, it.3)
  finds_told (Err fault) it = inl (it.0, inl (rows, shown, it.1))

-- ---- an error of the query for the version

sorted : (e : Error)
    → ((e ≡ SqlInputError NoSuchTable) × (version_reported_by e ≡ Ok None))
    ⊎ (((why : CompileError) × (e ≡ SqlInputError why) × (why ≢ NoSuchTable) × (version_reported_by e ≡ Err UnknownVersion))
    ⊎ (((why : CompileError) → e ≢ SqlInputError why) × (version_reported_by e ≡ Err (open_fault_for (fault_for e)))))
sorted (SqlInputError NoSuchTable) = inl (refl, refl)
sorted (SqlInputError why) = inr (inl (why, refl, (λ is. cc), refl))
sorted e = inr (inr ((λ why is. cc), refl))

-- it tells no version that is not known
pub version_reported : (e : Error) (r : Result (Option ℕ) OpenFault) → r ≡ version_reported_by e → IfOk r (λ found. IfSome found IsKnownVersion)
version_reported e r is = elim (sorted e) [
  | inl none ↦ subst (λ x. IfOk x (λ found. IfSome found IsKnownVersion)) (sym (is ∙ none.1)) tt
  | inr (inl text) ↦ subst (λ x. IfOk x (λ found. IfSome found IsKnownVersion)) (sym (is ∙ text.3)) tt
  | inr (inr other) ↦ subst (λ x. IfOk x (λ found. IfSome found IsKnownVersion)) (sym (is ∙ other.1)) tt
]

module _ (old new : State) (e : Error) (r : Result (Option ℕ) OpenFault) (is : r ≡ version_reported_by e) (failed : FailsToFindFormat old new e) where
  abbrev IsNoVersion : Result (Option ℕ) OpenFault → Type 0
  IsNoVersion x = MatchResult x (λ found. found ≡ None) (λ fault. fault ≢ UnknownVersion)

  abbrev ReportsKnown : Result (Option ℕ) OpenFault → Type 0
  ReportsKnown x = MatchResult x (λ found. (version : ℕ) × (found ≡ Some version) × HasVersion version (tables_of old)) (λ fault. fault ≡ UnknownVersion → HasKnownVersion (tables_of old) → ⊥)

  abbrev IsReported : Result (Option ℕ) OpenFault → Type 0
  IsReported x = MatchResult x (λ found. MatchOption found (ShowsNone old new) (ShowsVersion old new)) (FailsToFind old new)

  pub lacking_reported : LacksFormat old.now.schema → MatchResult r (λ found. found ≡ None) (λ fault. fault ≢ UnknownVersion)
  lacking_reported lacks = elim (sorted e) [
    | inl none ↦ subst IsNoVersion (sym (is ∙ none.1)) refl
    | inr (inl text) ↦ absurd (text.2 (missing_only old new e text.0 lacks failed text.1))
    | inr (inr other) ↦ subst IsNoVersion (sym (is ∙ other.1)) (named_fault (fault_for e) _ refl)
  ]

  pub known_reported : IsKnown old
      → MatchResult r (λ found. (version : ℕ) × (found ≡ Some version) × HasVersion version (tables_of old)) (λ fault. fault ≡ UnknownVersion → HasKnownVersion (tables_of old) → ⊥)
  known_reported known = elim (sorted e) [
    | inl none ↦ absurd (ours_asked old new e NoSuchTable known failed none.0)
    | inr (inl text) ↦ absurd (ours_asked old new e text.0 known failed text.1)
    | inr (inr other) ↦ subst ReportsKnown (sym (is ∙ other.1)) (λ said version. named_fault (fault_for e) _ refl said)
  ]

  pub unchanged_reported : OnOk r (IsUnchanged old new)
  unchanged_reported = elim (sorted e) [
    | inl none ↦ if_ok r (asks_on find_format_text [] old new e NoSuchTable none.0 failed)
    | inr (inl text) ↦ subst (λ x. OnOk x (IsUnchanged old new)) (sym (is ∙ text.3)) tt
    | inr (inr other) ↦ subst (λ x. OnOk x (IsUnchanged old new)) (sym (is ∙ other.1)) tt
  ]

  pub finds_reported : MatchResult r (λ found. MatchOption found (ShowsNone old new) (ShowsVersion old new)) (FailsToFind old new)
  finds_reported = elim (sorted e) [
    | inl none ↦ subst IsReported (sym (is ∙ none.1)) (subst (FailsToFindFormat old new) none.0 failed)
    | inr (inl text) ↦ subst IsReported (sym (is ∙ text.3)) (inl (refl, inr (text.0, subst (FailsToFindFormat old new) text.1 failed, text.2)))
    | inr (inr other) ↦ subst IsReported (sym (is ∙ other.1)) (inr (e, failed, other.0, refl))
  ]

-- ---- the query for the version over the schema of one of our versions

abbrev whole_of : Checked Compiled → ℕ
whole_of (Ok c) = c.tail
whole_of (Err e) = 0

abbrev given_of : Checked Compiled → List (List ℕ)
given_of (Ok c) = c.names
given_of (Err e) = []

-- all of the text is the query, and it has no parameter
record ReadsWhole (its : Schema) : Type 0 where
  whole : whole_of (understood its find_format_text) ≡ length find_format_text
  given : given_of (understood its find_format_text) ≡ []

ours_whole : ReadsWhole our_schema
unfolding understood everything
ours_whole = record { whole = refl; given = refl }

older_whole : ReadsWhole older_schema
unfolding understood everything
older_whole = record { whole = refl; given = refl }

whole_in : (its : Schema) → IsKnownSchema its → ReadsWhole its
whole_in its (inl is) = subst ReadsWhole (sym is) ours_whole
whole_in its (inr is) = subst ReadsWhole (sym is) older_whole

-- the store fails, or the query is stopped at its limit of steps
abbrev StopsBy : State → State → Error → Type 0
StopsBy old new e =
    ((cause : StoreError) × (e ≡ store_error cause) × HasCause old new ⊥ cause)
    ⊎ ((e ≡ SqliteFailure OperationInterrupted) × IsSome old.step_limit)

-- it is refused by no type and by no number that is too great, so only at the limit of steps
abbrev OnlyStops : Schema → Type 0
OnlyStops its = (limit : Option ℕ) (e : Error) (trees : Trees) → RefusesQuery limit (record { schema = its; trees = trees }) asked [] e → (e ≡ SqliteFailure OperationInterrupted) × IsSome limit

ours_stops : OnlyStops our_schema
unfolding everything
ours_stops limit e trees (inl mismatch) = let no : true ≡ false = mismatch.1 in absurd (cc)
ours_stops limit e trees (inr (inl (reported, inl none))) = absurd none
ours_stops limit e trees (inr (inl (reported, inr any))) = absurd any.4
ours_stops limit e trees (inr (inr stopped)) = stopped

older_stops : OnlyStops older_schema
unfolding everything
older_stops limit e trees (inl mismatch) = let no : true ≡ false = mismatch.1 in absurd (cc)
older_stops limit e trees (inr (inl (reported, inl none))) = absurd none
older_stops limit e trees (inr (inl (reported, inr any))) = absurd any.4
older_stops limit e trees (inr (inr stopped)) = stopped

stops_in : (its : Schema) → IsKnownSchema its → OnlyStops its
stops_in its (inl is) = subst OnlyStops (sym is) ours_stops
stops_in its (inr is) = subst OnlyStops (sym is) older_stops

module _ (its : Schema) (is_known : IsKnownSchema its) (old new : State) (ours : IsOf its old) (e : Error) (no_text : (why : CompileError) → e ≢ SqlInputError why) where
  finds : Finds its
  finds = finds_in its is_known

  known : (c : Compiled) → understood old.now.schema find_format_text ≡ Ok c → understood its find_format_text ≡ Ok c
  known c is = subst (λ s. understood s find_format_text ≡ Ok c) ours.schema is

  plain : (c : Compiled) → understood old.now.schema find_format_text ≡ Ok c → (c.returning ≡ None) × (c.formats ≡ [])
  plain c is = subst IsPlain (known c is) finds.plain

  refused : (db : Database) (given : Row) (command : Command) → db.schema ≡ its → given ≡ [] → command ≡ Select asked names → RefusesToRead old.step_limit command db given e → StopsBy old new e
  refused db given command schema none is h =
      inr (stops_in its is_known old.step_limit e db.trees (subst₂ (λ (s : Schema) (p : Row). RefusesQuery old.step_limit (record { schema = s; trees = db.trees }) asked p e) schema none (subst (λ k. RefusesToRead old.step_limit k db given e) is h)))

  stops : FailsToFindFormat old new e → StopsBy old new e
  unfolding FailsToQuery IsNotRun
  stops (inl (inl (inl (inl reported, same)))) = absurd (no_text reported.0 reported.2)
  stops (inl (inl (inl (inr (c, is, inl whole), same)))) = absurd (whole.0 (omega (arith, (whole_in its is_known).whole, ap whole_of (known c is))))
  stops (inl (inl (inl (inr (c, is, inr (inl given)), same)))) = absurd (given.0 (ap length (sym (whole_in its is_known).given ∙ ap given_of (known c is))))
  stops (inl (inl (inl (inr (c, is, inr (inr clock)), same)))) = absurd (clock.0 (plain c is).1)
  stops (inl (inl (inr failed))) = inl (failed.0, failed.1, failed.2)
  stops (inl (inr h)) =
      let head_only = plain h.0 h.1.is in
      let it = subst (FailsToShow old new find_format_text h.0 (timed [] h.0.formats h.1.now) e) head_only.0 h.2 in
      let db : it.0 ≡ old.now = subst (λ b. IsSourceOf b old.now it.0) (ap (λ s. reads_listing s find_format_text) ours.schema ∙ finds.unlisted) it.1 in
      refused it.0 (timed [] h.0.formats h.1.now) h.0.command (ap (λ (d : Database). d.schema) db ∙ ours.schema) (ap (λ formats. timed [] formats h.1.now) head_only.1)
      (ap command_of (sym (known h.0 h.1.is)) ∙ finds.is) it.2
  stops (inr late) = absurd (let none = subst IsSome (plain late.0 late.1.is).0 late.2 in cc)

-- ---- a cause, seen from further off

-- a fault that was counted between is counted
more : (a b c d : State) → a.faults ≤ b.faults → HasCause b c ⊥ Io → c.faults ≤ d.faults → HasCause a d ⊥ Io
more a b c d before risen after = omega (arith, before, risen, after)

module _ (old mid last new : State) (before : CommitsNothing old mid) (rises : mid.faults ≤ last.faults) (after : last.faults ≤ new.faults) (clean : HasCleanDisk mid) (fault : OpenFault) where
  -- a store that was shut since was shut by a fault
  was_shut : (is_open : Bool) → old.is_open ≡ is_open → mid.is_open ≡ false → ReportsError (store_error Broken) fault → GivesOut old new fault
  was_shut false is shut reports = inl (Broken, is, reports)
  was_shut true is shut reports = elim (before.closes clean is) [
    | inl is_open ↦ absurd (both_ways mid.is_open shut is_open)
    | inr risen ↦ inl (Io, more old old mid new (omega arith) risen (omega (arith, rises, after)), reports)
  ]

  pub gives_out : (cause : StoreError) → HasCause mid last ⊥ cause → ReportsError (store_error cause) fault → GivesOut old new fault
  gives_out OutOfMemory has reports = inl (OutOfMemory, tt, reports)
  gives_out Io has reports = inl (Io, more old mid last new before.counts has after, reports)
  gives_out Corrupt has reports = inl (Corrupt, more old mid last new before.counts has after, reports)
  gives_out Full has reports = inl (Full, more old mid last new before.counts has after, reports)
  gives_out Broken has reports = was_shut old.is_open refl has reports
  gives_out Unstorable has reports = absurd has

-- ---- the schema of one of our versions is refused by its version, or SQLite gives out

survives_none : (s : State) → CommitsNothing s s
survives_none s = record {
  clean = omega arith;
  shield = λ shielded. shielded;
  counts = omega arith;
  limit = refl;
  closes = λ clean is_open. inl is_open;
  crash = λ clean db left. inl left;
}

module _ {S : Type 0} (g : Ghosts S) (old last new : Held S) (known : IsKnown (state g old)) (fault : OpenFault) where
  abbrev start : State
  start = state g (begun old)

  found : FailsToFind start (state g last) fault → CommitsNothing start (state g last) → CommitsNothing (state g last) (state g new) → HasCleanDisk start → RefusesKnown (state g old) (state g new) fault
  found (inl (is, inl (rows, shown, other))) since after clean = inl (is, none_had start (state g last) rows known shown other)
  found (inl (is, inr (why, reported, other))) since after clean = absurd (ours_asked start (state g last) (SqlInputError why) why known reported refl)
  found (inr (e, reported, no_text, reports)) since after clean = elim (stops known.0 known.1 start (state g last) known.2 e no_text reported) [
    | inl (cause, is, has) ↦ inr (gives_out (state g old) start (state g last) (state g new) (survives_begin g old start (λ _. ⊥) (survives_none start)) since.counts after.counts clean fault cause has (subst (λ x. ReportsError x fault) is reports))
    | inr (is, limited) ↦ inr (inr (reports ∙ ap (λ x. open_fault_for (fault_for x)) is, limited))
  ]

  pub refuses_known : FailsToFindOrMake g (begun old) last fault → CommitsNothing start (state g last) → CommitsNothing (state g last) (state g new) → HasCleanDisk start → RefusesKnown (state g old) (state g new) fault
  refuses_known (inl finds) since after clean = found finds since after clean
  refuses_known (inr it) since after clean = absurd (ours_asked start (state g it.0) (SqlInputError NoSuchTable) NoSuchTable known it.2 refl)

  -- a commit failed
  pub uncommitted : (e : Error) → Fails (state g last) (state g new) ⊥ e → ReportsError e fault → CommitsNothing (state g old) (state g last) → (state g last).faults ≤ (state g new).faults → HasCleanDisk (state g last) → RefusesKnown (state g old) (state g new) fault
  uncommitted e failed reports since rises clean =
      inr (gives_out (state g old) (state g last) (state g new) (state g new) since rises (omega arith) clean fault failed.0 failed.2 (subst (λ x. ReportsError x fault) failed.1 reports))

-- ---- a transaction that is lent is one of its connection

module _ {S : Type 0} (g : Ghosts S) (old new : Lent S) (fault : StoreFault) where
  abbrev lent_state : Lent S → State
  lent_state lent = state g lent.tx.now.conn.now

  pub lent_fails : FailsToMake lent_state old new fault → FailsToMake (state g) old.tx.now.conn.now new.tx.now.conn.now fault
  lent_fails (inl it) = inl (record { at = it.at.tx.now.conn.now; since = it.since; by = it.by })
  lent_fails (inr (made, adds, kept, inl (inl failed))) = inr (made.tx.now.conn.now, adds, kept, inl (inl failed))
  lent_fails (inr (made, adds, kept, inl (inr it))) = inr (made.tx.now.conn.now, adds, kept, inl (inr (record { at = it.at.tx.now.conn.now; since = it.since; by = it.by })))
  lent_fails (inr (made, adds, kept, inr (free, found, indexes, since, inl failed))) = inr (made.tx.now.conn.now, adds, kept, inr (free, found.tx.now.conn.now, indexes, since, inl failed))
  lent_fails (inr (made, adds, kept, inr (free, found, indexes, since, inr it))) =
      inr (made.tx.now.conn.now, adds, kept, inr (free, found.tx.now.conn.now, indexes, since, inr (record { at = it.at.tx.now.conn.now; since = it.since; by = it.by })))
