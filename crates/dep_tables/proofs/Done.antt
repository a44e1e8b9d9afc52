-- What a call does that runs one statement, or asks one query.
use Rattle.std.proofs.Common.{◌≡◌, ℕ, List, Result, Ok, Err, IsTrue, OnOk, IfOk, IfErr, inl, refl, subst}
use Rattle.sqlite.specs.Order.{Row}
use Rattle.sqlite.specs.State.{State, HasCleanDisk, ExecutesInside}
use Rattle.sqlite.specs.Given.{IsPlain}
use Rattle.sqlite.specs.Listing.{understood}
use Rattle.dep_types.specs.declared.store_fault.StoreFault.{StoreFault}
use Rattle.dep_types.specs.declared.store_fault.StoreFault.TheVariants.{Store}
use Rattle.dep_tables.specs.Schema.{our_schema}
use Rattle.dep_tables.specs.Tables.{Tables, tables_of, IsOurs, Leads}
use Rattle.dep_tables.specs.Clauses.{Statement, Query, Shows, Makes, Writes, Queries, AsksWhere, RunsWithin, AsksWithin, FailsToRun, FailsWithRows, ShowsColumns}
use Rattle.dep_tables.proofs.Results.{ok_then, if_then}
use Rattle.dep_tables.proofs.Leading.{plain_here}
use Rattle.dep_tables.proofs.Chains.{unchanged_itself, stays_put, reads_refused, plain_reads}

-- ---- a number is 2^63 or more, and nothing is run

module _ {T L A : Type 0} {lenders : T → L} {state : T → State} {tx : T} where
  pub refuses : (s : Statement) → (s.storable → ⊥) → Writes {A = A} lenders state tx tx (Err Store) s
  refuses s never = record {
    ok = λ clean inside ours. tt;
    numbers = λ refused. (refl, λ is_open. unchanged_itself (state tx) is_open);
    cause = λ storable clean inside. absurd (never storable);
    keeps = record {
      stays = stays_put lenders state tx (Err Store);
      err = λ clean inside is_open. inl (unchanged_itself (state tx) is_open);
    };
  }

  -- whatever the query
  pub refuses_asking : {storable : Type 0} {text : List ℕ} {params : Row} {width : ℕ} {values : A → List Row} {copies : Type 0} {are_ours : List Row → Type 0} → (storable → ⊥) → AsksWhere lenders state tx tx (Err Store) storable text params width values copies are_ours
  refuses_asking never = record {
    shown = λ clean. tt;
    numbers = λ refused. (refl, λ is_open. unchanged_itself (state tx) is_open);
    cause = λ storable clean. absurd (never storable);
    keeps = record {
      stays = stays_put lenders state tx (Err Store);
      same = λ clean plain. tt;
      err = λ plain clean inside is_open. inl (unchanged_itself (state tx) is_open);
    };
  }

  pub refuses_query : (q : Query A) → (q.storable → ⊥) → Queries lenders state tx tx (Err Store) q
  refuses_query q never = record {
    ok = λ clean ours. tt;
    numbers = λ refused. (refl, λ is_open. unchanged_itself (state tx) is_open);
    cause = λ storable clean. absurd (never storable);
    keeps = reads_refused lenders state tx Store;
  }

-- ---- all numbers are below 2^63

module _ {T L A : Type 0} {lenders : T → L} {state : T → State} {old new : T} {result : Result A StoreFault} {params : Row} where
  -- what SQLite does of the statement, with what its parameters are bound to, is what it makes of our tables
  pub runs : (s : Statement) → s.storable → params ≡ s.values
      → (HasCleanDisk (state new) → IsTrue (state old).in_transaction → OnOk result ((count : ℕ) × ExecutesInside 0 s.text params (state old) (state new) (Ok count)))
      → (HasCleanDisk (state new) → IsTrue (state old).in_transaction → IfErr result (FailsToRun s.text params (state old) (state new)))
      → RunsWithin lenders state old new result
      → Makes (state old) (state new) s
      → Writes lenders state old new result s
  runs s storable is ran cause keeps makes = record {
    ok = λ clean inside ours. ok_then result (ran clean inside) (λ done. makes done.0 ours (subst (λ values. ExecutesInside 0 s.text values (state old) (state new) (Ok done.0)) is done.1));
    numbers = λ refused. absurd (refused storable);
    cause = λ _ clean inside. subst (λ values. IfErr result (FailsToRun s.text values (state old) (state new))) is (cause clean inside);
    keeps = keeps;
  }

  -- the same of one that puts in what was not there
  pub puts : (s : Statement) (lacks : Tables → Type 0) → RunsWithin lenders state old new result → s.storable → params ≡ s.values
      → (HasCleanDisk (state new) → IsTrue (state old).in_transaction → OnOk result ((count : ℕ) × ExecutesInside 0 s.text params (state old) (state new) (Ok count)))
      → (HasCleanDisk (state new) → IsTrue (state old).in_transaction → IfErr result (FailsToRun s.text params (state old) (state new)))
      → ((count : ℕ) → IsOurs (state old) → ExecutesInside 0 s.text s.values (state old) (state new) (Ok count) → Leads (state old) (state new) (s.change (tables_of (state old))) × lacks (tables_of (state old)))
      → Writes lenders state old new result s × Shows (state old) (state new) result lacks
  puts s lacks keeps storable is ran cause makes = (
    runs s storable is ran cause keeps (λ count ours done. (makes count ours done).0),
    λ clean inside ours. ok_then result (ran clean inside) (λ done. (makes done.0 ours (subst (λ values. ExecutesInside 0 s.text values (state old) (state new) (Ok done.0)) is done.1)).1),
  )

  -- the same of a query, by the columns of the rows that it shows
  pub asks : (q : Query A) (width : ℕ) {values : A → List Row} → q.storable → params ≡ q.values → IsPlain (understood our_schema q.text)
      → (HasCleanDisk (state new) → IfOk result (λ found. ShowsColumns q.text params (state old) (state new) width (values found)))
      → (HasCleanDisk (state new) → IfErr result (FailsWithRows q.copies q.are_ours q.text params (state old) (state new)))
      → AsksWithin lenders state q.text old new result
      → ((found : A) → IsOurs (state old) → ShowsColumns q.text q.values (state old) (state new) width (values found) → q.reported (tables_of (state old)) found)
      → Queries lenders state old new result q
  asks q width {values} storable is plain shown cause keeps reports = record {
    ok = λ clean ours. if_then result (shown clean) (λ found read. reports found ours (subst (λ bound. ShowsColumns q.text bound (state old) (state new) width (values found)) is read));
    numbers = λ refused. absurd (refused storable);
    cause = λ _ clean. subst (λ bound. IfErr result (FailsWithRows q.copies q.are_ours q.text bound (state old) (state new))) is (cause clean);
    keeps = plain_reads keeps (λ ours. plain_here (state old) q.text ours plain);
  }

  -- the same, whatever the query
  pub asks_where : {storable : Type 0} {text : List ℕ} {given : Row} {width : ℕ} {values : A → List Row} {copies : Type 0} {are_ours : List Row → Type 0} → storable → params ≡ given
      → (HasCleanDisk (state new) → IfOk result (λ found. ShowsColumns text params (state old) (state new) width (values found)))
      → (HasCleanDisk (state new) → IfErr result (FailsWithRows copies are_ours text params (state old) (state new)))
      → AsksWithin lenders state text old new result
      → AsksWhere lenders state old new result storable text given width values copies are_ours
  asks_where {text = text} {width = width} {values = values} {copies = copies} {are_ours = are_ours} storable is shown cause keeps = record {
    shown = λ clean. subst (λ bound. IfOk result (λ found. ShowsColumns text bound (state old) (state new) width (values found))) is (shown clean);
    numbers = λ refused. absurd (refused storable);
    cause = λ _ clean. subst (λ bound. IfErr result (FailsWithRows copies are_ours text bound (state old) (state new))) is (cause clean);
    keeps = keeps;
  }

-- ---- a query of which is known what was asked

module _ {T L A : Type 0} {lenders : T → L} {state : T → State} {old new : T} {result : Result A StoreFault} where
  pub asked : (q : Query A) (width : ℕ) {values : A → List Row} → IsPlain (understood our_schema q.text)
      → AsksWhere lenders state old new result q.storable q.text q.values width values q.copies q.are_ours
      → ((found : A) → IsOurs (state old) → ShowsColumns q.text q.values (state old) (state new) width (values found) → q.reported (tables_of (state old)) found)
      → Queries lenders state old new result q
  asked q width plain done reports = record {
    ok = λ clean ours. if_then result (done.shown clean) (λ found read. reports found ours read);
    numbers = done.numbers;
    cause = done.cause;
    keeps = plain_reads done.keeps (λ ours. plain_here (state old) q.text ours plain);
  }
