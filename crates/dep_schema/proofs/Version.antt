-- How the version is found.
use Rattle.std.proofs.Common.{◌≡◌, IsTrue, ◌↔◌, ◌⊎◌, inl, inr, ℕ, pos, List, [], ◌∷◌, map, filter, false, Result, Ok, Err, IsErrAnd, codes, refl, sym, ap, subst, ◌∙◌, arith}
use Rattle.std.specs.List.Sorted.{IsPermutation}
use Rattle.std.proofs.lemmas.List.Sorted.{IsPermutation-sym}
use Rattle.sqlite_tied.specs.Compute.{everything}
use Rattle.sqlite.specs.Listing.{understood, reads_listing, IsSourceOf}
use Rattle.sqlite.specs.Command.TheVariants.{Select}
use Rattle.sqlite.specs.declared.types.Value.TheVariants.{Int}
use Rattle.sqlite.specs.Order.{Row, column}
use Rattle.sqlite.specs.Term.{Term, col}
use Rattle.sqlite.specs.Clock.{timed}
use Rattle.sqlite.proofs.StateLemmas.{survives_then, unchanged}
use Rattle.sqlite.specs.State.{State, HasCleanDisk, Survives, Shown, ShowsRows, IsUnchanged, FailsToQuery, IsTooLate, store_error}
use Rattle.sqlite.specs.declared.error.Error.{Error}
use Rattle.sqlite.specs.declared.error.Error.TheVariants.{SqlInputError}
use Rattle.sqlite_trees.specs.declared.error.StoreError.{StoreError}
use Rattle.sqlite_resolve.specs.declared.error.CompileError.{CompileError}
use Rattle.sqlite_resolve.specs.declared.error.CompileError.TheVariants.{NoSuchTable}
use Rattle.sqlite_schema.specs.declared.program.Program.{Program}
use Rattle.sqlite.proofs.Callers.{IsPlain, command_of, one_permutation}
use Rattle.dep_tables.specs.Query.{one_table, plainly, no_limit, passes_tests}
use Rattle.dep_tables.proofs.Picked.{shown_of, in_any_order}
use Rattle.dep_tables.proofs.Asked.{store_only, shown_unchanged, unread, unread_as, understood_asks}
use Rattle.dep_tables.proofs.OneStatement.{selected}
use Rattle.dep_tables.specs.Schema.{our_schema, older_schema}
use Rattle.dep_schema.specs.Texts.{find_format_text}
use Rattle.sqlite.specs.Tree.{Trees}
use Rattle.sqlite.specs.Effect.{Database}
use Rattle.sqlite.specs.Schema.{Schema}
use Rattle.dep_tables.specs.Adding.{HasCounters}
use Rattle.dep_migrations.specs.Beside.{LacksFormat}
use Rattle.dep_schema.proofs.Missing.{find_missing, find_plain}
use Rattle.dep_tables.specs.Tables.{tables_of, IsKnownSchema, IsKnown}
use Rattle.dep_tables.specs.Versions.{our_version, older_version, HasVersion}
use Rattle.dep_migrations.specs.FirstTables.{no_schema, SeesTables, IsBeside, GainsOurs, new_store_tables}
use Rattle.dep_transactions.specs.OpenTables.{Holds}
use Rattle.dep_schema.specs.Openable.{HasKnownVersion, IsOpenable, IsOpenBeside, CommitsBySchema}
use Rattle.dep_schema.specs.OpenFaults.{open_fault_for, AreVersion, AreKnownVersion, ShowsVersion, ReportsVersion}
use Rattle.dep_types.specs.declared.store_fault.StoreFault.{StoreFault}
use Rattle.dep_types.specs.declared.store_fault.StoreFault.TheVariants.{Store, Memory}
use Rattle.dep_schema.specs.declared.opening.OpenFault.{OpenFault}
use Rattle.dep_schema.specs.declared.opening.OpenFault.TheVariants.{UnknownVersion}

abbrev pub shows : List Term
shows = col 1 0 ∷ col 1 2 ∷ []

abbrev pub asked : Program
asked = plainly (one_table 0 [] shows [] no_limit)

abbrev pub names : List (List ℕ)
names = codes "id" ∷ codes "version" ∷ []

-- the query for the version is one query of the first table
pub record Finds (its : Schema) : Type 0 where
  pub is : command_of (understood its find_format_text) ≡ Select asked names
  pub unlisted : reads_listing its find_format_text ≡ false
  pub plain : IsPlain (understood its find_format_text)

finds_ours : Finds our_schema
unfolding understood everything
finds_ours = record { is = refl; unlisted = refl; plain = (refl, refl) }

finds_older : Finds older_schema
unfolding understood everything
finds_older = record { is = refl; unlisted = refl; plain = (refl, refl) }

pub finds_in : (its : Schema) → IsKnownSchema its → Finds its
finds_in its (inl is) = subst Finds (sym is) finds_ours
finds_in its (inr is) = subst Finds (sym is) finds_older

find_none : (s : State) → LacksFormat s.now.schema → understood s.now.schema find_format_text ≡ Err NoSuchTable
find_none s lacks = find_missing s.now.schema lacks.table lacks.view

-- so it is in an empty database
pub empty_lacks : (schema : Schema) → schema ≡ no_schema → LacksFormat schema
empty_lacks schema empty = subst LacksFormat (sym empty) (record { table = refl; view = refl })

-- a version is not named where a database is openable
pub not_openable : (s : State) → (LacksFormat s.now.schema → ⊥) → (IsKnown s → HasKnownVersion (tables_of s) → ⊥) → IsOpenable s → ⊥
not_openable s lacking ours (inl empty) = lacking (empty_lacks s.now.schema empty)
not_openable s lacking ours (inr (inl lacks)) = lacking lacks
not_openable s lacking ours (inr (inr there)) = ours there.0 there.1

all_pass : (params : Row) (rows : List Row) → filter (passes_tests params []) rows ≡ rows
all_pass params [] = refl
all_pass params (r ∷ rows) = ap (λ xs. r ∷ xs) (all_pass params rows)

abbrev pub reported : List Row → List Row
reported rows = map (λ r. column r 0 ∷ column r 2 ∷ []) rows

finds_rows : (old new : State) (rows : List Row) → IsKnown old → Shown find_format_text [] old new rows → IsPermutation (reported (tables_of old).format) rows
finds_rows old new rows (its, known, ours) h =
    let finds = finds_in its known in
    let picked = selected its find_format_text [] old new ours.schema finds.plain 0 [] shows [] no_limit names finds.is finds.unlisted refl rows h in
    subst (λ xs. IsPermutation (map (shown_of [] shows) xs) rows) (all_pass [] (old.now.trees 0)) (in_any_order 0 [] shows [] [] (filter (passes_tests [] []) (old.now.trees 0)) rows picked)

known_reported : (version : ℕ) (format rows : List Row) → IsPermutation (reported format) rows → AreVersion (pos version) rows → reported format ≡ (Int (pos 1) ∷ Int (pos version) ∷ []) ∷ []
known_reported version format rows same known =
    let one = one_permutation known.0 (reported format) (IsPermutation-sym (reported format) (known.0 ∷ []) (subst (IsPermutation (reported format)) known.1 same)) in
    go format one
  where
    go : (all : List Row) → reported all ≡ known.0 ∷ [] → reported all ≡ (Int (pos 1) ∷ Int (pos version) ∷ []) ∷ []
    go [] e = absurd (cc)
    go (r ∷ []) e =
        let is : column r 0 ∷ column r 2 ∷ [] ≡ known.0 = cc in
        let first : column r 0 ≡ Int (pos 1) = ap (λ x. column x 0) is ∙ known.2 in
        let second : column r 2 ≡ Int (pos version) = ap (λ x. column x 1) is ∙ known.3 in
        λ i. (first i ∷ second i ∷ []) ∷ []
    go (r ∷ x ∷ more) e = absurd (cc)

reported_known : (version : ℕ) (format rows : List Row) → IsPermutation (reported format) rows → reported format ≡ (Int (pos 1) ∷ Int (pos version) ∷ []) ∷ [] → AreVersion (pos version) rows
reported_known version format rows same is = (Int (pos 1) ∷ Int (pos version) ∷ [], one_permutation (Int (pos 1) ∷ Int (pos version) ∷ []) rows (subst (λ xs. IsPermutation xs rows) is same), refl, refl)

pub found_version : (version : ℕ) (old new : State) (rows : List Row) → IsKnown old → Shown find_format_text [] old new rows → AreVersion (pos version) rows ↔ HasVersion version (tables_of old)
found_version version old new rows known h = (known_reported version (tables_of old).format rows (finds_rows old new rows known h), reported_known version (tables_of old).format rows (finds_rows old new rows known h))

-- it changes nothing, whatever tables there are
pub find_stays : (old new : State) (rows : List Row) → Shown find_format_text [] old new rows → IsUnchanged old new
unfolding Shown
find_stays old new rows h = shown_unchanged find_format_text [] old new (find_plain old.now.schema h.0 h.1.is) rows h

pub not_older : our_version ≡ older_version → ⊥
not_older is = omega (arith, is)

-- what it shows in a transaction it would show before
pub shows_again : (start old new : State) → start.now ≡ old.now → (IsTrue start.is_open → IsTrue old.is_open) → (version : ℕ) → ShowsVersion start new version → ReportsVersion old version
unfolding Shown
shows_again start old new same opened version (rows, h, are) =
    let head_only = subst IsPlain h.1.is (find_plain start.now.schema h.0 h.1.is) in
    let given = timed [] h.0.formats h.1.now in
    let it = subst (ShowsRows start new find_format_text h.0 given rows) head_only.0 h.2 in (
      rows,
      (
        h.0,
        record { is = subst (λ (d : Database). understood d.schema find_format_text ≡ Ok h.0) same h.1.is; whole = h.1.whole; given = h.1.given; now = h.1.now },
        subst (ShowsRows old old find_format_text h.0 given rows) (sym head_only.0)
            (it.0, subst (λ (d : Database). IsSourceOf (reads_listing d.schema find_format_text) d it.0) same it.1, it.2, unchanged old (opened it.3.0.was_open)),
      ),
      are,
    )

-- neither of the two versions that are known is shown
pub none_known : (rows : List Row) → (AreVersion (pos our_version) rows → ⊥) → (AreVersion (pos older_version) rows → ⊥) → AreKnownVersion rows → ⊥
none_known rows no_ours no_older (version, inl is, shown) = no_ours (subst (λ v. AreVersion (pos v) rows) is shown)
none_known rows no_ours no_older (version, inr is, shown) = no_older (subst (λ v. AreVersion (pos v) rows) is shown)

-- so the tables don't have one
pub none_had : (old new : State) (rows : List Row) → IsKnown old → Shown find_format_text [] old new rows → (AreKnownVersion rows → ⊥) → HasKnownVersion (tables_of old) → ⊥
none_had old new rows known h none (version, is, has) = none (version, is, (found_version version old new rows known h).1 has)

pub none_shown : (old new : State) (rows : List Row) → LacksFormat old.now.schema → Shown find_format_text [] old new rows → ⊥
none_shown old new rows lacks h = unread find_format_text [] old new NoSuchTable (find_none old lacks) rows h

none_asked : (old new : State) (e : Error) → LacksFormat old.now.schema → FailsToQuery find_format_text [] old new e ⊎ IsTooLate find_format_text [] old new e → (e ≡ SqlInputError NoSuchTable) ⊎ ((cause : StoreError) × (e ≡ store_error cause))
none_asked old new e lacks h = unread_as find_format_text [] old new NoSuchTable (find_none old lacks) e h

pub ours_asked : (old new : State) (e : Error) (fault : CompileError) → IsKnown old → FailsToQuery find_format_text [] old new e ⊎ IsTooLate find_format_text [] old new e → e ≡ SqlInputError fault → ⊥
ours_asked old new e fault (its, known, ours) h said =
    let finds = finds_in its known in
    understood_asks find_format_text [] old new asked names (ap (λ s. command_of (understood s find_format_text)) ours.schema ∙ finds.is) (subst (λ s. IsPlain (understood s find_format_text)) (sym ours.schema) finds.plain) e fault h said

pub missing_only : (old new : State) (e : Error) (fault : CompileError) → LacksFormat old.now.schema → FailsToQuery find_format_text [] old new e ⊎ IsTooLate find_format_text [] old new e → e ≡ SqlInputError fault → fault ≡ NoSuchTable
missing_only old new e fault lacks h is = elim (none_asked old new e lacks h) [
  | inl reported ↦ let met = sym is ∙ reported in cc
  | inr stopped ↦ absurd (store_only stopped.0 fault (sym stopped.1 ∙ is))
]

pub named_fault : (fault : StoreFault) (made : OpenFault) → made ≡ open_fault_for fault → made ≡ UnknownVersion → ⊥
named_fault Store made is said = let met = sym is ∙ said in cc
named_fault Memory made is said = let met = sym is ∙ said in cc

pub never_named : {A : Type 0} (fault : StoreFault) (made : OpenFault) → made ≡ open_fault_for fault → ◌≡◌ {A = Result A OpenFault} (Err made) (Err UnknownVersion) → ⊥
never_named fault made is said = let same : made ≡ UnknownVersion = cc in named_fault fault made is same

pub never_refused : {A : Type 0} (given : A) (fault : OpenFault) → ◌≡◌ {A = Result A OpenFault} (Ok given) (Err fault) → ⊥
never_refused given fault said = cc

-- a fault that is passed on is the one that was told
pub reported_as : {A : Type 0} (r : Result A OpenFault) (fault e : OpenFault) → IsErrAnd r (λ x. x ≡ fault) → r ≡ Err e → fault ≡ e
reported_as (Ok x) fault e is said = absurd is
reported_as (Err x) fault e is said = let same : x ≡ e = cc in sym is ∙ same

-- so a fault of the store that is passed on tells no version
pub never_passed : {A : Type 0} (r : Result A OpenFault) (fault : StoreFault) → IsErrAnd r (λ e. e ≡ open_fault_for fault) → r ≡ Err UnknownVersion → ⊥
never_passed r fault is said = named_fault fault (open_fault_for fault) refl (reported_as r (open_fault_for fault) UnknownVersion is said)

-- what is committed at the end
commits_open : (old last : State) → (old.now.schema ≡ no_schema → SeesTables last new_store_tables) → (IsKnown old → last.now ≡ old.now) → (LacksFormat old.now.schema → GainsOurs old.now last.now) → (db : Trees) → db ≡ last.now.trees → CommitsBySchema old db
commits_open old last made there gains db is = record {
  found = λ ours. is ∙ ap (λ (d : Database). d.trees) (there ours);
  new = λ empty. let sees = made empty in subst (λ trees. Holds trees new_store_tables) (sym is) (record { ours = sees.ours.trees; rows = sees.rows });
  free = λ lacks. (gains lacks).free;
  beside = λ lacks has. subst (IsBeside old.now) (sym is) ((gains lacks).made has).1;
}

-- a crash leaves what was there, or what is committed
pub survives_open : (old last new : State) → Survives old last (λ _. ⊥) → Survives last new (λ db. db ≡ last.now.trees)
    → (HasCleanDisk last → old.now.schema ≡ no_schema → SeesTables last new_store_tables) → (HasCleanDisk last → IsKnown old → last.now ≡ old.now) → (HasCleanDisk last → LacksFormat old.now.schema → GainsOurs old.now last.now) → Survives old new (CommitsBySchema old)
survives_open old last new begun ended made there gains =
    survives_then old last new (λ _. ⊥) (λ db. db ≡ last.now.trees) (CommitsBySchema old) (λ _ db none. absurd none) (λ clean db is.
    let sure : HasCleanDisk last = omega (arith, clean, ended.clean) in
    commits_open old last (made sure) (there sure) (gains sure) db is) begun ended

-- our first tables stand once they are committed
pub represents_committed : (old last new : State) → GainsOurs old.now last.now → HasCounters old.now.schema → IsTrue new.is_open → new.in_transaction ≡ false → new.now ≡ new.committed → new.now ≡ last.now → IsOpenBeside old new
represents_committed old last new gains has is_open settled committed same =
    let made = gains.made has in
    record { is_open = is_open; settled = settled; committed = committed; schema = ap (λ (d : Database). d.schema) same ∙ made.0; trees = subst (λ (d : Database). IsBeside old.now d.trees) (sym same) made.1 }
