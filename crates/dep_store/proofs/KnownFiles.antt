-- The file whose content a reply has: that it is there with its size, and what is sent of it then.
use Rattle.std.proofs.Common.{◌≡◌, ◌≢◌, ◌∙◌, ℕ, List, [], length, Bool, true, false, not, ◌&&◌, Option, Some, None, Result, Ok, IfOk, IsTrue, refl, sym, ap}
use Rattle.std.specs.Prelude.{IsSome, IfSome}
use Rattle.std.specs.Option.{option_map_or}
use Rattle.std.proofs.lemmas.Result.{IfOk-weaker}
use Rattle.sqlite.specs.State as db
use Rattle.sqlite.specs.State.{HasCleanDisk}
use Rattle.dep_types.specs.State.{State, File, file_at}
use Rattle.dep_types.specs.declared.config.Config.{Config}
use Rattle.dep_types.specs.declared.refusal.Refusal.{Refusal}
use Rattle.dep_types.specs.declared.store_fault.StoreFault.{StoreFault}
use Rattle.dep_fields.specs.Fit.{AreFit, IfValue}
use Rattle.dep_fields.specs.declared.field.Field.{Field}
use Rattle.dep_fields.specs.declared.field.Field.TheVariants.{Absent, Bad, Value}
use Rattle.dep_types.specs.Methods.{is_safe}
use Rattle.dep_decisions.specs.Rules.{refusal}
use Rattle.dep_decisions.specs.declared.operation.Operation.{Operation}
use Rattle.dep_decisions.proofs.ReadAlone.{reads_keep}
use Rattle.dep_answers.specs.Performing.{IsReady, stored_in}
use Rattle.dep_answers.specs.Steps.{Stepped, operation_step, step_by}
use Rattle.dep_answers.specs.declared.performed.Performed.{Performed}
use Rattle.dep_answers.specs.declared.performed.StoredFile.{StoredFile}
use Rattle.dep_requests.specs.declared.performing.Done.{Done}
use Rattle.dep_views.specs.declared.ahead.WorkAhead.{WorkAhead}
use Rattle.dep_transactions.specs.Performing.{KeepsWorkAhead, StepsAlone, StepsOver, ReportsChanges, IsBackUnchanged}
use Rattle.dep_transactions.specs.States.{StoreRepresents}
use Rattle.dep_transactions.specs.Transactions.{FindsOpen, Transacts}
use Rattle.dep_transactions.proofs.Transacting.{IsSettled, after_back, given_back_then}
use Rattle.dep_schema.proofs.Streams.{IsSized}
use Rattle.dep_requests.specs.Caching.{has_value, is_plain_read, lists_many_rows}
use Rattle.dep_store.specs.Caching.{IsOfSize}
use Rattle.dep_store.specs.Shut.{StoreFailsIfShut}
use Rattle.dep_store.proofs.ShutLemmas.{state_back, was_open_then}

-- ---- a request that only reads, and tells of no content

all_true : (a b c d : Bool) → (a && b && c && d) ≡ true → (a ≡ true) × (b ≡ true) × (c ≡ true)
all_true true true true d h = (refl, refl, refl)
all_true true true false d h = cc h
all_true true false c d h = cc h
all_true false b c d h = cc h

no_value : {X : Type 0} (P : X → Type 0) (field : Field X) → not (has_value field) ≡ true → IfValue field P
no_value P (Value x) h = cc h
no_value P Absent h = tt
no_value P Bad h = tt

pub plain_reads : (op : Operation) → IsTrue (is_plain_read op) → IsTrue (is_safe op.target.method) × AreFit op.fields
plain_reads op plain =
    let all = all_true (is_safe op.target.method) (not (has_value op.fields.disposition)) (not (has_value op.fields.content_type)) (not (lists_many_rows op.target)) plain in
    (all.0, record { kind = no_value _ op.fields.disposition all.1; media = no_value _ op.fields.content_type all.2 })

by_rule : (config : Config) (s : State) (op : Operation) → IsTrue (is_safe op.target.method) → (found : Option Refusal) → (step_by config s op found).state ≡ s
by_rule config s op read None = reads_keep config s op read
by_rule config s op read (Some r) = refl

-- its step leaves the state
step_stays : (config : Config) (s : State) (op : Operation) → IsTrue (is_safe op.target.method) → (operation_step config s op).state ≡ s
unfolding operation_step
step_stays config s op read = by_rule config s op read (refusal config s op)

-- ---- the file whose content the reply has

there : (o : Option File) (stored : List ℕ) → option_map_or (λ (file : File). file.content) o [] ≡ stored → stored ≢ []
    → (file : File) × (o ≡ Some file) × (file.content ≡ stored)
there None stored e some = absurd (some (sym e))
there (Some file) stored e some = (file, refl, e)

ready_sized : (s : State) (stepped : Stepped) (p : Performed) → stepped.state ≡ s → IsReady stepped p → IfSome p.stored (IsOfSize s)
ready_sized s stepped p same ready = go p.stored ready.stored ready.not_empty ready.size
  where
    go : (o : Option StoredFile) → stored_in stepped.state o ≡ stepped.stored → (IsSome o → stepped.stored ≢ []) → IfSome o (λ it. it.size ≡ length stepped.stored)
        → IfSome o (IsOfSize s)
    go None is some size = tt
    go (Some it) is some size =
        let found = there (file_at stepped.state it.object it.file) stepped.stored is (some refl) in
        (found.0, ap (λ (z : State). file_at z it.object it.file) (sym same) ∙ found.1, size ∙ ap length (sym found.2))

-- the file whose content the reply to such a request has is there
abbrev pub ShowsFile : (old new : db.State) → Result Done StoreFault → Operation → Type 0
ShowsFile old new result op = IsTrue (is_plain_read op) → HasCleanDisk new → (s : State) → StoreRepresents old s
    → IfOk result (λ done. IfSome done.performed.stored (IsOfSize s))

pub shows_file : (old new : db.State) (config : Config) (op : Operation) (result : Result Done StoreFault)
    → (IsTrue (is_plain_read op) → Transacts old new result (StepsAlone config op)) → ShowsFile old new result op
shows_file old new config op result it plain clean s represents =
    let reads = plain_reads op plain in
    IfOk-weaker result _ _
    (λ (done : Done) made. ready_sized s (operation_step config s op) done.performed (step_stays config s op reads.0) (made.2 reads.1 s represents.means).0)
    ((it plain).ok clean represents.tables represents.represents)

-- ---- a request that is performed once the store was found open

-- on a store that was shut it fails, else it is one transaction, given back where nothing was changed, and shows a file that is there
pub record PerformsIfOpen (old new : db.State) (result : Result Done StoreFault) (config : Config)
    (op : Operation) (ahead later : WorkAhead) : Type 0 where
  pub shut : StoreFailsIfShut old new result
  pub transacts : Transacts old new result (StepsOver config op ahead)
  pub changes : ReportsChanges old new result config op ahead
  pub hashed : KeepsWorkAhead old new ahead later
  pub back : IsBackUnchanged old new result
  pub shows : ShowsFile old new result op

pub performs : (old mid new : db.State) (config : Config) (op : Operation) (ahead later : WorkAhead) (result : Result Done StoreFault)
    → (IsTrue old.is_open → IsSettled old) → (IsTrue mid.is_open → HasCleanDisk mid) → FindsOpen {A = Unit {0}} {E = StoreFault} old mid (Ok tt)
    → KeepsWorkAhead mid new ahead later → ShowsFile mid new result op
    → Transacts mid new result (StepsOver config op ahead) → ReportsChanges mid new result config op ahead → IsBackUnchanged mid new result
    → PerformsIfOpen old new result config op ahead later
performs old mid new config op ahead later result settled shut found keeps shows does changes unchanged =
    let back = found.restored.back in
    let opened = λ (clean : HasCleanDisk new). found.opened (does.honest clean) in
    let represents = λ (clean : HasCleanDisk new) (s : State) (was : StoreRepresents old s). state_back old mid s back (opened clean) was in
    record {
      shut = was_open_then old new result (λ clean. (back (opened clean)).0);
      transacts = after_back old mid new result _ settled shut back found.restored.survives found.opened does;
      changes = λ clean s was are. changes clean s (represents clean s was) are;
      hashed = λ is_open s was. keeps is_open s (state_back old mid s back (does.was_open is_open) was);
      back = IfOk-weaker result _ _ (λ (answer : Done) given same. given_back_then old mid new back found.restored.survives (given same)) unchanged;
      shows = λ plain clean s was. shows plain clean s (represents clean s was);
    }

-- ---- what is sent of it

pub sized_file : (s : State) (it : StoredFile) → IsOfSize s it → IsSized s it.file it.size
sized_file s it known = record { object = it.object; file = known.0; held = known.1; sized = known.2 }
