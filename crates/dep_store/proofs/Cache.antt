-- What is cached of each state for which a database stands: the clock that a tick returns, and the reply to a request for the
-- service document.
use Rattle.std.proofs.Common.{◌≡◌, ◌∙◌, ℕ, min, Option, Some, None, Result, Ok, Err, IfOk, IsTrue, false, true, refl, sym, ap, subst}
use Rattle.std.specs.Prelude.{is_some}
use Rattle.dep_types.specs.Limits.{greatest_moment}
use Rattle.dep_types.specs.State.{State, tick}
use Rattle.dep_types.specs.declared.config.Config.{Config}
use Rattle.dep_decisions.specs.declared.operation.Operation.{Operation}
use Rattle.sqlite.specs.State as db
use Rattle.sqlite.specs.State.{HasCleanDisk}
use Rattle.dep_types.specs.Sound.{IsSound}
use Rattle.dep_types.proofs.TickSound.{keeps_sound}
use Rattle.dep_fields.specs.Fit.{AreFit}
use Rattle.dep_tables.specs.Tables.{Tables}
use Rattle.dep_transactions.specs.OpenTables.{StaysFile}
use Rattle.dep_answers.specs.Performing.{IsReady}
use Rattle.dep_answers.specs.Steps.{operation_step}
use Rattle.dep_answers.specs.declared.performed.Performed.{Performed}
use Rattle.dep_transactions.specs.States.{StoreRepresents, TablesRepresent}
use Rattle.dep_transactions.specs.Transactions.{OverStates}
use Rattle.dep_store.proofs.Carrying.{shown_whole}
use Rattle.dep_requests.specs.declared.caching.Cache.{Cache}
use Rattle.dep_requests.specs.Caching.{Covers, IsCacheOf}
use Rattle.dep_requests.proofs.CacheLemmas.{none_is, cached_tick}
use Rattle.dep_transactions.proofs.Transacting.{stood_before}
use Rattle.dep_store.specs.ReadTransactions.{ReadsOpen}
use Rattle.dep_store.specs.Caching.{IsCached, IsReadOf, MayCache, IsOfOpen, IsKnownFile}

-- the clock that is cached is that of the tick
pub clock_made : (d : db.State) (t : Tables) (config : Config) (moment : ℕ) (m : Cache) (shown : ℕ) → StaysFile d t → ((s : State) → StoreRepresents d s → IsReadOf config moment s m)
    → shown ≡ min m.clock greatest_moment
    → OverStates (λ s n. n ≡ (tick config s moment).clock) (λ s. tick config s moment) t shown t
clock_made d t config moment m shown represents is_cache is s means =
    let (it, before, idle) = is_cache s (record { tables = t; represents = represents; means = means }) in
    let still = cached_tick config s moment m it before (sym idle) in
    let same : m.clock ≡ (tick config s moment).clock = it.clock ∙ ap (λ (after : State). after.clock) (sym still) in (
      shown_whole m.clock (tick config s moment).clock shown is same (keeps_sound config s moment means.sound).clock,
      subst (TablesRepresent t) (sym still) means,
    )

-- what was read may be cached of each state for which the database still stands
pub may_cache : {E : Type 0} (old new : db.State) (config : Config) (moment : ℕ) (found : Option Cache) → (IsTrue new.is_open → HasCleanDisk new) → old.in_transaction ≡ false
    → ReadsOpen {E = E} old new (λ result s. IfOk result (MayCache config moment s)) (Ok found) → (s : State) → StoreRepresents new s → MayCache config moment s found
may_cache old new config moment found clean between did s represents =
    did.reports (clean represents.represents.is_open) s (stood_before old new did.finds.restored.back between s represents)

-- where something is cached, the store is open
pub open_if_cached : (d : db.State) (m : Option Cache) → IsOfOpen d m → true ≡ is_some m → HasCleanDisk d → IsTrue d.is_open
open_if_cached d (Some one) opened some clean = opened one refl clean
open_if_cached d None opened some clean = cc some

-- nothing is cached
pub forgotten : (d : db.State) → IsCached d None × IsOfOpen d None × IsKnownFile d None
forgotten d = (λ m is. absurd (none_is is), λ m is. absurd (none_is is), λ it is. absurd (none_is is))

pub service_made : {E : Type 0} (d : db.State) (t : Tables) (config : Config) (op : Operation) (m : Cache) (result : Result Performed E) → StaysFile d t
    → ((s : State) → StoreRepresents d s → IsCacheOf m s)
    → (AreFit op.fields → (s : State) → IsSound s → IsCacheOf m s → IfOk result (λ p. IsReady (operation_step config s op) p × ((operation_step config s op).state ≡ s)))
    → IfOk result (λ p. AreFit op.fields → OverStates (λ s p. IsReady (operation_step config s op) p) (λ s. (operation_step config s op).state) t p t)
service_made d t config op m (Ok p) represents is_cache reported = λ fit s means.
    let it = reported fit s means.sound (is_cache s (record { tables = t; represents = represents; means = means })) in
    (it.0, subst (TablesRepresent t) (sym it.1) means)
service_made d t config op m (Err e) represents is_cache reported = tt

-- what was read of a state may be cached of it
pub read_of : {E : Type 0} (config : Config) (moment : ℕ) (s : State) (result : Result (Option Cache) E) → IfOk result (λ found. (m : Cache) → found ≡ Some m → IsCacheOf m s)
    → IfOk result (Covers config moment) → IfOk result (MayCache config moment s)
read_of config moment s (Ok found) is_cache covers = λ m is. let it = covers m is in (is_cache m is, it.0, it.1)
read_of config moment s (Err e) is_cache covers = tt
