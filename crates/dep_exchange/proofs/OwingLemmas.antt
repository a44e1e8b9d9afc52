-- Contents that are sent later.
use Rattle.std.proofs.Common.{◌≡◌, ◌∙◌, inl, ℕ, List, [], ◌++◌, Option, Some, None, Ok, Err, refl, sym, subst, arith}
use Rattle.std.specs.Prelude.{⊤}
use Rattle.std.specs.Io.KnownBytes.{Appends}
use Rattle.dep_types.specs.State.{State}
use Rattle.dep_types.specs.Streams.{HasContent, IsStreamed}
use Rattle.dep_types.specs.Conditions.{Condition, Represents, HasCleanDisk}
use Rattle.dep_types.specs.declared.outlet.Outlet.{Ghosts}
use Rattle.dep_types.specs.StoreFaults.{stream_fault_for}
use Rattle.dep_types.specs.declared.store_fault.StoreFault.{StoreFault}
use Rattle.dep_types.specs.declared.store_fault.StoreFault.TheVariants.{Store, Memory}
use Rattle.dep_types.specs.declared.stream_fault.StreamFault.{StreamFault}
use Rattle.dep_types.specs.declared.stream_fault.StreamFault.TheVariants as stream
use Rattle.dep_answers.specs.declared.performed.StoredFile.{StoredFile}
use Rattle.dep_exchange.specs.Archives.{KeepsState}
use Rattle.dep_exchange.specs.Owing.{HasBehind, IsLater, Owing, SendsContent, TakesFew, TakesSome, outside_with, with_more}
use Rattle.dep_exchange.specs.Sending.{Outside, outside_of}
use Rattle.dep_exchange.specs.declared.contents.Contents.{Contents}
use Rattle.dep_exchange.specs.declared.contents.Contents.TheVariants.{AtOnce, InSteps}
use Rattle.dep_exchange.specs.declared.rest.Rest.{Rest}
use Rattle.std.proofs.KnownBytes.{Appends-nil, Appends-trans}

-- where nothing is sent later, it is said of what was sent
pub said_now : {O : Type 0} (g : Ghosts O) (before after : O) (store : Condition) (r : Option Rest) (reported : Outside → Type 0)
    → r ≡ None → Owing g before after store r reported → reported (outside_of g after store)
said_now g before after store r reported none y =
    subst (λ (more : Option (List ℕ)). reported (outside_with g after store more))
    (subst (λ (x : Option Rest). IsLater store x y.0) none y.1) y.3

whole_later : (taken : Option (List ℕ)) (bytes : List ℕ) → Appends taken (with_more taken (Some bytes)) bytes
whole_later None bytes = tt
whole_later (Some xs) bytes = refl

has_content : (s : State) (it : StoredFile) (bytes : List ℕ) → HasBehind s it 0 bytes → HasContent s it.file bytes
has_content s it bytes h = record { object = it.object; file = h.file; held = h.held; is = h.is }

-- all is sent later
pub in_steps : (old new : Condition) (taken : Option (List ℕ)) (it : StoredFile) (bytes : List ℕ)
    → (HasCleanDisk new → (s : State) → Represents new s → HasBehind s it 0 bytes)
    → (HasCleanDisk new → (s : State) → Represents old s → Represents new s)
    → SendsContent old new taken taken it (Ok (Some (record { file = it; sent = 0 })))
in_steps old new taken it bytes has stays =
    (Some bytes, (bytes, refl, has), (bytes, whole_later taken bytes, λ disk s represents. has_content s it bytes (has disk s (stays disk s represents))))

-- none is sent, now or later
pub never_begun : (old new : Condition) (taken : Option (List ℕ)) (it : StoredFile) (fault : StreamFault)
    → ((s : State) → IsStreamed {X = Option Rest} s it.file [] (Err fault))
    → SendsContent old new taken taken it (Err fault)
never_begun old new taken it fault is = (None, refl, ([], Appends-nil taken, λ disk s represents. is s))

-- what is streamed of a file whose sending fails doesn't hang on what is returned else
pub streamed_part : (s : State) (file : ℕ) (sent : List ℕ) (fault : StreamFault) → IsStreamed {X = ⊤} s file sent (Err fault) → IsStreamed {X = Option Rest} s file sent (Err fault)
streamed_part s file sent stream.Writer h = h
streamed_part s file sent stream.Store h = h
streamed_part s file sent stream.Memory h = h
streamed_part s file sent stream.NoSuchFile h = h

-- where the store fails before, none is
pub none_streamed : (s : State) (file : ℕ) (fault : StoreFault) → IsStreamed {X = Option Rest} s file [] (Err (stream_fault_for fault))
none_streamed s file Store = inl refl
none_streamed s file Memory = inl refl

-- the state stays, whatever else is returned
pub ok_keeps : {A B E F : Type 0} (old new : Condition) {x : A} (y : B) → KeepsState {E = E} old new (Ok x) → KeepsState {E = F} old new (Ok y)
ok_keeps old new y it = record { ok = it.ok; err = λ is_open s at. tt; honest = it.honest; was_open = it.was_open; stop = it.stop }

pub err_keeps : {A B E F : Type 0} (old new : Condition) {e : E} (fault : F) → KeepsState {A = A} old new (Err e) → KeepsState {A = B} old new (Err fault)
err_keeps old new fault it = record { ok = λ disk s at always. tt; err = it.err; honest = it.honest; was_open = it.was_open; stop = it.stop }

pub never_at_once : {P : Type 0} {contents : Contents} → contents ≡ InSteps → contents ≡ AtOnce → P
never_at_once is e = absurd (let bad : InSteps ≡ AtOnce = sym is ∙ e in cc)

-- bytes were sent, and then others
pub takes_both : (a b c : Option (List ℕ)) → TakesSome a b → TakesSome b c → TakesSome a c
takes_both a b c x y = (x.0 ++ y.0, Appends-trans a b c x.0 y.0 x.1 y.1)

pub few_none : (a : Option (List ℕ)) → TakesFew a a
few_none a = ([], omega arith, Appends-nil a)

pub takes_none : (a : Option (List ℕ)) → TakesSome a a
takes_none a = ([], Appends-nil a)
