-- A content that begins is that of the file that its request names, which no waiting request takes.
use Rattle.std.proofs.Common.{◌≡◌, ℕ, Bool, true, false, List, get_or, set, Option, Some, None, refl, sym, ap, subst, ◌∙◌}
use Rattle.std.specs.Prelude.{IfSome}
use Rattle.dep_types.specs.State.{State, tick}
use Rattle.dep_types.specs.Sound.{IsSound}
use Rattle.dep_types.specs.Conditions.{Condition, Represents, HasCleanDisk}
use Rattle.dep_types.specs.declared.config.Config.{Config}
use Rattle.dep_types.specs.declared.refusal.Refusal.{Refusal}
use Rattle.dep_types.specs.declared.refusal.Refusal.TheVariants as why
use Rattle.dep_types.proofs.TickSound.{keeps_sound}
use Rattle.dep_answers.specs.Performing.{file_id}
use Rattle.dep_answers.specs.Steps.{refused_step}
use Rattle.dep_answers.specs.declared.performed.FileId.{FileId}
use Rattle.dep_answers.specs.declared.performed.StoredFile.{StoredFile}
use Rattle.dep_answers.proofs.RefusedSteps.{no_source}
use Rattle.dep_answers.proofs.Sources.{named_source}
use Rattle.dep_message.specs.Heads.{closes, is_head_only}
use Rattle.dep_message.specs.Places.{Place, Reading}
use Rattle.dep_message.specs.Stream.{Item, Fault, Continue, Request, FirstAt}
use Rattle.dep_message.specs.declared.message.Message.{Message}
use Rattle.dep_router.specs.Targets.{target}
use Rattle.dep_router.specs.declared.routed.Routed.{Routed}
use Rattle.dep_router.specs.declared.routed.Routed.TheVariants.{To, NotFound, NotAllowed}
use Rattle.dep_hub.specs.Claims.{any_waits_to_take, claim_by, claim_of, claim_to, has_to_wait, is_awaited_by, file_claim, sends_of, waits_to_take}
use Rattle.dep_exchange.specs.Machine.{operation_of, routed_step, step}
use Rattle.dep_hub.specs.Owed.{later_than}
use Rattle.dep_hub.specs.RepresentsOwing.{IsFree, KeepsBack, KeptBack, unsent, prepares_still, begins_to_prepare, waits_still, begins_to_wait, lacks_memory, behind_at}
use Rattle.dep_exchange.specs.Serving.{BeginsFirst}
use Rattle.dep_hub.specs.declared.claim.Claim.{Claim}
use Rattle.dep_hub.specs.declared.claim.Claim.TheVariants.{Reads, Takes}
use Rattle.dep_hub.specs.declared.claim.Files.{Files}
use Rattle.dep_hub.specs.declared.hub.Hub.{Hub}
use Rattle.dep_hub.specs.declared.rest.Behind.{Behind}
use Rattle.dep_hub.specs.declared.rest.Behind.TheVariants.{Nothing, Content, Broken, Waits, Prepares, Prepared}
use Rattle.dep_hub.specs.declared.connections.Connection.{Connection}
use Rattle.dep_exchange.specs.declared.rest.Rest.{Rest}
use Rattle.dep_exchange.proofs.BeginLemmas.{begins_as}
use Rattle.dep_hub.proofs.PendingLemmas.{any_at, any_unset, true_false}

-- ---- the request that names it

none_some : (id : FileId) → None ≡ Some id → ⊥
none_some id e = cc

refused_none : (s : State) (r : Refusal) (allow : Option (List ℕ)) (is_head_only closes : Bool) (id : FileId)
    → (refused_step s r allow is_head_only closes).source ≡ Some id → ⊥
refused_none s r allow is_head_only closes id e = none_some id (sym (no_source s.clock r allow is_head_only) ∙ e)

-- it claims the file
routed_claims : (config : Config) (s : State) (m : Message) (r : Routed) (id : FileId) → IsSound s → (routed_step config s m r).source ≡ Some id
    → claim_by r ≡ Reads id.object id.file
routed_claims config s m NotFound id sound e = absurd (refused_none s why.NotFound None (is_head_only m.head) (closes m.head) id e)
routed_claims config s m (NotAllowed methods) id sound e = absurd (refused_none s why.MethodNotAllowed (Some methods) (is_head_only m.head) (closes m.head) id e)
routed_claims config s m (To t) id sound e =
    let named = named_source config s (operation_of m t) id sound e in
    ap (claim_to t.resource) named.0 ∙ ap file_claim named.1

-- what stands first, where it doesn't have to wait, names a file that no waiting request takes
item_unawaited : (config : Config) (cs : List Connection) (reading : Reading) (moment : ℕ) (s : State) (item : Item) (next : Place) (it : StoredFile)
    → IsSound s → IsFree cs reading → FirstAt reading.limit reading.place item next → (step config s item moment).source ≡ Some (file_id it)
    → any_waits_to_take cs it.object it.file ≡ false
unfolding step
item_unawaited config cs reading moment s (Fault r head_only) next it sound free first e =
    absurd (refused_none (tick config s moment) r None head_only true (file_id it) e)
item_unawaited config cs reading moment s Continue next it sound free first e = absurd (none_some (file_id it) e)
item_unawaited config cs reading moment s (Request m) next it sound free first e =
    let claims : claim_of m.head ≡ Reads it.object it.file =
    routed_claims config (tick config s moment) m (target m.head.method m.head.path) (file_id it) (keeps_sound config s moment sound) e in
    subst (λ (claim : Claim). has_to_wait cs claim ≡ false) claims (free m next first)

-- ---- a connection that was answered

unawaited_later : (cs : List Connection) (rest : Option Rest) → IfSome rest (λ r. any_waits_to_take cs r.file.object r.file.file ≡ false)
    → is_awaited_by cs (later_than rest) ≡ false
unawaited_later cs None h = refl
unawaited_later cs (Some r) h = h

takes_nothing : (object file : ℕ) (rest : Option Rest) → waits_to_take object file (later_than rest) ≡ false
takes_nothing object file None = refl
takes_nothing object file (Some r) = refl

module _ (config : Config) (cs : List Connection) (reading : Reading) (moment : ℕ) (old new : Condition) (s : State) where
  pub begins_unawaited : HasCleanDisk new → Represents old s → IsFree cs reading → (i : ℕ) (c d : Connection) → c ≡ get_or cs i c → (rest : Option Rest)
      → d.behind ≡ later_than rest → IfSome rest (BeginsFirst config reading moment old new)
      → is_awaited_by (set cs i d) (later_than rest) ≡ false
  begins_unawaited disk represents free i c d item rest is begins =
      unawaited_later (set cs i d) rest
      (begins_as (BeginsFirst config reading moment old new) (λ r. any_waits_to_take (set cs i d) r.file.object r.file.file ≡ false) rest
      (λ r b. any_unset (waits_to_take r.file.object r.file.file) i cs d
      (ap (waits_to_take r.file.object r.file.file) is ∙ takes_nothing r.file.object r.file.file rest)
      (item_unawaited config cs reading moment s b.0 b.1 r.file (old.sound_if_kept s represents) free b.2 (b.3 disk s represents)))
      begins)

-- ---- who waits

-- a content that no waiting request takes is of none of the files that one takes
pub unawaited_unsent : (cs : List Connection) (b : Behind) (waiting : ℕ) (files : Files) → is_awaited_by cs b ≡ false → behind_at cs waiting ≡ Waits (Takes files)
    → sends_of files b ≡ true → ⊥
unawaited_unsent cs (Content r) waiting files unawaited waits sends =
    true_false (sym (any_at (waits_to_take r.file.object r.file.file) cs waiting refl (ap (waits_to_take r.file.object r.file.file) waits ∙ sends)) ∙ unawaited)
unawaited_unsent cs Nothing waiting files unawaited waits sends = true_false (sym sends)
unawaited_unsent cs Broken waiting files unawaited waits sends = true_false (sym sends)
unawaited_unsent cs (Waits claim) waiting files unawaited waits sends = true_false (sym sends)
unawaited_unsent cs (Prepares left) waiting files unawaited waits sends = true_false (sym sends)
unawaited_unsent cs Prepared waiting files unawaited waits sends = true_false (sym sends)

-- where a request is kept back, a content goes on that was there
kept_as : (files : Files) (connections : List Connection) (reading : Reading) (was now : Behind) → KeptBack connections reading was now → sends_of files now ≡ true → sends_of files was ≡ true
kept_as files cs reading was now (unsent u same) sends = sym (ap (sends_of files) same) ∙ sends
kept_as files cs reading was now (prepares_still u same) sends = sym (ap (sends_of files) same) ∙ sends
kept_as files cs reading was now (begins_to_prepare w names is) sends = absurd (true_false (sym sends ∙ ap (sends_of files) is))
kept_as files cs reading was now (waits_still claim w is held) sends = absurd (true_false (sym sends ∙ ap (sends_of files) is))
kept_as files cs reading was now (begins_to_wait claim u has is held) sends = absurd (true_false (sym sends ∙ ap (sends_of files) is))
kept_as files cs reading was now (lacks_memory u pending has is) sends = absurd (true_false (sym sends ∙ ap (sends_of files) is))

pub kept_sends : {A : Type 0} {condition : A → Condition} {t k : Option (List ℕ)} {f g : ℕ} (files : Files) (old new : Hub A) (n : ℕ) → KeepsBack condition t k f g old new n
    → sends_of files (behind_at new.connections.items n) ≡ true → sends_of files (behind_at old.connections.items n) ≡ true
kept_sends files old new n k = kept_as files old.connections.items k.reading (behind_at old.connections.items n) (behind_at new.connections.items n) k.why
