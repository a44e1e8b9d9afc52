-- A file stays until it is replaced or deleted.
use Rattle.std.proofs.Common.{◌≡◌, ◌⊎◌, inl, inr, ℕ, Bool, true, false, List, [], ◌∷◌, ◌++◌, Option, Some, None, IsTrue, refl, sym, ap, subst, ◌∙◌}
use Rattle.dep_types.specs.State.{State, File, file_at, tick}
use Rattle.dep_types.specs.Sound.{IsSound}
use Rattle.dep_types.specs.declared.config.Config.{Config}
use Rattle.dep_types.specs.declared.refusal.Refusal.{Refusal}
use Rattle.dep_types.specs.declared.target.Target.{Target}
use Rattle.dep_types.proofs.TickSound.{keeps_sound}
use Rattle.dep_docs_in.specs.declared.reference.Reference.{Reference}
use Rattle.dep_decisions.specs.Rules.{refusal}
use Rattle.dep_decisions.specs.Effects.{effect}
use Rattle.dep_decisions.specs.declared.operation.Operation.{Operation}
use Rattle.dep_decisions.specs.Laws.{IsDepositedFrom, takes_file}
use Rattle.dep_decisions.proofs.Deposited.{deposited}
use Rattle.dep_decisions.proofs.FilesStay.{file_stays}
use Rattle.dep_answers.specs.Steps.{step_by, operation_step}
use Rattle.dep_message.specs.Stream.{Item, Fault, Continue, Request}
use Rattle.dep_message.specs.declared.message.Message.{Message}
use Rattle.dep_router.specs.Targets.{target}
use Rattle.dep_router.specs.declared.routed.Routed.{Routed}
use Rattle.dep_router.specs.declared.routed.Routed.TheVariants.{To, NotFound, NotAllowed}
use Rattle.dep_exchange.specs.Machine.{operation_of, routed_step, step}
use Rattle.dep_server.specs.Moves.{Move, Made, Begun, moved, state_by}
use Rattle.dep_server.specs.Requests.{AnyRequest, step_of, ticked, left_by, IsLetThrough, IsAcceptedFor}
use Rattle.dep_server.specs.Runs.{AnyRun, PointOf, state_at, RequestIn, as_it_came}
use Rattle.dep_server.specs.Deposited.{IsTaken, deposit_object, deposited_number, StaysUntilTaken, FileStaysFrom, IsDeposit, EntryStaysFrom}
use Rattle.dep_server.proofs.MovesLead.{over_both}
use Rattle.dep_server.proofs.SoundLemmas.{moves_sound}
use Rattle.dep_server.proofs.UntilEnded.{HasEnd, until_ended}

module _ (config : Config) (n f : ℕ) (file : File) where
  abbrev StaysFile : State → Type 0
  StaysFile s = file_at s n f ≡ Some file

  -- a move replaces the file or deletes it
  record Takes (s : State) (move : Move) : Type 0 where
    pub message : Message
    pub moment : ℕ
    pub target : Target
    pub is : move ≡ Made (Request message) moment
    pub accepted : IsLetThrough config (tick config s moment) message target
    pub takes : IsTrue (takes_file n f target)

  by_refusal : (s : State) (op : Operation) (o : Option Refusal) (b : Bool) → refusal config s op ≡ o → takes_file n f op.target ≡ b → IsSound s → StaysFile s
      → StaysFile (step_by config s op o).state ⊎ ((refusal config s op ≡ None) × IsTrue (takes_file n f op.target))
  by_refusal s op (Some r) b refused e sound h = inl h
  by_refusal s op None true accepted e sound h = inr (accepted, e)
  by_refusal s op None false accepted e sound h = inl (file_stays config s op n f file sound h e)

  by_operation : (s : State) (op : Operation) → IsSound s → StaysFile s
      → StaysFile (operation_step config s op).state ⊎ ((refusal config s op ≡ None) × IsTrue (takes_file n f op.target))
  unfolding operation_step
  by_operation s op sound h = by_refusal s op (refusal config s op) (takes_file n f op.target) refl refl sound h

  by_route : (s : State) (m : Message) (moment : ℕ) (r : Routed) → target m.head.method m.head.path ≡ r → IsSound (tick config s moment) → StaysFile (tick config s moment)
      → StaysFile (routed_step config (tick config s moment) m r).state ⊎ Takes s (Made (Request m) moment)
  by_route s m moment NotFound e sound h = inl h
  by_route s m moment (NotAllowed methods) e sound h = inl h
  by_route s m moment (To t) e sound h = elim (by_operation (tick config s moment) (operation_of m t) sound h) [
    | inl stays ↦ inl stays
    | inr taken ↦ inr (record {
      message = m;
      moment = moment;
      target = t;
      is = refl;
      accepted = record { named = e; passed = taken.0 };
      takes = taken.1;
    })
  ]

  by_step : (s : State) (item : Item) (moment : ℕ) → IsSound s → StaysFile s → StaysFile (step config s item moment).state ⊎ Takes s (Made item moment)
  unfolding step
  by_step s (Fault r head_only) moment sound h = inl h
  by_step s Continue moment sound h = inl h
  by_step s (Request m) moment sound h = by_route s m moment (target m.head.method m.head.path) refl (keeps_sound config s moment sound) h

  by_move : (s : State) (move : Move) → IsSound s → StaysFile s → StaysFile (moved config s move) ⊎ Takes s move
  by_move s (Made item moment) sound h = by_step s item moment sound h
  by_move s (Begun (Fault r head_only) moment) sound h = inl h
  by_move s (Begun Continue moment) sound h = inl h
  by_move s (Begun (Request m) moment) sound h = inl h

  taken_among : (s : State) (moves : List Move) → HasEnd config Takes s moves → IsTaken config s moves n f
  taken_among s moves t = record {
    before = t.before;
    behind = t.behind;
    message = t.ends.message;
    moment = t.ends.moment;
    target = t.ends.target;
    among = t.among ∙ ap (λ (x : Move). t.before ++ x ∷ t.behind) t.ends.is;
    accepted = t.ends.accepted;
    takes = t.ends.takes;
  }

-- from a point of a run on
pub stays : (r : AnyRun) (p : PointOf r) (n f : ℕ) (file : File) → IsSound r.first → file_at (state_at p) n f ≡ Some file → FileStaysFrom p n f file
stays r p n f file sound h = elim (until_ended r (StaysFile r.config n f file) (Takes r.config n f file) (by_move r.config n f file) p sound h) [
  | inl there ↦ inl there
  | inr taken ↦ inr (taken_among r.config n f file (state_at p) p.behind taken)
]

-- ---- a deposit by reference

by_passed : (config : Config) (now : State) (op : Operation) → refusal config now op ≡ None → (operation_step config now op).state ≡ effect config now op
unfolding operation_step
by_passed config now op passed = ap (λ (o : Option Refusal). (step_by config now op o).state) passed

module _ (q : AnyRequest) (t : Target) where
  abbrev found : State
  found = ticked (step_of q)

  -- what is accepted takes effect
  accepted_state : IsAcceptedFor q t → left_by q ≡ effect q.config found (operation_of q.message t)
  unfolding step
  accepted_state a =
      ap (λ (r : Routed). (routed_step q.config found q.message r).state) a.named ∙ by_passed q.config found (operation_of q.message t) a.passed

  abbrev Made_of : Reference → ℕ → State → Type 0
  Made_of reference i now = (file : File) × (file_at now (deposit_object q t) (deposited_number q i) ≡ Some file) × IsDepositedFrom found now reference file

  made_of : (i : ℕ) (reference : Reference) → IsSound q.state → IsDeposit q t i reference → Made_of reference i (left_by q)
  made_of i reference sound d =
      subst (λ (now : State). Made_of reference i now) (sym (accepted_state d.accepted))
      (deposited q.config found (operation_of q.message t) d.references d.read reference i (keeps_sound q.config q.state q.moment sound) d.accepted.passed d.reported)

cons_moves : (before : List Move) (move : Move) (behind : List Move) → before ++ move ∷ behind ≡ (before ++ move ∷ []) ++ behind
cons_moves [] move behind = refl
cons_moves (x ∷ before) move behind = ap (λ (l : List Move). x ∷ l) (cons_moves before move behind)

pub stays_deposited : (r : AnyRun) (q : RequestIn r) (t : Target) (i : ℕ) (reference : Reference) → IsSound r.first → IsDeposit (as_it_came q) t i reference
    → EntryStaysFrom q t i reference
stays_deposited r q t i reference sound d =
    let config : Config = r.config in
    let move : Move = Made (Request q.message) q.moment in
    let came : AnyRequest = as_it_came q in
    let made = made_of came t i reference (moves_sound config r.first q.before sound) d in
    let n : ℕ = deposit_object came t in
    let f : ℕ = deposited_number came i in
    let after : state_by config r.first (q.before ++ move ∷ []) ≡ left_by came = over_both config r.first q.before (move ∷ []) in
    record {
      file = made.0;
      there = made.1;
      deposited = made.2;
      stays = subst (λ (now : State). StaysUntilTaken config now q.behind r.last.state n f made.0) after
          (stays r (record { before = q.before ++ move ∷ []; behind = q.behind; joined = q.joined ∙ cons_moves q.before move q.behind }) n f made.0 sound
          (subst (λ (now : State). file_at now n f ≡ Some made.0) (sym after) made.1));
    }
