-- The turns of a connection over an archive that a fault shut.
use Rattle.std.proofs.Common.{Bool, ◌≡◌, ℕ, List, [], ◌∷◌, ◌++◌, sym, subst}
use Rattle.dep_types.specs.Conditions.{Condition}
use Rattle.dep_exchange.specs.Shut.{LeavesNoMore, IfShut, SendsFixed}
use Rattle.dep_hub.specs.Representing.{IsClean, store_of}
use Rattle.dep_hub.specs.declared.hub.Hub.{Hub}
use Rattle.dep_exchange.proofs.ShutLemmas.{leaves_same, leaves_both}
use Rattle.dep_connection.specs.Turns.{ServedPiece}
use Rattle.dep_connection.specs.Conversation.{Outflow, AreFixed, Talks, silent, turn, ahead}

fixed_more : (turns : List ServedPiece) (t : ServedPiece) → AreFixed turns → SendsFixed t.sent t.answer → AreFixed (turns ++ t ∷ [])
fixed_more [] t are one = (one, tt)
fixed_more (u ∷ turns) t are one = (are.0, fixed_more turns t are.1 one)

module _ {A : Type 0} (condition : A → Condition) where
  abbrev TurnsShut : Hub A → Hub A → List ServedPiece → Type 0
  TurnsShut old new turns = IfShut (store_of condition old) (store_of condition new) (AreFixed turns × LeavesNoMore (store_of condition old) (store_of condition new))

  clean_before : (may_commit : A → Bool) (shown : Outflow → Type 0) (n : ℕ) (old new : Hub A) (before after : Outflow) (turns : List ServedPiece)
      → Talks condition may_commit shown n old before turns new after → IsClean condition new → IsClean condition old
  clean_before may_commit shown n old new before after turns silent clean = clean
  clean_before may_commit shown n old new before after turns (turn {mid = mid} {before = between} {turns = first} t talks stays out same a sends flushed shows) clean =
      clean_before may_commit shown n old mid before between first talks (a.clean clean)
  clean_before may_commit shown n old new before after turns (ahead {mid = mid} talks stays out a) clean =
      clean_before may_commit shown n old mid before after turns talks (a.store.was_open clean)

  turns_shut : (may_commit : A → Bool) (shown : Outflow → Type 0) (n : ℕ) (old new : Hub A) (before after : Outflow) (turns : List ServedPiece)
      → Talks condition may_commit shown n old before turns new after → TurnsShut old new turns
  turns_shut may_commit shown n old new before after turns silent disk shut = (tt, leaves_same (store_of condition old))
  turns_shut may_commit shown n old new before after turns (turn {mid = mid} {before = between} {turns = first} t talks stays out same a sends flushed shows) disk shut =
      let so_far = turns_shut may_commit shown n old mid before between first talks (a.honest disk) shut in
      let then = a.shut disk (λ is_open. shut (clean_before may_commit shown n old mid before between first talks is_open)) in
      (fixed_more first t so_far.0 then.sends, leaves_both (store_of condition old) (store_of condition mid) (store_of condition new) so_far.1 then.leaves)
  turns_shut may_commit shown n old new before after turns (ahead {mid = mid} talks stays out a) disk shut =
      let so_far = turns_shut may_commit shown n old mid before after turns talks (a.store.honest disk) shut in
      (so_far.0, leaves_both (store_of condition old) (store_of condition mid) (store_of condition new) so_far.1 (a.store.left disk (λ is_open. shut (clean_before may_commit shown n old mid before after turns talks is_open))))

  -- from before the connection was opened until it was closed
  pub conversation_shut : (may_commit : A → Bool) (shown : Outflow → Type 0) (n : ℕ) (old opened talked new : Hub A) (before after : Outflow) (turns : List ServedPiece)
      → opened.store ≡ old.store → new.store ≡ talked.store
      → Talks condition may_commit shown n opened before turns talked after → TurnsShut old new turns
  conversation_shut may_commit shown n old opened talked new before after turns first last talks =
      subst (λ (x : A). IfShut (condition x) (store_of condition new) (AreFixed turns × LeavesNoMore (condition x) (store_of condition new))) first
      (subst (λ (x : A). IfShut (store_of condition opened) (condition x) (AreFixed turns × LeavesNoMore (store_of condition opened) (condition x))) (sym last)
      (turns_shut may_commit shown n opened talked before after turns talks))
