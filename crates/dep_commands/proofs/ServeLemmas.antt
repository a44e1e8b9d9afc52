-- Connections that are served one after another.
use Rattle.std.proofs.Common.{◌≡◌, ℕ, ◌+◌, Bool, false, List, [], ◌∷◌, ◌++◌, refl, sym, subst, ◌∙◌, arith}
use Rattle.std.proofs.lemmas.List.{append-nil, length-append, flat_map_more}
use Rattle.std.proofs.lemmas.List.Elements.{All-nil, All-append, All-cons}
use Rattle.std.specs.Prelude.{None}
use Rattle.std.specs.List.{FoldsTo}
use Rattle.dep_types.specs.Conditions.{Condition}
use Rattle.dep_types.specs.declared.inlet.LastRead.TheVariants.{NoneYet}
use Rattle.dep_hub.specs.Representing.{RepresentsAfter, ServesAs, IsClean}
use Rattle.dep_connection.specs.Turns.{ServedPiece, records_of, ArePieces}
use Rattle.dep_connection.specs.Conversation.{Outflow, WireState, session, Clocks, Converses, ConversesOver}
use Rattle.dep_connection.specs.declared.connection.Served.{Served}
use Rattle.dep_connection.specs.declared.connection.Served.TheVariants.{Ended, Closed, Unserved, ReadFault, WriteFault, Bound}
use Rattle.dep_hub.specs.declared.hub.Hub.{Hub}
use Rattle.dep_connection.proofs.TalkLemmas.{unserved, converses_wider}
use Rattle.dep_exchange.proofs.Leaving.{Settles, stays_as}
use Rattle.dep_commands.specs.Serves.{ServesOne, socket_out, socket_wire, AnyOut, Conversation, AreAmong, ServesThese, all_records_of, all_turns_of}

-- one list of steps behind another
folds_join : {C A : Type 0} (r : C → A → C → Type 0) (a : C) (xs ys : List A) (b c : C) → FoldsTo r a xs b → FoldsTo r b ys c → FoldsTo r a (xs ++ ys) c
folds_join r a [] ys b c f g = subst (λ d. FoldsTo r d ys c) (sym f) g
folds_join r a (x ∷ xs) ys b c f g = (f.0, f.1, folds_join r f.0 xs ys b c f.2 g)

module _ {A : Type 0} (condition : A → Condition) {C : Type 0} (ticks : C → ℕ → C → Type 0) (clock : C) (old : Hub A) where
  -- so many connections were served, up to this hub and this clock
  pub record ProgressLine (now : C) (new : Hub A) (count : ℕ) : Type 0 where
    pub talks : List Conversation
    pub among : AreAmong talks count
    pub these : ServesThese condition old new talks
    pub moments : Clocks ticks clock (all_turns_of talks) now

  pub none_served : ProgressLine clock old 0
  none_served = record {
    talks = [];
    among = (0, refl);
    these = record {
      sizes = All-nil (λ (t : Conversation). ArePieces t.turns);
      adds = λ clean first records h. subst (λ r. RepresentsAfter condition old first r) (sym (append-nil records)) h;
    };
    moments = refl;
  }

  module _ (now later : C) (mid new : Hub A) (count : ℕ) (p : ProgressLine now mid count) (back : IsClean condition new → IsClean condition mid) where
    unserved_more : (may_commit : A → Bool) (before after : WireState) → ConversesOver condition may_commit AnyOut ticks (session mid before now) (session new after later) Unserved → ProgressLine later new (count + 1)
    unserved_more may_commit before after v = record {
      talks = p.talks;
      among = (p.among.0 + 1, let e = p.among.1 in omega arith);
      these = record {
        sizes = p.these.sizes;
        adds = λ clean first records h. subst (λ r. RepresentsAfter condition new first r) (append-nil (records ++ all_records_of p.talks))
            (v.adds clean first (records ++ all_records_of p.talks) (p.these.adds (back clean) first records h));
      };
      moments = subst (λ c. Clocks ticks clock (all_turns_of p.talks) c) (sym v.same_clock) p.moments;
    }

    talk_more : (may_commit : A → Bool) (before after : WireState) (end : Served) → Converses condition may_commit AnyOut ticks (session mid before now) (session new after later) end → ProgressLine later new (count + 1)
    talk_more may_commit before after end v =
        let talk : Conversation = record { number = v.number; turns = v.turns } in
        let long = length-append p.talks (talk ∷ []) in
        let counted = p.among.1 in
        record {
          talks = p.talks ++ talk ∷ [];
          among = (p.among.0, omega arith);
          these = record {
            sizes = All-append (λ (t : Conversation). ArePieces t.turns) p.talks (talk ∷ []) p.these.sizes
                (All-cons (λ (t : Conversation). ArePieces t.turns) talk [] v.sizes (All-nil (λ (t : Conversation). ArePieces t.turns)));
            adds = λ clean first records h. subst (λ r. RepresentsAfter condition new first r) (flat_map_more (λ (t : Conversation). records_of t.number t.turns) records p.talks talk)
                (v.adds clean first (records ++ all_records_of p.talks) (p.these.adds (back clean) first records h));
          };
          moments = subst (λ turns. Clocks ticks clock turns later) (flat_map_more (λ (t : Conversation). t.turns) [] p.talks talk)
              (folds_join (λ before (t : ServedPiece) after. ticks before t.moment after) clock (all_turns_of p.talks) v.turns now later p.moments v.moments);
        }

    more : (may_commit : A → Bool) (served : Served) (before after : WireState) → ConversesOver condition may_commit AnyOut ticks (session mid before now) (session new after later) served → ProgressLine later new (count + 1)
    more may_commit Unserved before after v = unserved_more may_commit before after v
    more may_commit Ended before after v = talk_more may_commit before after Ended v
    more may_commit Closed before after v = talk_more may_commit before after Closed v
    more may_commit ReadFault before after v = talk_more may_commit before after ReadFault v
    more may_commit WriteFault before after v = talk_more may_commit before after WriteFault v
    more may_commit Bound before after v = talk_more may_commit before after Bound v

    pub one_served : (may_commit : A → Bool) (served : Served) (v : ServesOne condition may_commit ticks now later mid new served) → ProgressLine later new (count + 1)
    one_served may_commit served v = more may_commit served _ v.after v.converses

-- a connection over a socket at which nothing was read, and to which nothing was written
pub over_socket : {A : Type 0} (condition : A → Condition) (may_commit : A → Bool) (shown : Outflow → Type 0) {C : Type 0} (ticks : C → ℕ → C → Type 0) (clock now : C) (old new : Hub A) (end : Served)
    (before after : WireState) → before.unread ≡ None → before.reads ≡ 0 → before.last ≡ NoneYet
    → before.out.taken ≡ None → before.out.failures ≡ 0 → before.out.held ≡ [] → before.out.has_failed ≡ false
    → ConversesOver condition may_commit shown ticks (session old before clock) (session new after now) end
    → ServesAs condition old new → ServesOne condition may_commit ticks clock now old new end
over_socket condition may_commit shown ticks clock now old new end before after unread reads last taken failures held going converses goes =
    let out : before.out ≡ socket_out = λ i. record { taken = taken i; failures = failures i; held = held i; has_failed = going i } in
    let same : before ≡ socket_wire = λ i. record { unread = unread i; reads = reads i; last = last i; out = out i } in
    record {
      goes = goes;
      after = after;
      converses = subst (λ (w : WireState). ConversesOver condition may_commit AnyOut ticks (session old w clock) (session new after now) end) same
          (converses_wider condition may_commit shown AnyOut (λ o its. tt) ticks (session old before clock) (session new after now) end converses);
    }

-- a connection that is let go before anything was read of it
pub not_served : {A : Type 0} (condition : A → Condition) (may_commit : A → Bool) {C : Type 0} (ticks : C → ℕ → C → Type 0) (clock : C) (hub : Hub A)
    → Settles (condition hub.store) → ServesOne condition may_commit ticks clock clock hub hub Unserved
not_served condition may_commit ticks clock hub settles = record {
  goes = record { config = refl; clean = λ h. h; honest = λ h. h };
  after = socket_wire;
  converses = unserved condition clock hub hub socket_wire (λ w at. at) refl (λ w at. stays_as (condition hub.store) w.state settles at.state) (λ first records h. h);
}

pub so_many : (talks : List Conversation) (k count : ℕ) → k ≡ count → AreAmong talks k → AreAmong talks count
so_many talks k count same m = subst (λ n. AreAmong talks n) same m

-- it serves so over two calls
pub serves_then : {A : Type 0} (condition : A → Condition) (old mid new : Hub A) → ServesAs condition old mid → ServesAs condition mid new → ServesAs condition old new
serves_then condition old mid new one two = record {
  config = two.config ∙ one.config;
  clean = λ h. one.clean (two.clean h);
  honest = λ h. one.honest (two.honest h);
}
