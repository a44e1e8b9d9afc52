use Rattle.std.proofs.Common.{◌≤◌, ℕ, List, length, take, inl, inr, refl, sym, subst, arith}
use Rattle.std.specs.Io.KnownBytes.{Consumes}
use Rattle.dep_hub.specs.Numbers.{most_read}
use Rattle.dep_slot.specs.Causes.{causes_of}
use Rattle.dep_slot.proofs.SlotLemmas.{received, none_read, ends_read, ended_asked}
use Rattle.dep_slot.proofs.slot.Slot.read.Goals as goal

pub returns-in-Bytes-clause-turn : goal.returns-in-Bytes-clause-turn
returns-in-Bytes-clause-turn g c = λ moment is_full is_shut may_send allowed unshut.
    let bytes = c.in-Bytes.ensures.bytes in
    let within : c.in-Bytes.n ≤ length c.deref.result.now = omega (arith, bytes.1, c.deref.ensures.len) in
    let small : length c.deref.result.now ≤ most_read = omega (arith, c.receive.new.self.small, c.deref.ensures.len) in
    received g.A.Archive.condition g.R.Source.unread g.K.Sink.taken g.S.Spool.held g.S.Spool.size (causes_of g.R.Source.halts g.K.Sink.halts g.S.Spool.failures) c.args.hub.now c.offer-arrived.new.self c.args.self.now _ c.receive.new.source c.deref.result.now c.in-Bytes.n
    c.offer-arrived.result is_full is_shut may_send (record { connection = refl; address = refl }) refl c.offer-arrived.ensures.kept c.requires bytes.0 within small
    (subst (λ (l : List ℕ). Consumes (g.R.Source.unread c.args.self.now.source) (g.R.Source.unread c.receive.new.source) (take c.in-Bytes.n l)) (sym c.deref.ensures.value) bytes.2)
    c.offer-arrived.ensures.behind c.offer-arrived.ensures.offers c.note_piece.ensures allowed unshut moment

pub returns-in-Later-clause-turn : goal.returns-in-Later-clause-turn
returns-in-Later-clause-turn g c = λ moment is_full is_shut may_send allowed unshut.
    none_read g.A.Archive.condition g.R.Source.unread g.K.Sink.taken g.S.Spool.held g.S.Spool.size (causes_of g.R.Source.halts g.K.Sink.halts g.S.Spool.failures) c.args.hub.now c.args.self.now _ is_full is_shut may_send moment c.receive.new.source _ refl
    c.in-Later.ensures.bytes c.requires.due c.requires.phase (inl (refl, refl)) refl
    (record { readable = inr (refl, c.in-Later.ensures.asks); writable = inl refl; over = λ h. inl h })

pub returns-in-Ended-clause-turn : goal.returns-in-Ended-clause-turn
returns-in-Ended-clause-turn g c = λ moment is_full is_shut may_send allowed unshut.
    none_read g.A.Archive.condition g.R.Source.unread g.K.Sink.taken g.S.Spool.held g.S.Spool.size (causes_of g.R.Source.halts g.K.Sink.halts g.S.Spool.failures) c.args.hub.now c.args.self.now _ is_full is_shut may_send moment c.receive.new.source _ refl
    (ends_read _ _ _ c.receive.result c.in-Ended.is c.receive.ensures.bytes) c.requires.due c.requires.phase (inr refl) refl
    (record { readable = inl refl; writable = inl refl; over = λ h. inr (inl (ended_asked _ _ c.receive.result c.in-Ended.is c.receive.ensures.asks)) })
