use Rattle.std.proofs.Common.{inl, inr, refl}
use Rattle.dep_slot.proofs.SlotLemmas.{ended_asked}
use Rattle.dep_slot.proofs.slot.Slot.drain.Goals as goal

pub returns-in-Bytes-clause-state : goal.returns-in-Bytes-clause-state
returns-in-Bytes-clause-state g c = record { phase = inl refl; stirs = refl; moved = refl; unfinished = refl }

pub returns-in-Bytes-clause-caused : goal.returns-in-Bytes-clause-caused
returns-in-Bytes-clause-caused g c = record { readable = inl refl; writable = inl refl; over = λ h. inl h }

pub returns-in-Later-clause-state : goal.returns-in-Later-clause-state
returns-in-Later-clause-state g c = record { phase = inl refl; stirs = refl; moved = refl; unfinished = refl }

pub returns-in-Later-clause-caused : goal.returns-in-Later-clause-caused
returns-in-Later-clause-caused g c = record { readable = inr (refl, c.in-Later.ensures.asks); writable = inl refl; over = λ h. inl h }

pub returns-in-Ended-clause-state : goal.returns-in-Ended-clause-state
returns-in-Ended-clause-state g c = record { phase = inr refl; stirs = refl; moved = refl; unfinished = refl }

pub returns-in-Ended-clause-caused : goal.returns-in-Ended-clause-caused
returns-in-Ended-clause-caused g c =
    record { readable = inl refl; writable = inl refl; over = λ h. inr (inl (ended_asked _ _ c.receive.result c.in-Ended.is c.receive.ensures.asks)) }
